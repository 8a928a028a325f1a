use Rattle.std.proofs.Common.{ℕ, sym, subst, ◌∙◌, ap}
use Rattle.p9_manual.specs.Threads.{asked}
use Rattle.p9_sched.specs.Made.{AddsProc}
use Rattle.p9_sched.specs.Schedule.{group_of}
use Rattle.p9_thread_calls.proofs.Callers.{serves_proc}
use Rattle.p9_thread_calls.proofs.create.create_proc.Goals as goal

pub returns-in-Some-clause-serves : goal.returns-in-Some-clause-serves
unfolding asked
returns-in-Some-clause-serves c = λ caller there s h sound.
    serves_proc c.args.setup.now c.args.t c.args.program c.args.arg c.from.result caller c.group.result c.args.sched.now c.make_proc.new.self _ s (sym c.if-is_no_program.ensures) (subst (λ (n : ℕ). AddsProc n c.args.program c.args.arg c.group.result c.args.sched.now c.make_proc.new.self) (sym c.from.ensures) c.in-Some.ensures.made) (c.group.ensures ∙ ap group_of there) c.in-Some.ensures.stands c.ready.ensures.stands h sound
