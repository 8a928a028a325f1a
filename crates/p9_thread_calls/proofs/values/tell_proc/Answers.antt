use Rattle.std.proofs.Common.{ap}
use Rattle.p9_word.specs.declared.answer.Answer.TheVariants.{Bad}
use Rattle.p9_manual.specs.Threads.{asked, pid_of}
use Rattle.p9_thread_calls.proofs.Callers.{serves_now, not_made}
use Rattle.p9_thread_calls.proofs.values.tell_proc.Goals as goal

pub returns-else-is_made-clause-serves : goal.returns-else-is_made-clause-serves
unfolding asked
returns-else-is_made-clause-serves c = λ setup caller there s h sound.
    serves_now Bad setup.places s _ c.args.sched.now (ap (pid_of s) (not_made setup.places c.args.u c.args.sched.now s (λ made. cc (c.is_made.ensures.1 made, c.if-is_made.false)) h)) h
