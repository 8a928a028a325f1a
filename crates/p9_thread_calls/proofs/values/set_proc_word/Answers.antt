use Rattle.std.proofs.Common.{◌≡◌, ◌∙◌, ◌-◌, ap, refl, sym}
use Rattle.p9_manual.specs.Threads.{asked}
use Rattle.p9_sched.specs.Schedule.{proc_of}
use Rattle.p9_thread_calls.proofs.Callers.{noted_still}
use Rattle.p9_thread_calls.proofs.values.set_proc_word.Goals as goal

pub returns-clause-serves : goal.returns-clause-serves
unfolding asked
returns-clause-serves c = λ setup caller there s h sound.
    let mine : caller.proc_no ≡ c.proc_of.result = sym (c.proc_of.ensures.proc ∙ ap proc_of there) in
    rw mine (record { reply_is = refl; stands = c.set_proc_word.ensures.stands setup.places s h; others = refl; notes = noted_still c.args.word s.procs (c.proc_of.result - 1); entry = refl })
