use Rattle.p9_word.specs.declared.answer.Answer.TheVariants.{Number}
use Rattle.p9_manual.specs.Threads.{asked}
use Rattle.p9_thread_calls.proofs.Callers.{serves_now, word_told}
use Rattle.p9_thread_calls.proofs.values.tell_proc_word.Goals as goal

pub returns-clause-serves : goal.returns-clause-serves
unfolding asked
returns-clause-serves c = λ setup caller there s h sound.
    serves_now (Number c.proc_word.result) setup.places s _ c.args.sched.now (word_told setup.places c.proc_of.result c.proc_word.result c.args.sched.now s caller _ there c.proc_of.ensures.proc c.proc_word.ensures h) h
