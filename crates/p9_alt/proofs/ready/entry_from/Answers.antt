use Rattle.p9_alt.proofs.ready.entry_from.Goals as goal

pub returns-in-Snd-clause-before : goal.returns-in-Snd-clause-before
returns-in-Snd-clause-before c = rw c.in-Snd.is c.send_from.ensures.before

pub returns-in-Rcv-clause-before : goal.returns-in-Rcv-clause-before
returns-in-Rcv-clause-before c = rw c.in-Rcv.is c.receive_from.ensures.before
