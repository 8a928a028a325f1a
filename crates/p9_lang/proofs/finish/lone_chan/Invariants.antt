use Rattle.std.proofs.Common.{◌≡◌, drop}
use Rattle.p9_grammar.specs.Reading.{lone}
use Rattle.p9_lang.proofs.finish.lone_chan.Given as goal

abbrev pub invariant-loop-end : goal.invariant-loop-end
invariant-loop-end l = lone (drop l.end-index l.ends) ≡ lone l.ends
