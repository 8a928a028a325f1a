use Rattle.std.specs.Io.KnownBytes.{Keeps}
use Rattle.p9_outside.proofs.real.std_sink.write_on.Given as goal

-- nothing was taken so far
abbrev pub invariant-loop : goal.invariant-loop
invariant-loop g l = Keeps (g.W.Write.contents l.initial.inner) (g.W.Write.contents l.inner)
