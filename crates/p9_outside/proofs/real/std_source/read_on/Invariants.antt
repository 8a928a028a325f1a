use Rattle.std.specs.Io.KnownBytes.{Keeps}
use Rattle.p9_outside.proofs.real.std_source.read_on.Given as goal

-- nothing was read so far
abbrev pub invariant-loop : goal.invariant-loop
invariant-loop g l = Keeps (g.R.Read.remaining l.initial.inner) (g.R.Read.remaining l.inner)
