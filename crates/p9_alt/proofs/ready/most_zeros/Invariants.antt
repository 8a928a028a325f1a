use Rattle.std.proofs.Common.{◌≤◌, All, List, take}
use Rattle.p9_manual.specs.declared.state.Party.{Party}
use Rattle.p9_alt.specs.Exchange.{zeros_for}
use Rattle.p9_alt.proofs.ready.most_zeros.Given as goal

-- none so far needs more
abbrev pub invariant-loop-e : goal.invariant-loop-e
invariant-loop-e l = (waits : List Party) → All (λ e. zeros_for l.chans.chans waits e ≤ l.most) (take l.e-index l.entries)
