use Rattle.std.proofs.Common.{◌≡◌, ◌++◌, take, drop}
use Rattle.p9_outside.specs.MemoryFiles.{without}
use Rattle.p9_outside.proofs.memory.files.index_of.Given as goal

-- no entry so far is the path's
abbrev pub invariant-loop-i : goal.invariant-loop-i
invariant-loop-i l = without l.held l.path ≡ take l.i l.held ++ without (drop l.i l.held) l.path
