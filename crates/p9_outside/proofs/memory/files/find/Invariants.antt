use Rattle.std.proofs.Common.{◌≡◌, drop}
use Rattle.p9_outside.specs.MemoryFiles.{found}
use Rattle.p9_outside.proofs.memory.files.find.Given as goal

-- the path is found where it is found among the entries that are left
abbrev pub invariant-loop-h : goal.invariant-loop-h
invariant-loop-h l = found (drop l.h-index l.held) l.path ≡ found l.held l.path
