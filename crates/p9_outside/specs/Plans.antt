-- Failures that are planned for the paths of files in memory.
use Rattle.std.specs.Prelude.{ℕ, ◌==◌, ◌&&◌, ◌||◌, ◌++◌, Bool, true, false, List, [], ◌∷◌, cond, bytes_eq}
use Rattle.p9_outside.specs.declared.memory.plans.Plan.{Plan}
use Rattle.p9_outside.specs.declared.memory.plans.PathFail.{PathFail}
use Rattle.p9_outside.specs.declared.memory.plans.PathFail.TheVariants.{Source, Sink, Close, Read, Write}

-- a failure planned for a path
abbrev pub planned : List ℕ → PathFail → Plan
planned path fail = record { path = path; fail = fail }

-- two planned failures are the same
abbrev pub same_fail : PathFail → PathFail → Bool
same_fail Source Source = true
same_fail Sink Sink = true
same_fail Close Close = true
same_fail (Read m) (Read n) = m == n
same_fail (Write m) (Write n) = m == n
same_fail a b = false

-- this plan is for this path and this failure
abbrev pub is_plan : Plan → List ℕ → PathFail → Bool
is_plan p path fail = bytes_eq p.path path && same_fail p.fail fail

-- some plan is
abbrev pub is_planned : List Plan → List ℕ → PathFail → Bool
is_planned [] path fail = false
is_planned (p ∷ plans) path fail = is_plan p path fail || is_planned plans path fail

-- the plans without the first of this path and this failure, if there is one
abbrev pub spent : List Plan → List ℕ → PathFail → List Plan
spent [] path fail = []
spent (p ∷ plans) path fail = cond (is_plan p path fail) plans (p ∷ spent plans path fail)

-- the number of the read, or else of the write, that is to fail
abbrev pub number_of : Bool → PathFail → List ℕ
number_of true (Read n) = n ∷ []
number_of false (Write n) = n ∷ []
number_of reads fail = []

-- the numbers of the reads, or else of the writes, that are to fail on the path
abbrev pub numbers : Bool → List Plan → List ℕ → List ℕ
numbers reads [] path = []
numbers reads (p ∷ plans) path = cond (bytes_eq p.path path) (number_of reads p.fail) [] ++ numbers reads plans path
