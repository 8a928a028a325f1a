-- Counts that are kept in a u64.
use Rattle.std.specs.Prelude.{ℕ, ◌+◌, ◌-◌, ◌^◌, Bool, max, min, if◌then◌else◌}

-- a count after n more: it never falls, and stands at the greatest u64
abbrev pub raised : ℕ → ℕ → ℕ
raised count n = max count (min (count + n) (2 ^ 64 - 1))

-- a count after one more where this holds, and else as before
abbrev pub raised_if : Bool → ℕ → ℕ
raised_if b count = if b then raised count 1 else count
