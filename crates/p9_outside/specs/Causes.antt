-- What a call does to a count of faults: the count rises by just one where the call failed, and else it stays.
use Rattle.std.specs.Prelude.{ℕ, ◌≡◌, ◌+◌, ◌-◌, ◌^◌, ◌≤◌, min, Bool, true, false, Result, Ok, Err}
use Rattle.p9_outside.specs.declared.files.FilesFault.{FilesFault}
use Rattle.p9_outside.specs.declared.files.FilesFault.TheVariants.{Failed, Memory}
use Rattle.p9_outside.specs.Counts.{raised_if}

-- one more where the call failed, but that the greatest u64 stands, and else as before
abbrev pub CountsFault : Bool → ℕ → ℕ → Type 0
CountsFault failed before now = now ≡ raised_if failed before

-- whether a call on files failed; want of memory is no failure
abbrev pub is_failure : FilesFault → Bool
is_failure Failed = true
is_failure Memory = false

abbrev pub is_failed : {T : Type 0} → Result T FilesFault → Bool
is_failed (Ok v) = false
is_failed (Err fault) = is_failure fault

-- the count has risen, or stands at the greatest u64, which is taken as having risen
abbrev pub Rose : ℕ → ℕ → Type 0
Rose before now = min (before + 1) (2 ^ 64 - 1) ≤ now

-- the count rose by so much, or stands at the greatest u64
abbrev pub RoseBy : ℕ → ℕ → ℕ → Type 0
RoseBy n before now = (before ≤ now) × (min (before + n) (2 ^ 64 - 1) ≤ now)
