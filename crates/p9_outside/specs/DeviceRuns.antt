-- What the services of any device come to, one after the other.
use Rattle.std.specs.Prelude.{ℕ, ◌≡◌, ◌+◌, List, [], ◌∷◌, Option, if◌then◌else◌}
use Rattle.std.specs.Io.KnownBytes.{Consumes, Appends}
use Rattle.p9_word.specs.declared.io_call.IoCall.{IoCall}
use Rattle.p9_word.specs.declared.io_call.Effect.{Effect}
use Rattle.p9_manual.specs.Effects.{has_failed}
use Rattle.p9_manual.specs.Files.{given, joined, written}
use Rattle.p9_outside.specs.Counts.{raised}
use Rattle.p9_outside.specs.Reached.{Reached}

-- how many of the effects failed
abbrev pub failures : List (IoCall × Effect) → ℕ
failures [] = 0
failures (s ∷ services) = (if has_failed s.1 then 1 else 0) + failures services

-- the bytes that were given are those that the device has less, the bytes that were taken are those that it has more, and
-- its count of faults rose by just as much as effects failed
pub record DeviceRuns {D : Type 0} (left held : D → Option (List ℕ)) (faults : D → ℕ) (first : D) (services : List (IoCall × Effect)) (last : D) : Type 0 where
  pub given : Consumes (left first) (left last) (joined (given services))
  pub taken : Appends (held first) (held last) (written services)
  pub tells : faults last ≡ raised (faults first) (failures services)

-- each device that has made a list of services has come to that
abbrev pub DevicesRun : {D : Type 0} → (D → IoCall → Effect → D → Type 0) → (D → Option (List ℕ)) → (D → Option (List ℕ)) → (D → ℕ) → Type 0
DevicesRun {D} serves left held faults =
    (first : D) (services : List (IoCall × Effect)) (last : D) → Reached serves first services last → DeviceRuns left held faults first services last
