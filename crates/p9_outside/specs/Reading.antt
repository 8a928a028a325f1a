-- What one service of a file that is read does, and what its reads come to.
use Rattle.std.specs.Prelude.{ℕ, ◌≡◌, ◌<◌, ◌≤◌, ◌⊎◌, Bool, true, false, ◌||◌, List, [], ◌∷◌, length, drop, Option, Some, None}
use Rattle.std.specs.Io.KnownBytes.{Consumes, IsAtEnd}
use Rattle.p9_word.specs.declared.limits.TheConstants.{MOST_READ_BYTES}
use Rattle.p9_word.specs.declared.io_call.IoCall.{IoCall}
use Rattle.p9_word.specs.declared.io_call.IoCall.TheVariants.{IoOpen, IoRead, IoReadN, IoWrite, IoClose, IoOwn}
use Rattle.p9_word.specs.declared.io_call.Effect.{Effect}
use Rattle.p9_word.specs.declared.io_call.Effect.TheVariants.{Opened, Shut, Got, Wrote, Refused}
use Rattle.p9_manual.specs.Effects.{got, has_failed}
use Rattle.p9_manual.specs.Files.{At, IsFileStep, after}
use Rattle.p9_outside.specs.declared.reading.ReadDevice.{ReadDevice}
use Rattle.p9_outside.specs.Causes.{CountsFault}
use Rattle.p9_outside.specs.Promised.{SourceTells, StaysSteady}

-- whether the file is open, and whether a read of it has failed
abbrev pub reader_at : {S : Type 0} → ReadDevice S → At
reader_at d = record { is_open = d.is_open; failed = d.has_failed }

-- the source that the file is read from
abbrev pub source_of : {S : Type 0} → ReadDevice S → S
source_of d = d.source

-- a read of at most so many bytes that did not fail got one byte at least, or none were left
abbrev pub GotSome : Effect → Option (List ℕ) → Type 0
GotSome (Got true bytes) left = Unit {0}
GotSome (Got false bytes) left = (0 < length bytes) ⊎ IsAtEnd left
GotSome (Wrote count failed) left = Unit {0}
GotSome Refused left = Unit {0}
GotSome Opened left = Unit {0}
GotSome Shut left = Unit {0}

-- a read of so many bytes that did not fail got all of them, or all that were left
abbrev pub GotAll : ℕ → Effect → Option (List ℕ) → Type 0
GotAll n (Got true bytes) left = Unit {0}
GotAll n (Got false bytes) left = (length bytes ≡ n) ⊎ IsAtEnd left
GotAll n (Wrote count failed) left = Unit {0}
GotAll n Refused left = Unit {0}
GotAll n Opened left = Unit {0}
GotAll n Shut left = Unit {0}

-- the same by the call; nothing is said of the calls that don't read. Nothing is said where a read has failed before,
-- which the first argument tells
abbrev pub IsFull : Bool → IoCall → Effect → Option (List ℕ) → Type 0
IsFull true call effect left = Unit {0}
IsFull false (IoRead n) effect left = GotSome effect left
IsFull false (IoReadN n) effect left = GotAll n effect left
IsFull false IoOpen effect left = Unit {0}
IsFull false (IoWrite m) effect left = Unit {0}
IsFull false IoClose effect left = Unit {0}
IsFull false (IoOwn code m) effect left = Unit {0}

-- a single read that failed gave no bytes
abbrev pub IsOneRead : IoCall → Effect → Type 0
IsOneRead (IoRead n) effect = has_failed effect ≡ true → got effect ≡ []
IsOneRead (IoReadN n) effect = Unit {0}
IsOneRead IoOpen effect = Unit {0}
IsOneRead (IoWrite m) effect = Unit {0}
IsOneRead IoClose effect = Unit {0}
IsOneRead (IoOwn code m) effect = Unit {0}

-- one service: a step of a file, with the state after it; the bytes that it gave are the first of those left;
-- reads are full, and a single one is one read; the source's count of faults rises by just one where it failed, and else
-- stays; and over a steady source it did not fail
pub record ReadServes {S : Type 0} (source : SourceTells S) (old : ReadDevice S) (call : IoCall) (effect : Effect) (new : ReadDevice S) : Type 0 where
  pub file : IsFileStep false (reader_at old) call effect
  pub state : reader_at new ≡ after (reader_at old) effect
  pub bytes : Consumes (source.left old.source) (source.left new.source) (got effect)
  pub full : IsFull old.has_failed call effect (source.left new.source)
  pub once : IsOneRead call effect
  pub tells : CountsFault (has_failed effect) (source.faults old.source) (source.faults new.source)
  pub steady : StaysSteady (has_failed effect) (source.steady old.source) (source.steady new.source)

-- the same of a read of so many bytes, of one or more and not too many, on an open file
abbrev pub ReadsBy : {S : Type 0} → SourceTells S → ReadDevice S → IoCall → ℕ → Effect → ReadDevice S → Type 0
ReadsBy source old call n effect new = old.is_open ≡ true → (n ≡ 0 → ⊥) → n ≤ MOST_READ_BYTES → ReadServes source old call effect new

-- a read failed
abbrev pub has_got_failed : Effect → Bool
has_got_failed (Got failed bytes) = failed
has_got_failed (Wrote count failed) = false
has_got_failed Refused = false
has_got_failed Opened = false
has_got_failed Shut = false

-- what is left after these bytes, where it is told
abbrev pub rest_after : List ℕ → Option (List ℕ) → Option (List ℕ)
rest_after bs None = None
rest_after bs (Some xs) = Some (drop (length bs) xs)

-- until a read fails, each gets what it is to get
abbrev pub FullReads : Bool → Option (List ℕ) → List (IoCall × Effect) → Type 0
FullReads failed left [] = Unit {0}
FullReads failed left (s ∷ services) = IsFull failed s.0 s.1 (rest_after (got s.1) left) × FullReads (failed || has_got_failed s.1) (rest_after (got s.1) left) services
