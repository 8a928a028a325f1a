-- How a file behaves: what one service of it may do, and what a list of services shows of it.
-- All of this is this project's own.
use Rattle.std.specs.Prelude.{ℕ, ◌≡◌, ◌==◌, ◌||◌, Bool, true, false, not, List, [], ◌∷◌, ◌++◌, nat_lt}
use Rattle.p9_word.specs.declared.limits.TheConstants.{MOST_READ_BYTES}
use Rattle.p9_word.specs.declared.io_call.IoCall.{IoCall}
use Rattle.p9_word.specs.declared.io_call.IoCall.TheVariants.{IoOpen, IoRead, IoReadN, IoWrite, IoClose, IoOwn}
use Rattle.p9_word.specs.declared.io_call.Effect.{Effect}
use Rattle.p9_word.specs.declared.io_call.Effect.TheVariants.{Opened, Shut, Got, Wrote, Refused}
use Rattle.p9_manual.specs.Effects.{Fits, got, put}

-- a file, as its effects show it: whether it is open, and whether a read of it has failed
pub record At : Type 0 where
  pub is_open : Bool
  pub failed : Bool

-- a file is shut at first
abbrev pub at_first : At
at_first = record { is_open = false; failed = false }

-- it is open after Opened and shut after Shut
abbrev pub after : At → Effect → At
after at Opened = record at { is_open = true }
after at Shut = record at { is_open = false }
after at (Got failed bytes) = record at { failed = at.failed || failed }
after at (Wrote count failed) = at
after at Refused = at

-- whether a file of this direction refuses a read of so many bytes: it is written, or shut, or the read is of no bytes or
-- of more than a call reads
abbrev pub refuses_read : Bool → Bool → ℕ → Bool
refuses_read out is_open n = out || not is_open || n == 0 || nat_lt MOST_READ_BYTES n

-- whether a file of this direction refuses a call: a read so, a write where it is read or shut, and what it can't do at all
abbrev pub refuses : Bool → Bool → IoCall → Bool
refuses out is_open IoOpen = false
refuses out is_open IoClose = false
refuses out is_open (IoRead n) = refuses_read out is_open n
refuses out is_open (IoReadN n) = refuses_read out is_open n
refuses out is_open (IoWrite m) = not out || not is_open
refuses out is_open (IoOwn code m) = true

-- the effect is Refused
abbrev pub is_refused : Effect → Bool
is_refused Refused = true
is_refused Opened = false
is_refused Shut = false
is_refused (Got failed bytes) = false
is_refused (Wrote count failed) = false

-- a read that gives nothing and does not fail
abbrev pub IsQuiet : Effect → Type 0
IsQuiet (Got failed bytes) = (bytes ≡ []) × (failed ≡ false)
IsQuiet (Wrote count failed) = Unit {0}
IsQuiet Refused = Unit {0}
IsQuiet Opened = Unit {0}
IsQuiet Shut = Unit {0}

-- one service of a file: the effect fits, it is Refused exactly where the file refuses the call, and after a failed
-- read every read is quiet
pub record IsFileStep (out : Bool) (at : At) (call : IoCall) (effect : Effect) : Type 0 where
  pub fits : Fits call effect
  pub refused : is_refused effect ≡ refuses out at.is_open call
  pub quiet : at.failed ≡ true → IsQuiet effect

-- these calls and their effects are those of a file
abbrev pub TreatsAsFile : Bool → At → List (IoCall × Effect) → Type 0
TreatsAsFile out at [] = Unit {0}
TreatsAsFile out at (s ∷ services) = IsFileStep out at s.0 s.1 × TreatsAsFile out (after at s.1) services

-- a piece in front of others, if it has bytes
abbrev pub with_piece : List ℕ → List (List ℕ) → List (List ℕ)
with_piece [] pieces = pieces
with_piece (b ∷ bs) pieces = (b ∷ bs) ∷ pieces

-- the pieces that the reads gave and that aren't empty, in order
abbrev pub given : List (IoCall × Effect) → List (List ℕ)
given [] = []
given (s ∷ services) = with_piece (got s.1) (given services)

-- the bytes of pieces, joined
abbrev pub joined : List (List ℕ) → List ℕ
joined [] = []
joined (p ∷ pieces) = p ++ joined pieces

-- the bytes that the writes took, joined
abbrev pub written : List (IoCall × Effect) → List ℕ
written [] = []
written (s ∷ services) = put s.0 s.1 ++ written services
