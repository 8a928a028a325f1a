-- What a call through an ioproc may come to. ioproc(2) has the calls; which effects fit is this project's own.
use Rattle.std.specs.Prelude.{ℕ, ◌≡◌, ◌≤◌, ◌==◌, ◌&&◌, ◌||◌, Bool, true, false, List, [], length, take, if◌then◌else◌, nat_lt, nat_le}
use Rattle.p9_word.specs.declared.limits.TheConstants.{MOST_READ_BYTES}
use Rattle.p9_word.specs.declared.io_call.IoCall.{IoCall}
use Rattle.p9_word.specs.declared.io_call.IoCall.TheVariants.{IoOpen, IoRead, IoReadN, IoWrite, IoClose, IoOwn}
use Rattle.p9_word.specs.declared.io_call.Effect.{Effect}
use Rattle.p9_word.specs.declared.io_call.Effect.TheVariants.{Opened, Shut, Got, Wrote, Refused}

-- how an effect fits a call: in no case, in each case, where so many of at most so many bytes were read, or where so many
-- of all bytes were written and the write failed or did not
pub data Fitting : Type 0 where
  Never : Fitting
  Always : Fitting
  Reads : ℕ → ℕ → Fitting
  Writes : ℕ → ℕ → Bool → Fitting

-- THE table of what fits: for each call each effect
abbrev pub fitting : IoCall → Effect → Fitting
fitting IoOpen Opened = Always
fitting IoOpen Refused = Always
fitting IoOpen Shut = Never
fitting IoOpen (Got failed bytes) = Never
fitting IoOpen (Wrote count failed) = Never
fitting IoClose Shut = Always
fitting IoClose Refused = Always
fitting IoClose Opened = Never
fitting IoClose (Got failed bytes) = Never
fitting IoClose (Wrote count failed) = Never
fitting (IoRead n) (Got failed bytes) = Reads (length bytes) n
fitting (IoRead n) Refused = Always
fitting (IoRead n) Opened = Never
fitting (IoRead n) Shut = Never
fitting (IoRead n) (Wrote count failed) = Never
fitting (IoReadN n) (Got failed bytes) = Reads (length bytes) n
fitting (IoReadN n) Refused = Always
fitting (IoReadN n) Opened = Never
fitting (IoReadN n) Shut = Never
fitting (IoReadN n) (Wrote count failed) = Never
fitting (IoWrite m) (Wrote count failed) = Writes count (length m) failed
fitting (IoWrite m) Refused = Always
fitting (IoWrite m) Opened = Never
fitting (IoWrite m) Shut = Never
fitting (IoWrite m) (Got failed bytes) = Never
fitting (IoOwn code m) (Got failed bytes) = Reads (length bytes) MOST_READ_BYTES
fitting (IoOwn code m) Refused = Always
fitting (IoOwn code m) Opened = Never
fitting (IoOwn code m) Shut = Never
fitting (IoOwn code m) (Wrote count failed) = Never

-- what that means: a read gives at most as many bytes as were asked for, and a write that did not fail takes all
abbrev pub IsFitting : Fitting → Type 0
IsFitting Never = ⊥
IsFitting Always = Unit {0}
IsFitting (Reads count most) = (count ≤ most) × (count ≤ MOST_READ_BYTES)
IsFitting (Writes count all failed) = (count ≤ all) × (failed ≡ false → count ≡ all)

-- the effect fits the call
abbrev pub Fits : IoCall → Effect → Type 0
Fits call effect = IsFitting (fitting call effect)

-- the same as a test
abbrev pub is_fitting : Fitting → Bool
is_fitting Never = false
is_fitting Always = true
is_fitting (Reads count most) = nat_le count most && nat_le count MOST_READ_BYTES
is_fitting (Writes count all failed) = nat_le count all && (failed || count == all)

-- the effect fits the call, as a test
abbrev pub fits : IoCall → Effect → Bool
fits call effect = is_fitting (fitting call effect)

-- a read or a write failed
abbrev pub has_failed : Effect → Bool
has_failed (Got failed bytes) = failed
has_failed (Wrote count failed) = failed
has_failed Refused = false
has_failed Opened = false
has_failed Shut = false

-- the bytes that a read gave
abbrev pub got : Effect → List ℕ
got (Got failed bytes) = bytes
got (Wrote count failed) = []
got Refused = []
got Opened = []
got Shut = []

-- the bytes that a write took
abbrev pub put : IoCall → Effect → List ℕ
put (IoWrite m) (Wrote count failed) = take count m
put (IoWrite m) Opened = []
put (IoWrite m) Shut = []
put (IoWrite m) (Got failed bytes) = []
put (IoWrite m) Refused = []
put IoOpen effect = []
put (IoRead n) effect = []
put (IoReadN n) effect = []
put IoClose effect = []
put (IoOwn code m) effect = []

-- the lesser of the two
abbrev pub at_most : ℕ → ℕ → ℕ
at_most most n = if nat_lt most n then most else n

-- the room that the bytes of a call may need
abbrev pub room_for : IoCall → ℕ
room_for (IoRead n) = at_most MOST_READ_BYTES n
room_for (IoReadN n) = at_most MOST_READ_BYTES n
room_for (IoOwn code m) = MOST_READ_BYTES
room_for IoOpen = 0
room_for (IoWrite m) = 0
room_for IoClose = 0

-- the length of the message in a call
abbrev pub message_length : IoCall → ℕ
message_length (IoWrite m) = length m
message_length (IoOwn code m) = length m
message_length IoOpen = 0
message_length (IoRead n) = 0
message_length (IoReadN n) = 0
message_length IoClose = 0
