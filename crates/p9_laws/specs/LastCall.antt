-- The last call of a thread before a position of a history. This project's own.
use Rattle.std.specs.Prelude.{ℕ, ◌==◌, ◌+◌, List, [], ◌∷◌, Option, Some, None, if◌then◌else◌, take}
use Rattle.p9_word.specs.declared.trail.Event.{Event}
use Rattle.p9_word.specs.declared.trail.Event.TheVariants.{Call, Next, IoTake, IoDid}
use Rattle.p9_word.specs.declared.trail.Entry.{Entry}

-- the position of the last call of thread t, after an event at position n
abbrev pub call_position : ℕ → ℕ → Option ℕ → Event → Option ℕ
call_position t n found (Call u r) = if u == t then Some n else found
call_position t n found Next = found
call_position t n found IoTake = found
call_position t n found (IoDid effect) = found

-- and after a history whose first entry has position n
abbrev pub last_call : ℕ → ℕ → Option ℕ → List Entry → Option ℕ
last_call t n found [] = found
last_call t n found (e ∷ es) = last_call t (n + 1) (call_position t n found e.event) es

-- and before position i of a history
abbrev pub call_before : List Entry → ℕ → ℕ → Option ℕ
call_before history i t = last_call t 0 None (take i history)
