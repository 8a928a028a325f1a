-- The room that the call of an ioproc needs, and the ioproc once it has begun or the thread is gone.
use Rattle.std.specs.Prelude.{ℕ, Bool, true, false, Some, None}
use Rattle.p9_manual.specs.declared.state.Ioproc.{Ioproc}
use Rattle.p9_manual.specs.declared.state.Ioproc.TheVariants.{Unmade, Idle, Posted, Begun, Closed}
use Rattle.p9_manual.specs.Effects.{room_for, message_length}

-- the room that the bytes of the begun call may need
abbrev pub begun_room : Ioproc → ℕ
begun_room (Begun t call) = room_for call
begun_room (Posted t call) = 0
begun_room Unmade = 0
begun_room Idle = 0
begun_room Closed = 0

-- the room that those of the posted call may need
abbrev pub posted_room : Ioproc → ℕ
posted_room (Posted t call) = room_for call
posted_room (Begun t call) = 0
posted_room Unmade = 0
posted_room Idle = 0
posted_room Closed = 0

-- the room that those of the call at hand may need
abbrev pub call_room : Ioproc → ℕ
call_room (Posted t call) = room_for call
call_room (Begun t call) = room_for call
call_room Unmade = 0
call_room Idle = 0
call_room Closed = 0

-- a number where this holds, and else 0
abbrev pub where_so : Bool → ℕ → ℕ
where_so true n = n
where_so false n = 0

-- the length of the message in the call at hand
abbrev pub call_length : Ioproc → ℕ
call_length (Begun t call) = message_length call
call_length (Posted t call) = message_length call
call_length Unmade = 0
call_length Idle = 0
call_length Closed = 0

-- the ioproc once its posted call has begun
abbrev pub begun : Ioproc → Ioproc
begun (Posted t call) = Begun (Some t) call
begun (Begun t call) = Begun t call
begun Unmade = Unmade
begun Idle = Idle
begun Closed = Closed

-- the ioproc once the thread that waits there is interrupted
abbrev pub without_caller : Ioproc → Ioproc
without_caller (Posted t call) = Idle
without_caller (Begun t call) = Begun None call
without_caller Unmade = Unmade
without_caller Idle = Idle
without_caller Closed = Closed
