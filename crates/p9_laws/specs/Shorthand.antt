-- The entries of the histories that are worked out as examples.
use Rattle.std.specs.Prelude.{ℕ}
use Rattle.p9_word.specs.declared.request.Request.{Request}
use Rattle.p9_word.specs.declared.trail.Event.{Event}
use Rattle.p9_word.specs.declared.trail.Event.TheVariants.{Call, Next}
use Rattle.p9_word.specs.declared.trail.Reply.{Reply}
use Rattle.p9_word.specs.declared.trail.Seat.TheVariants.{Proc, Io as IoSeat}
use Rattle.p9_word.specs.declared.trail.Entry.{Entry}

-- the proc asks for a turn
abbrev pub turns : Reply → Entry
turns reply = record { seat = Proc 1; event = Next; reply = reply }

-- thread t makes a request
abbrev pub calls : ℕ → Request → Reply → Entry
calls t request reply = record { seat = Proc 1; event = Call t request; reply = reply }

-- ioproc k makes an event
abbrev pub at_io : ℕ → Event → Reply → Entry
at_io k event reply = record { seat = IoSeat k; event = event; reply = reply }
