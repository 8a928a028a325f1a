-- How many zeros may be needed at most.
use Rattle.std.proofs.Common.{ℕ, ◌≤◌, arith}
use Rattle.std.specs.Prelude.{Option, Some, None}
use Rattle.p9_word.specs.declared.alt.Slot.{Slot}
use Rattle.p9_word.specs.declared.alt.Slot.TheVariants.{Null, Give, Keep}
use Rattle.p9_manual.specs.declared.state.Party.{Party}
use Rattle.p9_manual.specs.AltEntries.{sends_to, first_slot}
use Rattle.p9_alt.specs.Exchange.{zeros_in, zeros_of}

slot_most : (elsize : ℕ) (slot : Slot) → zeros_in elsize slot ≤ elsize
slot_most elsize Null = omega arith
slot_most elsize (Give m) = omega arith
slot_most elsize Keep = omega arith

-- one who waits to send needs no more than an element has
pub sender_most : (c elsize : ℕ) (o : Option Party) → zeros_of c elsize o ≤ elsize
sender_most c elsize None = omega arith
sender_most c elsize (Some w) = slot_most elsize (first_slot (sends_to c) w.entries)
