-- What both sides of a communication are told, and the bytes that pass. send, recv and alt in thread(2).
use Rattle.std.specs.Prelude.{ℕ, Bool, true, false, List, [], Some, None, if◌then◌else◌, replicate}
use Rattle.p9_word.specs.declared.alt.Slot.{Slot}
use Rattle.p9_word.specs.declared.alt.Slot.TheVariants.{Null, Give, Keep}
use Rattle.p9_word.specs.declared.answer.Answer.{Answer}
use Rattle.p9_word.specs.declared.answer.Answer.TheVariants.{Sent, Got, Index, Closed}
use Rattle.p9_manual.specs.declared.state.Party.{Party}
use Rattle.p9_manual.specs.AltEntries.{sends_to, receives_from, first_number, first_slot}

-- the bytes of what an entry sends: no value stands for as many zeros as an element has
abbrev pub sent_bytes : ℕ → Slot → List ℕ
sent_bytes elsize (Give m) = m
sent_bytes elsize Null = replicate elsize 0
sent_bytes elsize Keep = []

-- the bytes that a receive keeps: a discarded value has none. A receive gives nothing
abbrev pub kept_bytes : Slot → List ℕ → List ℕ
kept_bytes Keep m = m
kept_bytes Null m = []
kept_bytes (Give n) m = []

-- the answers, in the form of send and recv or in that of alt, which tells the number of the entry
abbrev pub sent_answer : Bool → ℕ → Answer
sent_answer single i = if single then Sent else Index false i None []

-- to a receiver
abbrev pub got_answer : Bool → ℕ → ℕ → List ℕ → Answer
got_answer single i from bytes = if single then Got from bytes else Index false i (Some from) bytes

-- where the channel is closed
abbrev pub failed_answer : Bool → ℕ → Answer
failed_answer single i = if single then Closed else Index true i None []

-- the answer of a thread that waits and is sent bytes on channel c: its first entry that receives there takes them
abbrev pub receiver_answer : ℕ → ℕ → List ℕ → Party → Answer
receiver_answer c from bytes w =
    got_answer w.single (first_number (receives_from c) w.entries) from (kept_bytes (first_slot (receives_from c) w.entries) bytes)

-- the answer of a thread that waits and whose value is taken on channel c: its first entry that sends there gives it
abbrev pub sender_answer : ℕ → Party → Answer
sender_answer c w = sent_answer w.single (first_number (sends_to c) w.entries)

-- the bytes of what a waiting thread sends on channel c
abbrev pub sender_bytes : ℕ → ℕ → Party → List ℕ
sender_bytes c elsize w = sent_bytes elsize (first_slot (sends_to c) w.entries)
