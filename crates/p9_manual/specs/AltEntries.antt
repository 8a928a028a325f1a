-- Tests on the entries of alts: which send or receive on a channel, and the first of them. alt in thread(2).
use Rattle.std.specs.Prelude.{ℕ, suc, ◌==◌, ◌&&◌, Bool, true, false, not, List, [], ◌∷◌, if◌then◌else◌}
use Rattle.std.specs.List.{list_any}
use Rattle.p9_word.specs.declared.alt.AltOp.{AltOp}
use Rattle.p9_word.specs.declared.alt.AltOp.TheVariants.{Snd, Rcv, Nop}
use Rattle.p9_word.specs.declared.alt.Slot.{Slot}
use Rattle.p9_word.specs.declared.alt.Slot.TheVariants.{Null}
use Rattle.p9_word.specs.declared.alt.AltEntry.{AltEntry}
use Rattle.p9_manual.specs.declared.state.Party.{Party}

-- the op sends
abbrev pub is_snd : AltOp → Bool
is_snd Snd = true
is_snd Rcv = false
is_snd Nop = false

-- it receives
abbrev pub is_rcv : AltOp → Bool
is_rcv Rcv = true
is_rcv Snd = false
is_rcv Nop = false

-- it does nothing
abbrev pub is_nop : AltOp → Bool
is_nop Nop = true
is_nop Snd = false
is_nop Rcv = false

-- the entry sends on channel c: one whose err is set doesn't
abbrev pub sends_to : ℕ → AltEntry → Bool
sends_to c e = not e.err && (is_snd e.op && e.chan == c)

-- it receives there
abbrev pub receives_from : ℕ → AltEntry → Bool
receives_from c e = not e.err && (is_rcv e.op && e.chan == c)

-- it is an entry on channel c: a no-op isn't
abbrev pub is_on : ℕ → AltEntry → Bool
is_on c e = not e.err && (not (is_nop e.op) && e.chan == c)

-- the thread has an entry that sends on channel c
abbrev pub sends_on : ℕ → Party → Bool
sends_on c w = list_any (sends_to c) w.entries

-- one that receives there
abbrev pub receives_on : ℕ → Party → Bool
receives_on c w = list_any (receives_from c) w.entries

-- one of either sort
abbrev pub waits_on : ℕ → Party → Bool
waits_on c w = list_any (is_on c) w.entries

-- the number of the first entry that passes, counted from 0
abbrev pub first_number : (AltEntry → Bool) → List AltEntry → ℕ
first_number p [] = 0
first_number p (e ∷ es) = if p e then 0 else suc (first_number p es)

-- the slot of the first entry that passes
abbrev pub first_slot : (AltEntry → Bool) → List AltEntry → Slot
first_slot p [] = Null
first_slot p (e ∷ es) = if p e then e.slot else first_slot p es
