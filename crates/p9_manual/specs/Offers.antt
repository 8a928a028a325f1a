-- What threads offer on channels: the entries of an alt. send, recv and their kin are alts of one entry. thread(2).
use Rattle.std.specs.Prelude.{ℕ, Bool, true, false, List, [], ◌∷◌, Option, Some, None, if◌then◌else◌}
use Rattle.std.specs.List.{flat_map}
use Rattle.std.specs.Int.{w64, to_le_bytes}
use Rattle.p9_word.specs.declared.alt.AltOp.{AltOp}
use Rattle.p9_word.specs.declared.alt.AltOp.TheVariants.{Snd, Rcv}
use Rattle.p9_word.specs.declared.alt.Slot.{Slot}
use Rattle.p9_word.specs.declared.alt.Slot.TheVariants.{Null, Give, Keep}
use Rattle.p9_word.specs.declared.alt.AltEntry.{AltEntry}
use Rattle.p9_word.specs.declared.alt.Ending.{Ending}
use Rattle.p9_word.specs.declared.alt.Ending.TheVariants.{End, NoBlk}
use Rattle.p9_word.specs.declared.request.Request.{Request}
use Rattle.p9_word.specs.declared.request.Request.TheVariants.{Chan as ChanRequest}
use Rattle.p9_word.specs.declared.request.ChanReq.{ChanReq}
use Rattle.p9_word.specs.declared.request.ChanReq.TheVariants as ask
use Rattle.p9_manual.specs.declared.state.Waiter.{Waiter}
use Rattle.p9_manual.specs.declared.state.Party.{Party}

-- an alt: its entries, how its list ends, and whether its answers have the forms of send and recv
pub record Alternation : Type 0 where
  pub entries : List AltEntry
  pub ending : Ending
  pub single : Bool

-- an alt of one entry, with the answers of send and recv
abbrev pub one_entry : ℕ → AltOp → Slot → Ending → Alternation
one_entry c op slot ending =
    record { entries = record { chan = c; op = op; err = false; slot = slot } ∷ []; ending = ending; single = true }

-- the slot of a value to send: no value stands for as many zeros as an element has
abbrev pub given : Option (List ℕ) → Slot
given None = Null
given (Some m) = Give m

-- the slot of a receive: what it receives is kept or discarded
abbrev pub taken : Bool → Slot
taken keep = if keep then Keep else Null

-- the alt that a request on channels is, if it is one
abbrev pub alternation : ChanReq → Option Alternation
alternation (ask.Alt ending entries) = Some (record { entries = entries; ending = ending; single = false })
alternation (ask.Send c value) = Some (one_entry c Snd (given value) End)
alternation (ask.Recv keep c) = Some (one_entry c Rcv (taken keep) End)
alternation (ask.NbSend c value) = Some (one_entry c Snd (given value) NoBlk)
alternation (ask.NbRecv keep c) = Some (one_entry c Rcv (taken keep) NoBlk)
alternation (ask.SendUl c n) = Some (one_entry c Snd (Give (to_le_bytes w64 n)) End)
alternation (ask.RecvUl c) = Some (one_entry c Rcv Keep End)
alternation (ask.NbSendUl c n) = Some (one_entry c Snd (Give (to_le_bytes w64 n)) NoBlk)
alternation (ask.NbRecvUl c) = Some (one_entry c Rcv Keep NoBlk)
alternation (ask.ChanPrint c text) = Some (one_entry c Snd (Give text) End)
alternation (ask.ChanCreate cap elsize) = None
alternation (ask.ChanFree c) = None
alternation (ask.ChanClose c) = None
alternation (ask.ChanClosing c) = None

-- the same of any request
abbrev pub alternation_of : Request → Option Alternation
alternation_of (ChanRequest r) = alternation r
alternation_of r = None

-- a thread with an alt that it made at this position of the trail
abbrev pub party : ℕ → ℕ → Alternation → Party
party t at a = record { tid = t; at = at; single = a.single; entries = a.entries }

-- the thread, if its request is an alt
abbrev pub party_with : ℕ → ℕ → Option Alternation → List Party
party_with t at None = []
party_with t at (Some a) = party t at a ∷ []

-- the thread that waits, if it waits in an alt
abbrev pub party_of : Waiter → List Party
party_of w = party_with w.tid w.at (alternation_of w.request)

-- the threads that wait in an alt, in the order in which they came
abbrev pub parties : List Waiter → List Party
parties waits = flat_map party_of waits
