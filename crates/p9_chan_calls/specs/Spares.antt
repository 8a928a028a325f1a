-- The memory that a request on channels needs.
use Rattle.std.specs.Prelude.{ℕ, ◌≡◌, ◌≤◌, false, true, [], ◌∷◌, Some, count_by}
use Rattle.std.specs.Int.{w64, to_le_bytes}
use Rattle.p9_word.specs.declared.alt.AltEntry.{AltEntry}
use Rattle.p9_word.specs.declared.alt.AltOp.{AltOp}
use Rattle.p9_word.specs.declared.alt.AltOp.TheVariants.{Snd, Rcv}
use Rattle.p9_word.specs.declared.alt.Slot.{Slot}
use Rattle.p9_word.specs.declared.alt.Slot.TheVariants.{Give, Keep}
use Rattle.p9_word.specs.declared.request.ChanReq.{ChanReq}
use Rattle.p9_word.specs.declared.request.ChanReq.TheVariants as ask
use Rattle.p9_manual.specs.Chans.{is_no_size}
use Rattle.p9_manual.specs.AltEntries.{waits_on}
use Rattle.p9_manual.specs.Offers.{given, taken}
use Rattle.p9_alt.specs.Exchange.{Exchange, HasMemory}
use Rattle.p9_chan_calls.specs.declared.memory.Spare.{Spare}
use Rattle.p9_chan_calls.specs.declared.memory.Spare.TheVariants.{Nothing, Number, Wakes}

-- an entry on channel c, in use
abbrev pub entry_on : ℕ → AltOp → Slot → AltEntry
entry_on c op slot = record { chan = c; op = op; err = false; slot = slot }

-- there is memory for an offer of this entry alone, and for its list
pub record HasOne (e : AltEntry) (alts : Exchange) : Type 0 where
  pub memory : HasMemory (e ∷ []) alts
  pub list : alts.spare.one ≡ true

-- there is memory for a send or a receive on channel c
abbrev pub MaySend : ℕ → Slot → Exchange → Type 0
MaySend c slot alts = HasOne (entry_on c Snd slot) alts

abbrev pub MayReceive : ℕ → Slot → Exchange → Type 0
MayReceive c slot alts = HasOne (entry_on c Rcv slot) alts

-- the request is an alt of one entry
abbrev pub IsAlone : ChanReq → Type 0
IsAlone (ask.Send c value) = Unit {0}
IsAlone (ask.NbSend c value) = Unit {0}
IsAlone (ask.Recv keep c) = Unit {0}
IsAlone (ask.NbRecv keep c) = Unit {0}
IsAlone (ask.SendUl c n) = Unit {0}
IsAlone (ask.NbSendUl c n) = Unit {0}
IsAlone (ask.RecvUl c) = Unit {0}
IsAlone (ask.NbRecvUl c) = Unit {0}
IsAlone (ask.ChanPrint c text) = Unit {0}
IsAlone (ask.ChanCreate cap elsize) = ⊥
IsAlone (ask.ChanFree c) = ⊥
IsAlone (ask.ChanClose c) = ⊥
IsAlone (ask.ChanClosing c) = ⊥
IsAlone (ask.Alt ending entries) = ⊥

-- the request is an alt of a list
abbrev pub IsAlt : ChanReq → Type 0
IsAlt (ask.Alt ending entries) = Unit {0}
IsAlt (ask.Send c value) = ⊥
IsAlt (ask.NbSend c value) = ⊥
IsAlt (ask.Recv keep c) = ⊥
IsAlt (ask.NbRecv keep c) = ⊥
IsAlt (ask.SendUl c n) = ⊥
IsAlt (ask.NbSendUl c n) = ⊥
IsAlt (ask.RecvUl c) = ⊥
IsAlt (ask.NbRecvUl c) = ⊥
IsAlt (ask.ChanPrint c text) = ⊥
IsAlt (ask.ChanCreate cap elsize) = ⊥
IsAlt (ask.ChanFree c) = ⊥
IsAlt (ask.ChanClose c) = ⊥
IsAlt (ask.ChanClosing c) = ⊥

-- the spare has room for so many threads that are woken
abbrev pub IsRoomFor : ℕ → Spare → Type 0
IsRoomFor n (Wakes room) = (room.value.items ≡ []) × (n ≤ room.value.spare)
IsRoomFor n (Number bytes) = ⊥
IsRoomFor n Nothing = ⊥

-- there is memory for the request: room for the channel that is made; for the threads that are woken where one is closed; for
-- the alt; and the bytes of a number to send
abbrev pub IsSpare : ChanReq → Spare → Exchange → Type 0
IsSpare (ask.ChanCreate cap elsize) spare alts = is_no_size cap elsize ≡ false → alts.channels.room ≡ Some cap
IsSpare (ask.ChanFree c) spare alts = Unit {0}
IsSpare (ask.ChanClosing c) spare alts = Unit {0}
IsSpare (ask.ChanClose c) spare alts = IsRoomFor (count_by (waits_on c) alts.waits) spare
IsSpare (ask.Alt ending entries) spare alts = HasMemory entries alts
IsSpare (ask.Send c value) spare alts = MaySend c (given value) alts
IsSpare (ask.NbSend c value) spare alts = MaySend c (given value) alts
IsSpare (ask.Recv keep c) spare alts = MayReceive c (taken keep) alts
IsSpare (ask.NbRecv keep c) spare alts = MayReceive c (taken keep) alts
IsSpare (ask.SendUl c n) spare alts = (spare ≡ Number (to_le_bytes w64 n)) × MaySend c (Give (to_le_bytes w64 n)) alts
IsSpare (ask.NbSendUl c n) spare alts = (spare ≡ Number (to_le_bytes w64 n)) × MaySend c (Give (to_le_bytes w64 n)) alts
IsSpare (ask.RecvUl c) spare alts = MayReceive c Keep alts
IsSpare (ask.NbRecvUl c) spare alts = MayReceive c Keep alts
IsSpare (ask.ChanPrint c text) spare alts = MaySend c (Give text) alts
