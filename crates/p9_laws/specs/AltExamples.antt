-- Worked examples of histories: what alt chooses.
use Rattle.std.specs.Prelude.{ℕ, ◌≡◌, false, List, [], ◌∷◌, Some, None, take}
use Rattle.p9_word.specs.declared.alt.AltOp.TheVariants.{Snd, Rcv}
use Rattle.p9_word.specs.declared.alt.Slot.TheVariants.{Give, Keep}
use Rattle.p9_word.specs.declared.alt.AltEntry.{AltEntry}
use Rattle.p9_word.specs.declared.alt.Ending.TheVariants.{End, NoBlk}
use Rattle.p9_word.specs.declared.answer.Answer.TheVariants.{Sent, Index, NoBlock}
use Rattle.p9_word.specs.declared.request.Request.{Request}
use Rattle.p9_word.specs.declared.request.Request.TheVariants.{Thread, Chan}
use Rattle.p9_word.specs.declared.request.ThreadReq.TheVariants.{Yield}
use Rattle.p9_word.specs.declared.request.ChanReq.TheVariants.{Alt, Send}
use Rattle.p9_word.specs.declared.trail.Reply.TheVariants.{Waits, Begin, Turn}
use Rattle.p9_word.specs.declared.trail.Entry.{Entry}
use Rattle.p9_word.specs.declared.setup.Setup.{Setup}
use Rattle.p9_word.specs.declared.setup.ChanSetup.{ChanSetup}
use Rattle.p9_word.specs.Setup.{IsValid}
use Rattle.p9_laws.specs.Shorthand.{turns, calls}
use Rattle.p9_laws.specs.ThreadExamples.{first_thread}
use Rattle.p9_laws.specs.ChannelExamples.{one_proc}
use Rattle.p9_manual.specs.Draws.{draw_after}
use Rattle.p9_manual.specs.History.{state_after}

-- the letters p, q and x, as bytes
abbrev pub letter_p : List ℕ
letter_p = 112 ∷ []

abbrev pub letter_q : List ℕ
letter_q = 113 ∷ []

abbrev pub letter_x : List ℕ
letter_x = 120 ∷ []

-- a channel of this capacity for elements of one byte
abbrev pub of_capacity : ℕ → ChanSetup
of_capacity cap = record { cap = cap; elsize = 1 }

-- an entry that receives on channel c and keeps what it receives
abbrev pub rcv : ℕ → AltEntry
rcv c = record { chan = c; op = Rcv; err = false; slot = Keep }

-- an entry that sends on channel c
abbrev pub snd : ℕ → List ℕ → AltEntry
snd c m = record { chan = c; op = Snd; err = false; slot = Give m }

-- one thread, and three channels
abbrev pub ready_setup : Setup
ready_setup = one_proc (first_thread ∷ []) (of_capacity 1 ∷ of_capacity 0 ∷ of_capacity 1 ∷ [])

-- the first channel, the second or the third, without blocking
abbrev pub any_of_three : Request
any_of_three = Chan (Alt NoBlk (rcv 1 ∷ rcv 2 ∷ rcv 3 ∷ []))

-- only the first channel has an element, which the call at position 1 sent: alt receives it, and then nothing is ready
abbrev pub one_ready : List Entry
one_ready =
    turns (Begin 1 1 0)
    ∷ calls 1 (Chan (Send 1 (Some letter_x))) Waits
    ∷ turns (Turn 1 Sent)
    ∷ calls 1 any_of_three Waits
    ∷ turns (Turn 1 (Index false 0 (Some 1) letter_x))
    ∷ calls 1 any_of_three Waits
    ∷ turns (Turn 1 NoBlock)
    ∷ []

-- what that history shows: its setup is valid, and where there was no choice no draw was made
pub record ShowsNoChoice : Type 0 where
  pub valid : IsValid ready_setup
  pub draws : (state_after ready_setup one_ready).draws ≡ 0

-- two threads, and a channel that hands each value over
abbrev pub choice_setup : Setup
choice_setup = one_proc (first_thread ∷ first_thread ∷ []) (of_capacity 0 ∷ [])

-- both threads would send or receive. The second one finds both its entries ready, and the first draw of the run chooses
-- the one that receives: it has p, which the call at position 1 sent. The first thread, whose entry sent it, runs first
abbrev pub two_ready : List Entry
two_ready =
    turns (Begin 1 1 0)
    ∷ calls 1 (Chan (Alt End (snd 1 letter_p ∷ rcv 1 ∷ []))) Waits
    ∷ turns (Begin 2 1 0)
    ∷ calls 2 (Chan (Alt End (snd 1 letter_q ∷ rcv 1 ∷ []))) Waits
    ∷ turns (Turn 1 (Index false 0 None []))
    ∷ calls 1 (Thread Yield) Waits
    ∷ turns (Turn 2 (Index false 1 (Some 1) letter_p))
    ∷ []

-- what that history shows: its setup is valid; the first draw is odd; and right after the second thread's call nobody
-- waits, both threads are ready in this order, and one draw was made
pub record ShowsTheChoice : Type 0 where
  pub valid : IsValid choice_setup
  pub draw : draw_after 42 0 ≡ 0xa15c02b7
  pub waits : (state_after choice_setup (take 4 two_ready)).waits ≡ []
  pub line : (state_after choice_setup (take 4 two_ready)).line ≡ 1 ∷ 2 ∷ []
  pub draws : (state_after choice_setup (take 4 two_ready)).draws ≡ 1
