-- A worked example of a history: whom a channel's closing wakes.
use Rattle.std.specs.Prelude.{◌≡◌, true, List, [], ◌∷◌, None, take}
use Rattle.p9_word.specs.declared.alt.Ending.TheVariants.{End}
use Rattle.p9_word.specs.declared.answer.Answer.TheVariants.{Index, Closed, Number}
use Rattle.p9_word.specs.declared.request.Request.TheVariants.{Thread, Chan}
use Rattle.p9_word.specs.declared.request.ThreadReq.TheVariants.{ThreadExits}
use Rattle.p9_word.specs.declared.request.ChanReq.TheVariants.{Alt, ChanClose, Recv}
use Rattle.p9_word.specs.declared.trail.Reply.TheVariants.{Now, Waits, Ended, Begin, Turn}
use Rattle.p9_word.specs.declared.trail.Entry.{Entry}
use Rattle.p9_word.specs.declared.setup.Setup.{Setup}
use Rattle.p9_word.specs.Setup.{IsValid}
use Rattle.p9_laws.specs.Shorthand.{turns, calls}
use Rattle.p9_laws.specs.ThreadExamples.{first_thread}
use Rattle.p9_laws.specs.ChannelExamples.{one_proc}
use Rattle.p9_manual.specs.History.{state_after}
use Rattle.p9_laws.specs.AltExamples.{of_capacity, rcv}

-- four threads, and a channel that hands each value over
abbrev pub closing_setup : Setup
closing_setup = one_proc (first_thread ∷ first_thread ∷ first_thread ∷ first_thread ∷ []) (of_capacity 0 ∷ [])

-- three threads wait to receive, the third one by two entries. The fourth closes the channel, and each of them is told so,
-- once and in the order of their calls
abbrev pub closed_under : List Entry
closed_under =
    turns (Begin 1 1 0)
    ∷ calls 1 (Chan (Recv true 1)) Waits
    ∷ turns (Begin 2 1 0)
    ∷ calls 2 (Chan (Recv true 1)) Waits
    ∷ turns (Begin 3 1 0)
    ∷ calls 3 (Chan (Alt End (rcv 1 ∷ rcv 1 ∷ []))) Waits
    ∷ turns (Begin 4 1 0)
    ∷ calls 4 (Chan (ChanClose 1)) (Now (Number 1))
    ∷ calls 4 (Chan (ChanClose 1)) (Now (Number 0))
    ∷ calls 4 (Thread (ThreadExits [])) Ended
    ∷ turns (Turn 1 Closed)
    ∷ calls 1 (Thread (ThreadExits [])) Ended
    ∷ turns (Turn 2 Closed)
    ∷ calls 2 (Thread (ThreadExits [])) Ended
    ∷ turns (Turn 3 (Index true 0 None []))
    ∷ []

-- what that history shows: its setup is valid; and right after the channel is closed nobody waits, and the three threads
-- are ready, each once
pub record ShowsTheClosing : Type 0 where
  pub valid : IsValid closing_setup
  pub waits : (state_after closing_setup (take 8 closed_under)).waits ≡ []
  pub line : (state_after closing_setup (take 8 closed_under)).line ≡ 1 ∷ 2 ∷ 3 ∷ []
