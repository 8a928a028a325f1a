-- A worked example of a history: a channel from its making to its freeing.
use Rattle.std.specs.Prelude.{ℕ, ◌≡◌, true, List, [], ◌∷◌, Some}
use Rattle.p9_word.specs.declared.answer.Answer.TheVariants.{Sent, Got, Closed, NoBlock, Done, Number, Minus, Bad}
use Rattle.p9_word.specs.declared.request.Request.TheVariants.{Chan}
use Rattle.p9_word.specs.declared.request.ChanReq.TheVariants.{ChanCreate, ChanFree, ChanClose, ChanClosing, Send, Recv, NbSend, SendUl}
use Rattle.p9_word.specs.declared.trail.Event.TheVariants.{Call}
use Rattle.p9_word.specs.declared.trail.Reply.TheVariants.{Now, Waits, Begin, Turn}
use Rattle.p9_word.specs.declared.trail.Seat.TheVariants.{Proc}
use Rattle.p9_word.specs.declared.trail.Entry.{Entry}
use Rattle.p9_word.specs.declared.setup.Setup.{Setup}
use Rattle.p9_word.specs.declared.setup.ThreadSetup.{ThreadSetup}
use Rattle.p9_word.specs.declared.setup.ChanSetup.{ChanSetup}
use Rattle.p9_word.specs.Setup.{IsValid}
use Rattle.p9_laws.specs.Shorthand.{turns, calls}
use Rattle.p9_laws.specs.ThreadExamples.{first_thread}
use Rattle.p9_laws.specs.RunReplies.{reply_at}

-- one proc with these threads, all of program 1, and these channels
abbrev pub one_proc : List ThreadSetup → List ChanSetup → Setup
one_proc threads chans =
    record {
      places = 1;
      opened = 1;
      threads = threads;
      programs = 1;
      chans = chans;
      locks = 0;
      qlocks = 0;
      rwlocks = 0;
      rendezes = [];
      refs = [];
      files = 0;
      procs = 0;
      start = 42;
    }

-- one thread, and no channel yet
abbrev pub channel_setup : Setup
channel_setup = one_proc (first_thread ∷ []) []

-- the texts ab, abc, c and d, as bytes
abbrev pub text_ab : List ℕ
text_ab = 97 ∷ 98 ∷ []

abbrev pub text_abc : List ℕ
text_abc = 97 ∷ 98 ∷ 99 ∷ []

abbrev pub text_c : List ℕ
text_c = 99 ∷ []

abbrev pub text_d : List ℕ
text_d = 100 ∷ []

-- the thread makes a channel for one element of at most two bytes: abc is too long, ab is sent, and for c there is no room.
-- Once it closes the channel one element is left there, nothing more is sent, and ab is received, which the call at
-- position 3 sent. Then it frees the channel
abbrev pub by_a_channel : List Entry
by_a_channel =
    turns (Begin 1 1 0)
    ∷ calls 1 (Chan (ChanCreate 1 2)) (Now (Number 1))
    ∷ calls 1 (Chan (Send 1 (Some text_abc))) (Now Bad)
    ∷ calls 1 (Chan (Send 1 (Some text_ab))) Waits
    ∷ turns (Turn 1 Sent)
    ∷ calls 1 (Chan (NbSend 1 (Some text_c))) Waits
    ∷ turns (Turn 1 NoBlock)
    ∷ calls 1 (Chan (ChanClosing 1)) (Now Minus)
    ∷ calls 1 (Chan (ChanClose 1)) (Now (Number 1))
    ∷ calls 1 (Chan (ChanClosing 1)) (Now (Number 1))
    ∷ calls 1 (Chan (SendUl 1 7)) (Now Bad)
    ∷ calls 1 (Chan (Send 1 (Some text_d))) Waits
    ∷ turns (Turn 1 Closed)
    ∷ calls 1 (Chan (Recv true 1)) Waits
    ∷ turns (Turn 1 (Got 3 text_ab))
    ∷ calls 1 (Chan (Recv true 1)) Waits
    ∷ turns (Turn 1 Closed)
    ∷ calls 1 (Chan (ChanFree 1)) (Now Done)
    ∷ calls 1 (Chan (ChanClosing 1)) (Now Bad)
    ∷ []

-- what that history shows: its setup is valid; the freed channel may not be named any more; and the next one has the next id
pub record ShowsTheChannel : Type 0 where
  pub valid : IsValid channel_setup
  pub freed : reply_at channel_setup by_a_channel (Proc 1) (Call 1 (Chan (Recv true 1))) ≡ Now Bad
  pub next : reply_at channel_setup by_a_channel (Proc 1) (Call 1 (Chan (ChanCreate 1 2))) ≡ Now (Number 2)
