-- Which requests and effects give threads which answers: the caller, and those that they wake.
use Rattle.std.proofs.Common.{◌≡◌, ℕ, Bool, true, false, not, ltb, Option, Some, None}
use Rattle.std.specs.Prelude.{slice_get}
use Rattle.p9_word.specs.declared.answer.Answer.{Answer}
use Rattle.p9_word.specs.declared.answer.Answer.TheVariants.{Done, Sent, Got, Index, Closed, NoBlock, Interrupted, Number, Met, Io as IoAnswered}
use Rattle.p9_word.specs.declared.request.Request.{Request}
use Rattle.p9_word.specs.declared.request.Request.TheVariants.{Thread as ThreadRequest, Signal as SignalRequest, Chan as ChanRequest, Lock as LockRequest, Io as IoRequest}
use Rattle.p9_word.specs.declared.request.ChanReq.{ChanReq}
use Rattle.p9_word.specs.declared.request.ChanReq.TheVariants.{ChanClose}
use Rattle.p9_word.specs.declared.setup.Setup.{Setup}
use Rattle.p9_word.specs.declared.trail.Event.{Event}
use Rattle.p9_word.specs.declared.trail.Event.TheVariants.{Call, Next, IoTake, IoDid}
use Rattle.p9_manual.specs.declared.state.Channel.{Channel}
use Rattle.p9_manual.specs.declared.state.Party.{Party}
use Rattle.p9_manual.specs.Alt.{Verdict, AllClosed, Commits, NoneReady, MustWait, verdict_of}
use Rattle.p9_manual.specs.AltEntries.{is_on, waits_on, first_number}
use Rattle.p9_manual.specs.Offers.{Alternation, alternation, parties}
use Rattle.p9_manual.specs.ReadyEntries.{fits, unfreed}
use Rattle.p9_manual.specs.State.{State, by_id}
use Rattle.p9_manual.specs.Told.{failed_answer}
use Rattle.p9_laws.specs.Causes.{io_interrupts, signal_interrupts}

-- the answer tells of an entry that went on
abbrev pub passes : Answer → Bool
passes Sent = true
passes (Got from m) = true
passes (Index err i from m) = not err
passes a = false

-- the answers of requests on threads that come with a later turn
abbrev pub tells_thread : Answer → Bool
tells_thread Done = true
tells_thread (Number n) = ltb 0 n
tells_thread a = false

-- those of threads that wait for locks and to meet
abbrev pub tells_lock : Answer → Bool
tells_lock Done = true
tells_lock (Met value) = true
tells_lock a = false

-- those of calls through ioprocs
abbrev pub tells_io : Answer → Bool
tells_io (IoAnswered a) = true
tells_io a = false

-- thread u waits on channel c, which is there and open, and this is its answer where the channel is closed
pub record Fails (s : State) (c u : ℕ) (a : Answer) : Type 0 where
  pub chan : Channel
  pub index : ℕ
  pub party : Party
  pub is_chan : unfreed (by_id s.chans c) ≡ Some chan
  pub open_chan : chan.closed ≡ false
  pub waits_there : slice_get (parties s.waits) index ≡ Some party
  pub waits_on_it : waits_on c party ≡ true
  pub is_thread : party.tid ≡ u
  pub answer : a ≡ failed_answer party.single (first_number (is_on c) party.entries)

-- a request on channels wakes a partner, or all that wait on a channel that it closes
pub data WokenByChan (s : State) (r : ChanReq) (u : ℕ) (a : Answer) : Type 0 where
  Meets : (alt : Alternation) → alternation r ≡ Some alt → passes a ≡ true → WokenByChan s r u a
  Closes : (c : ℕ) → r ≡ ChanClose c → Fails s c u a → WokenByChan s r u a

-- who is woken by a request, with which answers
abbrev pub WokenBy : State → Request → ℕ → Answer → Type 0
WokenBy s (ThreadRequest r) u a = ⊥
WokenBy s (SignalRequest r) u a = (signal_interrupts r ≡ true) × (a ≡ Interrupted)
WokenBy s (ChanRequest r) u a = WokenByChan s r u a
WokenBy s (LockRequest r) u a = tells_lock a ≡ true
WokenBy s (IoRequest r) u a = (io_interrupts r ≡ true) × (a ≡ Interrupted)

-- the answer that the verdict on an alt gives to its caller
abbrev pub verdict_tells : Verdict → Option Answer
verdict_tells AllClosed = Some Closed
verdict_tells (Commits d) = Some d.answer
verdict_tells NoneReady = Some NoBlock
verdict_tells MustWait = None

-- a request on channels is an alt that may be asked for, and its verdict gives this answer
pub record ToldByAlt (setup : Setup) (s : State) (t : ℕ) (r : ChanReq) (a : Answer) : Type 0 where
  pub alt : Alternation
  pub is_alt : alternation r ≡ Some alt
  pub fits_it : fits s.chans alt.entries ≡ true
  pub tells : verdict_tells (verdict_of setup t alt s) ≡ Some a

-- which answers the caller of a request has when it has let others run
abbrev pub ToldBy : Setup → State → ℕ → Request → Answer → Type 0
ToldBy setup s t (ThreadRequest r) a = tells_thread a ≡ true
ToldBy setup s t (SignalRequest r) a = ⊥
ToldBy setup s t (ChanRequest r) a = ToldByAlt setup s t r a
ToldBy setup s t (LockRequest r) a = a ≡ Done
ToldBy setup s t (IoRequest r) a = ⊥

-- who is woken by an event
abbrev pub WokenAt : State → Event → ℕ → Answer → Type 0
WokenAt s (Call t r) u a = WokenBy s r u a
WokenAt s Next u a = ⊥
WokenAt s IoTake u a = ⊥
WokenAt s (IoDid effect) u a = tells_io a ≡ true
