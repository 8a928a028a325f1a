-- Which answers come with a later turn.
use Rattle.std.proofs.Common.{◌≡◌, ℕ, Bool, true, false, List, refl}
use Rattle.p9_word.specs.Setup.{IsValid}
use Rattle.p9_word.specs.declared.answer.Answer.{Answer}
use Rattle.p9_word.specs.declared.answer.Answer.TheVariants.{Done, Sent, Got, Index, Closed, NoBlock, Number, Met, Io as IoAnswered}
use Rattle.p9_word.specs.declared.request.ChanReq.{ChanReq}
use Rattle.p9_word.specs.declared.request.Request.{Request}
use Rattle.p9_word.specs.declared.request.Request.TheVariants.{Thread as ThreadRequest, Signal as SignalRequest, Chan as ChanRequest, Lock as LockRequest, Io as IoRequest}
use Rattle.p9_word.specs.declared.setup.Setup.{Setup}
use Rattle.p9_word.specs.declared.trail.Entry.{Entry}
use Rattle.p9_word.specs.declared.trail.Event.{Event}
use Rattle.p9_word.specs.declared.trail.Seat.{Seat}
use Rattle.p9_word.specs.declared.trail.Event.TheVariants.{Call, Next, IoTake, IoDid}
use Rattle.p9_manual.specs.History.{IsLegal}
use Rattle.p9_manual.specs.State.{State}
use Rattle.p9_manual.specs.Told.{failed_answer}
use Rattle.p9_laws.specs.Causes.{TurnsTellLater, comes_later}
use Rattle.p9_laws.specs.Given.{state_before}
use Rattle.p9_laws.proofs.Given.Causes.{Closes, Meets, ToldBy, WokenAt, WokenBy, WokenByChan, passes, tells_io, tells_lock, tells_thread}
use Rattle.p9_laws.proofs.Given.Histories.{answers_given}
use Rattle.p9_laws.proofs.Given.Tells.{alt_tells, tells_alt}
use Rattle.p9_laws.proofs.Given.Givers.{giver}
use Rattle.p9_laws.proofs.Given.Served.{ByAnother, ByItself, IsCause}

told_later : (a : Answer) → tells_alt a ≡ true → comes_later a ≡ true
told_later Sent h = refl
told_later (Got from m) h = refl
told_later (Index err i from m) h = refl
told_later Closed h = refl
told_later NoBlock h = refl
told_later a h = cc

thread_later : (a : Answer) → tells_thread a ≡ true → comes_later a ≡ true
thread_later Done h = refl
thread_later (Number n) h = h
thread_later a h = cc

lock_later : (a : Answer) → tells_lock a ≡ true → comes_later a ≡ true
lock_later Done h = refl
lock_later (Met value) h = refl
lock_later a h = cc

io_later : (a : Answer) → tells_io a ≡ true → comes_later a ≡ true
io_later (IoAnswered x) h = refl
io_later a h = cc

passes_later : (a : Answer) → passes a ≡ true → comes_later a ≡ true
passes_later Sent h = refl
passes_later (Got from m) h = refl
passes_later (Index err i from m) h = refl
passes_later a h = cc

failed_later : (single : Bool) (i : ℕ) → comes_later (failed_answer single i) ≡ true
failed_later true i = refl
failed_later false i = refl

chan_later : (s : State) (r : ChanReq) (u : ℕ) (a : Answer) → WokenByChan s r u a → comes_later a ≡ true
chan_later s r u a (Meets alt is_alt h) = passes_later a h
chan_later s r u a (Closes c is fails) = let e = fails.answer in rw e (failed_later fails.party.single _)

own_later : (setup : Setup) (s : State) (t : ℕ) (r : Request) (a : Answer) → ToldBy setup s t r a → comes_later a ≡ true
own_later setup s t (ThreadRequest r) a h = thread_later a h
own_later setup s t (SignalRequest r) a h = absurd h
own_later setup s t (ChanRequest r) a h = told_later a (alt_tells setup s t r a h)
own_later setup s t (LockRequest r) a h = rw h refl
own_later setup s t (IoRequest r) a h = absurd h

request_later : (s : State) (u : ℕ) (r : Request) (a : Answer) → WokenBy s r u a → comes_later a ≡ true
request_later s u (ThreadRequest r) a h = absurd h
request_later s u (SignalRequest r) a h = let e = h.1 in rw e refl
request_later s u (ChanRequest r) a h = chan_later s r u a h
request_later s u (LockRequest r) a h = lock_later a h
request_later s u (IoRequest r) a h = let e = h.1 in rw e refl

woken_later : (s : State) (event : Event) (u : ℕ) (a : Answer) → WokenAt s event u a → comes_later a ≡ true
woken_later s (Call t r) u a h = request_later s u r a h
woken_later s Next u a h = absurd h
woken_later s IoTake u a h = absurd h
woken_later s (IoDid effect) u a h = io_later a h

cause_later : (setup : Setup) (seat : Seat) (event : Event) (s : State) (t : ℕ) (a : Answer) → IsCause setup seat event s t a → comes_later a ≡ true
cause_later setup seat event s t a (ByItself p r seat_is is runs spared told) = own_later setup s t r a told
cause_later setup seat event s t a (ByAnother waited woken) = woken_later s event t a woken

pub turns_tell_later : (setup : Setup) (H : List Entry) → IsValid setup → IsLegal setup H → TurnsTellLater H
turns_tell_later setup H valid legal i t a e at told =
    let g = answers_given setup H valid legal i t a e at told in
    cause_later setup g.entry.seat g.entry.event (state_before setup H g.at) t a (giver setup H valid legal i t a g)
