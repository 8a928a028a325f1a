-- Which kind of request one is, and what a call comes to. A new group is a line of `served_kind`, and in no law, where each of its
-- requests does what one of the sorts of `Does` says.
use Rattle.std.proofs.Common.{◌≡◌, ℕ, Bool, true, false, not, cond, None, refl}
use Rattle.p9_word.specs.declared.request.ChanReq.{ChanReq}
use Rattle.p9_word.specs.declared.request.IoReq.{IoReq}
use Rattle.p9_word.specs.declared.request.LockReq.{LockReq}
use Rattle.p9_word.specs.declared.request.SignalReq.{SignalReq}
use Rattle.p9_word.specs.declared.request.Request.{Request}
use Rattle.p9_word.specs.declared.request.Request.TheVariants.{Thread as ThreadRequest, Signal as SignalRequest, Chan as ChanRequest, Lock as LockRequest, Io as IoRequest}
use Rattle.p9_word.specs.declared.setup.Setup.{Setup}
use Rattle.p9_word.specs.declared.trail.Reply.TheVariants.{Ended as EndedReply, Stray}
use Rattle.p9_manual.specs.Chans.{chan_call}
use Rattle.p9_manual.specs.Ends.{ended}
use Rattle.p9_manual.specs.Ioprocs.{io_call}
use Rattle.p9_manual.specs.Locks.{lock_call}
use Rattle.p9_manual.specs.Offers.{alternation_of}
use Rattle.p9_manual.specs.Places.{runs_there}
use Rattle.p9_manual.specs.Signals.{signal_call}
use Rattle.p9_manual.specs.State.{State, Outcome, by_id, replied, same}
use Rattle.p9_manual.specs.Step.{called, is_doomed, served}
use Rattle.p9_laws.proofs.Asked.{Does, thread_call_does}

-- a request of thread t with its outcome: one that is no alt and does one of those sorts, any to interrupt or kill threads or on
-- notes, any on channels, any on locks, and any on ioprocs
pub data Kind (setup : Setup) (t : ℕ) (s : State) : Request → Outcome → Type 0 where
  Plain : (r : Request) (o : Outcome) → alternation_of r ≡ None → Does setup t s o → Kind setup t s r o
  OfSignals : (r : SignalReq) → Kind setup t s (SignalRequest r) (signal_call t r s)
  OfChans : (r : ChanReq) → Kind setup t s (ChanRequest r) (chan_call setup t r s)
  OfLocks : (r : LockReq) → Kind setup t s (LockRequest r) (lock_call setup t r s)
  OfIoprocs : (r : IoReq) → Kind setup t s (IoRequest r) (io_call setup t r s)

pub served_kind : (setup : Setup) (t : ℕ) (r : Request) (s : State) → Kind setup t s r (served setup t r s)
unfolding served
served_kind setup t (ThreadRequest r) s = Plain (ThreadRequest r) _ refl (thread_call_does setup t r s)
served_kind setup t (SignalRequest r) s = OfSignals r
served_kind setup t (ChanRequest r) s = OfChans r
served_kind setup t (LockRequest r) s = OfLocks r
served_kind setup t (IoRequest r) s = OfIoprocs r

-- what a call of thread t in proc p comes to: nothing where it doesn't run there, its end where it is marked and its request lets
-- others run, or what the request does
pub data CallOf (setup : Setup) (p t : ℕ) (r : Request) (s : State) : Outcome → Type 0 where
  Strays : runs_there p (by_id s.threads t) ≡ false → CallOf setup p t r s (same Stray s)
  Dies : runs_there p (by_id s.threads t) ≡ true → is_doomed t r s ≡ true → CallOf setup p t r s (replied EndedReply (ended t s))
  Serves : runs_there p (by_id s.threads t) ≡ true → is_doomed t r s ≡ false → CallOf setup p t r s (served setup t r s)

call_by : (setup : Setup) (p t : ℕ) (r : Request) (s : State) (b c : Bool) → runs_there p (by_id s.threads t) ≡ b → is_doomed t r s ≡ c → CallOf setup p t r s (cond (not b) (same Stray s) (cond c (replied EndedReply (ended t s)) (served setup t r s)))
call_by setup p t r s false c there doomed = Strays there
call_by setup p t r s true true there doomed = Dies there doomed
call_by setup p t r s true false there doomed = Serves there doomed

pub call_of : (setup : Setup) (p t : ℕ) (r : Request) (s : State) → CallOf setup p t r s (called setup p t r s)
unfolding called
call_of setup p t r s = call_by setup p t r s (runs_there p (by_id s.threads t)) (is_doomed t r s) refl refl
