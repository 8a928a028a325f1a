-- A request by its kind.
use Rattle.std.proofs.Common.{◌≡◌, ℕ, List}
use Rattle.p9_word.specs.declared.request.SignalReq.{SignalReq}
use Rattle.p9_word.specs.declared.trail.Reply.{Reply}
use Rattle.p9_manual.specs.Signals.{signal_call}
use Rattle.p9_manual.specs.State.{State, Outcome}
use Rattle.p9_alt.specs.Exchange.{Exchange}
use Rattle.p9_lock.specs.Locking.{Locking}
use Rattle.p9_note.specs.ProcNotes.{ProcNotes}
use Rattle.p9_sched.specs.Schedule.{Schedule}
use Rattle.p9_signal_calls.specs.Serves.{ServesAll}

-- a request serves what it comes to
pub serves_as : (t : ℕ) (r q : SignalReq) (f : State → Outcome) (a : Schedule) (b : Exchange) (c : Locking) (d : List ProcNotes) (reply : Reply) (x : Schedule) (y : Exchange) (z : Locking) (w : List ProcNotes) → r ≡ q → ((s : State) → signal_call t q s ≡ f s) → ServesAll f a b c d reply x y z w → ServesAll (signal_call t r) a b c d reply x y z w
serves_as t r q f a b c d reply x y z w e is k = rw e (record { serves = λ setup s h sound. rw (is s) (k.serves setup s h sound) })
