-- Where the waits in no alt stay, those at locks and with tags do.
use Rattle.std.proofs.Common.{◌≡◌, Bool, true, false, cond, List, [], ◌∷◌, ◌++◌, None, refl, ap, sym, ◌∙◌}
use Rattle.std.specs.Prelude.{is_none}
use Rattle.std.specs.List.{filter}
use Rattle.p9_word.specs.declared.request.Request.{Request}
use Rattle.p9_word.specs.declared.request.Request.TheVariants.{Thread as ThreadRequest, Signal as SignalRequest, Chan as ChanRequest, Lock as LockRequest, Io as IoRequest}
use Rattle.p9_manual.specs.declared.locks.LockWaiter.{LockWaiter}
use Rattle.p9_manual.specs.declared.state.Waiter.{Waiter}
use Rattle.p9_manual.specs.LockWaits.{lock_wait_of, lock_waiter, lock_waiter_of, lock_waiters}
use Rattle.p9_manual.specs.Offers.{alternation_of}
use Rattle.p9_chan_calls.specs.Serves.{is_in_call}

-- an alt is no wait at a lock
alt_no_lock : (r : Request) → is_none (alternation_of r) ≡ false → lock_wait_of r ≡ None
alt_no_lock (ThreadRequest r) h = refl
alt_no_lock (SignalRequest r) h = refl
alt_no_lock (ChanRequest r) h = refl
alt_no_lock (LockRequest r) h = absurd (cc h)
alt_no_lock (IoRequest r) h = refl

kept_by : (b : Bool) (w : Waiter) (ws : List Waiter) (rest : List LockWaiter) → is_in_call w ≡ b → lock_waiters ws ≡ rest → lock_waiters (cond b (w ∷ ws) ws) ≡ lock_waiter_of w ++ rest
kept_by true w ws rest e h = ap (λ (xs : List LockWaiter). lock_waiter_of w ++ xs) h
kept_by false w ws rest e h =
    let none : lock_waiter_of w ≡ [] = ap (lock_waiter w.tid) (alt_no_lock w.request e) in
    h ∙ ap (λ (xs : List LockWaiter). xs ++ rest) (sym none)

out_of_alts : (ws : List Waiter) → lock_waiters (filter is_in_call ws) ≡ lock_waiters ws
out_of_alts [] = refl
out_of_alts (w ∷ ws) = kept_by (is_in_call w) w (filter is_in_call ws) (lock_waiters ws) refl (out_of_alts ws)

pub locks_kept : (ns ws : List Waiter) → filter is_in_call ns ≡ filter is_in_call ws → lock_waiters ns ≡ lock_waiters ws
locks_kept ns ws e = sym (out_of_alts ns) ∙ ap lock_waiters e ∙ out_of_alts ws
