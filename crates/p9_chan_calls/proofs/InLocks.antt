-- Who waits at locks, at Rendezes and with tags stays where threads that wait in alts are woken, and these hold no proc.
use Rattle.std.proofs.Common.{◌≡◌, ℕ, ◌≤◌, Bool, true, false, not, cond, List, [], ◌∷◌, ◌++◌, Option, Some, None, refl, ap, sym, ◌∙◌}
use Rattle.std.specs.Prelude.{◌==◌, is_none}
use Rattle.std.specs.List.{filter, list_any}
use Rattle.p9_word.specs.declared.answer.Answer.{Answer}
use Rattle.p9_word.specs.declared.request.Request.{Request}
use Rattle.p9_word.specs.declared.request.Request.TheVariants.{Thread as ThreadRequest, Signal as SignalRequest, Chan as ChanRequest, Lock as LockRequest, Io as IoRequest}
use Rattle.p9_manual.specs.declared.locks.LockWait.{LockWait}
use Rattle.p9_manual.specs.declared.locks.LockWaiter.{LockWaiter}
use Rattle.p9_manual.specs.declared.state.Place.TheVariants.{Ready}
use Rattle.p9_manual.specs.declared.state.Waiter.{Waiter}
use Rattle.p9_manual.specs.Close.{all_woken}
use Rattle.p9_manual.specs.Held.{holds_in}
use Rattle.p9_manual.specs.LockWaits.{lock_wait_of, lock_waiter, lock_waiter_of, lock_waiters, is_holding, lined}
use Rattle.p9_manual.specs.Offers.{alternation_of, parties}
use Rattle.p9_manual.specs.State.{State, placed, readied, wake, waits_without}
use Rattle.p9_manual.specs.Standing.{times}
use Rattle.p9_sched.specs.Schedule.{Schedule}
use Rattle.p9_sched.specs.Stands.{SchedFor}
use Rattle.p9_chan_calls.specs.Serves.{is_in_call}
use Rattle.p9_chan_calls.specs.Wakes.{all_readied}
use Rattle.p9_chan_calls.proofs.Closing.{all_left}
use Rattle.p9_chan_calls.proofs.InCalls.{WaitIn, calls_without, first_stands, rest_wait}
use Rattle.p9_chan_calls.proofs.Parties.{is_tid}

-- an alt is at no lock
alt_at_none : (q : Request) → is_none (alternation_of q) ≡ false → lock_wait_of q ≡ None
alt_at_none (ChanRequest r) h = refl
alt_at_none (ThreadRequest r) h = absurd (cc h)
alt_at_none (SignalRequest r) h = absurd (cc h)
alt_at_none (LockRequest r) h = absurd (cc h)
alt_at_none (IoRequest r) h = absurd (cc h)

locks_step : (b : Bool) (w : Waiter) (fs ws : List Waiter) → is_in_call w ≡ b → lock_waiters fs ≡ lock_waiters ws → lock_waiters (cond b (w ∷ fs) fs) ≡ lock_waiters (w ∷ ws)
locks_step true w fs ws h e = ap (λ (ls : List LockWaiter). lock_waiter_of w ++ ls) e
locks_step false w fs ws h e = e ∙ ap (λ (o : Option (LockWait × ℕ)). lock_waiter w.tid o ++ lock_waiters ws) (sym (alt_at_none w.request h))

-- they are among the waits in no alt
locks_in_calls : (waits : List Waiter) → lock_waiters (filter is_in_call waits) ≡ lock_waiters waits
locks_in_calls [] = refl
locks_in_calls (w ∷ ws) = locks_step (is_in_call w) w (filter is_in_call ws) ws refl (locks_in_calls ws)

-- so they stay where the waits in no alt stay
pub locks_by_calls : (a b : List Waiter) → filter is_in_call a ≡ filter is_in_call b → lock_waiters a ≡ lock_waiters b
locks_by_calls a b e = sym (locks_in_calls a) ∙ (ap lock_waiters e ∙ locks_in_calls b)

-- one more wait, at no lock
pub locks_push : (ws : List Waiter) (w : Waiter) → lock_waiter_of w ≡ [] → lock_waiters (ws ++ w ∷ []) ≡ lock_waiters ws
locks_push [] w e = rw e refl
locks_push (x ∷ ws) w e = ap (λ (ls : List LockWaiter). lock_waiter_of x ++ ls) (locks_push ws w e)

-- the schedule stands for a state with other waits in which the same threads wait at locks
pub held_stays : (places : ℕ) (sched : Schedule) (s : State) (ws : List Waiter) → lock_waiters ws ≡ lock_waiters s.waits → SchedFor places sched s → SchedFor places sched (record s { waits = ws })
held_stays places sched s ws e h = record {
  threads = h.threads;
  lines = h.lines;
  words = h.words;
  opened = h.opened;
  count = h.count;
  held = record { held = λ p from to. h.held.held p from to ∙ sym (ap (λ (ls : List LockWaiter). list_any (holds_in s.threads p) ls) e) };
}

one_not : (t u : ℕ) (o : Option (LockWait × ℕ)) (ls : List LockWaiter) → (u == t) ≡ false → is_holding t ls ≡ false → is_holding t (lock_waiter u o ++ ls) ≡ false
one_not t u None ls ne h = h
one_not t u (Some (what, value)) ls ne h = rw ne h

step_not : (b : Bool) (t : ℕ) (w : Waiter) (fs : List Waiter) → (w.tid == t) ≡ b → is_holding t (lock_waiters fs) ≡ false → is_holding t (lock_waiters (cond (not b) (w ∷ fs) fs)) ≡ false
step_not true t w fs e h = h
step_not false t w fs e h = one_not t w.tid (lock_wait_of w.request) (lock_waiters fs) e h

-- a thread without waits holds no proc
none_holds : (t : ℕ) → (waits : List Waiter) → is_holding t (lock_waiters (waits_without t waits)) ≡ false
none_holds t [] = refl
none_holds t (w ∷ ws) = step_not (w.tid == t) t w (waits_without t ws) refl (none_holds t ws)

-- one that waits in an alt, and so waits once, holds none
alt_holds_none : (t : ℕ) (waits : List Waiter) → times (λ x. x.tid == t) waits ≤ 1 → 1 ≤ times (is_tid t) (parties waits) → is_holding t (lock_waiters waits) ≡ false
alt_holds_none t waits le one =
    ap (is_holding t) (sym (locks_by_calls (waits_without t waits) waits (calls_without t waits le one))) ∙ none_holds t waits

-- so it is woken last in the line
pub woken_last : (t : ℕ) (a : Answer) (s : State) → times (λ x. x.tid == t) s.waits ≤ 1 → 1 ≤ times (is_tid t) (parties s.waits) → wake t a s ≡ readied t a (record s { waits = waits_without t s.waits })
woken_last t a s le one =
    ap (λ (b : Bool). record s { threads = placed t (Ready a) s.threads; line = lined b t s.line; waits = waits_without t s.waits }) (alt_holds_none t s.waits le one)

-- who is woken leaves the waits, and is ready
pub woken_readied : (ws : List (ℕ × Answer)) (s : State) → WaitIn ws s.waits → all_woken ws s ≡ all_readied ws (record s { waits = all_left ws s.waits })
woken_readied [] s h = refl
woken_readied (w ∷ ws) s h =
    ap (all_woken ws) (woken_last w.0 w.1 s (h.once w.0) (first_stands w ws s.waits h)) ∙ woken_readied ws (readied w.0 w.1 (record s { waits = waits_without w.0 s.waits })) (rest_wait w ws s.waits h)
