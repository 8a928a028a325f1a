-- Who waits in a call holds no proc, and waits at no lock.
use Rattle.std.proofs.Common.{◌≡◌, ℕ, Bool, true, false, not, cond, List, [], ◌∷◌, ◌++◌, Option, Some, None, refl, ap, sym, ◌∙◌}
use Rattle.std.specs.Prelude.{◌==◌}
use Rattle.std.specs.List.{list_any}
use Rattle.p9_word.specs.declared.answer.Answer.{Answer}
use Rattle.p9_manual.specs.declared.locks.LockWait.{LockWait}
use Rattle.p9_manual.specs.declared.locks.LockWaiter.{LockWaiter}
use Rattle.p9_manual.specs.declared.state.Place.TheVariants.{Ready}
use Rattle.p9_manual.specs.declared.state.Waiter.{Waiter}
use Rattle.p9_manual.specs.Held.{holds_in}
use Rattle.p9_manual.specs.LockWaits.{lock_wait_of, lock_waiter, lock_waiter_of, lock_waiters, is_holding, lined}
use Rattle.p9_manual.specs.State.{State, placed, readied, wake, waits_without}
use Rattle.p9_sched.specs.Schedule.{Schedule}
use Rattle.p9_sched.specs.Stands.{SchedFor}

-- one more wait, at no lock
pub locks_push : (ws : List Waiter) (w : Waiter) → lock_waiter_of w ≡ [] → lock_waiters (ws ++ w ∷ []) ≡ lock_waiters ws
locks_push [] w e = rw e refl
locks_push (x ∷ ws) w e = ap (λ (ls : List LockWaiter). lock_waiter_of x ++ ls) (locks_push ws w e)

-- the schedule stands for a state with other waits in which the same threads wait at locks
pub held_stays : (places : ℕ) (sched : Schedule) (s : State) (ws : List Waiter) → lock_waiters ws ≡ lock_waiters s.waits → SchedFor places sched s → SchedFor places sched (record s { waits = ws })
held_stays places sched s ws e h = record {
  threads = h.threads;
  lines = h.lines;
  words = h.words;
  opened = h.opened;
  count = h.count;
  held = record { held = λ p from to. h.held.held p from to ∙ sym (ap (λ (ls : List LockWaiter). list_any (holds_in s.threads p) ls) e) };
}

one_not : (t u : ℕ) (o : Option (LockWait × ℕ)) (ls : List LockWaiter) → (u == t) ≡ false → is_holding t ls ≡ false → is_holding t (lock_waiter u o ++ ls) ≡ false
one_not t u None ls ne h = h
one_not t u (Some (what, value)) ls ne h = rw ne h

step_not : (b : Bool) (t : ℕ) (w : Waiter) (fs : List Waiter) → (w.tid == t) ≡ b → is_holding t (lock_waiters fs) ≡ false → is_holding t (lock_waiters (cond (not b) (w ∷ fs) fs)) ≡ false
step_not true t w fs e h = h
step_not false t w fs e h = one_not t w.tid (lock_wait_of w.request) (lock_waiters fs) e h

-- a thread without waits holds no proc
none_holds : (t : ℕ) → (waits : List Waiter) → is_holding t (lock_waiters (waits_without t waits)) ≡ false
none_holds t [] = refl
none_holds t (w ∷ ws) = step_not (w.tid == t) t w (waits_without t ws) refl (none_holds t ws)

-- one that waits at no lock is woken last in the line
pub woken_last : (t : ℕ) (a : Answer) (s : State) → lock_waiters (waits_without t s.waits) ≡ lock_waiters s.waits → wake t a s ≡ readied t a (record s { waits = waits_without t s.waits })
woken_last t a s e =
    let none : is_holding t (lock_waiters s.waits) ≡ false = ap (is_holding t) (sym e) ∙ none_holds t s.waits in
    ap (λ (b : Bool). record s { threads = placed t (Ready a) s.threads; line = lined b t s.line; waits = waits_without t s.waits }) none
