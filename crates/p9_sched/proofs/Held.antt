-- Which procs are held, over each move.
use Rattle.std.proofs.Common.{◌≡◌, ◌≢◌, ℕ, ◌+◌, ◌-◌, ◌≤◌, Bool, true, false, not, cond, List, [], ◌∷◌, ◌++◌, length, map, Option, Some, None, refl, ap, sym, subst, ◌∙◌, arith}
use Rattle.std.proofs.lemmas.Bool.{eqb-true, eqb-false}
use Rattle.std.proofs.lemmas.List.Folds.{list_any-append}
use Rattle.std.specs.Prelude.{◌==◌, ◌&&◌, ◌||◌, option_map, nat_lt}
use Rattle.std.specs.List.{filter, list_any}
use Rattle.p9_manual.specs.declared.locks.LockWait.{LockWait}
use Rattle.p9_manual.specs.declared.locks.LockWaiter.{LockWaiter}
use Rattle.p9_manual.specs.declared.state.Thread.{Thread}
use Rattle.p9_manual.specs.declared.state.Waiter.{Waiter}
use Rattle.p9_manual.specs.Held.{holds_in, is_held as state_is_held}
use Rattle.p9_manual.specs.LockWaits.{holds_proc, is_holding, lock_wait_of, lock_waiter, lock_waiter_of, lock_waiters}
use Rattle.p9_manual.specs.Places.{is_of}
use Rattle.p9_manual.specs.Standing.{times}
use Rattle.p9_manual.specs.State.{State, by_id, changed, waits_without}
use Rattle.p9_sched.specs.Holding.{held_in}
use Rattle.p9_sched.specs.Schedule.{Schedule}
use Rattle.p9_sched.specs.Stands.{AreHeld}
use Rattle.p9_sched.proofs.Anywhere.{above_none}
use Rattle.p9_sched.proofs.Lines.{KeepsProc, eq_same, eq_other, is_of_keeps}
use Rattle.p9_sched.proofs.Lists.{item_at, by_id-map, by_id-changed_same}

-- where neither the procs that are held nor the places change
pub held_still : (old n : Schedule) (s m : State) → n.holds ≡ old.holds → length n.lines ≡ length old.lines → ((p : ℕ) → state_is_held p m ≡ state_is_held p s) → AreHeld old s → AreHeld n m
held_still old n s m eh el same h = record {
  held = λ p a b.
      let c : p ≤ length old.lines = omega arith in
      ap (λ hs. held_in (by_id hs p)) eh ∙ (h.held p a c ∙ sym (same p));
}

-- threads of the same procs hold the same procs
pub held_alike : (xs ys : List Thread) (p : ℕ) → ((u : ℕ) → is_of p (by_id ys u) ≡ is_of p (by_id xs u)) → (ws : List LockWaiter) → list_any (holds_in ys p) ws ≡ list_any (holds_in xs p) ws
held_alike xs ys p h [] = refl
held_alike xs ys p h (w ∷ ws) = rw (h w.tid, held_alike xs ys p h ws) refl

-- where threads are changed, but no proc, the same procs are held
pub held_changed : (f : Thread → Thread) → KeepsProc f → (i : ℕ) (xs : List Thread) (p : ℕ) (ws : List LockWaiter) → list_any (holds_in (changed f xs i) p) ws ≡ list_any (holds_in xs p) ws
held_changed f k i xs p ws = held_alike xs (changed f xs i) p (λ u. is_of_keeps f k p xs i u) ws

or_off : (b : Bool) → (b || false) ≡ b
or_off true = refl
or_off false = refl

or_on : (b : Bool) → (b || true) ≡ true
or_on true = refl
or_on false = refl

or_assoc : (a b c : Bool) → (a || (b || c)) ≡ ((a || b) || c)
or_assoc true b c = refl
or_assoc false b c = refl

any_cons : (f : LockWaiter → Bool) (w : Waiter) (ws : List Waiter) → list_any f (lock_waiters (w ∷ ws)) ≡ (list_any f (lock_waiter_of w) || list_any f (lock_waiters ws))
any_cons f w ws = list_any-append f (lock_waiter_of w) (lock_waiters ws)

any_last : (f : LockWaiter → Bool) (ws : List Waiter) (w : Waiter) → list_any f (lock_waiters (ws ++ w ∷ [])) ≡ (list_any f (lock_waiters ws) || list_any f (lock_waiter_of w))
any_last f [] w = any_cons f w [] ∙ or_off (list_any f (lock_waiter_of w))
any_last f (v ∷ ws) w =
    let more = ap (λ b. list_any f (lock_waiter_of v) || b) (any_last f ws w) in
    let all = or_assoc (list_any f (lock_waiter_of v)) (list_any f (lock_waiters ws)) (list_any f (lock_waiter_of w)) in
    any_cons f v (ws ++ w ∷ []) ∙ (more ∙ (all ∙ ap (λ b. b || list_any f (lock_waiter_of w)) (sym (any_cons f v ws))))

one_alike : (xs ys : List Thread) (p t : ℕ) (o : Option (LockWait × ℕ)) → is_of p (by_id ys t) ≡ is_of p (by_id xs t) → list_any (holds_in ys p) (lock_waiter t o) ≡ list_any (holds_in xs p) (lock_waiter t o)
one_alike xs ys p t None e = refl
one_alike xs ys p t (Some (what, value)) e = rw e refl

but_step : (b : Bool) (n : ℕ) (xs ys : List Thread) (p : ℕ) (w : Waiter) (ws : List Waiter) → (w.tid == n) ≡ b → ((u : ℕ) → u ≢ n → is_of p (by_id ys u) ≡ is_of p (by_id xs u)) → cond b 1 0 + times (λ v. v.tid == n) ws ≡ 0 → (times (λ v. v.tid == n) ws ≡ 0 → list_any (holds_in ys p) (lock_waiters ws) ≡ list_any (holds_in xs p) (lock_waiters ws)) → list_any (holds_in ys p) (lock_waiters (w ∷ ws)) ≡ list_any (holds_in xs p) (lock_waiters (w ∷ ws))
but_step true n xs ys p w ws e h none more = absurd (omega arith)
but_step false n xs ys p w ws e h none more =
    let off : times (λ v. v.tid == n) ws ≡ 0 = omega arith in
    let one = one_alike xs ys p w.tid (lock_wait_of w.request) (h w.tid (eqb-false w.tid n e)) in
    let first = ap (λ b. b || list_any (holds_in ys p) (lock_waiters ws)) one in
    let rest = ap (λ b. list_any (holds_in xs p) (lock_waiter_of w) || b) (more off) in
    any_cons (holds_in ys p) w ws ∙ (first ∙ (rest ∙ sym (any_cons (holds_in xs p) w ws)))

-- a thread that doesn't wait holds nothing
pub held_but : (n : ℕ) (xs ys : List Thread) (p : ℕ) → ((u : ℕ) → u ≢ n → is_of p (by_id ys u) ≡ is_of p (by_id xs u)) → (ws : List Waiter) → times (λ w. w.tid == n) ws ≡ 0 → list_any (holds_in ys p) (lock_waiters ws) ≡ list_any (holds_in xs p) (lock_waiters ws)
held_but n xs ys p h [] none = refl
held_but n xs ys p h (w ∷ ws) none = but_step (w.tid == n) n xs ys p w ws refl h none (held_but n xs ys p h ws)

off_by : (a b : Bool) → a ≡ true → ((a && b) || false) ≡ false → b ≡ false
off_by true true s e = cc
off_by true false s e = refl
off_by false b s e = cc

on_by : (a b : Bool) → ((a && b) || false) ≡ true → b ≡ true
on_by true b e = sym (or_off b) ∙ e
on_by false b e = cc

first_off : (a b : Bool) → (a || b) ≡ false → a ≡ false
first_off true b e = cc
first_off false b e = refl

second_off : (a b : Bool) → (a || b) ≡ false → b ≡ false
second_off true b e = cc
second_off false b e = e

beside_one : (p t : ℕ) (xs : List Thread) (o : Option (LockWait × ℕ)) → is_holding t (lock_waiter t o) ≡ false → list_any (holds_in xs p) (lock_waiter t o) ≡ false
beside_one p t xs None e = refl
beside_one p t xs (Some (what, value)) e =
    let off : holds_proc what ≡ false = off_by (t == t) (holds_proc what) (eq_same t) e in
    rw off refl

holding_one : (p t : ℕ) (xs : List Thread) (o : Option (LockWait × ℕ)) → is_holding t (lock_waiter t o) ≡ true → list_any (holds_in xs p) (lock_waiter t o) ≡ is_of p (by_id xs t)
holding_one p t xs None e = cc
holding_one p t xs (Some (what, value)) e =
    let on : holds_proc what ≡ true = on_by (t == t) (holds_proc what) e in
    rw on (or_off (is_of p (by_id xs t)))

-- one more thread waits, and holds nothing
pub held_beside : (p : ℕ) (w : Waiter) (xs : List Thread) (ws : List Waiter) → is_holding w.tid (lock_waiter_of w) ≡ false → list_any (holds_in xs p) (lock_waiters (ws ++ w ∷ [])) ≡ list_any (holds_in xs p) (lock_waiters ws)
held_beside p w xs ws e =
    any_last (holds_in xs p) ws w ∙ (ap (λ b. list_any (holds_in xs p) (lock_waiters ws) || b) (beside_one p w.tid xs (lock_wait_of w.request) e) ∙ or_off (list_any (holds_in xs p) (lock_waiters ws)))

-- one more thread waits, and holds its proc
pub held_more : (p : ℕ) (w : Waiter) (xs : List Thread) (ws : List Waiter) → is_holding w.tid (lock_waiter_of w) ≡ true → list_any (holds_in xs p) (lock_waiters (ws ++ w ∷ [])) ≡ (list_any (holds_in xs p) (lock_waiters ws) || is_of p (by_id xs w.tid))
held_more p w xs ws e =
    any_last (holds_in xs p) ws w ∙ ap (λ b. list_any (holds_in xs p) (lock_waiters ws) || b) (holding_one p w.tid xs (lock_wait_of w.request) e)

pub or_false : (a b : Bool) → b ≡ false → (a || b) ≡ a
or_false a b e = ap (λ c. a || c) e ∙ or_off a

pub or_true : (a b : Bool) → b ≡ true → (a || b) ≡ true
or_true a b e = ap (λ c. a || c) e ∙ or_on a

and_none : (b : Bool) → ((b && false) || false) ≡ false
and_none true = refl
and_none false = refl

none_in : (p t : ℕ) (xs : List Thread) (o : Option (LockWait × ℕ)) → is_of p (by_id xs t) ≡ false → list_any (holds_in xs p) (lock_waiter t o) ≡ false
none_in p t xs None e = refl
none_in p t xs (Some (what, value)) e = rw e (and_none (holds_proc what))

other_step : (b : Bool) (p t : ℕ) (xs : List Thread) (w : Waiter) (rest ws : List Waiter) → (w.tid == t) ≡ b → is_of p (by_id xs t) ≡ false → list_any (holds_in xs p) (lock_waiters rest) ≡ list_any (holds_in xs p) (lock_waiters ws) → list_any (holds_in xs p) (lock_waiters (cond (not b) (w ∷ rest) rest)) ≡ list_any (holds_in xs p) (lock_waiters (w ∷ ws))
other_step true p t xs w rest ws e off h =
    let same : w.tid ≡ t = eqb-true w.tid t e in
    let none = none_in p w.tid xs (lock_wait_of w.request) (ap (λ u. is_of p (by_id xs u)) same ∙ off) in
    h ∙ sym (any_cons (holds_in xs p) w ws ∙ ap (λ b. b || list_any (holds_in xs p) (lock_waiters ws)) none)
other_step false p t xs w rest ws e off h =
    any_cons (holds_in xs p) w rest ∙ (ap (λ b. list_any (holds_in xs p) (lock_waiter_of w) || b) h ∙ sym (any_cons (holds_in xs p) w ws))

-- a thread that goes on held no other proc
pub held_other : (p t : ℕ) (xs : List Thread) → is_of p (by_id xs t) ≡ false → (ws : List Waiter) → list_any (holds_in xs p) (lock_waiters (waits_without t ws)) ≡ list_any (holds_in xs p) (lock_waiters ws)
held_other p t xs off [] = refl
held_other p t xs off (w ∷ ws) = other_step (w.tid == t) p t xs w (waits_without t ws) ws refl off (held_other p t xs off ws)

unheld_step : (b : Bool) (p t : ℕ) (xs : List Thread) (w : Waiter) (rest ws : List Waiter) → (w.tid == t) ≡ b → (is_holding t (lock_waiter_of w) || is_holding t (lock_waiters ws)) ≡ false → (is_holding t (lock_waiters ws) ≡ false → list_any (holds_in xs p) (lock_waiters rest) ≡ list_any (holds_in xs p) (lock_waiters ws)) → list_any (holds_in xs p) (lock_waiters (cond (not b) (w ∷ rest) rest)) ≡ list_any (holds_in xs p) (lock_waiters (w ∷ ws))
unheld_step true p t xs w rest ws e off h =
    let same : w.tid ≡ t = eqb-true w.tid t e in
    let mine : is_holding w.tid (lock_waiter_of w) ≡ false = subst (λ u. is_holding u (lock_waiter_of w) ≡ false) (sym same) (first_off (is_holding t (lock_waiter_of w)) (is_holding t (lock_waiters ws)) off) in
    let none = beside_one p w.tid xs (lock_wait_of w.request) mine in
    h (second_off (is_holding t (lock_waiter_of w)) (is_holding t (lock_waiters ws)) off) ∙ sym (any_cons (holds_in xs p) w ws ∙ ap (λ b. b || list_any (holds_in xs p) (lock_waiters ws)) none)
unheld_step false p t xs w rest ws e off h =
    let same = h (second_off (is_holding t (lock_waiter_of w)) (is_holding t (lock_waiters ws)) off) in
    any_cons (holds_in xs p) w rest ∙ (ap (λ b. list_any (holds_in xs p) (lock_waiter_of w) || b) same ∙ sym (any_cons (holds_in xs p) w ws))

-- a thread that goes on and held no proc
pub held_unheld : (p t : ℕ) (xs : List Thread) → (ws : List Waiter) → is_holding t (lock_waiters ws) ≡ false → list_any (holds_in xs p) (lock_waiters (waits_without t ws)) ≡ list_any (holds_in xs p) (lock_waiters ws)
held_unheld p t xs [] off = refl
held_unheld p t xs (w ∷ ws) off =
    let either = sym (any_cons (λ v. (v.tid == t) && holds_proc v.what) w ws) ∙ off in
    unheld_step (w.tid == t) p t xs w (waits_without t ws) ws refl either (held_unheld p t xs ws)

-- the waits of threads of other procs
abbrev pub waits_beside : ℕ → List Thread → List Waiter → List Waiter
waits_beside p xs ws = filter (λ w. not (is_of p (by_id xs w.tid))) ws

out_step : (b : Bool) (p : ℕ) (xs : List Thread) (w : Waiter) (rest : List Waiter) → is_of p (by_id xs w.tid) ≡ b → list_any (holds_in xs p) (lock_waiters rest) ≡ false → list_any (holds_in xs p) (lock_waiters (cond (not b) (w ∷ rest) rest)) ≡ false
out_step true p xs w rest e h = h
out_step false p xs w rest e h =
    any_cons (holds_in xs p) w rest ∙ (ap (λ b. b || list_any (holds_in xs p) (lock_waiters rest)) (none_in p w.tid xs (lock_wait_of w.request) e) ∙ h)

-- where no thread of a proc waits, it isn't held
pub held_out : (p : ℕ) (xs : List Thread) (ws : List Waiter) → list_any (holds_in xs p) (lock_waiters (waits_beside p xs ws)) ≡ false
held_out p xs [] = refl
held_out p xs (w ∷ ws) = out_step (is_of p (by_id xs w.tid)) p xs w (waits_beside p xs ws) refl (held_out p xs ws)

pub of_other : (p q : ℕ) (o : Option Thread) → q ≢ p → is_of p o ≡ true → is_of q o ≡ false
of_other p q None far e = refl
of_other p q (Some x) far e =
    let same : x.proc_no ≡ p = eqb-true x.proc_no p e in
    rw same (eq_other p q (λ f. far (sym f)))

apart_step : (b : Bool) (p q : ℕ) (xs : List Thread) (w : Waiter) (rest ws : List Waiter) → is_of p (by_id xs w.tid) ≡ b → q ≢ p → list_any (holds_in xs q) (lock_waiters rest) ≡ list_any (holds_in xs q) (lock_waiters ws) → list_any (holds_in xs q) (lock_waiters (cond (not b) (w ∷ rest) rest)) ≡ list_any (holds_in xs q) (lock_waiters (w ∷ ws))
apart_step true p q xs w rest ws e far h =
    let none = none_in q w.tid xs (lock_wait_of w.request) (of_other p q (by_id xs w.tid) far e) in
    h ∙ sym (any_cons (holds_in xs q) w ws ∙ ap (λ b. b || list_any (holds_in xs q) (lock_waiters ws)) none)
apart_step false p q xs w rest ws e far h =
    any_cons (holds_in xs q) w rest ∙ (ap (λ b. list_any (holds_in xs q) (lock_waiter_of w) || b) h ∙ sym (any_cons (holds_in xs q) w ws))

-- the threads of one proc held no other one
pub held_apart : (p q : ℕ) (xs : List Thread) → q ≢ p → (ws : List Waiter) → list_any (holds_in xs q) (lock_waiters (waits_beside p xs ws)) ≡ list_any (holds_in xs q) (lock_waiters ws)
held_apart p q xs far [] = refl
held_apart p q xs far (w ∷ ws) = apart_step (is_of p (by_id xs w.tid)) p q xs w (waits_beside p xs ws) ws refl far (held_apart p q xs far ws)

times-append : {A : Type 0} (f : A → Bool) → (xs ys : List A) → times f (xs ++ ys) ≡ times f xs + times f ys
times-append f [] ys = omega arith
times-append f (x ∷ xs) ys = let h = times-append f xs ys in omega arith

times_cons : (f : LockWaiter → Bool) (w : Waiter) (ws : List Waiter) → times f (lock_waiters (w ∷ ws)) ≡ times f (lock_waiter_of w) + times f (lock_waiters ws)
times_cons f w ws = times-append f (lock_waiter_of w) (lock_waiters ws)

fewer_step : (b : Bool) (f : LockWaiter → Bool) (w : Waiter) (rest ws : List Waiter) → times f (lock_waiters rest) ≤ times f (lock_waiters ws) → times f (lock_waiters (cond (not b) (w ∷ rest) rest)) ≤ times f (lock_waiters (w ∷ ws))
fewer_step true f w rest ws h = let all = times_cons f w ws in omega arith
fewer_step false f w rest ws h = let all = times_cons f w ws in let some = times_cons f w rest in omega arith

fewer : (t : ℕ) (f : LockWaiter → Bool) → (ws : List Waiter) → times f (lock_waiters (waits_without t ws)) ≤ times f (lock_waiters ws)
fewer t f [] = omega arith
fewer t f (w ∷ ws) = fewer_step (w.tid == t) f w (waits_without t ws) ws (fewer t f ws)

not_mine : (t u : ℕ) (o : Option (LockWait × ℕ)) → (u == t) ≡ false → is_holding t (lock_waiter u o) ≡ false
not_mine t u None e = refl
not_mine t u (Some (what, value)) e = rw e refl

mine_one : (p t u : ℕ) (xs : List Thread) (o : Option (LockWait × ℕ)) → is_of p (by_id xs u) ≡ true → is_holding t (lock_waiter u o) ≡ true → times (holds_in xs p) (lock_waiter u o) ≡ 1
mine_one p t u xs None e on = cc
mine_one p t u xs (Some (what, value)) e on =
    let holds : holds_proc what ≡ true = on_by (u == t) (holds_proc what) on in
    rw (holds, e) refl

gone_if : (b : Bool) (p t : ℕ) (xs : List Thread) (w : Waiter) (rest ws : List Waiter) → is_holding t (lock_waiter_of w) ≡ b → is_of p (by_id xs w.tid) ≡ true → (b || is_holding t (lock_waiters ws)) ≡ true → times (holds_in xs p) (lock_waiters rest) ≤ times (holds_in xs p) (lock_waiters ws) → (is_holding t (lock_waiters ws) ≡ true → times (holds_in xs p) (lock_waiters rest) + 1 ≤ times (holds_in xs p) (lock_waiters ws)) → times (holds_in xs p) (lock_waiters rest) + 1 ≤ times (holds_in xs p) (lock_waiters (w ∷ ws))
gone_if true p t xs w rest ws e mine on le more =
    let one = mine_one p t w.tid xs (lock_wait_of w.request) mine e in
    let all = times_cons (holds_in xs p) w ws in
    omega arith
gone_if false p t xs w rest ws e mine on le more =
    let lt = more on in
    let all = times_cons (holds_in xs p) w ws in
    omega arith

gone_step : (b : Bool) (p t : ℕ) (xs : List Thread) (w : Waiter) (rest ws : List Waiter) → (w.tid == t) ≡ b → is_of p (by_id xs t) ≡ true → (is_holding t (lock_waiter_of w) || is_holding t (lock_waiters ws)) ≡ true → times (holds_in xs p) (lock_waiters rest) ≤ times (holds_in xs p) (lock_waiters ws) → (is_holding t (lock_waiters ws) ≡ true → times (holds_in xs p) (lock_waiters rest) + 1 ≤ times (holds_in xs p) (lock_waiters ws)) → times (holds_in xs p) (lock_waiters (cond (not b) (w ∷ rest) rest)) + 1 ≤ times (holds_in xs p) (lock_waiters (w ∷ ws))
gone_step true p t xs w rest ws e mine on le more =
    let same : w.tid ≡ t = eqb-true w.tid t e in
    gone_if (is_holding t (lock_waiter_of w)) p t xs w rest ws refl (ap (λ u. is_of p (by_id xs u)) same ∙ mine) on le more
gone_step false p t xs w rest ws e mine on le more =
    let off = not_mine t w.tid (lock_wait_of w.request) e in
    let lt = more (sym (ap (λ b. b || is_holding t (lock_waiters ws)) off) ∙ on) in
    let all = times_cons (holds_in xs p) w ws in
    let some = times_cons (holds_in xs p) w rest in
    omega arith

gone : (p t : ℕ) (xs : List Thread) → is_of p (by_id xs t) ≡ true → (ws : List Waiter) → is_holding t (lock_waiters ws) ≡ true → times (holds_in xs p) (lock_waiters (waits_without t ws)) + 1 ≤ times (holds_in xs p) (lock_waiters ws)
gone p t xs mine [] on = cc
gone p t xs mine (w ∷ ws) on =
    let either = sym (any_cons (λ v. (v.tid == t) && holds_proc v.what) w ws) ∙ on in
    gone_step (w.tid == t) p t xs w (waits_without t ws) ws refl mine either (fewer t (holds_in xs p) ws) (gone p t xs mine ws)

-- where a thread that goes on alone held its proc, that is not held any more
pub held_freed : (p t : ℕ) (xs : List Thread) (ws : List Waiter) → is_of p (by_id xs t) ≡ true → is_holding t (lock_waiters ws) ≡ true → times (holds_in xs p) (lock_waiters ws) ≤ 1 → list_any (holds_in xs p) (lock_waiters (waits_without t ws)) ≡ false
held_freed p t xs ws mine on le =
    let lt = gone p t xs mine ws on in
    let none : times (holds_in xs p) (lock_waiters (waits_without t ws)) ≡ 0 = omega arith in
    sym (above_none (holds_in xs p) (lock_waiters (waits_without t ws))) ∙ ap (nat_lt 0) none

still_step : (b : Bool) (t : ℕ) (w : Waiter) (rest ws : List Waiter) → cond b 1 0 + times (λ v. v.tid == t) ws ≡ 0 → (times (λ v. v.tid == t) ws ≡ 0 → rest ≡ ws) → cond (not b) (w ∷ rest) rest ≡ w ∷ ws
still_step true t w rest ws none h = absurd (omega arith)
still_step false t w rest ws none h = ap (λ vs. w ∷ vs) (h (omega arith))

-- the waits without a thread that doesn't wait
pub waits_still : (t : ℕ) → (ws : List Waiter) → times (λ w. w.tid == t) ws ≡ 0 → waits_without t ws ≡ ws
waits_still t [] none = refl
waits_still t (w ∷ ws) none = still_step (w.tid == t) t w (waits_without t ws) ws none (waits_still t ws)

freed_by : (o : Option Bool) → held_in (option_map (λ _. false) o) ≡ false
freed_by None = refl
freed_by (Some b) = refl

-- a proc that was released
pub is_freed : (holds : List Bool) (p : ℕ) → 1 ≤ p → held_in (by_id (changed (λ _. false) holds (p - 1)) p) ≡ false
is_freed holds p one = ap held_in (by_id-changed_same (λ _. false) holds p one) ∙ freed_by (by_id holds p)

-- one that was held
pub is_taken : (holds : List Bool) (p : ℕ) → 1 ≤ p → p ≤ length holds → held_in (by_id (changed (λ _. true) holds (p - 1)) p) ≡ true
is_taken holds p one most =
    let at = item_at holds p (record { from = one; to = most }) in
    ap held_in (by_id-changed_same (λ _. true) holds p one) ∙ ap (λ o. held_in (option_map (λ _. true) o)) at.1

-- all were released
pub all_freed : (holds : List Bool) (p : ℕ) → held_in (by_id (map (λ _. false) holds) p) ≡ false
all_freed holds p = ap held_in (by_id-map (λ _. false) holds p) ∙ freed_by (by_id holds p)
