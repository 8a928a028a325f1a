-- Sleepers that are woken stand last among the waits, as those that wait for the QLock: what the rules on Rendezes say.
use Rattle.std.proofs.Common.{◌≡◌, ℕ, Bool, true, false, not, cond, ◌||◌, eqb, List, [], ◌∷◌, ◌++◌, map, Option, Some, None, refl, ap, sym, ◌∙◌, rules, tests}
use Rattle.std.specs.List.{filter, find, list_any}
use Rattle.std.proofs.lemmas.Bool.{or_parts}
use Rattle.std.proofs.lemmas.List.Elements.{filter-append}
use Rattle.std.proofs.lemmas.List.Concat.{flat_map-append}
use Rattle.p9_word.specs.declared.request.Request.{Request}
use Rattle.p9_word.specs.declared.request.Request.TheVariants.{Lock as LockRequest}
use Rattle.p9_word.specs.declared.request.LockReq.TheVariants as ask
use Rattle.p9_manual.specs.declared.locks.LockWait.TheVariants as wait
use Rattle.p9_manual.specs.declared.locks.LockWaiter.{LockWaiter}
use Rattle.p9_manual.specs.declared.state.Waiter.{Waiter}
use Rattle.p9_manual.specs.LockWaits.{lock_waiter, lock_wait_of, lock_waiter_of, lock_waiters}
use Rattle.p9_manual.specs.Queues.{waits_for, without_first}
use Rattle.p9_manual.specs.Rendez.{woken_for, woken_first, wakeup, wakeup_all}
use Rattle.p9_manual.specs.RendezCalls.{sleeps_at, for_qlock, first_moved, all_moved}
use Rattle.p9_lock_calls.proofs.Served.{waiters_push}

-- thread t sleeps at Rendez r
abbrev pub sleeper : ℕ → ℕ → LockWaiter
sleeper r t = record { tid = t; what = wait.Sleep r; value = 0 }

sleep_is : (t r j : ℕ) → (eqb j r || false) ≡ true → lock_waiter t (Some (wait.Sleep j, 0)) ≡ sleeper r t ∷ []
sleep_is t r j h = let same : j ≡ r = equal (eqb j r) h refl in rw same refl
  where
    equal : (b : Bool) → (b || false) ≡ true → eqb j r ≡ b → j ≡ r
    equal true h e = search (rules, tests)
    equal false h e = cc

sleeps_with : (t r : ℕ) (request : Request) → list_any (waits_for (wait.Sleep r)) (lock_waiter t (lock_wait_of request)) ≡ true → lock_waiter t (lock_wait_of request) ≡ sleeper r t ∷ []
sleeps_with t r (LockRequest (ask.RSleep j)) h = sleep_is t r j h
sleeps_with t r request h = cc

-- a thread that sleeps at Rendez r waits as that alone
pub sleeps_as : (r : ℕ) (w : Waiter) → sleeps_at r w ≡ true → lock_waiter_of w ≡ sleeper r w.tid ∷ []
sleeps_as r w h = sleeps_with w.tid r w.request h

pub sleeper_passes : (r t : ℕ) → waits_for (wait.Sleep r) (sleeper r t) ≡ true
sleeper_passes r t = search (rules, tests)

find_past : {A : Type 0} (p : A → Bool) → (xs ys : List A) → list_any p xs ≡ false → find p (xs ++ ys) ≡ find p ys
find_past p [] ys h = refl
find_past p (x ∷ xs) ys h = let parts = or_parts (p x) (list_any p xs) h in rw parts.0 (find_past p xs ys parts.1)

without_past : {A : Type 0} (p : A → Bool) → (xs ys : List A) → list_any p xs ≡ false → without_first p (xs ++ ys) ≡ xs ++ without_first p ys
without_past p [] ys h = refl
without_past p (x ∷ xs) ys h = let parts = or_parts (p x) (list_any p xs) h in rw parts.0 (ap (λ zs. x ∷ zs) (without_past p xs ys parts.1))

kept_all : {A : Type 0} (p : A → Bool) → (xs : List A) → list_any p xs ≡ false → filter (λ x. not (p x)) xs ≡ xs
kept_all p [] h = refl
kept_all p (x ∷ xs) h = let parts = or_parts (p x) (list_any p xs) h in rw parts.0 (ap (λ zs. x ∷ zs) (kept_all p xs parts.1))

kept_none : {A : Type 0} (p : A → Bool) → (xs : List A) → list_any p xs ≡ false → filter p xs ≡ []
kept_none p [] h = refl
kept_none p (x ∷ xs) h = let parts = or_parts (p x) (list_any p xs) h in rw parts.0 (kept_none p xs parts.1)

found_step : (r : ℕ) (b : Bool) (x w : Waiter) (xs : List Waiter) → sleeps_at r x ≡ b → cond b (Some x) (find (sleeps_at r) xs) ≡ Some w → (find (sleeps_at r) xs ≡ Some w → find (waits_for (wait.Sleep r)) (lock_waiters xs) ≡ Some (sleeper r w.tid)) → find (waits_for (wait.Sleep r)) (lock_waiter_of x ++ lock_waiters xs) ≡ Some (sleeper r w.tid)
found_step r true x w xs s e k =
    let same : x ≡ w = cc in
    rw (sleeps_as r x s, sleeper_passes r x.tid) (ap (λ (y : Waiter). Some (sleeper r y.tid)) same)
found_step r false x w xs s e k = find_past (waits_for (wait.Sleep r)) (lock_waiter_of x) (lock_waiters xs) s ∙ k e

-- the first sleeper
found_sleeper : (r : ℕ) → (waits : List Waiter) (w : Waiter) → find (sleeps_at r) waits ≡ Some w → find (waits_for (wait.Sleep r)) (lock_waiters waits) ≡ Some (sleeper r w.tid)
found_sleeper r [] w e = cc
found_sleeper r (x ∷ xs) w e = found_step r (sleeps_at r x) x w xs refl e (found_sleeper r xs w)

none_step : (r : ℕ) (b : Bool) (x : Waiter) (xs : List Waiter) → sleeps_at r x ≡ b → cond b (Some x) (find (sleeps_at r) xs) ≡ None → (find (sleeps_at r) xs ≡ None → find (waits_for (wait.Sleep r)) (lock_waiters xs) ≡ None) → find (waits_for (wait.Sleep r)) (lock_waiter_of x ++ lock_waiters xs) ≡ None
none_step r true x xs s e k = cc
none_step r false x xs s e k = find_past (waits_for (wait.Sleep r)) (lock_waiter_of x) (lock_waiters xs) s ∙ k e

no_sleeper : (r : ℕ) → (waits : List Waiter) → find (sleeps_at r) waits ≡ None → find (waits_for (wait.Sleep r)) (lock_waiters waits) ≡ None
no_sleeper r [] e = refl
no_sleeper r (x ∷ xs) e = none_step r (sleeps_at r x) x xs refl e (no_sleeper r xs)

without_step : (r : ℕ) (b : Bool) (x : Waiter) (xs : List Waiter) → sleeps_at r x ≡ b → lock_waiters (without_first (sleeps_at r) xs) ≡ without_first (waits_for (wait.Sleep r)) (lock_waiters xs) → lock_waiters (cond b xs (x ∷ without_first (sleeps_at r) xs)) ≡ without_first (waits_for (wait.Sleep r)) (lock_waiter_of x ++ lock_waiters xs)
without_step r true x xs s k = rw (sleeps_as r x s, sleeper_passes r x.tid) refl
without_step r false x xs s k = ap (λ ws. lock_waiter_of x ++ ws) k ∙ sym (without_past (waits_for (wait.Sleep r)) (lock_waiter_of x) (lock_waiters xs) s)

without_sleeper : (r : ℕ) → (waits : List Waiter) → lock_waiters (without_first (sleeps_at r) waits) ≡ without_first (waits_for (wait.Sleep r)) (lock_waiters waits)
without_sleeper r [] = refl
without_sleeper r (x ∷ xs) = without_step r (sleeps_at r x) x xs refl (without_sleeper r xs)

first_moved_by : (r q : ℕ) (waits : List Waiter) (o : Option Waiter) → find (sleeps_at r) waits ≡ o → lock_waiters (first_moved r q o waits) ≡ wakeup r q (lock_waiters waits)
first_moved_by r q waits None e = sym (ap (λ f. woken_first r q f (lock_waiters waits)) (no_sleeper r waits e))
first_moved_by r q waits (Some w) e =
    waiters_push (without_first (sleeps_at r) waits) (for_qlock q w) ∙ ap (λ ws. ws ++ woken_for q (sleeper r w.tid) ∷ []) (without_sleeper r waits)
    ∙ sym (ap (λ f. woken_first r q f (lock_waiters waits)) (found_sleeper r waits w e))

-- who waits after a wakeup
pub first_moved_waiters : (r q : ℕ) (waits : List Waiter) → lock_waiters (first_moved r q (find (sleeps_at r) waits) waits) ≡ wakeup r q (lock_waiters waits)
first_moved_waiters r q waits = first_moved_by r q waits (find (sleeps_at r) waits) refl

others_step : (r : ℕ) (b : Bool) (x : Waiter) (fs xs : List Waiter) → sleeps_at r x ≡ b → lock_waiters fs ≡ filter (λ w. not (waits_for (wait.Sleep r) w)) (lock_waiters xs) → lock_waiters (cond (not b) (x ∷ fs) fs) ≡ filter (λ w. not (waits_for (wait.Sleep r) w)) (lock_waiter_of x ++ lock_waiters xs)
others_step r true x fs xs s k = rw (sleeps_as r x s, sleeper_passes r x.tid) k
others_step r false x fs xs s k = rw (filter-append (λ w. not (waits_for (wait.Sleep r) w)) (lock_waiter_of x) (lock_waiters xs), kept_all (waits_for (wait.Sleep r)) (lock_waiter_of x) s) (ap (λ ws. lock_waiter_of x ++ ws) k)

without_sleepers : (r : ℕ) → (waits : List Waiter) → lock_waiters (filter (λ w. not (sleeps_at r w)) waits) ≡ filter (λ w. not (waits_for (wait.Sleep r) w)) (lock_waiters waits)
without_sleepers r [] = refl
without_sleepers r (x ∷ xs) = others_step r (sleeps_at r x) x (filter (λ w. not (sleeps_at r w)) xs) xs refl (without_sleepers r xs)

moved_step : (r q : ℕ) (b : Bool) (x : Waiter) (fs xs : List Waiter) → sleeps_at r x ≡ b → lock_waiters (map (for_qlock q) fs) ≡ map (woken_for q) (filter (waits_for (wait.Sleep r)) (lock_waiters xs)) → lock_waiters (map (for_qlock q) (cond b (x ∷ fs) fs)) ≡ map (woken_for q) (filter (waits_for (wait.Sleep r)) (lock_waiter_of x ++ lock_waiters xs))
moved_step r q true x fs xs s k = rw (sleeps_as r x s, sleeper_passes r x.tid) (ap (λ ws. woken_for q (sleeper r x.tid) ∷ ws) k)
moved_step r q false x fs xs s k = rw (filter-append (waits_for (wait.Sleep r)) (lock_waiter_of x) (lock_waiters xs), kept_none (waits_for (wait.Sleep r)) (lock_waiter_of x) s) k

moved_sleepers : (r q : ℕ) → (waits : List Waiter) → lock_waiters (map (for_qlock q) (filter (sleeps_at r) waits)) ≡ map (woken_for q) (filter (waits_for (wait.Sleep r)) (lock_waiters waits))
moved_sleepers r q [] = refl
moved_sleepers r q (x ∷ xs) = moved_step r q (sleeps_at r x) x (filter (sleeps_at r) xs) xs refl (moved_sleepers r q xs)

-- who waits after a wakeup of all
pub all_moved_waiters : (r q : ℕ) (waits : List Waiter) → lock_waiters (all_moved r q waits) ≡ wakeup_all r q (lock_waiters waits)
all_moved_waiters r q waits =
    flat_map-append lock_waiter_of (filter (λ w. not (sleeps_at r w)) waits) (map (for_qlock q) (filter (sleeps_at r) waits))
    ∙ ap (λ ws. ws ++ lock_waiters (map (for_qlock q) (filter (sleeps_at r) waits))) (without_sleepers r waits)
    ∙ ap (λ ws. filter (λ w. not (waits_for (wait.Sleep r) w)) (lock_waiters waits) ++ ws) (moved_sleepers r q waits)
