-- What the waits are once the threads that are granted a lock go on: what the grant says.
use Rattle.std.proofs.Common.{◌≡◌, ℕ, ◌+◌, ◌≤◌, ◌||◌, Bool, true, false, not, cond, eqb, List, [], ◌∷◌, ◌++◌, Option, Some, None, refl, ap, subst, ◌∙◌, arith, rules, tests, append-nil}
use Rattle.std.specs.List.{filter, find}
use Rattle.std.specs.Option.{option_map, option_to_list}
use Rattle.std.proofs.lemmas.List.Elements.{filter-append}
use Rattle.std.proofs.lemmas.List.Concat.{flat_map-append}
use Rattle.p9_manual.specs.declared.locks.Sort.{Sort}
use Rattle.p9_manual.specs.declared.locks.Sort.TheVariants as sort
use Rattle.p9_manual.specs.declared.locks.LockWait.{LockWait}
use Rattle.p9_manual.specs.declared.locks.LockWait.TheVariants as wait
use Rattle.p9_manual.specs.declared.locks.LockWaiter.{LockWaiter}
use Rattle.p9_manual.specs.declared.state.Place.{Place}
use Rattle.p9_manual.specs.declared.state.Place.TheVariants.{Running, New, Ready, Waiting, Ended}
use Rattle.p9_manual.specs.declared.state.Thread.{Thread}
use Rattle.p9_manual.specs.declared.state.Waiter.{Waiter}
use Rattle.p9_manual.specs.Holds.{Holds}
use Rattle.p9_manual.specs.Claims.{rw_at}
use Rattle.p9_manual.specs.LockCalls.{all_granted, with_grant}
use Rattle.p9_manual.specs.LockWaits.{lock_waiter, lock_wait_of, lock_waiter_of, lock_waiters}
use Rattle.p9_manual.specs.Queues.{waits_for, waits_at_rw, without_first, writer_of, readers_in, readers_left}
use Rattle.p9_manual.specs.Standing.{StandOnce, times, place_of, times_in_waits}
use Rattle.p9_manual.specs.State.{State, waits_without}
use Rattle.p9_manual.specs.Unlocks.{release, rw_passed, read_released}

-- it is thread t
abbrev pub is_tid : ℕ → LockWaiter → Bool
is_tid t w = eqb w.tid t

-- each thread waits at most once
abbrev pub WaitOnce : List LockWaiter → Type 0
WaitOnce ws = (u : ℕ) → times (is_tid u) ws ≤ 1

-- those that wait, without these threads
abbrev pub left_of : List ℕ → List LockWaiter → List LockWaiter
left_of [] ws = ws
left_of (t ∷ ts) ws = left_of ts (filter (λ w. not (is_tid t w)) ws)

-- the waits without these threads
abbrev pub without_all : List ℕ → List Waiter → List Waiter
without_all [] waits = waits
without_all (t ∷ ts) waits = without_all ts (waits_without t waits)

same_id : (t : ℕ) → eqb t t ≡ true
same_id t = search (rules, tests)

keep_step : {A : Type 0} (b : Bool) (x : A) (xs rest : List A) (n : ℕ) → cond b 1 0 + n ≡ 0 → (n ≡ 0 → rest ≡ xs) → cond (not b) (x ∷ rest) rest ≡ x ∷ xs
keep_step true x xs rest n h k = absurd (omega arith)
keep_step false x xs rest n h k = ap (λ ys. x ∷ ys) (k (omega arith))

-- what passes nowhere is kept whole
pub none_out : {A : Type 0} (p : A → Bool) → (xs : List A) → times p xs ≡ 0 → filter (λ x. not (p x)) xs ≡ xs
none_out p [] h = refl
none_out p (x ∷ xs) h = keep_step (p x) x xs (filter (λ y. not (p y)) xs) (times p xs) h (none_out p xs)

pub count_append : {A : Type 0} (q : A → Bool) → (xs ys : List A) → times q (xs ++ ys) ≡ times q xs + times q ys
count_append q [] ys = omega arith
count_append q (x ∷ xs) ys = omega (arith, count_append q xs ys)

one_without : (t u : ℕ) (b : Bool) (o : Option (LockWait × ℕ)) → eqb u t ≡ b → filter (λ w. not (is_tid t w)) (lock_waiter u o) ≡ cond b [] (lock_waiter u o)
one_without t u true None h = refl
one_without t u false None h = refl
one_without t u true (Some (what, value)) h = rw h refl
one_without t u false (Some (what, value)) h = rw h refl

without_step : (t : ℕ) (b : Bool) (w : Waiter) (fs ws : List Waiter) → eqb w.tid t ≡ b → lock_waiters fs ≡ filter (λ x. not (is_tid t x)) (lock_waiters ws) → lock_waiters (cond (not b) (w ∷ fs) fs) ≡ filter (λ x. not (is_tid t x)) (lock_waiter_of w ++ lock_waiters ws)
without_step t true w fs ws h e = rw (filter-append (λ x. not (is_tid t x)) (lock_waiter_of w) (lock_waiters ws), one_without t w.tid true (lock_wait_of w.request) h) e
without_step t false w fs ws h e = rw (filter-append (λ x. not (is_tid t x)) (lock_waiter_of w) (lock_waiters ws), one_without t w.tid false (lock_wait_of w.request) h) (ap (λ xs. lock_waiter_of w ++ xs) e)

-- without the waits of t the others wait as before
pub waiters_without : (t : ℕ) → (waits : List Waiter) → lock_waiters (waits_without t waits) ≡ filter (λ x. not (is_tid t x)) (lock_waiters waits)
waiters_without t [] = refl
waiters_without t (w ∷ ws) = without_step t (eqb w.tid t) w (waits_without t ws) ws refl (waiters_without t ws)

-- one more wait
pub waiters_push : (waits : List Waiter) (w : Waiter) → lock_waiters (waits ++ w ∷ []) ≡ lock_waiters waits ++ lock_waiter_of w
waiters_push waits w = flat_map-append lock_waiter_of waits (w ∷ []) ∙ ap (λ xs. lock_waiters waits ++ xs) (append-nil (lock_waiter_of w))

one_waiter : (t u : ℕ) (o : Option (LockWait × ℕ)) → times (is_tid t) (lock_waiter u o) ≤ cond (eqb u t) 1 0
one_waiter t u None = least (eqb u t)
  where
    least : (b : Bool) → 0 ≤ cond b 1 0
    least b = omega arith
one_waiter t u (Some (what, value)) = omega arith

-- a thread waits at least as often as it waits so
pub times_waiters : (t : ℕ) → (waits : List Waiter) → times (is_tid t) (lock_waiters waits) ≤ times (λ w. eqb w.tid t) waits
times_waiters t [] = omega arith
times_waiters t (w ∷ ws) =
    let a = count_append (is_tid t) (lock_waiter_of w) (lock_waiters ws) in
    let here = one_waiter t w.tid (lock_wait_of w.request) in
    let rest = times_waiters t ws in
    omega (arith, a, here, rest)

place_once : (pl : Place) → times_in_waits pl ≤ 1
place_once Waiting = omega arith
place_once New = omega arith
place_once (Ready a) = omega arith
place_once Running = omega arith
place_once Ended = omega arith

-- where threads stand once, each waits at most once
pub stand_once : (threads : List Thread) (line : List ℕ) (waits : List Waiter) → StandOnce threads line waits → WaitOnce (lock_waiters waits)
stand_once threads line waits stand u =
    let a = times_waiters u waits in
    let b = stand.in_waits u in
    let c = place_once (place_of threads u) in
    omega (arith, a, b, c)

-- without these threads the others wait as before
pub waiters_without_all : (ts : List ℕ) (waits : List Waiter) → lock_waiters (without_all ts waits) ≡ left_of ts (lock_waiters waits)
waiters_without_all [] waits = refl
waiters_without_all (t ∷ ts) waits = waiters_without_all ts (waits_without t waits) ∙ ap (left_of ts) (waiters_without t waits)

-- the waits once these threads were granted what they waited for
pub granted_waits : (ts : List ℕ) (s : State) → (all_granted ts s).waits ≡ without_all ts s.waits
granted_waits [] s = refl
granted_waits (t ∷ ts) s = granted_waits ts _

later_once : (x : LockWaiter) (xs : List LockWaiter) → WaitOnce (x ∷ xs) → WaitOnce xs
later_once x xs once u = let k = once u in omega (arith, k)

first_alone : (x : LockWaiter) (xs : List LockWaiter) → WaitOnce (x ∷ xs) → times (is_tid x.tid) xs ≡ 0
first_alone x xs once = let k = once x.tid in let s = ap (λ b. cond {A = ℕ} b 1 0) (same_id x.tid) in omega (arith, k, s)

first_out : (x : LockWaiter) (xs : List LockWaiter) (b : Bool) → eqb x.tid x.tid ≡ b → b ≡ true → times (is_tid x.tid) xs ≡ 0 → cond (not b) (x ∷ filter (λ w. not (is_tid x.tid w)) xs) (filter (λ w. not (is_tid x.tid w)) xs) ≡ xs
first_out x xs true e h z = none_out (is_tid x.tid) xs z
first_out x xs false e h z = cc

-- without the first thread that waits
head_out : (x : LockWaiter) (xs : List LockWaiter) → WaitOnce (x ∷ xs) → filter (λ w. not (is_tid x.tid w)) (x ∷ xs) ≡ xs
head_out x xs once = first_out x xs (eqb x.tid x.tid) refl (same_id x.tid) (first_alone x xs once)

found_step : (p : LockWaiter → Bool) (b : Bool) (x w : LockWaiter) (xs : List LockWaiter) → cond b (Some x) (find p xs) ≡ Some w → (find p xs ≡ Some w → 1 ≤ times (is_tid w.tid) xs) → 1 ≤ times (is_tid w.tid) (x ∷ xs)
found_step p true x w xs e k = let same : x ≡ w = cc in let s = ap (λ b. cond {A = ℕ} b 1 0) (same_id w.tid) in rw same (omega (arith, s))
found_step p false x w xs e k = let n = k e in omega (arith, n)

-- the thread that is found waits
pub found_waits : (p : LockWaiter → Bool) → (ws : List LockWaiter) (w : LockWaiter) → find p ws ≡ Some w → 1 ≤ times (is_tid w.tid) ws
found_waits p [] w e = cc
found_waits p (x ∷ xs) w e = found_step p (p x) x w xs e (found_waits p xs w)

kept_first : (x w : LockWaiter) (xs rest : List LockWaiter) (b : Bool) → cond b 1 0 + times (is_tid w.tid) xs ≤ 1 → 1 ≤ times (is_tid w.tid) xs → cond (not b) (x ∷ rest) rest ≡ x ∷ rest
kept_first x w xs rest true h k = absurd (omega arith)
kept_first x w xs rest false h k = refl

out_step : (p : LockWaiter → Bool) (b : Bool) (x w : LockWaiter) (xs : List LockWaiter) → cond b (Some x) (find p xs) ≡ Some w → WaitOnce (x ∷ xs) → (find p xs ≡ Some w → filter (λ y. not (is_tid w.tid y)) xs ≡ without_first p xs) → filter (λ y. not (is_tid w.tid y)) (x ∷ xs) ≡ cond b xs (x ∷ without_first p xs)
out_step p true x w xs e once k = let same : x ≡ w = cc in subst (λ (y : LockWaiter). filter (λ z. not (is_tid y.tid z)) (x ∷ xs) ≡ xs) same (head_out x xs once)
out_step p false x w xs e once k =
    kept_first x w xs (filter (λ y. not (is_tid w.tid y)) xs) (eqb x.tid w.tid) (once w.tid) (found_waits p xs w e) ∙ ap (λ ys. x ∷ ys) (k e)

-- without the thread that is found, the first that passes is gone
pub found_out : (p : LockWaiter → Bool) → (ws : List LockWaiter) (w : LockWaiter) → find p ws ≡ Some w → WaitOnce ws → filter (λ y. not (is_tid w.tid y)) ws ≡ without_first p ws
found_out p [] w e once = cc
found_out p (x ∷ xs) w e once = out_step p (p x) x w xs e once (λ f. found_out p xs w f (later_once x xs once))

none_step : {A : Type 0} (p : A → Bool) (b : Bool) (x : A) (xs : List A) → cond b (Some x) (find p xs) ≡ None → (find p xs ≡ None → xs ≡ without_first p xs) → x ∷ xs ≡ cond b xs (x ∷ without_first p xs)
none_step p true x xs e k = cc
none_step p false x xs e k = ap (λ ys. x ∷ ys) (k e)

-- where none passes, none is gone
pub none_gone : {A : Type 0} (p : A → Bool) → (ws : List A) → find p ws ≡ None → ws ≡ without_first p ws
none_gone p [] e = refl
none_gone p (x ∷ xs) e = none_step p (p x) x xs e (none_gone p xs)

-- the head of a queue is granted what it waits for, if there is one
first_left : (p : LockWaiter → Bool) (ws : List LockWaiter) (o : Option LockWaiter) → find p ws ≡ o → WaitOnce ws → left_of (option_to_list (option_map (λ w. w.tid) o)) ws ≡ without_first p ws
first_left p ws None e once = none_gone p ws e
first_left p ws (Some w) e once = found_out p ws w e once

counts_step : (k u : ℕ) (b c : Bool) (x : LockWaiter) (xs : List LockWaiter) → times (λ t. eqb t u) (readers_in k xs) ≤ times (is_tid u) xs → times (λ t. eqb t u) (cond b [] (cond c (x.tid ∷ readers_in k xs) (readers_in k xs))) ≤ times (is_tid u) (x ∷ xs)
counts_step k u true c x xs h = omega arith
counts_step k u false true x xs h = omega (arith, h)
counts_step k u false false x xs h = omega (arith, h)

-- each of those readers waits
pub readers_wait : (k u : ℕ) → (ws : List LockWaiter) → times (λ t. eqb t u) (readers_in k ws) ≤ times (is_tid u) ws
readers_wait k u [] = omega arith
readers_wait k u (x ∷ xs) = counts_step k u (waits_for (wait.Lock sort.Write k) x) (waits_for (wait.Lock sort.Read k) x) x xs (readers_wait k u xs)

head_kept : (x : LockWaiter) (t : ℕ) (xs rest : List LockWaiter) (b c : Bool) (n : ℕ) → eqb t x.tid ≡ b → eqb x.tid t ≡ c → cond b 1 0 + n ≡ 0 → (cond (not c) (x ∷ rest) rest ≡ x ∷ rest) × (n ≡ 0)
head_kept x t xs rest true c n e f h = absurd (omega arith)
head_kept x t xs rest false c n e f h = let same : c ≡ false = other c t x.tid e f in (rw same refl, omega arith)
  where
    other : (c : Bool) (t u : ℕ) → eqb t u ≡ false → eqb u t ≡ c → c ≡ false
    other c t u e f = search (rules, tests)

-- one that isn't among the threads stays
left_kept : (x : LockWaiter) → (ts : List ℕ) (xs : List LockWaiter) → times (λ t. eqb t x.tid) ts ≡ 0 → left_of ts (x ∷ xs) ≡ x ∷ left_of ts xs
left_kept x [] xs h = refl
left_kept x (t ∷ ts) xs h =
    let k = head_kept x t xs (filter (λ w. not (is_tid t w)) xs) (eqb t x.tid) (eqb x.tid t) (times (λ u. eqb u x.tid) ts) refl refl h in
    ap (left_of ts) k.0 ∙ left_kept x ts (filter (λ w. not (is_tid t w)) xs) k.1

left_step : (k : ℕ) (b c : Bool) (x : LockWaiter) (xs : List LockWaiter) → WaitOnce (x ∷ xs) → left_of (readers_in k xs) xs ≡ readers_left k xs → left_of (cond b [] (cond c (x.tid ∷ readers_in k xs) (readers_in k xs))) (x ∷ xs) ≡ cond b (x ∷ xs) (cond c (readers_left k xs) (x ∷ readers_left k xs))
left_step k true c x xs once h = refl
left_step k false true x xs once h = ap (left_of (readers_in k xs)) (head_out x xs once) ∙ h
left_step k false false x xs once h =
    let a = readers_wait k x.tid xs in
    let b = first_alone x xs once in
    left_kept x (readers_in k xs) xs (omega (arith, a, b)) ∙ ap (λ ys. x ∷ ys) h

-- without the readers up to the first writer
pub readers_out : (k : ℕ) → (ws : List LockWaiter) → WaitOnce ws → left_of (readers_in k ws) ws ≡ readers_left k ws
readers_out k [] once = refl
readers_out k (x ∷ xs) once = left_step k (waits_for (wait.Lock sort.Write k) x) (waits_for (wait.Lock sort.Read k) x) x xs once (readers_out k xs (later_once x xs once))

stronger_step : {A : Type 0} (p q : A → Bool) (a b : Bool) (x w : A) (xs : List A) → q x ≡ b → q w ≡ true → (find (λ y. p y || q y) xs ≡ Some w → find q xs ≡ Some w) → cond (a || b) (Some x) (find (λ y. p y || q y) xs) ≡ Some w → cond b (Some x) (find q xs) ≡ Some w
stronger_step p q a true x w xs h t k e = found a e
  where
    found : (a : Bool) → cond (a || true) (Some x) (find (λ y. p y || q y) xs) ≡ Some w → Some x ≡ Some w
    found true e = e
    found false e = e
stronger_step p q true false x w xs h t k e = let same : x ≡ w = cc in let f = rw same at h in cc
stronger_step p q false false x w xs h t k e = k e

-- the first that passes one of two tests is the first that passes the second, if it does
pub found_second : {A : Type 0} (p q : A → Bool) → (xs : List A) (w : A) → q w ≡ true → find (λ y. p y || q y) xs ≡ Some w → find q xs ≡ Some w
found_second p q [] w t e = cc
found_second p q (x ∷ xs) w t e = stronger_step p q (p x) (q x) x w xs refl t (found_second p q xs w t) e

-- the head of the queue of an RWLock is a writer, or isn't
passed_by : (k : ℕ) (readers : List ℕ) (h : Holds) (ws : List LockWaiter) (w : LockWaiter) (b : Bool) → waits_for (wait.Lock sort.Write k) w ≡ b → find (waits_at_rw k) ws ≡ Some w → WaitOnce ws → left_of (rw_passed k readers (cond b (Some w.tid) None) h ws).granted ws ≡ (rw_passed k readers (cond b (Some w.tid) None) h ws).waits
passed_by k readers h ws w true e f once = found_out (waits_for (wait.Lock sort.Write k)) ws w (found_second (waits_for (wait.Lock sort.Read k)) (waits_for (wait.Lock sort.Write k)) ws w e f) once
passed_by k readers h ws w false e f once = readers_out k ws once

passed_left : (k : ℕ) (readers : List ℕ) (h : Holds) (ws : List LockWaiter) (o : Option LockWaiter) → find (waits_at_rw k) ws ≡ o → WaitOnce ws → left_of (rw_passed k readers (writer_of k o) h ws).granted ws ≡ (rw_passed k readers (writer_of k o) h ws).waits
passed_left k readers h ws None e once = readers_out k ws once
passed_left k readers h ws (Some w) e once = passed_by k readers h ws w (waits_for (wait.Lock sort.Write k) w) refl e once

read_left : (k : ℕ) (readers : List ℕ) (h : Holds) (ws : List LockWaiter) → WaitOnce ws → left_of (read_released k readers h ws).granted ws ≡ (read_released k readers h ws).waits
read_left k [] h ws once = passed_left k [] h ws (find (waits_at_rw k) ws) refl once
read_left k (r ∷ rs) h ws once = refl

-- who waits once those that are granted a lock go on
pub release_left : (s : Sort) (t k : ℕ) (h : Holds) (ws : List LockWaiter) → WaitOnce ws → left_of (release s t k h ws).granted ws ≡ (release s t k h ws).waits
release_left sort.Lock t k h ws once = first_left (waits_for (wait.Lock sort.Lock k)) ws (find (waits_for (wait.Lock sort.Lock k)) ws) refl once
release_left sort.QLock t k h ws once = first_left (waits_for (wait.Lock sort.QLock k)) ws (find (waits_for (wait.Lock sort.QLock k)) ws) refl once
release_left sort.Read t k h ws once = read_left k (without_first (λ r. eqb r t) (rw_at k h).readers) h ws once
release_left sort.Write t k h ws once = passed_left k (rw_at k h).readers h ws (find (waits_at_rw k) ws) refl once

-- who waits in the state after an unlock: those that the grant says
pub grant_waiters : (s : Sort) (t k : ℕ) (h : Holds) (state : State) → WaitOnce (lock_waiters state.waits) → lock_waiters (with_grant (release s t k h (lock_waiters state.waits)) state).waits ≡ (release s t k h (lock_waiters state.waits)).waits
grant_waiters s t k h state once =
    let g = release s t k h (lock_waiters state.waits) in
    ap lock_waiters (granted_waits g.granted _) ∙ waiters_without_all g.granted state.waits ∙ release_left s t k h (lock_waiters state.waits) once
