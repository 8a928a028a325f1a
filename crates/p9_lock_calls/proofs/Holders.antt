-- Who is granted a lock waits for it, and holds its proc only where it waits for a Lock.
use Rattle.std.proofs.Common.{◌≡◌, ◌≢◌, ℕ, ◌+◌, ◌≤◌, Bool, true, false, cond, ◌&&◌, ◌||◌, eqb, List, [], ◌∷◌, Option, Some, None, refl, ap, subst, ◌∙◌, arith, rules, tests}
use Rattle.std.specs.List.{find, list_any}
use Rattle.std.specs.Option.{option_map, option_to_list}
use Rattle.p9_manual.specs.declared.locks.Sort.{Sort}
use Rattle.p9_manual.specs.declared.locks.Sort.TheVariants as sort
use Rattle.p9_manual.specs.declared.locks.LockWait.{LockWait}
use Rattle.p9_manual.specs.declared.locks.LockWait.TheVariants as wait
use Rattle.p9_manual.specs.declared.locks.LockWaiter.{LockWaiter}
use Rattle.p9_manual.specs.Claims.{rw_at}
use Rattle.p9_manual.specs.Holds.{Holds}
use Rattle.p9_manual.specs.LockWaits.{holds_proc, is_holding}
use Rattle.p9_manual.specs.Queues.{same_wait, waits_for, waits_at_rw, without_first, writer_of, readers_in}
use Rattle.p9_manual.specs.Standing.{times}
use Rattle.p9_manual.specs.Unlocks.{release, rw_passed, read_released}
use Rattle.p9_lock_calls.proofs.Grants.{is_tid, WaitOnce, found_second}

-- thread u waits so that it holds its proc
abbrev pub holding : ℕ → LockWaiter → Bool
holding u w = eqb w.tid u && holds_proc w.what

both_least : (b h : Bool) → cond {A = ℕ} (b && h) 1 0 ≤ cond b 1 0
both_least true true = omega arith
both_least true false = omega arith
both_least false h = omega arith

both_none : (b : Bool) → cond {A = ℕ} (b && false) 1 0 ≡ 0
both_none true = refl
both_none false = refl

few_hold : (u : ℕ) → (ws : List LockWaiter) → times (holding u) ws ≤ times (is_tid u) ws
few_hold u [] = omega arith
few_hold u (w ∷ ws) = let a = both_least (eqb w.tid u) (holds_proc w.what) in let b = few_hold u ws in omega (arith, a, b)

none_here : (u : ℕ) (w : LockWaiter) → holds_proc w.what ≡ false → cond {A = ℕ} (eqb w.tid u && holds_proc w.what) 1 0 ≡ 0
none_here u w e = ap (λ h. cond {A = ℕ} (eqb w.tid u && h) 1 0) e ∙ both_none (eqb w.tid u)

found_step : (p : LockWaiter → Bool) (u : ℕ) (b : Bool) (w : LockWaiter) (ws : List LockWaiter) → (b ≡ true → holds_proc w.what ≡ false) → times (λ x. eqb x u) (option_to_list (option_map (λ (x : LockWaiter). x.tid) (find p ws))) + times (holding u) ws ≤ times (is_tid u) ws → times (λ x. eqb x u) (option_to_list (option_map (λ (x : LockWaiter). x.tid) (cond b (Some w) (find p ws)))) + times (holding u) (w ∷ ws) ≤ times (is_tid u) (w ∷ ws)
found_step p u true w ws h k = let a = none_here u w (h refl) in let b = few_hold u ws in omega (arith, a, b)
found_step p u false w ws h k = let a = both_least (eqb w.tid u) (holds_proc w.what) in omega (arith, a, k)

-- the head of a queue in which nobody holds its proc
found_counts : (p : LockWaiter → Bool) → ((w : LockWaiter) → p w ≡ true → holds_proc w.what ≡ false) → (u : ℕ) (ws : List LockWaiter) → times (λ x. eqb x u) (option_to_list (option_map (λ (x : LockWaiter). x.tid) (find p ws))) + times (holding u) ws ≤ times (is_tid u) ws
found_counts p h u [] = omega arith
found_counts p h u (w ∷ ws) = found_step p u (p w) w ws (h w) (found_counts p h u ws)

qlock_by : (k : ℕ) (what : LockWait) → same_wait what (wait.Lock sort.QLock k) ≡ true → holds_proc what ≡ false
qlock_by k (wait.Tag a) e = cc
qlock_by k (wait.Sleep a) e = refl
qlock_by k (wait.Lock sort.Lock j) e = cc
qlock_by k (wait.Lock sort.QLock j) e = refl
qlock_by k (wait.Lock sort.Read j) e = refl
qlock_by k (wait.Lock sort.Write j) e = refl

read_by : (k : ℕ) (what : LockWait) → same_wait what (wait.Lock sort.Read k) ≡ true → holds_proc what ≡ false
read_by k (wait.Tag a) e = cc
read_by k (wait.Sleep a) e = refl
read_by k (wait.Lock sort.Lock j) e = cc
read_by k (wait.Lock sort.QLock j) e = refl
read_by k (wait.Lock sort.Read j) e = refl
read_by k (wait.Lock sort.Write j) e = refl

write_by : (k : ℕ) (what : LockWait) → same_wait what (wait.Lock sort.Write k) ≡ true → holds_proc what ≡ false
write_by k (wait.Tag a) e = cc
write_by k (wait.Sleep a) e = refl
write_by k (wait.Lock sort.Lock j) e = cc
write_by k (wait.Lock sort.QLock j) e = refl
write_by k (wait.Lock sort.Read j) e = refl
write_by k (wait.Lock sort.Write j) e = refl

readers_step : (k u : ℕ) (b c : Bool) (w : LockWaiter) (ws : List LockWaiter) → (c ≡ true → holds_proc w.what ≡ false) → times (λ x. eqb x u) (readers_in k ws) + times (holding u) ws ≤ times (is_tid u) ws → times (λ x. eqb x u) (cond b [] (cond c (w.tid ∷ readers_in k ws) (readers_in k ws))) + times (holding u) (w ∷ ws) ≤ times (is_tid u) (w ∷ ws)
readers_step k u true c w ws h i = let a = few_hold u (w ∷ ws) in omega (arith, a)
readers_step k u false true w ws h i = let a = none_here u w (h refl) in omega (arith, a, i)
readers_step k u false false w ws h i = let a = both_least (eqb w.tid u) (holds_proc w.what) in omega (arith, a, i)

readers_counts : (k u : ℕ) (ws : List LockWaiter) → times (λ x. eqb x u) (readers_in k ws) + times (holding u) ws ≤ times (is_tid u) ws
readers_counts k u [] = omega arith
readers_counts k u (w ∷ ws) = readers_step k u (waits_for (wait.Lock sort.Write k) w) (waits_for (wait.Lock sort.Read k) w) w ws (read_by k w.what) (readers_counts k u ws)

writer_counts : (k u : ℕ) (ws : List LockWaiter) (w : LockWaiter) → find (waits_for (wait.Lock sort.Write k)) ws ≡ Some w → times (λ x. eqb x u) (w.tid ∷ []) + times (holding u) ws ≤ times (is_tid u) ws
writer_counts k u ws w e =
    subst (λ (o : Option LockWaiter). times (λ x. eqb x u) (option_to_list (option_map (λ (x : LockWaiter). x.tid) o)) + times (holding u) ws ≤ times (is_tid u) ws) e (found_counts (waits_for (wait.Lock sort.Write k)) (λ x. write_by k x.what) u ws)

passed_by : (k : ℕ) (readers : List ℕ) (h : Holds) (u : ℕ) (ws : List LockWaiter) (w : LockWaiter) (b : Bool) → waits_for (wait.Lock sort.Write k) w ≡ b → find (waits_at_rw k) ws ≡ Some w → times (λ x. eqb x u) (rw_passed k readers (cond b (Some w.tid) None) h ws).granted + times (holding u) ws ≤ times (is_tid u) ws
passed_by k readers h u ws w true e f = writer_counts k u ws w (found_second (waits_for (wait.Lock sort.Read k)) (waits_for (wait.Lock sort.Write k)) ws w e f)
passed_by k readers h u ws w false e f = readers_counts k u ws

passed_counts : (k : ℕ) (readers : List ℕ) (h : Holds) (u : ℕ) (ws : List LockWaiter) (o : Option LockWaiter) → find (waits_at_rw k) ws ≡ o → times (λ x. eqb x u) (rw_passed k readers (writer_of k o) h ws).granted + times (holding u) ws ≤ times (is_tid u) ws
passed_counts k readers h u ws None e = readers_counts k u ws
passed_counts k readers h u ws (Some w) e = passed_by k readers h u ws w (waits_for (wait.Lock sort.Write k) w) refl e

read_counts : (k : ℕ) (readers : List ℕ) (h : Holds) (u : ℕ) (ws : List LockWaiter) → times (λ x. eqb x u) (read_released k readers h ws).granted + times (holding u) ws ≤ times (is_tid u) ws
read_counts k [] h u ws = passed_counts k [] h u ws (find (waits_at_rw k) ws) refl
read_counts k (r ∷ rs) h u ws = let a = few_hold u ws in omega (arith, a)

-- those that are granted a lock other than a Lock wait, beside what they hold
pub granted_counts : (s : Sort) → s ≢ sort.Lock → (t k : ℕ) (h : Holds) (ws : List LockWaiter) (u : ℕ) → times (λ x. eqb x u) (release s t k h ws).granted + times (holding u) ws ≤ times (is_tid u) ws
granted_counts sort.Lock n t k h ws u = absurd (n refl)
granted_counts sort.QLock n t k h ws u = found_counts (waits_for (wait.Lock sort.QLock k)) (λ x. qlock_by k x.what) u ws
granted_counts sort.Read n t k h ws u = read_counts k (without_first (λ r. eqb r t) (rw_at k h).readers) h u ws
granted_counts sort.Write n t k h ws u = passed_counts k (rw_at k h).readers h u ws (find (waits_at_rw k) ws) refl

none_step : {A : Type 0} (f : A → Bool) (b : Bool) (x : A) (xs : List A) → cond {A = ℕ} b 1 0 + times f xs ≡ 0 → (times f xs ≡ 0 → list_any f xs ≡ false) → (b || list_any f xs) ≡ false
none_step f true x xs h k = absurd (omega arith)
none_step f false x xs h k = k (omega arith)

none_pass : {A : Type 0} (f : A → Bool) → (xs : List A) → times f xs ≡ 0 → list_any f xs ≡ false
none_pass f [] h = refl
none_pass f (x ∷ xs) h = none_step f (f x) x xs h (none_pass f xs)

-- none of them holds its proc
pub granted_beside : (ts : List ℕ) (ws : List LockWaiter) → WaitOnce ws → ((u : ℕ) → times (λ x. eqb x u) ts + times (holding u) ws ≤ times (is_tid u) ws) → (u : ℕ) → 1 ≤ times (λ x. eqb x u) ts → is_holding u ws ≡ false
granted_beside ts ws once h u one = let a = h u in let b = once u in none_pass (holding u) ws (omega (arith, a, b, one))

any_step : {A : Type 0} (f g : A → Bool) (b : Bool) (x w : A) (xs : List A) → g x ≡ b → cond b (Some x) (find g xs) ≡ Some w → f w ≡ true → (find g xs ≡ Some w → list_any f xs ≡ true) → (f x || list_any f xs) ≡ true
any_step f g true x w xs e h t k = let same : x ≡ w = cc in let p : f x ≡ true = ap f same ∙ t in rw p refl
any_step f g false x w xs e h t k = later (f x) (k h)
  where
    later : (c : Bool) → list_any f xs ≡ true → (c || list_any f xs) ≡ true
    later true i = refl
    later false i = i

-- one that was found passes
pub found_passes : {A : Type 0} (f g : A → Bool) → (xs : List A) (w : A) → find g xs ≡ Some w → f w ≡ true → list_any f xs ≡ true
found_passes f g [] w h t = cc
found_passes f g (x ∷ xs) w h t = any_step f g (g x) x w xs refl h t (λ e. found_passes f g xs w e t)

found_is_step : {A : Type 0} (g : A → Bool) (b : Bool) (x w : A) (xs : List A) → g x ≡ b → cond b (Some x) (find g xs) ≡ Some w → (find g xs ≡ Some w → g w ≡ true) → g w ≡ true
found_is_step g true x w xs e h k = let same : x ≡ w = cc in subst (λ (y : Bool). y ≡ true) (ap g same) e
found_is_step g false x w xs e h k = k h

pub found_is : {A : Type 0} (g : A → Bool) → (xs : List A) (w : A) → find g xs ≡ Some w → g w ≡ true
found_is g [] w h = cc
found_is g (x ∷ xs) w h = found_is_step g (g x) x w xs refl h (found_is g xs w)

lock_by : (k : ℕ) (what : LockWait) → same_wait what (wait.Lock sort.Lock k) ≡ true → holds_proc what ≡ true
lock_by k (wait.Tag a) e = cc
lock_by k (wait.Sleep a) e = cc
lock_by k (wait.Lock sort.Lock j) e = refl
lock_by k (wait.Lock sort.QLock j) e = cc
lock_by k (wait.Lock sort.Read j) e = cc
lock_by k (wait.Lock sort.Write j) e = cc

tag_by : (k : ℕ) (what : LockWait) → same_wait what (wait.Tag k) ≡ true → holds_proc what ≡ true
tag_by k (wait.Tag a) e = refl
tag_by k (wait.Sleep a) e = cc
tag_by k (wait.Lock sort.Lock j) e = cc
tag_by k (wait.Lock sort.QLock j) e = cc
tag_by k (wait.Lock sort.Read j) e = cc
tag_by k (wait.Lock sort.Write j) e = cc

held_both : (w : LockWaiter) → eqb w.tid w.tid ≡ true → holds_proc w.what ≡ true → holding w.tid w ≡ true
held_both w e f = rw (e, f) refl

same_id : (t : ℕ) → eqb t t ≡ true
same_id t = search (rules, tests)

-- who is found as one that waits for a Lock or with a tag holds its proc
pub lock_held : (k : ℕ) (ws : List LockWaiter) (w : LockWaiter) → find (waits_for (wait.Lock sort.Lock k)) ws ≡ Some w → is_holding w.tid ws ≡ true
lock_held k ws w e = found_passes (holding w.tid) (waits_for (wait.Lock sort.Lock k)) ws w e (held_both w (same_id w.tid) (lock_by k w.what (found_is (waits_for (wait.Lock sort.Lock k)) ws w e)))

pub tag_held : (k : ℕ) (ws : List LockWaiter) (w : LockWaiter) → find (waits_for (wait.Tag k)) ws ≡ Some w → is_holding w.tid ws ≡ true
tag_held k ws w e = found_passes (holding w.tid) (waits_for (wait.Tag k)) ws w e (held_both w (same_id w.tid) (tag_by k w.what (found_is (waits_for (wait.Tag k)) ws w e)))
