-- What a change of the rows, the groups or the names does to the threads that they stand for.
use Rattle.std.proofs.Common.{◌≡◌, ◌≢◌, ℕ, zero, suc, ◌+◌, ◌-◌, ◌<◌, ◌≤◌, Bool, true, false, List, [], ◌∷◌, ◌++◌, length, map, get_or, set, Option, Some, refl, ap, ◌∙◌, arith}
use Rattle.std.specs.Prelude.{◌==◌, option_map, slice_get, unwrap_or}
use Rattle.p9_manual.specs.declared.state.Thread.{Thread}
use Rattle.p9_manual.specs.Ends.{at_end}
use Rattle.p9_manual.specs.State.{by_id, changed}
use Rattle.p9_manual.specs.Threads.{in_group, with_name}
use Rattle.p9_sched.specs.declared.row.Row.{Row}
use Rattle.p9_sched.specs.Schedule.{ended_in, group_of, name_of}
use Rattle.p9_sched.proofs.Lists.{by_id_at}
use Rattle.p9_sched.specs.Stored.{thread_of, threads_of, row_ended, row_ended_in}

pub length_threads : (g : ℕ → Option ℕ) (n : ℕ → Option (List ℕ)) (t : ℕ) (xs : List Row) → length (threads_of g n t xs) ≡ length xs
length_threads g n t [] = refl
length_threads g n t (x ∷ xs) = ap (λ (k : ℕ). suc k) (length_threads g n (suc t) xs)

get_thread : (g : ℕ → Option ℕ) (n : ℕ → Option (List ℕ)) (t u : ℕ) (xs : List Row) (i : ℕ) → u ≡ t + i → slice_get (threads_of g n t xs) i ≡ option_map (thread_of g n u) (slice_get xs i)
get_thread g n t u [] i e = refl
get_thread g n t u (x ∷ xs) zero e = let same : u ≡ t = omega arith in rw same refl
get_thread g n t u (x ∷ xs) (suc i) e = get_thread g n (suc t) u xs i (omega arith)

-- the thread with an id is that of its row
pub thread_by_id : (g : ℕ → Option ℕ) (n : ℕ → Option (List ℕ)) (t : ℕ) (xs : List Row) → 1 ≤ t → by_id (threads_of g n 1 xs) t ≡ option_map (thread_of g n t) (slice_get xs (t - 1))
thread_by_id g n t xs one = by_id_at (threads_of g n 1 xs) t one ∙ get_thread g n 1 t xs (t - 1) (omega arith)

pub threads_set : (g : ℕ → Option ℕ) (n : ℕ → Option (List ℕ)) (h : Thread → Thread) (t : ℕ) (xs : List Row) (i : ℕ) (y d : Row) → i < length xs → ((u : ℕ) → thread_of g n u y ≡ h (thread_of g n u (get_or xs i d))) → threads_of g n t (set xs i y) ≡ changed h (threads_of g n t xs) i
threads_set g n h t [] i y d lt e = absurd (omega arith)
threads_set g n h t (x ∷ xs) zero y d lt e = ap (λ z. z ∷ threads_of g n (suc t) xs) (e t)
threads_set g n h t (x ∷ xs) (suc i) y d lt e = ap (λ zs. thread_of g n t x ∷ zs) (threads_set g n h (suc t) xs i y d (omega arith) e)

pub threads_ended : (g : ℕ → Option ℕ) (n : ℕ → Option (List ℕ)) (t : ℕ) (xs : List Row) → threads_of g n t (map row_ended xs) ≡ map at_end (threads_of g n t xs)
threads_ended g n t [] = refl
threads_ended g n t (x ∷ xs) = ap (λ zs. at_end (thread_of g n t x) ∷ zs) (threads_ended g n (suc t) xs)

ended_if : (b : Bool) (g : ℕ → Option ℕ) (n : ℕ → Option (List ℕ)) (t p : ℕ) (x : Row) → (x.proc_no == p) ≡ b → thread_of g n t (row_ended_in p x) ≡ ended_in p (thread_of g n t x)
ended_if true g n t p x e = rw e refl
ended_if false g n t p x e = rw e refl

-- the threads of a proc have ended where their rows say so
pub threads_ended_in : (g : ℕ → Option ℕ) (n : ℕ → Option (List ℕ)) (p t : ℕ) (xs : List Row) → threads_of g n t (map (row_ended_in p) xs) ≡ map (ended_in p) (threads_of g n t xs)
threads_ended_in g n p t [] = refl
threads_ended_in g n p t (x ∷ xs) = rw (ended_if (x.proc_no == p) g n t p x refl, threads_ended_in g n p (suc t) xs) refl

push_thread : (g : ℕ → Option ℕ) (n : ℕ → Option (List ℕ)) (t u : ℕ) (xs : List Row) (x : Row) → u ≡ t + length xs → threads_of g n t (xs ++ x ∷ []) ≡ threads_of g n t xs ++ thread_of g n u x ∷ []
push_thread g n t u [] x e = let same : u ≡ t = omega arith in rw same refl
push_thread g n t u (y ∷ xs) x e = ap (λ zs. thread_of g n t y ∷ zs) (push_thread g n (suc t) u xs x (omega arith))

same_group : (g h : ℕ → Option ℕ) (n : ℕ → Option (List ℕ)) (t : ℕ) (x : Row) → h t ≡ g t → thread_of h n t x ≡ thread_of g n t x
same_group g h n t x e = ap (λ (o : Option ℕ). record { proc_no = x.proc_no; program = x.program; arg = x.arg; group = unwrap_or o 0; name = unwrap_or (n t) []; word = x.word; marked = x.marked; place = x.place }) e

agree_groups : (g h : ℕ → Option ℕ) (n : ℕ → Option (List ℕ)) (t u : ℕ) (xs : List Row) → ((q : ℕ) → q ≢ u → h q ≡ g q) → u < t → threads_of h n t xs ≡ threads_of g n t xs
agree_groups g h n t u [] e lt = refl
agree_groups g h n t u (x ∷ xs) e lt =
    let ne : t ≢ u = omega arith in
    rw (same_group g h n t x (e t ne), agree_groups g h n (suc t) u xs e (omega arith)) refl

before_groups : (g h : ℕ → Option ℕ) (n : ℕ → Option (List ℕ)) (t u : ℕ) (xs : List Row) → ((q : ℕ) → q ≢ u → h q ≡ g q) → t + length xs ≤ u → threads_of h n t xs ≡ threads_of g n t xs
before_groups g h n t u [] e le = refl
before_groups g h n t u (x ∷ xs) e le =
    let ne : t ≢ u = omega arith in
    rw (same_group g h n t x (e t ne), before_groups g h n (suc t) u xs e (omega arith)) refl

-- a new thread has the next id, and its group
pub threads_push : (g h : ℕ → Option ℕ) (n : ℕ → Option (List ℕ)) (xs : List Row) (x : Row) (u : ℕ) → u ≡ length xs + 1 → ((q : ℕ) → q ≢ u → h q ≡ g q) → threads_of h n 1 (xs ++ x ∷ []) ≡ threads_of g n 1 xs ++ thread_of h n u x ∷ []
threads_push g h n xs x u e others =
    push_thread h n 1 u xs x (omega arith) ∙ ap (λ zs. zs ++ thread_of h n u x ∷ []) (before_groups g h n 1 u xs others (omega arith))

group_from : (g h : ℕ → Option ℕ) (n : ℕ → Option (List ℕ)) (t u v : ℕ) (xs : List Row) (i : ℕ) → h u ≡ Some v → ((q : ℕ) → q ≢ u → h q ≡ g q) → u ≡ t + i → threads_of h n t xs ≡ changed (in_group v) (threads_of g n t xs) i
group_from g h n t u v [] i has others e = refl
group_from g h n t u v (x ∷ xs) zero has others e =
    let same : t ≡ u = omega arith in
    rw (same, has, agree_groups g h n (suc u) u xs others (omega arith)) refl
group_from g h n t u v (x ∷ xs) (suc i) has others e =
    let ne : t ≢ u = omega arith in
    rw (same_group g h n t x (others t ne), group_from g h n (suc t) u v xs i has others (omega arith)) refl

-- another group of thread u changes that thread alone
pub threads_group : (g h : ℕ → Option ℕ) (n : ℕ → Option (List ℕ)) (u v : ℕ) (xs : List Row) → 1 ≤ u → h u ≡ Some v → ((q : ℕ) → q ≢ u → h q ≡ g q) → threads_of h n 1 xs ≡ changed (in_group v) (threads_of g n 1 xs) (u - 1)
threads_group g h n u v xs one has others = group_from g h n 1 u v xs (u - 1) has others (omega arith)

same_name : (g : ℕ → Option ℕ) (n m : ℕ → Option (List ℕ)) (t : ℕ) (x : Row) → m t ≡ n t → thread_of g m t x ≡ thread_of g n t x
same_name g n m t x e = ap (λ (o : Option (List ℕ)). record { proc_no = x.proc_no; program = x.program; arg = x.arg; group = unwrap_or (g t) 0; name = unwrap_or o []; word = x.word; marked = x.marked; place = x.place }) e

agree_names : (g : ℕ → Option ℕ) (n m : ℕ → Option (List ℕ)) (t u : ℕ) (xs : List Row) → ((q : ℕ) → q ≢ u → m q ≡ n q) → u < t → threads_of g m t xs ≡ threads_of g n t xs
agree_names g n m t u [] e lt = refl
agree_names g n m t u (x ∷ xs) e lt =
    let ne : t ≢ u = omega arith in
    rw (same_name g n m t x (e t ne), agree_names g n m (suc t) u xs e (omega arith)) refl

name_from : (g : ℕ → Option ℕ) (n m : ℕ → Option (List ℕ)) (t u : ℕ) (v : List ℕ) (xs : List Row) (i : ℕ) → m u ≡ Some v → ((q : ℕ) → q ≢ u → m q ≡ n q) → u ≡ t + i → threads_of g m t xs ≡ changed (with_name v) (threads_of g n t xs) i
name_from g n m t u v [] i has others e = refl
name_from g n m t u v (x ∷ xs) zero has others e =
    let same : t ≡ u = omega arith in
    rw (same, has, agree_names g n m (suc u) u xs others (omega arith)) refl
name_from g n m t u v (x ∷ xs) (suc i) has others e =
    let ne : t ≢ u = omega arith in
    rw (same_name g n m t x (others t ne), name_from g n m (suc t) u v xs i has others (omega arith)) refl

-- another name of thread u changes that thread alone
pub threads_name : (g : ℕ → Option ℕ) (n m : ℕ → Option (List ℕ)) (u : ℕ) (v : List ℕ) (xs : List Row) → 1 ≤ u → m u ≡ Some v → ((q : ℕ) → q ≢ u → m q ≡ n q) → threads_of g m 1 xs ≡ changed (with_name v) (threads_of g n 1 xs) (u - 1)
threads_name g n m u v xs one has others = name_from g n m 1 u v xs (u - 1) has others (omega arith)

pub group_at : (g : ℕ → Option ℕ) (n : ℕ → Option (List ℕ)) (t : ℕ) (xs : List Row) (i : ℕ) → i < length xs → group_of (option_map (thread_of g n t) (slice_get xs i)) ≡ unwrap_or (g t) 0
group_at g n t [] i lt = absurd (omega arith)
group_at g n t (x ∷ xs) zero lt = refl
group_at g n t (x ∷ xs) (suc i) lt = group_at g n t xs i (omega arith)

pub name_at : (g : ℕ → Option ℕ) (n : ℕ → Option (List ℕ)) (t : ℕ) (xs : List Row) (i : ℕ) → i < length xs → name_of (option_map (thread_of g n t) (slice_get xs i)) ≡ unwrap_or (n t) []
name_at g n t [] i lt = absurd (omega arith)
name_at g n t (x ∷ xs) zero lt = refl
name_at g n t (x ∷ xs) (suc i) lt = name_at g n t xs i (omega arith)
