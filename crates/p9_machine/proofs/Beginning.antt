-- How the threads at the start are made.
use Rattle.std.proofs.Common.{◌≡◌, ℕ, zero, suc, ◌+◌, ◌-◌, ◌<◌, ◌≤◌, Bool, true, false, cond, List, [], ◌∷◌, ◌++◌, length, map, replicate, take, None, refl, ap, sym, subst, ◌∙◌, arith, rules, tests}
use Rattle.std.specs.Prelude.{◌==◌, ◌&&◌, slice_get, nat_lt, All, get_or}
use Rattle.std.proofs.lemmas.List.{length-map, length-take-le, take_more}
use Rattle.rand_pcg.specs.Lcg.{started, increment_of, state_after}
use Rattle.rand_pcg.specs.Pcg.{multiplier_64}
use Rattle.p9_word.specs.declared.limits.TheConstants.{MOST_THREADS}
use Rattle.p9_word.specs.Setup.{IsThreadOf, IsValid}
use Rattle.p9_word.specs.declared.setup.Setup.{Setup}
use Rattle.p9_word.specs.declared.setup.ThreadSetup.{ThreadSetup}
use Rattle.p9_manual.specs.declared.state.Ioproc.TheVariants.{Unmade}
use Rattle.p9_manual.specs.declared.state.Thread.{Thread}
use Rattle.p9_manual.specs.Create.{with_thread}
use Rattle.p9_manual.specs.History.{ids_from, new_thread, new_proc, begin_state}
use Rattle.p9_manual.specs.NoteCalls.{noted}
use Rattle.p9_manual.specs.Places.{runs_in}
use Rattle.p9_manual.specs.Standing.{StandOnce, times, place_of, place_in, times_in_line, times_in_waits}
use Rattle.p9_manual.specs.State.{State, Proc, by_id, changed}
use Rattle.p9_manual.specs.Threads.{with_changed, with_name}
use Rattle.p9_manual.specs.Draws.{generator_after}
use Rattle.p9_io.specs.Calls.{begun_count}
use Rattle.p9_sched.specs.Holding.{held_in}
use Rattle.p9_sched.specs.Schedule.{Schedule, IsPlace, line_in, begin_schedule}
use Rattle.p9_sched.specs.Stands.{SchedFor}
use Rattle.p9_note.specs.For.{NotesFor, bare}
use Rattle.p9_note.specs.ProcNotes.{no_notes}
use Rattle.p9_machine.specs.Begin.{with_first}

changed_last : {A : Type 0} (f : A → A) → (xs : List A) (x : A) → changed f (xs ++ x ∷ []) (length xs) ≡ xs ++ f x ∷ []
changed_last f [] x = refl
changed_last f (y ∷ xs) x = ap (λ zs. y ∷ zs) (changed_last f xs x)

-- a thread that was made and named is the setup's
first_is : (setup : ThreadSetup) (t : ℕ) (name : List ℕ) (s : State) → t ≡ length s.threads + 1 → name ≡ setup.name → with_changed (with_name name) t (with_thread setup.proc_no setup.program setup.arg 0 s) ≡ with_first setup s
first_is setup t name s e same =
    let at : length s.threads + 1 - 1 ≡ length s.threads = omega arith in
    rw (e, same, at) (ap (λ (ts : List Thread). record (with_first setup s) { threads = ts }) (changed_last _ s.threads _))

pub stands_first : (setup : ThreadSetup) (t : ℕ) (name : List ℕ) (places : ℕ) (n : Schedule) (s : State) → t ≡ length s.threads + 1 → name ≡ setup.name → SchedFor places n (with_changed (with_name name) t (with_thread setup.proc_no setup.program setup.arg 0 s)) → SchedFor places n (with_first setup s)
stands_first setup t name places n s e same h = subst (λ (x : State). SchedFor places n x) (first_is setup t name s e same) h

-- the state with these threads of the setup, all of which are new
abbrev pub first_state : Setup → List ThreadSetup → State
first_state setup ys = record (begin_state setup) { threads = map new_thread ys; line = ids_from 1 ys }

by_id_suc : {A : Type 0} (xs : List A) (i : ℕ) → by_id xs (suc i) ≡ slice_get xs i
by_id_suc xs i =
    let b : nat_lt 0 (suc i) ≡ true = search (rules, tests) in
    let e : suc i - 1 ≡ i = omega arith in
    rw (b, e) refl

ids_below : (n u : ℕ) → (xs : List ThreadSetup) → u < n → times (λ x. x == u) (ids_from n xs) ≡ 0
ids_below n u [] lt = refl
ids_below n u (x ∷ xs) lt =
    let ne : (n == u) ≡ false = search (rules, tests) in
    let rest = ids_below (n + 1) u xs (omega arith) in
    rw (ne, rest) refl

ids_at : (n i j : ℕ) → (xs : List ThreadSetup) → j ≡ n + i → times (λ x. x == j) (ids_from n xs) ≡ times_in_line (place_in (slice_get (map new_thread xs) i))
ids_at n i j [] e = refl
ids_at n zero j (x ∷ xs) e =
    let here : n ≡ j = omega arith in
    let b : (n == j) ≡ true = search (rules, tests) in
    let rest = ids_below (n + 1) j xs (omega arith) in
    rw (b, rest) refl
ids_at n (suc i) j (x ∷ xs) e =
    let above : n < j = omega arith in
    let b : (n == j) ≡ false = search (rules, tests) in
    let z : 0 + times (λ x. x == j) (ids_from (n + 1) xs) ≡ times (λ x. x == j) (ids_from (n + 1) xs) = omega arith in
    rw (b, z) (ids_at (n + 1) i j xs (omega arith))

first_line : (xs : List ThreadSetup) (t : ℕ) → times (λ x. x == t) (ids_from 1 xs) ≡ times_in_line (place_of (map new_thread xs) t)
first_line xs zero = ids_below 1 zero xs (omega arith)
first_line xs (suc i) = rw (by_id_suc (map new_thread xs) i) (ids_at 1 i (suc i) xs (omega arith))

waits_at : (xs : List ThreadSetup) (i : ℕ) → 0 ≡ times_in_waits (place_in (slice_get (map new_thread xs) i))
waits_at [] i = refl
waits_at (x ∷ xs) zero = refl
waits_at (x ∷ xs) (suc i) = waits_at xs i

first_waits : (xs : List ThreadSetup) (t : ℕ) → 0 ≡ times_in_waits (place_of (map new_thread xs) t)
first_waits xs zero = refl
first_waits xs (suc i) = rw (by_id_suc (map new_thread xs) i) (waits_at xs i)

and_false : (b : Bool) → (b && false) ≡ false
and_false true = refl
and_false false = refl

first_runs : (p : ℕ) → (xs : List ThreadSetup) → times (runs_in p) (map new_thread xs) ≡ 0
first_runs p [] = refl
first_runs p (x ∷ xs) = rw (and_false (x.proc_no == p), first_runs p xs) refl

-- each of them stands in the line once
pub first_stand : (setup : Setup) (ys : List ThreadSetup) → StandOnce (first_state setup ys).threads (first_state setup ys).line (first_state setup ys).waits
first_stand setup ys = record { in_line = first_line ys; in_waits = first_waits ys; one_runs = λ p. let z = first_runs p ys in omega arith }

get_empty : (n i : ℕ) → line_in (slice_get (replicate n []) i) ≡ []
get_empty zero i = refl
get_empty (suc n) zero = refl
get_empty (suc n) (suc i) = get_empty n i

empty_if : (b : Bool) (n i : ℕ) → line_in (cond b (slice_get (replicate n []) i) None) ≡ []
empty_if true n i = get_empty n i
empty_if false n i = refl

get_unheld : (n i : ℕ) → held_in (slice_get (replicate n false) i) ≡ false
get_unheld zero i = refl
get_unheld (suc n) zero = refl
get_unheld (suc n) (suc i) = get_unheld n i

unheld_if : (b : Bool) (n i : ℕ) → held_in (cond b (slice_get (replicate n false) i) None) ≡ false
unheld_if true n i = get_unheld n i
unheld_if false n i = refl

length_same : {A : Type 0} (n : ℕ) (x : A) → length (replicate n x) ≡ n
length_same zero x = refl
length_same (suc n) x = ap suc (length_same n x)

words_none : (n : ℕ) → map (λ (p : Proc). p.word) (replicate n new_proc) ≡ replicate n 0
words_none zero = refl
words_none (suc n) = ap (λ (xs : List ℕ). 0 ∷ xs) (words_none n)

-- no thread was made yet
pub none_stand : (setup : Setup) (s : Schedule) → s ≡ begin_schedule setup.places setup.opened → SchedFor setup.places s (first_state setup [])
none_stand setup s e = rw e (record {
  threads = refl;
  lines = record { part = λ p a b. empty_if (nat_lt 0 p) setup.places (p - 1) };
  words = words_none setup.places;
  opened = refl;
  count = length_same setup.places [];
  held = record { held = λ p a b. unheld_if (nat_lt 0 p) setup.places (p - 1) };
})

map_push : {A B : Type 0} (f : A → B) → (xs : List A) (x : A) → map f (xs ++ x ∷ []) ≡ map f xs ++ f x ∷ []
map_push f [] x = refl
map_push f (y ∷ xs) x = ap (λ zs. f y ∷ zs) (map_push f xs x)

ids_push : {A : Type 0} (n : ℕ) → (xs : List A) (x : A) → ids_from n (xs ++ x ∷ []) ≡ ids_from n xs ++ (length xs + n) ∷ []
ids_push n [] x = let e : 0 + n ≡ n = omega arith in rw e refl
ids_push n (y ∷ xs) x =
    let e : suc (length xs) + n ≡ length xs + (n + 1) = omega arith in
    rw (e, ids_push (n + 1) xs x) refl

first_more : (setup : Setup) (ys : List ThreadSetup) (x : ThreadSetup) → with_first x (first_state setup ys) ≡ first_state setup (ys ++ x ∷ [])
first_more setup ys x = rw (map_push new_thread ys x, ids_push 1 ys x, length-map ys new_thread) refl

-- one more thread
pub one_more : (setup : Setup) (xs : List ThreadSetup) (i : ℕ) (x : ThreadSetup) (n : Schedule) → i < length xs → x ≡ get_or xs i x → SchedFor setup.places n (with_first x (first_state setup (take i xs))) → SchedFor setup.places n (first_state setup (take (i + 1) xs))
one_more setup xs i x n lt is h =
    let more : take (i + 1) xs ≡ take i xs ++ x ∷ [] = take_more xs i x lt ∙ ap (λ (y : ThreadSetup). take i xs ++ y ∷ []) (sym is) in
    subst (λ (ys : List ThreadSetup). SchedFor setup.places n (first_state setup ys)) (sym more) (subst (λ (s : State). SchedFor setup.places n s) (first_more setup (take i xs) x) h)

-- a thread at the start stands in a proc place
pub place_of_first : (setup : Setup) (items : List ThreadSetup) (i : ℕ) (ys : List ThreadSetup) (s : Schedule) (x : ThreadSetup) → items ≡ setup.threads → i < length items → x ≡ get_or items i x → IsValid setup → SchedFor setup.places s (first_state setup ys) → IsPlace x.proc_no s
place_of_first setup items i ys s x same lt is valid first =
    let all : All (IsThreadOf setup.opened setup.programs) items = rw same valid.threads in
    let of : IsThreadOf setup.opened setup.programs x = subst (λ (y : ThreadSetup). IsThreadOf setup.opened setup.programs y) (sym is) (all i x lt) in
    let p = of.proc_no in
    let o = valid.opened in
    let e = first.count in
    record { from = p.from; to = omega (arith, p.to, o.to) }

pub few_first : (setup : Setup) (items : List ThreadSetup) (i : ℕ) (s : Schedule) → items ≡ setup.threads → i < length items → IsValid setup → SchedFor setup.places s (first_state setup (take i items)) → length s.threads < MOST_THREADS
few_first setup items i s same lt valid first =
    let le : i ≤ length items = omega arith in
    let few : length items ≤ MOST_THREADS = rw same valid.limits.threads in
    let e : length s.threads ≡ i = ap length (sym first.threads) ∙ (length-map (take i items) new_thread ∙ length-take-le i items le) in
    omega arith

-- no draw was made
pub none_drawn : (start : ℕ) → generator_after start 0 ≡ started 64 multiplier_64 start (increment_of 64 54)
unfolding state_after
none_drawn start = refl

-- no call is begun
pub none_begun : (files : ℕ) → begun_count (replicate files Unmade) ≡ 0
none_begun zero = refl
none_begun (suc n) = let h = none_begun n in omega arith

noted_none : (n : ℕ) → map noted (replicate n new_proc) ≡ map bare (replicate n no_notes)
noted_none zero = refl
noted_none (suc n) = ap (λ (xs : List (List (ℕ × List ℕ) × List (List ℕ))). ([], []) ∷ xs) (noted_none n)

-- no proc has a handler or a pending note
pub none_noted : (setup : Setup) → NotesFor setup.places (replicate setup.places no_notes) (begin_state setup)
none_noted setup = record { procs = noted_none setup.places; count = length_same setup.places no_notes }
