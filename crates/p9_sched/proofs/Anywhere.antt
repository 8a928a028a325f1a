-- A test that a lane passes where some thread of its proc passes another one.
use Rattle.std.proofs.Common.{◌≡◌, ℕ, suc, ◌+◌, ◌-◌, Bool, true, false, List, [], ◌∷◌, map, Option, Some, None, IfSome, MatchOption, refl, sym, ap, ◌∙◌, arith}
use Rattle.std.proofs.lemmas.Bool.{eq-eqb, lt-ltb}
use Rattle.std.proofs.lemmas.Map.Keys.{any_passes_from_place}
use Rattle.std.specs.Prelude.{◌==◌, ◌&&◌, ◌||◌, cond, not, is_some, option_map, nat_lt, slice_get}
use Rattle.std.specs.List.{list_any}
use Rattle.p9_manual.specs.declared.state.Thread.{Thread}
use Rattle.p9_manual.specs.Places.{is_ready, lives, runs, lives_in, runs_in, runs_there}
use Rattle.p9_manual.specs.Standing.{times}
use Rattle.p9_manual.specs.State.{by_id}
use Rattle.p9_sched.specs.Kept.{IsLane, IsSound}
use Rattle.p9_sched.specs.Lined.{Lined, has_living, has_running, has_ready}
use Rattle.p9_sched.specs.Holding.{held_in, is_held}
use Rattle.p9_sched.specs.Schedule.{Schedule}
use Rattle.p9_sched.specs.Stored.{HasId}
use Rattle.p9_sched.specs.Turns.{can_run, is_ready_in}
use Rattle.p9_sched.proofs.Lines.{CasesEq, Same, Other, cases_eq, eq_other}
use Rattle.p9_sched.proofs.Lists.{by_id_at, by_id-map, id_at, item_at}
use Rattle.p9_sched.proofs.Nexts.{runner_by}
use Rattle.p9_sched.proofs.Sound.{if_at, if_imp, one_of}

-- an item of the list passes the test
record IsFound {A : Type 0} (f : A → Bool) (xs : List A) : Type 0 where
  index : ℕ
  item : A
  there : slice_get xs index ≡ Some item
  passes : f item ≡ true

found_by : {A : Type 0} (f : A → Bool) → (b : Bool) (x : A) (xs : List A) → f x ≡ b → (b || list_any f xs) ≡ true → (list_any f xs ≡ true → IsFound f xs) → IsFound f (x ∷ xs)
found_by f true x xs is e k = record { index = 0; item = x; there = refl; passes = is }
found_by f false x xs is e k =
    let h = k e in
    record { index = suc h.index; item = h.item; there = h.there; passes = h.passes }

found : {A : Type 0} (f : A → Bool) → (xs : List A) → list_any f xs ≡ true → IsFound f xs
found f [] e = cc
found f (x ∷ xs) e = found_by f (f x) x xs refl e (found f xs)

-- what stands at an index has the next id
next_id : {A : Type 0} → (xs : List A) (i : ℕ) (x : A) → slice_get xs i ≡ Some x → by_id xs (i + 1) ≡ Some x
next_id xs i x e = by_id_at xs (i + 1) (omega arith) ∙ (ap (slice_get xs) (omega arith) ∙ e)

-- a thread of proc p passes the test
abbrev pub in_proc : (Thread → Bool) → ℕ → Thread → Bool
in_proc q p x = x.proc_no == p && q x

both_true : (a b : Bool) → (a && b) ≡ true → b ≡ true
both_true true b e = e
both_true false b e = cc

same_bools : (a b : Bool) → (a ≡ true → b ≡ true) → (b ≡ true → a ≡ true) → a ≡ b
same_bools true b h k = sym (h refl)
same_bools false true h k = k refl
same_bools false false h k = refl

from_lane : (q : Thread → Bool) (r : Lined → Bool) (threads : List Thread) (ls : List Lined) → ((p : ℕ) → IfSome (by_id ls p) (λ l. r l ≡ list_any (in_proc q p) threads)) → list_any r ls ≡ true → list_any q threads ≡ true
from_lane q r threads ls k e =
    let l = found r ls e in
    let p = l.index + 1 in
    let same = one_of (by_id ls p) (λ (m : Lined). r m ≡ list_any (in_proc q p) threads) l.item (next_id ls l.index l.item l.there) (k p) in
    let x = found (in_proc q p) threads (sym same ∙ l.passes) in
    any_passes_from_place q threads x.index x.item x.there (both_true (x.item.proc_no == p) (q x.item) x.passes)

from_thread : (q : Thread → Bool) (r : Lined → Bool) (threads : List Thread) (ls : List Lined) → ((t : ℕ) → IfSome (by_id threads t) (λ x. HasId x.proc_no ls)) → ((p : ℕ) → IfSome (by_id ls p) (λ l. r l ≡ list_any (in_proc q p) threads)) → list_any q threads ≡ true → list_any r ls ≡ true
from_thread q r threads ls procs k e =
    let x = found q threads e in
    let p = x.item.proc_no in
    let id = one_of (by_id threads (x.index + 1)) (λ (y : Thread). HasId y.proc_no ls) x.item (next_id threads x.index x.item x.there) (procs (x.index + 1)) in
    let l = item_at ls p id in
    let same = one_of (by_id ls p) (λ (m : Lined). r m ≡ list_any (in_proc q p) threads) l.0 l.1 (k p) in
    let mine : in_proc q p x.item ≡ true = rw (eq-eqb p p refl) x.passes in
    let here = any_passes_from_place (in_proc q p) threads x.index x.item x.there mine in
    any_passes_from_place r ls (p - 1) l.0 (id_at ls p l.0 l.1) (same ∙ here)

-- where each thread stands in a lane, and each lane passes r just where a thread of its proc passes q, a lane passes r
-- just where a thread passes q
pub anywhere : (q : Thread → Bool) (r : Lined → Bool) (threads : List Thread) (ls : List Lined) → ((t : ℕ) → IfSome (by_id threads t) (λ x. HasId x.proc_no ls)) → ((p : ℕ) → IfSome (by_id ls p) (λ l. r l ≡ list_any (in_proc q p) threads)) → list_any r ls ≡ list_any q threads
anywhere q r threads ls procs k =
    same_bools (list_any r ls) (list_any q threads) (from_lane q r threads ls k) (from_thread q r threads ls procs k)

times_by : (b c : Bool) (n : ℕ) → nat_lt 0 n ≡ c → nat_lt 0 (cond b 1 0 + n) ≡ (b || c)
times_by true c n e = lt-ltb 0 (1 + n) (omega arith)
times_by false c n e = let same : 0 + n ≡ n = omega arith in rw same e

-- a test passes at times above 0 just where it passes
-- a count above 0
pub above_none : {A : Type 0} (f : A → Bool) → (xs : List A) → nat_lt 0 (times f xs) ≡ list_any f xs
above_none f [] = refl
above_none f (x ∷ xs) = times_by (f x) (list_any f xs) (times f xs) (above_none f xs)

runs_at : (p : ℕ) (threads : List Thread) (t : ℕ) (o : Option Thread) → by_id threads t ≡ o → runs_there p o ≡ true → list_any (runs_in p) threads ≡ true
runs_at p threads t None at e = cc
runs_at p threads t (Some x) at e = any_passes_from_place (runs_in p) threads (t - 1) x (id_at threads t x at) e

runs_by : (p : ℕ) (threads : List Thread) (r : Option ℕ) → MatchOption r (list_any (runs_in p) threads ≡ false) (λ t. runs_there p (by_id threads t) ≡ true) → is_some r ≡ list_any (runs_in p) threads
runs_by p threads None h = sym h
runs_by p threads (Some t) h = sym (runs_at p threads t (by_id threads t) refl h)

-- a lane tells whether a thread lives, runs or is ready
pub any_lives : (threads : List Thread) (ls : List Lined) (more : Bool) → IsSound threads ls more → list_any has_living ls ≡ list_any lives threads
any_lives threads ls more s =
    anywhere lives has_living threads ls s.procs (λ p. if_imp (by_id ls p) (IsLane p threads more) (λ l. has_living l ≡ list_any (in_proc lives p) threads) (s.each p) (λ l k. ap (nat_lt 0) k.living ∙ above_none (lives_in p) threads))

pub any_runs : (threads : List Thread) (ls : List Lined) (more : Bool) → IsSound threads ls more → list_any has_running ls ≡ list_any runs threads
any_runs threads ls more s =
    anywhere runs has_running threads ls s.procs (λ p. if_imp (by_id ls p) (IsLane p threads more) (λ l. has_running l ≡ list_any (in_proc runs p) threads) (s.each p) (λ l k. runs_by p threads l.running (runner_by p threads l.running k.running)))

and_assoc : (a b c : Bool) → (a && (b && c)) ≡ ((a && b) && c)
and_assoc true b c = refl
and_assoc false b c = refl

or_and : (a b c : Bool) → ((a && c) || (b && c)) ≡ ((a || b) && c)
or_and true true true = refl
or_and true true false = refl
or_and true false true = refl
or_and true false false = refl
or_and false b c = refl

any_and : (f g : Thread → Bool) (b : Bool) → ((x : Thread) → g x ≡ (f x && b)) → (xs : List Thread) → list_any g xs ≡ (list_any f xs && b)
any_and f g b h [] = refl
any_and f g b h (x ∷ xs) = rw (h x, any_and f g b h xs) (or_and (f x) (list_any f xs) b)

free_at : (v : Schedule) (p n : ℕ) (ready : Bool) → CasesEq n p → (n == p && (ready && not (is_held n v))) ≡ ((n == p && ready) && not (is_held p v))
free_at v p n ready (Same e) = rw e (and_assoc (p == p) ready (not (is_held p v)))
free_at v p n ready (Other ne) = rw (eq_other n p ne) refl

ready_lane : (v : Schedule) (p : ℕ) (threads : List Thread) (ls : List Lined) (more : Bool) (l : Lined) → v.holds ≡ map (λ (m : Lined). m.held) ls → by_id ls p ≡ Some l → IsLane p threads more l → has_ready l ≡ list_any (in_proc (can_run v) p) threads
ready_lane v p threads ls more l e at k =
    let count = ap (nat_lt 0) k.ready ∙ above_none (is_ready_in p) threads in
    let held : is_held p v ≡ l.held = ap (λ hs. held_in (by_id hs p)) e ∙ (ap held_in (by_id-map (λ (m : Lined). m.held) ls p) ∙ ap (λ o. held_in (option_map (λ (m : Lined). m.held) o)) at) in
    let free = any_and (is_ready_in p) (in_proc (can_run v) p) (not (is_held p v)) (λ x. free_at v p x.proc_no (is_ready x.place) (cases_eq x.proc_no p)) threads in
    ap (λ b. b && not l.held) count ∙ (ap (λ b. list_any (is_ready_in p) threads && not b) (sym held) ∙ sym free)

-- one that is ready in a proc that isn't held
pub any_ready : (v : Schedule) (threads : List Thread) (ls : List Lined) (more : Bool) → v.holds ≡ map (λ (m : Lined). m.held) ls → IsSound threads ls more → list_any has_ready ls ≡ list_any (can_run v) threads
any_ready v threads ls more e s =
    anywhere (can_run v) has_ready threads ls s.procs (λ p. if_at (by_id ls p) (IsLane p threads more) (λ l. has_ready l ≡ list_any (in_proc (can_run v) p) threads) (s.each p) (λ l at k. ready_lane v p threads ls more l e at k))
