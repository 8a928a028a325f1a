-- What is seen of a table, whose fields are these.
use Rattle.std.proofs.Common.{◌≡◌, ◌≢◌, ℕ, ◌+◌, ◌-◌, ◌<◌, false, List, [], ◌∷◌, ◌++◌, length, get_or, set, Option, None, Some, unwrap_or, nat_eq, refl, sym, ap, ◌∙◌, arith}
use Rattle.std.specs.Prelude.{option_map}
use Rattle.indexmap.specs.IndexMap.{get}
use Rattle.p9_manual.specs.declared.state.Thread.{Thread}
use Rattle.p9_manual.specs.declared.state.Place.TheVariants.{New}
use Rattle.p9_manual.specs.Create.{fresh}
use Rattle.p9_manual.specs.State.{by_id, changed}
use Rattle.p9_sched.specs.declared.row.Row.{Row}
use Rattle.p9_sched.specs.declared.table.Table.TheInside.{Inside}
use Rattle.p9_sched.specs.Schedule.{group_of, name_of}
use Rattle.p9_sched.specs.Stored.{Stored, HasId, thread_of, threads_of}
use Rattle.p9_sched.specs.Table.{stored}
use Rattle.p9_sched.proofs.Lists.{slice_get-within}
use Rattle.p9_sched.proofs.Threads.{length_threads, thread_by_id, threads_set, threads_push, group_at, name_at}

abbrev pub groups_in : Inside → ℕ → Option ℕ
groups_in s = get nat_eq s.groups

abbrev pub names_in : Inside → ℕ → Option (List ℕ)
names_in s = get nat_eq s.names

pub seen_length : (s : Inside) (v : Stored) → stored s ≡ v → length v.threads ≡ length s.rows.items
seen_length s v e = ap (λ (w : Stored). length w.threads) (sym e) ∙ length_threads (groups_in s) (names_in s) 1 s.rows.items

-- the thread with an id is that of its row
pub seen_row : (s : Inside) (v : Stored) (t : ℕ) (x : Row) → stored s ≡ v → HasId t v.threads → x ≡ get_or s.rows.items (t - 1) x → by_id v.threads t ≡ Some (thread_of (groups_in s) (names_in s) t x)
seen_row s v t x e id at =
    let n = seen_length s v e in
    let lt : t - 1 < length s.rows.items = omega (arith, id.from, id.to) in
    ap (λ (w : Stored). by_id w.threads t) (sym e) ∙ (thread_by_id (groups_in s) (names_in s) t s.rows.items id.from ∙ (ap (option_map (thread_of (groups_in s) (names_in s) t)) (slice_get-within s.rows.items (t - 1) x lt) ∙ ap (λ y. Some (thread_of (groups_in s) (names_in s) t y)) (sym at)))

-- another row changes the thread with its id alone
pub seen_set : (s : Inside) (v : Stored) (h : Thread → Thread) (t : ℕ) (x y : Row) → stored s ≡ v → HasId t v.threads → ((u : ℕ) → thread_of (groups_in s) (names_in s) u y ≡ h (thread_of (groups_in s) (names_in s) u (get_or s.rows.items (t - 1) x))) → threads_of (groups_in s) (names_in s) 1 (set s.rows.items (t - 1) y) ≡ changed h v.threads (t - 1)
seen_set s v h t x y e id same =
    let n = seen_length s v e in
    let lt : t - 1 < length s.rows.items = omega (arith, id.from, id.to) in
    threads_set (groups_in s) (names_in s) h 1 s.rows.items (t - 1) y x lt same ∙ ap (λ (w : Stored). changed h w.threads (t - 1)) e

pub seen_group : (s : Inside) (v : Stored) (t : ℕ) → stored s ≡ v → HasId t v.threads → group_of (by_id v.threads t) ≡ unwrap_or (groups_in s t) 0
seen_group s v t e id =
    let n = seen_length s v e in
    ap (λ (w : Stored). group_of (by_id w.threads t)) (sym e) ∙ (ap group_of (thread_by_id (groups_in s) (names_in s) t s.rows.items id.from) ∙ group_at (groups_in s) (names_in s) t s.rows.items (t - 1) (omega (arith, id.from, id.to)))

pub seen_name : (s : Inside) (v : Stored) (t : ℕ) → stored s ≡ v → HasId t v.threads → name_of (by_id v.threads t) ≡ unwrap_or (names_in s t) []
seen_name s v t e id =
    let n = seen_length s v e in
    ap (λ (w : Stored). name_of (by_id w.threads t)) (sym e) ∙ (ap name_of (thread_by_id (groups_in s) (names_in s) t s.rows.items id.from) ∙ name_at (groups_in s) (names_in s) t s.rows.items (t - 1) (omega (arith, id.from, id.to)))

-- a new row makes a new thread
pub seen_push : (s : Inside) (v : Stored) (h : ℕ → Option ℕ) (p program arg group u : ℕ) → stored s ≡ v → u ≡ length s.rows.items + 1 → ((q : ℕ) → q ≢ u → h q ≡ groups_in s q) → unwrap_or (h u) 0 ≡ group → names_in s u ≡ None → threads_of h (names_in s) 1 (s.rows.items ++ record { proc_no = p; program = program; arg = arg; word = 0; marked = false; place = New } ∷ []) ≡ v.threads ++ fresh p program arg group ∷ []
seen_push s v h p program arg group u e next others has none =
    let row : Row = record { proc_no = p; program = program; arg = arg; word = 0; marked = false; place = New } in
    let made : thread_of h (names_in s) u row ≡ fresh p program arg group = rw (has, none) refl in
    threads_push (groups_in s) h (names_in s) s.rows.items row u next others ∙ (ap (λ x. threads_of (groups_in s) (names_in s) 1 s.rows.items ++ x ∷ []) made ∙ ap (λ (w : Stored). w.threads ++ fresh p program arg group ∷ []) e)
