-- A reader that gives one of its holds up, as the last one and else.
use Rattle.std.proofs.Common.{◌≡◌, ℕ, true, false, not, List, [], ◌∷◌, ◌++◌, ◌==◌, Option, Some, None, IsSome, refl, sym, ap, ◌∙◌, rules}
use Rattle.std.specs.List.{list_any}
use Rattle.p9_manual.specs.declared.locks.LockWaiter.{LockWaiter}
use Rattle.p9_manual.specs.Holds.{Holds, RwHold}
use Rattle.p9_manual.specs.Claims.{rw_hold, rw_at, is_empty, with_rwlock}
use Rattle.p9_manual.specs.Queues.{writer_first, readers_in}
use Rattle.p9_manual.specs.State.{by_id}
use Rattle.p9_manual.specs.Unlocks.{Grant, rw_passed, read_released}
use Rattle.p9_lock.specs.Waiting.{held_so}
use Rattle.p9_lock.proofs.Held.{held_get, held_twice}

-- one who reads an RWLock reads one that is there
pub read_there : (t : ℕ) (o : Option RwHold) → list_any (λ r. r == t) (rw_hold o).readers ≡ true → IsSome o
read_there t None e = absurd (cc e)
read_there t (Some h) e = search rules

-- how it was held before makes no difference
passed_after : (k : ℕ) (readers : List ℕ) (next : Option ℕ) (g : RwHold) (h : Holds) (ws : List LockWaiter) → rw_passed k readers next (with_rwlock k g h) ws ≡ rw_passed k readers next h ws
passed_after k readers None g h ws =
    ap (λ (xs : List RwHold). record { holds = record h { rwlocks = xs }; waits = (rw_passed k readers None h ws).waits; granted = (rw_passed k readers None h ws).granted }) (held_twice k (record { writer = None; readers = readers ++ readers_in k ws }) g h.rwlocks)
passed_after k readers (Some t) g h ws =
    ap (λ (xs : List RwHold). record { holds = record h { rwlocks = xs }; waits = (rw_passed k readers (Some t) h ws).waits; granted = t ∷ [] }) (held_twice k (record { writer = Some t; readers = readers }) g h.rwlocks)

left_is : (k : ℕ) (g : RwHold) (rws xs : List RwHold) → rws ≡ held_so k g xs → IsSome (by_id xs k) → (rw_hold (by_id rws k)).readers ≡ g.readers
left_is k g rws xs is there = rw (is, held_get k g xs there) refl

last_by : (k : ℕ) (left : List ℕ) (h : Holds) (ws : List LockWaiter) → not (is_empty left) ≡ false → rw_passed k left (writer_first k ws) (with_rwlock k (record (rw_at k h) { readers = left }) h) ws ≡ read_released k left h ws
last_by k [] h ws e = passed_after k [] (writer_first k ws) (record (rw_at k h) { readers = [] }) h ws
last_by k (r ∷ rs) h ws e = absurd (cc e)

-- no reader is left
pub last_reader : (k : ℕ) (left : List ℕ) (h : Holds) (rws : List RwHold) (ws : List LockWaiter) → rws ≡ held_so k (record (rw_at k h) { readers = left }) h.rwlocks → IsSome (by_id h.rwlocks k) → not (is_empty (rw_hold (by_id rws k)).readers) ≡ false → rw_passed k (rw_hold (by_id rws k)).readers (writer_first k ws) (record h { rwlocks = rws }) ws ≡ read_released k left h ws
last_reader k left h rws ws is there none =
    let readers = left_is k (record (rw_at k h) { readers = left }) rws h.rwlocks is there in
    rw (readers, is) (last_by k left h ws (ap (λ (rs : List ℕ). not (is_empty rs)) (sym readers) ∙ none))

others_by : (k : ℕ) (left : List ℕ) (h : Holds) (ws : List LockWaiter) → not (is_empty left) ≡ true → let g : Grant = record { holds = with_rwlock k (record (rw_at k h) { readers = left }) h; waits = ws; granted = [] } in g ≡ read_released k left h ws
others_by k [] h ws e = absurd (cc e)
others_by k (r ∷ rs) h ws e = refl

-- other readers are left, and nobody is granted it
pub other_readers : (k : ℕ) (left : List ℕ) (h : Holds) (rws : List RwHold) (ws : List LockWaiter) → rws ≡ held_so k (record (rw_at k h) { readers = left }) h.rwlocks → IsSome (by_id h.rwlocks k) → not (is_empty (rw_hold (by_id rws k)).readers) ≡ true → let g : Grant = record { holds = record h { rwlocks = rws }; waits = ws; granted = [] } in g ≡ read_released k left h ws
other_readers k left h rws ws is there some =
    let readers = left_is k (record (rw_at k h) { readers = left }) rws h.rwlocks is there in
    rw is (others_by k left h ws (ap (λ (rs : List ℕ). not (is_empty rs)) (sym readers) ∙ some))
