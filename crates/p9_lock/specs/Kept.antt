-- What the fields keep.
use Rattle.std.specs.Prelude.{ℕ, ◌+◌, ◌==◌, ◌&&◌, Bool, cond, List, [], ◌∷◌, Option, map}
use Rattle.std.specs.List.{filter}
use Rattle.p9_manual.specs.Holds.{RwHold}
use Rattle.p9_lock.specs.declared.readers.Reader.{Reader}

-- one, if its memory is there
abbrev pub one_if : Bool → ℕ
one_if b = cond b 1 0

-- one hold of thread t as a reader of RWLock k
abbrev pub reads : ℕ → ℕ → Reader → Bool
reads t k r = (r.lock == k) && (r.tid == t)

-- the readers of RWLock k, one as often as it holds it
abbrev pub readers_at : ℕ → List Reader → List ℕ
readers_at k rs = map (λ r. r.tid) (filter (λ r. r.lock == k) rs)

-- who holds the RWLocks from number k on, by their writers and the readers of all
abbrev pub rw_holds : ℕ → List (Option ℕ) → List Reader → List RwHold
rw_holds k [] rs = []
rw_holds k (w ∷ ws) rs = record { writer = w; readers = readers_at k rs } ∷ rw_holds (k + 1) ws rs
