-- Who waits at a lock, at a Rendez or with a tag: each queue is the part of the waits that waits for it. lock(2), rendezvous(2).
use Rattle.std.specs.Prelude.{ℕ, ◌==◌, Bool, true, false, ◌&&◌, ◌||◌, List, [], ◌∷◌, ◌++◌, Option, Some, None, if◌then◌else◌}
use Rattle.std.specs.List.{find}
use Rattle.p9_manual.specs.declared.locks.Sort.{Sort}
use Rattle.p9_manual.specs.declared.locks.Sort.TheVariants as sort
use Rattle.p9_manual.specs.declared.locks.LockWait.{LockWait}
use Rattle.p9_manual.specs.declared.locks.LockWait.TheVariants as wait
use Rattle.p9_manual.specs.declared.locks.LockWaiter.{LockWaiter}

-- the sorts are the same
abbrev pub same_sort : Sort → Sort → Bool
same_sort sort.Lock sort.Lock = true
same_sort sort.QLock sort.QLock = true
same_sort sort.Read sort.Read = true
same_sort sort.Write sort.Write = true
same_sort a b = false

-- what is waited for is the same
abbrev pub same_wait : LockWait → LockWait → Bool
same_wait (wait.Tag a) (wait.Tag b) = a == b
same_wait (wait.Lock r j) (wait.Lock s k) = same_sort r s && (j == k)
same_wait (wait.Sleep a) (wait.Sleep b) = a == b
same_wait a b = false

-- a thread that waits for this
abbrev pub waits_for : LockWait → LockWaiter → Bool
waits_for what w = same_wait w.what what

-- a thread that waits at RWLock k, to read or to write
abbrev pub waits_at_rw : ℕ → LockWaiter → Bool
waits_at_rw k w = waits_for (wait.Lock sort.Read k) w || waits_for (wait.Lock sort.Write k) w

-- the list without the first that passes
abbrev pub without_first : {A : Type 0} → (A → Bool) → List A → List A
without_first p [] = []
without_first p (x ∷ xs) = if p x then xs else x ∷ without_first p xs

-- the writer at the head of the queue of RWLock k, if a writer is
abbrev pub writer_of : ℕ → Option LockWaiter → Option ℕ
writer_of k (Some w) = if waits_for (wait.Lock sort.Write k) w then Some w.tid else None
writer_of k None = None

abbrev pub writer_first : ℕ → List LockWaiter → Option ℕ
writer_first k waits = writer_of k (find (waits_at_rw k) waits)

-- the readers in the queue of RWLock k up to its first writer, in order
abbrev pub readers_in : ℕ → List LockWaiter → List ℕ
readers_in k [] = []
readers_in k (w ∷ ws) =
    if waits_for (wait.Lock sort.Write k) w then []
    else if waits_for (wait.Lock sort.Read k) w then w.tid ∷ readers_in k ws
    else readers_in k ws

-- the waits without those readers
abbrev pub readers_left : ℕ → List LockWaiter → List LockWaiter
readers_left k [] = []
readers_left k (w ∷ ws) =
    if waits_for (wait.Lock sort.Write k) w then w ∷ ws
    else if waits_for (wait.Lock sort.Read k) w then readers_left k ws
    else w ∷ readers_left k ws

-- thread t waits for this, behind all others; with a tag it brings a value
abbrev pub joined : ℕ → LockWait → ℕ → List LockWaiter → List LockWaiter
joined t what value waits = waits ++ record { tid = t; what = what; value = value } ∷ []
