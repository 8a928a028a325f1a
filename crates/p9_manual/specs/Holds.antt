-- Who holds the locks, and what the Refs have. lock(2).
use Rattle.std.specs.Prelude.{ℕ, List, Option}

-- who holds a reading and writing lock: the writer, or the readers, one as often as it holds it. lock(2)
pub record RwHold : Type 0 where
  pub writer : Option ℕ
  pub readers : List ℕ

-- the holder of each Lock and QLock, the holders of each RWLock, and the value of each Ref. lock(2)
pub record Holds : Type 0 where
  pub locks : List (Option ℕ)
  pub qlocks : List (Option ℕ)
  pub rwlocks : List RwHold
  pub refs : List ℕ
