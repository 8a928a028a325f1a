-- What callers see of the locks, and what the fields keep.
use Rattle.std.specs.Prelude.{◌≤◌, ◌+◌, length}
use Rattle.p9_lock.specs.declared.locks.Locks.TheInside.{Inside}
use Rattle.p9_lock.specs.Kept.{one_if}
use Rattle.p9_lock.specs.Locking.{Locking}

-- what callers see
abbrev pub shown : Inside → Locking
shown s =
    record {
      holds = record { locks = s.locks.items; qlocks = s.qlocks.items; rwlocks = s.rwlocks.rwlocks; refs = s.refs.items };
      rendezes = s.rendezes.items;
      waits = s.waits.waits;
      room = s.waits.room;
    }

-- there is memory for each thread that waits to read, and for one more reader, if that was taken
pub record IsKept (s : Inside) : Type 0 where
  pub readers : length s.waits.waits + one_if s.waits.room ≤ s.rwlocks.spare
