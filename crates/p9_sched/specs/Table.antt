-- What the fields of the table keep.
use Rattle.std.specs.Prelude.{◌≡◌, ℕ, ◌+◌, ◌<◌, ◌≤◌, Bool, cond, None, length, nat_eq}
use Rattle.std.specs.Vec.{vec_len, vec_capacity}
use Rattle.indexmap.specs.IndexMap.{get, spare}
use Rattle.p9_sched.specs.Stored.{Stored, threads_of}
use Rattle.p9_sched.specs.declared.table.Table.TheInside.{Inside}

-- what callers see
abbrev pub stored : Inside → Stored
stored s =
    record {
      threads = threads_of (get nat_eq s.groups) (get nat_eq s.names) 1 s.rows.items;
      rooms = record { thread = s.thread_room; name = s.name_room; group = s.group_room };
    }

-- one, if its memory is there
abbrev pub one_if : Bool → ℕ
one_if b = cond b 1 0

-- there is the memory that the rooms say, and only threads that were made have a group or a name
pub record IsStored (s : Inside) : Type 0 where
  pub rows : vec_len s.rows + one_if s.thread_room ≤ vec_capacity s.rows
  pub groups : one_if s.thread_room + one_if s.group_room ≤ spare s.groups
  pub names : one_if s.name_room ≤ spare s.names
  pub no_groups : (t : ℕ) → length s.rows.items < t → get nat_eq s.groups t ≡ None
  pub no_names : (t : ℕ) → length s.rows.items < t → get nat_eq s.names t ≡ None
