-- The memory that a schedule has at hand.
use Rattle.std.specs.Prelude.{Bool, true, false}

-- whether a reserve gave room for one further thread, name and group that wasn't used since
pub record Rooms : Type 0 where
  pub thread : Bool
  pub name : Bool
  pub group : Bool

abbrev pub all_rooms : Rooms
all_rooms = record { thread = true; name = true; group = true }

abbrev pub no_rooms : Rooms
no_rooms = record { thread = false; name = false; group = false }
