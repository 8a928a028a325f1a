-- What a new room of one line does to the rooms of all.
use Rattle.std.proofs.Common.{◌≡◌, ◌≢◌, ℕ, ◌+◌, ◌<◌, ◌≤◌, ◌⊎◌, inl, inr, List, length, get_or, set, IfSome, arith}
use Rattle.std.specs.Prelude.{slice_get}
use Rattle.p9_sched.specs.Lined.{Lined, room_at, HasSpare}
use Rattle.p9_sched.proofs.Lists.{at_or_not, slice_get-within, slice_get-set_same, slice_get-set_other}

room_at_set : (xs : List Lined) (i k : ℕ) (y d : Lined) → i < length xs → (get_or xs i d).room ≤ y.room → (k ≡ i) ⊎ (k ≢ i) → room_at (slice_get xs k) ≤ room_at (slice_get (set xs i y) k)
room_at_set xs i k y d lt le (inl e) = rw (e, slice_get-within xs i d lt, slice_get-set_same xs i y lt) le
room_at_set xs i k y d lt le (inr ne) = rw (slice_get-set_other xs i k y ne) (omega arith)

-- no line has less room
pub more_room : (xs : List Lined) (i k : ℕ) (y d : Lined) → i < length xs → (get_or xs i d).room ≤ y.room → room_at (slice_get xs k) ≤ room_at (slice_get (set xs i y) k)
more_room xs i k y d lt le = room_at_set xs i k y d lt le (at_or_not i k)

spare_set : (xs : List Lined) (i k : ℕ) (y : Lined) → i < length xs → HasSpare y → ((j : ℕ) → j < i → IfSome (slice_get xs j) HasSpare) → k < i + 1 → (k ≡ i) ⊎ (k ≢ i) → IfSome (slice_get (set xs i y) k) HasSpare
spare_set xs i k y lt has below le (inl e) = rw (e, slice_get-set_same xs i y lt) has
spare_set xs i k y lt has below le (inr ne) = rw (slice_get-set_other xs i k y ne) (below k (omega arith))

-- one more line has spare
pub more_spare : (xs : List Lined) (i k : ℕ) (y : Lined) → i < length xs → HasSpare y → ((j : ℕ) → j < i → IfSome (slice_get xs j) HasSpare) → k < i + 1 → IfSome (slice_get (set xs i y) k) HasSpare
more_spare xs i k y lt has below le = spare_set xs i k y lt has below le (at_or_not i k)
