-- What the callers of a move know of its thread.
use Rattle.std.proofs.Common.{◌≡◌, ◌≢◌, ◌⊎◌, inl, inr, false, Option, Some, None, refl}
use Rattle.p9_manual.specs.declared.state.Place.{Place as Stand}
use Rattle.p9_manual.specs.declared.state.Place.TheVariants as stand
use Rattle.p9_manual.specs.declared.state.Thread.{Thread}
use Rattle.p9_manual.specs.Places.{is_ready, is_ended}
use Rattle.p9_manual.specs.Standing.{times_in_waits}
use Rattle.p9_sched.specs.declared.turns.Place.TheVariants as place
use Rattle.p9_sched.specs.Turns.{place_at, place_of}

-- a thread that is there, that stands in no line and lives
pub record IsAway (o : Option Thread) : Type 0 where
  pub thread : Thread
  pub there : o ≡ Some thread
  pub off_line : is_ready thread.place ≡ false
  pub alive : is_ended thread.place ≡ false

-- a thread that is there and lives
pub record IsAlive (o : Option Thread) : Type 0 where
  pub thread : Thread
  pub there : o ≡ Some thread
  pub alive : is_ended thread.place ≡ false

off_by : (p : Stand) → (place_at p ≡ place.Running) ⊎ (place_at p ≡ place.Waiting) → (is_ready p ≡ false) × (is_ended p ≡ false)
off_by stand.Running h = (refl, refl)
off_by stand.Waiting h = (refl, refl)
off_by stand.New (inl e) = cc
off_by stand.New (inr e) = cc
off_by (stand.Ready a) (inl e) = cc
off_by (stand.Ready a) (inr e) = cc
off_by stand.Ended (inl e) = cc
off_by stand.Ended (inr e) = cc

-- one that runs or waits
pub away : (o : Option Thread) → (place_of o ≡ place.Running) ⊎ (place_of o ≡ place.Waiting) → IsAway o
away None (inl e) = cc
away None (inr e) = cc
away (Some x) h =
    let both = off_by x.place h in
    record { thread = x; there = refl; off_line = both.0; alive = both.1 }

alive_by : (p : Stand) → place_at p ≢ place.Ended → is_ended p ≡ false
alive_by stand.Running h = refl
alive_by stand.Waiting h = refl
alive_by stand.New h = refl
alive_by (stand.Ready a) h = refl
alive_by stand.Ended h = absurd (h refl)

-- one that has not ended
pub alive : (o : Option Thread) → place_of o ≢ place.Ended → IsAlive o
alive None h = absurd (h refl)
alive (Some x) h = record { thread = x; there = refl; alive = alive_by x.place h }

-- one that runs stands in no wait
pub off_waits : (p : Stand) → place_at p ≡ place.Running → times_in_waits p ≡ 0
off_waits stand.Running e = refl
off_waits stand.Waiting e = cc
off_waits stand.New e = cc
off_waits (stand.Ready a) e = cc
off_waits stand.Ended e = cc
