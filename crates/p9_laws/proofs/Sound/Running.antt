-- How many threads of a proc run after one was put somewhere.
use Rattle.std.proofs.Common.{◌≡◌, ℕ, zero, suc, ◌+◌, ◌≤◌, Bool, true, false, cond, ◌&&◌, eqb, List, [], ◌∷◌, Option, Some, None, refl, arith}
use Rattle.std.specs.Prelude.{slice_get}
use Rattle.p9_manual.specs.declared.state.Place.{Place}
use Rattle.p9_manual.specs.declared.state.Place.TheVariants.{Running, New, Ready, Waiting, Ended}
use Rattle.p9_manual.specs.declared.state.Thread.{Thread}
use Rattle.p9_manual.specs.Ends.{Gone, at_end, ended_if}
use Rattle.p9_manual.specs.State.{changed, at_place, each_from}
use Rattle.p9_manual.specs.Places.{runs_in, runs_there, is_running}
use Rattle.p9_manual.specs.Standing.{times, place_in}

-- a thread that isn't at the place Running isn't counted
pub at_rest : (b : Bool) (pl : Place) → is_running pl ≡ false → cond {A = ℕ} (b && is_running pl) 1 0 ≡ 0
at_rest true pl h = rw h refl
at_rest false pl h = refl

-- no more run where one was put where it doesn't
pub runs-changed : (p : ℕ) (pl : Place) → (threads : List Thread) (i : ℕ) → is_running pl ≡ false → times (runs_in p) (changed (at_place pl) threads i) ≤ times (runs_in p) threads
runs-changed p pl [] i h = omega arith
runs-changed p pl (x ∷ xs) zero h = let r = at_rest (eqb x.proc_no p) pl h in omega (arith, r)
runs-changed p pl (x ∷ xs) (suc i) h = omega (arith, runs-changed p pl xs i h)

ended_rests : (p : ℕ) (b : Bool) (x : Thread) → cond {A = ℕ} (runs_in p (cond b (at_end x) x)) 1 0 ≤ cond {A = ℕ} (runs_in p x) 1 0
ended_rests p true x = let r = at_rest (eqb x.proc_no p) Ended refl in omega (arith, r)
ended_rests p false x = omega arith

-- nor where some have ended
pub runs-ended : (ends : Gone) (p : ℕ) → (n : ℕ) (threads : List Thread) → times (runs_in p) (each_from (ended_if ends) n threads) ≤ times (runs_in p) threads
runs-ended ends p n [] = omega arith
runs-ended ends p n (x ∷ xs) = let one = ended_rests p (ends n) x in let rest = runs-ended ends p (suc n) xs in omega (arith, one, rest)

at_most_one : (b : Bool) → cond b 1 0 ≤ 1
at_most_one true = omega arith
at_most_one false = omega arith

-- one more runs at most where one was made to
pub runs-started : (p : ℕ) → (threads : List Thread) (i : ℕ) → times (runs_in p) (changed (at_place Running) threads i) ≤ times (runs_in p) threads + 1
runs-started p [] i = omega arith
runs-started p (x ∷ xs) zero = let r = at_most_one (eqb x.proc_no p && true) in omega (arith, r)
runs-started p (x ∷ xs) (suc i) = omega (arith, runs-started p xs i)

elsewhere : (b : Bool) (pl : Place) → b ≡ false → cond {A = ℕ} (b && is_running pl) 1 0 ≡ 0
elsewhere b pl h = rw h refl

-- and none in another proc
pub runs-started_elsewhere : (p : ℕ) → (threads : List Thread) (i : ℕ) (thread : Thread) → slice_get threads i ≡ Some thread → eqb thread.proc_no p ≡ false → times (runs_in p) (changed (at_place Running) threads i) ≤ times (runs_in p) threads
runs-started_elsewhere p [] i thread at ne = omega arith
runs-started_elsewhere p (x ∷ xs) zero thread at ne =
    let same : x ≡ thread = cc in
    let r = elsewhere (eqb x.proc_no p) Running (rw same ne) in omega (arith, r)
runs-started_elsewhere p (x ∷ xs) (suc i) thread at ne = omega (arith, runs-started_elsewhere p xs i thread at ne)

running_place : (b : Bool) (pl : Place) → (b && is_running pl) ≡ true → pl ≡ Running
running_place true Running h = refl
running_place true New h = cc
running_place true (Ready a) h = cc
running_place true Waiting h = cc
running_place true Ended h = cc
running_place false pl h = cc

-- a thread that runs in a proc is at the place Running
pub place_runs : (p : ℕ) (o : Option Thread) → runs_there p o ≡ true → place_in o ≡ Running
place_runs p None h = cc
place_runs p (Some thread) h = running_place (eqb thread.proc_no p) thread.place h
