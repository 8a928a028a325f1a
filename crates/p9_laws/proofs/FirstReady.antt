-- The first ready thread of a proc: the one that the line gives, where the proc isn't held.
use Rattle.std.proofs.Common.{◌≡◌, ℕ, Bool, true, false, cond, List, Option, Some, None, refl}
use Rattle.p9_manual.specs.Held.{is_held}
use Rattle.p9_manual.specs.Next.{first_ready}
use Rattle.p9_manual.specs.Places.{is_of}
use Rattle.p9_manual.specs.State.{State, by_id, pick}

-- thread t is one of proc p
abbrev pub in_proc : ℕ → State → ℕ → Bool
in_proc p s t = is_of p (by_id s.threads t)

unless_held : {A : Type 0} (b : Bool) (o : Option A) (x : A) → cond b None o ≡ Some x → (b ≡ false) × (o ≡ Some x)
unless_held true o x e = cc
unless_held false o x e = (refl, e)

-- where a proc has one, it isn't held, and the line gives that thread
pub first_parts : (p : ℕ) (s : State) (found : ℕ × List ℕ) → first_ready p s ≡ Some found → (is_held p s ≡ false) × (pick (in_proc p s) s.line ≡ Some found)
first_parts p s found e = unless_held (is_held p s) (pick (in_proc p s) s.line) found e
