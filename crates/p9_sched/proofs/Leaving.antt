-- A thread that runs leaves its lane.
use Rattle.std.proofs.Common.{◌≡◌, ℕ, ◌-◌, Bool, true, false, not, Option, Some, None, refl, sym, ap, subst}
use Rattle.std.proofs.lemmas.Bool.{eqb-true, eq-eqb}
use Rattle.std.specs.Option.{option_eq}
use Rattle.std.specs.Prelude.{nat_eq}
use Rattle.p9_sched.specs.Lined.{Lined, RunsOffLine, left}
use Rattle.p9_sched.proofs.Counts.{without-off}

-- what is not untrue
pub is_so : (b : Bool) → not b ≡ false → b ≡ true
is_so true e = refl
is_so false e = cc

ran : (t : ℕ) (running : Option ℕ) → option_eq nat_eq running (Some t) ≡ true → running ≡ Some t
ran t None e = cc
ran t (Some u) e = ap Some (eqb-true u t e)

left_here : (t : ℕ) (l : Lined) → l.running ≡ Some t → RunsOffLine t l → record l { living = l.living - 1; running = None } ≡ left t l
left_here t l at off = rw (at, eq-eqb t t refl, without-off t l.line (off at)) refl

-- the thread that runs stands in no line, so only who runs and how many live change
pub left_running : (t n : ℕ) (l m : Lined) → l ≡ m → n ≡ l.living - 1 → option_eq nat_eq l.running (Some t) ≡ true → RunsOffLine t m → record l { living = n; running = None } ≡ left t m
left_running t n l m same fewer e off =
    let here = left_here t l (ran t l.running e) (subst (RunsOffLine t) (sym same) off) in
    rw fewer (subst (λ k. record l { living = l.living - 1; running = None } ≡ left t k) same here)
