use Rattle.std.proofs.Common.{◌≡◌, ℕ, ◌+◌, ◌≤◌, Bool, true, false, cond, ◌||◌, List, [], ◌∷◌, refl, arith, rules, tests}
use Rattle.std.specs.Prelude.{nat_le, nat_lt}
use Rattle.std.specs.List.{list_any}
use Rattle.p9_manual.specs.Places.{lives_in}
use Rattle.p9_manual.specs.Standing.{times}
use Rattle.p9_sched.specs.Schedule.{Schedule}
use Rattle.p9_signal_calls.specs.Affects.{is_alive_in}
use Rattle.p9_signal_calls.proofs.notes.is_alive.Goals as goal

counted_step : (b d : Bool) (n : ℕ) → nat_lt 0 n ≡ d → nat_lt 0 (cond b 1 0 + n) ≡ (b || d)
counted_step true d n e = search (rules, tests)
counted_step false d n e = let same : 0 + n ≡ n = omega arith in rw same e

counted : {A : Type 0} (q : A → Bool) → (xs : List A) → nat_lt 0 (times q xs) ≡ list_any q xs
counted q [] = refl
counted q (x ∷ xs) = counted_step (q x) (list_any q xs) (times q xs) (counted q xs)

living : (p n : ℕ) (sched : Schedule) → 1 ≤ p → p ≤ sched.opened → n ≡ times (lives_in p) sched.threads → nat_lt 0 n ≡ is_alive_in p sched
living p n sched a b e =
    let first : nat_lt 0 p ≡ true = search (rules, tests) in
    let second : nat_le p sched.opened ≡ true = search (rules, tests) in
    rw (first, second, e) (counted (lives_in p) sched.threads)

pub returns : goal.returns
returns c = living c.args.p c.living.result c.args.sched.now (omega arith) (omega arith) c.living.ensures
