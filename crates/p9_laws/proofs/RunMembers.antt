-- The threads of each state that a legal history of a valid setup comes to: each has one of the programs, and is in an open
-- proc.
use Rattle.std.proofs.Common.{◌≡◌, ℕ, ◌-◌, ◌≤◌, Bool, true, false, not, ◌&&◌, leb, List, [], ◌∷◌, map, Some, refl, inl, inr, arith}
use Rattle.std.specs.Prelude.{All}
use Rattle.std.proofs.lemmas.Bool.{and_parts, leb-true, le-leb}
use Rattle.std.proofs.lemmas.List.Elements.{All-head, All-tail}
use Rattle.p9_word.specs.Setup.{IsValid, IsThreadOf}
use Rattle.p9_word.specs.declared.setup.Setup.{Setup}
use Rattle.p9_word.specs.declared.setup.ThreadSetup.{ThreadSetup}
use Rattle.p9_manual.specs.declared.state.Thread.{Thread}
use Rattle.p9_manual.specs.State.{State, Outcome, by_id}
use Rattle.p9_manual.specs.History.{begin_state, new_thread}
use Rattle.p9_laws.proofs.Tallies.{tally, tally-at, tally-le}
use Rattle.p9_laws.proofs.Standing.{get_by_id}
use Rattle.p9_laws.proofs.RunAsked.{IsNewIn, IsShut}
use Rattle.p9_laws.proofs.RunSteps.{IsStepped}

-- a thread whose program isn't one of so many
abbrev pub is_foreign : ℕ → Thread → Bool
is_foreign programs x = not (leb 1 x.program && leb x.program programs)

own_program : (programs : ℕ) (b : Bool) (x : Thread) → (leb 1 x.program && leb x.program programs) ≡ b → (not b ≡ true → 1 ≤ 0) → (1 ≤ x.program) × (x.program ≤ programs)
own_program programs true x e h = let parts = and_parts (leb 1 x.program) (leb x.program programs) e in (leb-true 1 x.program parts.0, leb-true x.program programs parts.1)
own_program programs false x e h = absurd (let z = h refl in omega (arith, z))

pub program_at : (programs : ℕ) (threads : List Thread) (t : ℕ) (x : Thread) → tally (is_foreign programs) threads ≡ 0 → by_id threads t ≡ Some x → (1 ≤ x.program) × (x.program ≤ programs)
program_at programs threads t x none at =
    own_program programs (leb 1 x.program && leb x.program programs) x refl
    (λ foreign. let k = tally-at (is_foreign programs) threads (t - 1) x (get_by_id threads t x at) foreign in omega (arith, k, none))

none_foreign : (opened programs : ℕ) → (xs : List ThreadSetup) → All (IsThreadOf opened programs) xs → tally (is_foreign programs) (map new_thread xs) ≡ 0
none_foreign opened programs [] all = refl
none_foreign opened programs (x ∷ xs) all =
    let here = All-head (IsThreadOf opened programs) x xs all in
    let low : leb 1 x.program ≡ true = le-leb 1 x.program here.program.from in
    let high : leb x.program programs ≡ true = le-leb x.program programs here.program.to in
    let rest = none_foreign opened programs xs (All-tail (IsThreadOf opened programs) x xs all) in
    rw (low, high, rest) refl

-- a thread whose proc isn't one of so many
abbrev pub is_outside : ℕ → Thread → Bool
is_outside opened x = not (leb 1 x.proc_no && leb x.proc_no opened)

own_proc : (opened : ℕ) (b : Bool) (x : Thread) → (leb 1 x.proc_no && leb x.proc_no opened) ≡ b → (not b ≡ true → 1 ≤ 0) → (1 ≤ x.proc_no) × (x.proc_no ≤ opened)
own_proc opened true x e h = let parts = and_parts (leb 1 x.proc_no) (leb x.proc_no opened) e in (leb-true 1 x.proc_no parts.0, leb-true x.proc_no opened parts.1)
own_proc opened false x e h = absurd (let z = h refl in omega (arith, z))

pub proc_at : (opened : ℕ) (threads : List Thread) (t : ℕ) (x : Thread) → tally (is_outside opened) threads ≡ 0 → by_id threads t ≡ Some x → (1 ≤ x.proc_no) × (x.proc_no ≤ opened)
proc_at opened threads t x none at =
    own_proc opened (leb 1 x.proc_no && leb x.proc_no opened) x refl
    (λ outside. let k = tally-at (is_outside opened) threads (t - 1) x (get_by_id threads t x at) outside in omega (arith, k, none))

none_outside : (opened programs : ℕ) → (xs : List ThreadSetup) → All (IsThreadOf opened programs) xs → tally (is_outside opened) (map new_thread xs) ≡ 0
none_outside opened programs [] all = refl
none_outside opened programs (x ∷ xs) all =
    let here = All-head (IsThreadOf opened programs) x xs all in
    let low : leb 1 x.proc_no ≡ true = le-leb 1 x.proc_no here.proc_no.from in
    let high : leb x.proc_no opened ≡ true = le-leb x.proc_no opened here.proc_no.to in
    let rest = none_outside opened programs xs (All-tail (IsThreadOf opened programs) x xs all) in
    rw (low, high, rest) refl

-- each thread has one of the programs and is in an open proc, and each open proc has a place
pub record AreMembers (setup : Setup) (s : State) : Type 0 where
  pub programs : tally (is_foreign setup.programs) s.threads ≡ 0
  pub procs : tally (is_outside s.opened) s.threads ≡ 0
  pub opened : s.opened ≤ setup.places

pub begin_members : (setup : Setup) → IsValid setup → AreMembers setup (begin_state setup)
begin_members setup valid =
    record {
      programs = none_foreign setup.opened setup.programs setup.threads valid.threads;
      procs = none_outside setup.opened setup.programs setup.threads valid.threads;
      opened = valid.opened.to;
    }

inside : (low n : ℕ) → 1 ≤ n → n ≤ low → not (leb 1 n && leb n low) ≡ false
inside low n a b = rw (le-leb 1 n a, le-leb n low b) refl

foreign_shut : (setup : Setup) (s : State) (n : ℕ) → IsShut setup s n (is_foreign setup.programs)
foreign_shut setup s n =
    record {
      fading = λ x pl a h. h;
      kept = λ x y proc program place h. rw program at h;
      fresh = λ p program arg group h. inside setup.programs program h.own.0 h.own.1;
    }

outside_shut : (setup : Setup) (s : State) (n : ℕ) → AreMembers setup s → s.opened ≤ n → IsShut setup s n (is_outside n)
outside_shut setup s n members grows =
    record {
      fading = λ x pl a h. h;
      kept = λ x y proc program place h. rw proc at h;
      fresh = λ p program arg group h. new_inside p program h;
    }
  where
    new_inside : (p program : ℕ) → IsNewIn setup s n p program → not (leb 1 p && leb p n) ≡ false
    new_inside p program is = elim (is.proc_no) [
      | inl same ↦
          let own = proc_at s.opened s.threads is.t is.caller members.procs is.there in
          inside n p (omega (arith, same, own)) (omega (arith, same, own))
      | inr next ↦ inside n p (omega (arith, next)) (omega (arith, next))
    ]

outside_before : (low high : ℕ) → low ≤ high → (x : Thread) → is_outside high x ≡ true → is_outside low x ≡ true
outside_before low high le x h = outside_step (leb 1 x.proc_no && leb x.proc_no low) refl
  where
    outside_step : (b : Bool) → (leb 1 x.proc_no && leb x.proc_no low) ≡ b → not b ≡ true
    outside_step true e =
        let parts = and_parts (leb 1 x.proc_no) (leb x.proc_no low) e in
        let a = leb-true 1 x.proc_no parts.0 in
        let b = leb-true x.proc_no low parts.1 in
        let i = inside high x.proc_no a (omega (arith, b)) in
        cc (i, h)
    outside_step false e = refl

-- and it stays so
pub members_on : (setup : Setup) (s : State) (o : Outcome) → IsStepped setup s o → AreMembers setup s → AreMembers setup o.state
members_on setup s o is members =
    let programs = is.tallies (is_foreign setup.programs) (foreign_shut setup s o.state.opened) in
    let procs = is.tallies (is_outside o.state.opened) (outside_shut setup s o.state.opened members is.grows) in
    let before = tally-le (is_outside o.state.opened) (is_outside s.opened) (outside_before s.opened o.state.opened is.grows) s.threads in
    let none_foreign = members.programs in
    let none_outside = members.procs in
    record {
      programs = omega (arith, programs, none_foreign);
      procs = omega (arith, procs, before, none_outside);
      opened = is.within members.opened;
    }
