-- What is told of paths while plans are used up, and when a path gets new contents.
use Rattle.std.proofs.Common.{◌≡◌, ◌≤◌, ℕ, List, [], ◌∷◌, Bool, true, false, refl, ap, sym, ◌∙◌, arith}
use Rattle.std.specs.Prelude.{cond, bytes_eq, not, ◌&&◌, is_some}
use Rattle.p9_outside.specs.declared.memory.files.Held.{Held}
use Rattle.p9_outside.specs.declared.memory.plans.Plan.{Plan}
use Rattle.p9_outside.specs.declared.memory.plans.PathFail.{PathFail}
use Rattle.p9_outside.specs.declared.memory.plans.PathFail.TheVariants.{Source, Sink, Close, Read, Write}
use Rattle.p9_outside.specs.Memory.{none_fails, unless_planned}
use Rattle.p9_outside.specs.MemoryFiles.{Parts, found, told_of}
use Rattle.p9_outside.specs.Plans.{same_fail, is_plan, is_planned, spent, number_of, numbers}
use Rattle.p9_outside.specs.Promised.{KeepsTold}

-- what is in the files, with no fault
abbrev parts : List Held → List Plan → ℕ → Parts
parts held plans room = record { held = held; plans = plans; room = room; faults = 0 }

less_step : (q : Plan) (plans less : List Plan) (p : List ℕ) (f : PathFail) (is : Bool) → is_planned (q ∷ plans) p f ≡ false → (is_planned plans p f ≡ false → is_planned less p f ≡ false) → is_planned (cond is plans (q ∷ less)) p f ≡ false
less_step q plans less p f true none on = grind arith
less_step q plans less p f false none on = grind arith

-- what wasn't planned isn't planned once a plan is used up
pub less_planned : (plans : List Plan) (path p : List ℕ) (fail f : PathFail) → is_planned plans p f ≡ false → is_planned (spent plans path fail) p f ≡ false
less_planned [] path p fail f none = refl
less_planned (q ∷ plans) path p fail f none = less_step q plans (spent plans path fail) p f (is_plan q path fail) none (less_planned plans path p fail f)

-- a plan that is used up when a path is opened or closed is of no read and of no write
no_number : (reads : Bool) (a b : PathFail) → same_fail a b ≡ true → number_of reads b ≡ [] → number_of reads a ≡ []
no_number true Source b e none = refl
no_number false Source b e none = refl
no_number true Sink b e none = refl
no_number false Sink b e none = refl
no_number true Close b e none = refl
no_number false Close b e none = refl
no_number true (Write m) b e none = refl
no_number false (Read m) b e none = refl
no_number true (Read m) (Read n) e none = absurd (cc none)
no_number true (Read m) Source e none = absurd (cc e)
no_number true (Read m) Sink e none = absurd (cc e)
no_number true (Read m) Close e none = absurd (cc e)
no_number true (Read m) (Write n) e none = absurd (cc e)
no_number false (Write m) (Write n) e none = absurd (cc none)
no_number false (Write m) Source e none = absurd (cc e)
no_number false (Write m) Sink e none = absurd (cc e)
no_number false (Write m) Close e none = absurd (cc e)
no_number false (Write m) (Read n) e none = absurd (cc e)

both : (a b : Bool) → (a && b) ≡ true → b ≡ true
both true b e = e
both false b e = absurd (cc e)

cond_none : (is : Bool) (ns : List ℕ) → ns ≡ [] → cond is ns [] ≡ []
cond_none true ns e = e
cond_none false ns e = refl

numbers_step : (reads : Bool) (q : Plan) (plans less : List Plan) (path p : List ℕ) (fail : PathFail) (is : Bool) → is_plan q path fail ≡ is → number_of reads fail ≡ [] → numbers reads less p ≡ numbers reads plans p → numbers reads (cond is plans (q ∷ less)) p ≡ numbers reads (q ∷ plans) p
numbers_step reads q plans less path p fail true e none on =
    let no = cond_none (bytes_eq q.path p) (number_of reads q.fail) (no_number reads q.fail fail (both _ _ e) none) in
    rw no refl
numbers_step reads q plans less path p fail false e none on = rw on refl

-- the reads and the writes that are planned to fail stay so
pub numbers_spent : (reads : Bool) (plans : List Plan) (path p : List ℕ) (fail : PathFail) → number_of reads fail ≡ [] → numbers reads (spent plans path fail) p ≡ numbers reads plans p
numbers_spent reads [] path p fail none = refl
numbers_spent reads (q ∷ plans) path p fail none = numbers_step reads q plans (spent plans path fail) path p fail (is_plan q path fail) refl none (numbers_spent reads plans path p fail none)

not_false : (b : Bool) → not b ≡ true → b ≡ false
not_false false e = refl
not_false true e = absurd (cc e)

not_true : (b : Bool) → b ≡ false → not b ≡ true
not_true false e = refl
not_true true e = absurd (cc e)

still : (a b : Bool) → (a ≡ false → b ≡ false) → not a ≡ true → not b ≡ true
still a b on e = not_true b (on (not_false a e))

still_found : (a b some : Bool) → (a ≡ false → b ≡ false) → (not a && some) ≡ true → (not b && some) ≡ true
still_found true b some on e = absurd (cc e)
still_found false b some on e = rw (on refl) e

same_least : (a b : ℕ) → a ≡ b → a ≤ b
same_least a b e = omega (arith, e)

-- what was told stays told where a plan of an opening or a closing is used up, and all else stays; no count of faults
-- matters
pub told_spent : (held : List Held) (plans less : List Plan) (room : ℕ) (path : List ℕ) (fail : PathFail) → number_of true fail ≡ [] → number_of false fail ≡ [] → less ≡ spent plans path fail → KeepsTold (told_of (parts held plans room)) (told_of (parts held less room))
told_spent held plans less room path fail no_read no_write is p =
    rw is (record {
      steady = λ e. ap none_fails (numbers_spent true plans path p fail no_read) ∙ e;
      firm = same_least _ _ (sym (ap (λ ns. unless_planned ns room) (numbers_spent false plans path p fail no_write)));
      found = still_found _ _ _ (less_planned plans path p fail Source);
      made = still _ _ (less_planned plans path p fail Sink);
      closes = still _ _ (less_planned plans path p fail Close);
    })

found_on : (is a b : Bool) → (a ≡ true → b ≡ true) → (is && a) ≡ true → (is && b) ≡ true
found_on true a b on e = on e
found_on false a b on e = e

-- what was told stays told where no contents go and the plans and the room stay
pub told_kept : (held held' : List Held) (plans plans' : List Plan) (room : ℕ) → plans' ≡ plans → ((p : List ℕ) → is_some (found held p) ≡ true → is_some (found held' p) ≡ true) → KeepsTold (told_of (parts held plans room)) (told_of (parts held' plans' room))
told_kept held held' plans plans' room is on p =
    rw is (record {
      steady = λ e. e;
      firm = omega arith;
      found = λ e. found_on _ _ _ (on p) e;
      made = λ e. e;
      closes = λ e. e;
    })
