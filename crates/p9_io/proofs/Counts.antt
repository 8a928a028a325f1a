-- How many calls are begun, where one ioproc changes or all let threads go.
use Rattle.std.proofs.Common.{◌≡◌, ℕ, zero, suc, ◌+◌, ◌<◌, ◌≤◌, Bool, true, false, cond, List, [], ◌∷◌, ◌++◌, length, map, Option, Some, None, refl, ap, arith}
use Rattle.std.specs.Prelude.{◌||◌, slice_get, OnSome}
use Rattle.std.specs.List.{list_any}
use Rattle.p9_word.specs.declared.io_call.IoCall.{IoCall}
use Rattle.p9_word.specs.declared.io_call.Effect.{Effect}
use Rattle.p9_manual.specs.declared.state.Ioproc.{Ioproc}
use Rattle.p9_manual.specs.declared.state.Ioproc.TheVariants.{Unmade, Idle, Posted, Begun, Closed}
use Rattle.p9_manual.specs.State.{changed}
use Rattle.p9_manual.specs.Ends.{Gone, let_go}
use Rattle.p9_io.specs.declared.effects.Finished.{Finished}
use Rattle.p9_io.specs.Calls.{begun_weight, begun_count, finish_of}

-- one ioproc stands otherwise
pub count_changed : (ios : List Ioproc) (i : ℕ) (old new : Ioproc) → slice_get ios i ≡ Some old → begun_count (changed (λ _. new) ios i) + begun_weight old ≡ begun_count ios + begun_weight new
count_changed [] i old new e = absurd (cc e)
count_changed (x ∷ ios) zero old new e = let same : begun_weight x ≡ begun_weight old = ap begun_weight (some_is x old e) in omega arith
  where
    some_is : (x y : Ioproc) → Some x ≡ Some y → x ≡ y
    some_is x y e = cc
count_changed (x ∷ ios) (suc i) old new e = let h = count_changed ios i old new e in omega arith

weight_few : (io : Ioproc) → begun_weight io ≤ 1
weight_few Unmade = omega arith
weight_few Idle = omega arith
weight_few (Posted t call) = omega arith
weight_few (Begun t call) = omega arith
weight_few Closed = omega arith

pub count_few : (ios : List Ioproc) → begun_count ios ≤ length ios
count_few [] = omega arith
count_few (x ∷ ios) = let w = weight_few x in let h = count_few ios in omega arith

-- where an ioproc has no begun call there are fewer of them than ioprocs
pub count_fewer : (ios : List Ioproc) (i : ℕ) (io : Ioproc) → slice_get ios i ≡ Some io → begun_weight io ≡ 0 → begun_count ios < length ios
count_fewer [] i io e none = absurd (cc e)
count_fewer (x ∷ ios) zero io e none =
    let same : begun_weight x ≡ begun_weight io = ap begun_weight (some_is x io e) in
    let h = count_few ios in
    omega arith
  where
    some_is : (x y : Ioproc) → Some x ≡ Some y → x ≡ y
    some_is x y e = cc
count_fewer (x ∷ ios) (suc i) io e none = let w = weight_few x in let h = count_fewer ios i io e none in omega arith

weight_if : (b : Bool) (u : ℕ) (call : IoCall) → begun_weight (cond b Idle (Posted u call)) ≡ 0
weight_if true u call = refl
weight_if false u call = refl

weight_let_go : (ends : Gone) (io : Ioproc) → begun_weight (let_go ends io) ≡ begun_weight io
weight_let_go ends Unmade = refl
weight_let_go ends Idle = refl
weight_let_go ends (Posted u call) = weight_if (ends u) u call
weight_let_go ends (Begun u call) = refl
weight_let_go ends Closed = refl

pub count_let_go : (ends : Gone) (ios : List Ioproc) → begun_count (map (let_go ends) ios) ≡ begun_count ios
count_let_go ends [] = refl
count_let_go ends (x ∷ ios) = let e = weight_let_go ends x in let h = count_let_go ends ios in omega arith

pub count_push : (ios : List Ioproc) (io : Ioproc) → begun_count (ios ++ io ∷ []) ≡ begun_count ios + begun_weight io
count_push [] io = omega arith
count_push (x ∷ ios) io = let h = count_push ios io in omega arith

-- where a call is finished it was begun
finished_weight : (effect : Effect) (io : Ioproc) (r : Finished) → Some r ≡ finish_of effect (Some io) → begun_weight io ≡ 1
finished_weight effect Unmade r e = absurd (cc e)
finished_weight effect Idle r e = absurd (cc e)
finished_weight effect (Posted t call) r e = absurd (cc e)
finished_weight effect (Begun t call) r e = refl
finished_weight effect Closed r e = absurd (cc e)

pub finished_was_begun : (effect : Effect) (io : Ioproc) (r : Option Finished) → r ≡ finish_of effect (Some io) → OnSome r (begun_weight io ≡ 1)
finished_was_begun effect io None e = tt
finished_was_begun effect io (Some r) e = finished_weight effect io r e

-- a test of the items of a mapped list
pub any_map : {A B : Type 0} (f : A → B) (p : B → Bool) → (xs : List A) → list_any p (map f xs) ≡ list_any (λ x. p (f x)) xs
any_map f p [] = refl
any_map f p (x ∷ xs) = ap (λ b. p (f x) || b) (any_map f p xs)
