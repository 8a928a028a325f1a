-- How often a position occurs among the moves, the elements and the threads that wait: at most once, and not yet from n on.
use Rattle.std.proofs.Common.{◌≡◌, ℕ, zero, suc, ◌+◌, ◌-◌, ◌≤◌, Bool, true, false, not, cond, eqb, List, [], ◌∷◌, ◌++◌, Some, refl, arith, rules, tests}
use Rattle.std.specs.Prelude.{slice_get}
use Rattle.std.specs.List.{filter, find}
use Rattle.p9_manual.specs.declared.state.Channel.{Channel}
use Rattle.p9_manual.specs.declared.state.Element.{Element}
use Rattle.p9_manual.specs.declared.state.Party.{Party}
use Rattle.p9_manual.specs.Commit.{holding}
use Rattle.p9_laws.specs.Moves.{times_moved, elements_of}
use Rattle.p9_manual.specs.State.{Move, by_id, changed}
use Rattle.p9_manual.specs.Standing.{times}
use Rattle.p9_laws.proofs.Sound.Counts.{times-append, times_parts}
use Rattle.p9_laws.proofs.Sound.Places.{get_from_by_id}

-- f counts each position at most once, and none from n on
pub record OnceBelow (n : ℕ) (f : ℕ → ℕ) : Type 0 where
  pub once : (p : ℕ) → f p ≤ 1
  pub none_yet : (p : ℕ) → n ≤ p → f p ≡ 0

pub once_later : (n : ℕ) (f : ℕ → ℕ) → OnceBelow n f → OnceBelow (n + 1) f
once_later n f o = record { once = o.once; none_yet = λ p h. o.none_yet p (omega arith) }

pub once_less : (n : ℕ) (f g : ℕ → ℕ) → ((p : ℕ) → g p ≤ f p) → OnceBelow n f → OnceBelow n g
once_less n f g le o =
    record {
      once = λ p. let a = le p in let b = o.once p in omega arith;
      none_yet = λ p h. let a = le p in let b = o.none_yet p h in omega arith;
    }

more_step : (n p f g : ℕ) (b : Bool) → eqb n p ≡ b → (n ≤ p → f ≡ 0) → f ≤ 1 → g ≤ f + cond b 1 0 → g ≤ 1
more_step n p f g true e none one h = let same : n ≡ p = search (rules, tests) in let z = none (omega arith) in omega arith
more_step n p f g false e none one h = omega arith

past_step : (n p f g : ℕ) (b : Bool) → eqb n p ≡ b → n + 1 ≤ p → (n ≤ p → f ≡ 0) → g ≤ f + cond b 1 0 → g ≡ 0
past_step n p f g true e past none h = let same : n ≡ p = search (rules, tests) in absurd (omega arith)
past_step n p f g false e past none h = let z = none (omega arith) in omega arith

-- position n is counted once more
pub once_more : (n : ℕ) (f g : ℕ → ℕ) → ((p : ℕ) → g p ≤ f p + cond (eqb n p) 1 0) → OnceBelow n f → OnceBelow (n + 1) g
once_more n f g le o =
    record {
      once = λ p. more_step n p (f p) (g p) (eqb n p) refl (o.none_yet p) (o.once p) (le p);
      none_yet = λ p h. past_step n p (f p) (g p) (eqb n p) refl h (o.none_yet p) (le p);
    }

-- how often position p is one that a value moved from, one that an element came from, or one of a thread that waits
abbrev pub times_seen : List Move → List Channel → List Party → ℕ → ℕ
times_seen ms chans waits p = times_moved p ms + times (λ (e : Element). eqb e.from p) (elements_of chans) + times (λ (w : Party). eqb w.at p) waits

times_held : (q : Element → Bool) (elements : List Element) → (chans : List Channel) (i : ℕ) (chan : Channel) → slice_get chans i ≡ Some chan → times q (elements_of (changed (holding elements) chans i)) + times q chan.elements ≡ times q (elements_of chans) + times q elements
times_held q elements [] i chan e = cc
times_held q elements (x ∷ xs) zero chan e =
    let same : x ≡ chan = cc in
    let a = times-append q elements (elements_of xs) in
    let b = times-append q chan.elements (elements_of xs) in
    rw same (omega (arith, a, b))
times_held q elements (x ∷ xs) (suc i) chan e =
    let a = times-append q x.elements (elements_of xs) in
    let b = times-append q x.elements (elements_of (changed (holding elements) xs i)) in
    let k = times_held q elements xs i chan e in
    omega (arith, a, b, k)

-- the elements of all channels, where those of one are others
pub times_holding : (q : Element → Bool) (elements : List Element) (chans : List Channel) (c : ℕ) (chan : Channel) → by_id chans c ≡ Some chan → times q (elements_of (changed (holding elements) chans (c - 1))) + times q chan.elements ≡ times q (elements_of chans) + times q elements
times_holding q elements chans c chan e = times_held q elements chans (c - 1) chan (get_from_by_id chans c chan e)

-- a change that leaves the elements
pub times_same : (q : Element → Bool) (f : Channel → Channel) → ((x : Channel) → (f x).elements ≡ x.elements) → (chans : List Channel) (i : ℕ) → times q (elements_of (changed f chans i)) ≡ times q (elements_of chans)
times_same q f same [] i = refl
times_same q f same (x ∷ xs) zero = rw (same x) refl
times_same q f same (x ∷ xs) (suc i) =
    let a = times-append q x.elements (elements_of xs) in
    let b = times-append q x.elements (elements_of (changed f xs i)) in
    let k = times_same q f same xs i in
    omega (arith, a, b, k)

-- an empty channel more
pub times_created : (q : Element → Bool) (y : Channel) → y.elements ≡ [] → (chans : List Channel) → times q (elements_of (chans ++ y ∷ [])) ≡ times q (elements_of chans)
times_created q y none [] = rw none refl
times_created q y none (x ∷ xs) =
    let a = times-append q x.elements (elements_of xs) in
    let b = times-append q x.elements (elements_of (xs ++ y ∷ [])) in
    let k = times_created q y none xs in
    omega (arith, a, b, k)

-- no more pass of some of them
pub times_filter : {A : Type 0} (q p : A → Bool) (xs : List A) → times q (filter p xs) ≤ times q xs
times_filter q p xs = let k = times_parts q p xs in omega (arith, k)

here_step : {A : Type 0} (q : A → Bool) (b : Bool) (x : A) (xs rest : List A) → b ≡ true → times q rest ≤ times q xs → times q (cond (not b) (x ∷ rest) rest) + cond (q x) 1 0 ≤ cond (q x) 1 0 + times q xs
here_step q true x xs rest e h = omega arith
here_step q false x xs rest e h = cc

later_step : {A : Type 0} (q : A → Bool) (b : Bool) (x : A) (xs rest : List A) (n : ℕ) → times q rest + n ≤ times q xs → times q (cond b (x ∷ rest) rest) + n ≤ cond (q x) 1 0 + times q xs
later_step q true x xs rest n h = omega arith
later_step q false x xs rest n h = omega arith

found_step : {A : Type 0} (p q out : A → Bool) (b : Bool) (x w : A) (xs : List A) → out w ≡ true → cond b (Some x) (find p xs) ≡ Some w → (find p xs ≡ Some w → times q (filter (λ u. not (out u)) xs) + cond (q w) 1 0 ≤ times q xs) → times q (cond (not (out x)) (x ∷ filter (λ u. not (out u)) xs) (filter (λ u. not (out u)) xs)) + cond (q w) 1 0 ≤ cond (q x) 1 0 + times q xs
found_step p q out true x w xs o e later =
    let same : x ≡ w = cc in
    rw same (here_step q (out w) w xs (filter (λ u. not (out u)) xs) o (times_filter q (λ u. not (out u)) xs))
found_step p q out false x w xs o e later = later_step q (not (out x)) x xs (filter (λ u. not (out u)) xs) (cond (q w) 1 0) (later e)

-- what is found, and is then taken out, was counted
pub times_found : {A : Type 0} (p q out : A → Bool) (w : A) → out w ≡ true → (xs : List A) → find p xs ≡ Some w → times q (filter (λ u. not (out u)) xs) + cond (q w) 1 0 ≤ times q xs
times_found p q out w o [] e = cc
times_found p q out w o (x ∷ xs) e = found_step p q out (p x) x w xs o e (times_found p q out w o xs)
