-- What the lane of a proc says of its threads.
use Rattle.std.proofs.Common.{◌≡◌, ◌≢◌, ◌⊎◌, inl, inr, ℕ, zero, suc, ◌+◌, ◌-◌, ◌≤◌, Bool, true, false, List, [], ◌∷◌, length, Option, Some, None, IfSome, MatchOption, refl, sym, ap, ◌∙◌, arith}
use Rattle.std.proofs.lemmas.Bool.{eq-eqb, eqb-true}
use Rattle.std.specs.Prelude.{◌==◌, ◌&&◌, ◌||◌, option_map, slice_get}
use Rattle.std.specs.List.{list_any}
use Rattle.p9_manual.specs.declared.state.Place.{Place}
use Rattle.p9_manual.specs.declared.state.Place.TheVariants.{Running, New, Ready, Waiting, Ended}
use Rattle.p9_manual.specs.declared.state.Thread.{Thread}
use Rattle.p9_manual.specs.Places.{is_ready, is_ended, runs_in, runs_there}
use Rattle.p9_manual.specs.Standing.{times}
use Rattle.p9_manual.specs.State.{by_id}
use Rattle.p9_sched.specs.Kept.{IsLane, IsSound, is_at, ready_there}
use Rattle.p9_sched.specs.Lined.{Lined, line_at}
use Rattle.p9_sched.specs.Table.{one_if}
use Rattle.p9_sched.specs.Turns.{is_ready_in}
use Rattle.p9_sched.proofs.Lists.{at_or_not, by_id_at}
use Rattle.p9_sched.proofs.Sound.{one_of}

-- how many stand in the line
pub line_count : (p : ℕ) (threads : List Thread) (ls : List Lined) (more : Bool) (l : Lined) → by_id ls p ≡ Some l → IsSound threads ls more → length (line_at (by_id ls p)) ≡ times (is_ready_in p) threads
line_count p threads ls more l at s =
    let k : IsLane p threads more l = one_of (by_id ls p) (IsLane p threads more) l at (s.each p) in
    ap (λ o. length (line_at o)) at ∙ k.ready

none_runs : (p : ℕ) (threads : List Thread) → ((i : ℕ) → runs_there p (slice_get threads i) ≡ false) → list_any (runs_in p) threads ≡ false
none_runs p [] h = refl
none_runs p (x ∷ threads) h = rw (h 0) (none_runs p threads (λ i. h (suc i)))

or_false : (a b : Bool) → (a || b) ≡ false → (a ≡ false) × (b ≡ false)
or_false true b e = cc
or_false false b e = (refl, e)

none_there : (p : ℕ) (threads : List Thread) (i : ℕ) → list_any (runs_in p) threads ≡ false → runs_there p (slice_get threads i) ≡ false
none_there p [] i e = refl
none_there p (x ∷ threads) zero e = (or_false (runs_in p x) (list_any (runs_in p) threads) e).0
none_there p (x ∷ threads) (suc i) e = none_there p threads i (or_false (runs_in p x) (list_any (runs_in p) threads) e).1

none_by : (p : ℕ) (threads : List Thread) (t : ℕ) → list_any (runs_in p) threads ≡ false → (t ≡ 0) ⊎ (t ≢ 0) → runs_there p (by_id threads t) ≡ false
none_by p threads t e (inl z) = rw z refl
none_by p threads t e (inr ne) = ap (runs_there p) (by_id_at threads t (omega arith)) ∙ none_there p threads (t - 1) e

-- no thread of an idle proc runs
pub idle_there : (p : ℕ) (threads : List Thread) → list_any (runs_in p) threads ≡ false → (t : ℕ) → runs_there p (by_id threads t) ≡ false
idle_there p threads e t = none_by p threads t e (at_or_not 0 t)

pub runner_by : (p : ℕ) (threads : List Thread) (r : Option ℕ) → ((t : ℕ) → is_at r t ≡ runs_there p (by_id threads t)) → MatchOption r (list_any (runs_in p) threads ≡ false) (λ t. runs_there p (by_id threads t) ≡ true)
runner_by p threads None k =
    none_runs p threads (λ i. ap (runs_there p) (sym (by_id_at threads (i + 1) (omega arith) ∙ ap (slice_get threads) (omega arith))) ∙ sym (k (i + 1)))
runner_by p threads (Some t) k = sym (k t) ∙ eq-eqb t t refl

-- the thread that runs in a proc
pub runner : (p : ℕ) (threads : List Thread) (ls : List Lined) (more : Bool) (l : Lined) (r : Option ℕ) → by_id ls p ≡ Some l → option_map (λ (m : Lined). m.running) (by_id ls p) ≡ Some r → IsSound threads ls more → MatchOption r (list_any (runs_in p) threads ≡ false) (λ t. runs_there p (by_id threads t) ≡ true)
runner p threads ls more l r at e s =
    let k : IsLane p threads more l = one_of (by_id ls p) (IsLane p threads more) l at (s.each p) in
    let same : Some l.running ≡ Some r = ap (option_map (λ (m : Lined). m.running)) (sym at) ∙ e in
    let is : l.running ≡ r = cc in
    runner_by p threads r (λ t. ap (λ q. is_at q t) (sym is) ∙ k.running t)

-- the first thread in a line is ready
pub record IsNext (p : ℕ) (threads : List Thread) (line : List ℕ) (t : ℕ) : Type 0 where
  pub thread : Thread
  pub there : by_id threads t ≡ Some thread
  pub mine : thread.proc_no ≡ p
  pub on : is_ready thread.place ≡ true
  pub alive : is_ended thread.place ≡ false
  pub rest : List ℕ
  pub line_is : line ≡ t ∷ rest

ready_alive : (pl : Place) → is_ready pl ≡ true → is_ended pl ≡ false
ready_alive New e = refl
ready_alive (Ready a) e = refl
ready_alive Running e = refl
ready_alive Waiting e = refl
ready_alive Ended e = cc

and_true : (a b : Bool) → 1 ≤ one_if (a && b) → (a ≡ true) × (b ≡ true)
and_true true true e = (refl, refl)
and_true true false e = absurd (omega arith)
and_true false b e = absurd (omega arith)

next_by : (p : ℕ) (threads : List Thread) (t : ℕ) (rest : List ℕ) (o : Option Thread) → by_id threads t ≡ o → 1 ≤ one_if (ready_there p o) → IsNext p threads (t ∷ rest) t
next_by p threads t rest None at le = absurd (omega arith)
next_by p threads t rest (Some x) at le =
    let both = and_true (x.proc_no == p) (is_ready x.place) le in
    record {
      thread = x;
      there = at;
      mine = eqb-true x.proc_no p both.0;
      on = both.1;
      alive = ready_alive x.place both.1;
      rest = rest;
      line_is = refl;
    }

next_in_line : (p : ℕ) (threads : List Thread) (line : List ℕ) (t : ℕ) → ((u : ℕ) → times (λ v. v == u) line ≡ one_if (ready_there p (by_id threads u))) → slice_get line 0 ≡ Some t → IsNext p threads line t
next_in_line p threads [] t k e = cc
next_in_line p threads (u ∷ rest) t k e =
    let same : u ≡ t = cc in
    let count = k t in
    let mine = ap one_if (eq-eqb u t same) in
    let found = next_by p threads t rest (by_id threads t) refl (omega arith) in
    rw same found

next_of : (p : ℕ) (threads : List Thread) (more : Bool) (t : ℕ) (o : Option Lined) → IfSome o (IsLane p threads more) → slice_get (line_at o) 0 ≡ Some t → IsNext p threads (line_at o) t
next_of p threads more t None k e = cc
next_of p threads more t (Some l) k e = next_in_line p threads l.line t k.line e

pub next_thread : (p : ℕ) (threads : List Thread) (ls : List Lined) (more : Bool) (t : ℕ) → slice_get (line_at (by_id ls p)) 0 ≡ Some t → IsSound threads ls more → IsNext p threads (line_at (by_id ls p)) t
next_thread p threads ls more t e s = next_of p threads more t (by_id ls p) (s.each p) e
