-- What becomes of the threads by a request: the others are woken or stay, and the caller, which runs, may have an answer after it.
use Rattle.std.proofs.Common.{◌≡◌, ◌⊎◌, inl, inr, ℕ, ◌≤◌, Bool, true, false, cond, List, [], ◌∷◌, ◌++◌, refl, sym, subst, ◌∙◌}
use Rattle.p9_word.specs.declared.answer.Answer.{Answer}
use Rattle.p9_manual.specs.declared.state.Place.{Place}
use Rattle.p9_manual.specs.declared.state.Place.TheVariants.{Running, New, Ready, Waiting, Ended as EndedPlace}
use Rattle.p9_manual.specs.declared.state.Thread.{Thread}
use Rattle.p9_manual.specs.Ends.{Gone, ended_if}
use Rattle.p9_manual.specs.State.{Outcome, placed, each_from}
use Rattle.p9_manual.specs.Standing.{place_of}
use Rattle.p9_laws.proofs.Received.Places.{place_ended, place_moved, place_pushed}
use Rattle.p9_laws.proofs.Given.Goes.{Goes, Stays, Leaves, goes_at, made_id, runs_on}

-- from some threads to others
abbrev pub AllGo : (ℕ → Answer → Type 0) → List Thread → List Thread → Type 0
AllGo P before after = (u : ℕ) → Goes (P u) (place_of before u) (place_of after u)

-- what a request of thread t comes to
pub record Replies (P : ℕ → Answer → Type 0) (Q : Answer → Type 0) (t : ℕ) (before after : List Thread) : Type 0 where
  pub others : (u : ℕ) → (u ≡ t → ⊥) → Goes (P u) (place_of before u) (place_of after u)
  pub own : (a : Answer) → place_of after t ≡ Ready a → Q a

pub if_replies : (P : ℕ → Answer → Type 0) (Q : Answer → Type 0) (t : ℕ) (before : List Thread) (b : Bool) (o p : Outcome) → (b ≡ true → Replies P Q t before o.state.threads) → (b ≡ false → Replies P Q t before p.state.threads) → Replies P Q t before (cond b o p).state.threads
if_replies P Q t before true o p f g = f refl
if_replies P Q t before false o p f g = g refl

-- the caller stays where it is, or leaves
pub go_replies : (P : ℕ → Answer → Type 0) (Q : Answer → Type 0) (t : ℕ) (before after : List Thread) → place_of before t ≡ Running → AllGo P before after → Replies P Q t before after
go_replies P Q t before after runs go =
    record { others = λ u ne. go u; own = λ a e. absurd (runs_on (P t) (place_of before t) (place_of after t) a runs (go t) e) }

-- nothing becomes of them
pub same_replies : (P : ℕ → Answer → Type 0) (Q : Answer → Type 0) (t : ℕ) (threads : List Thread) → place_of threads t ≡ Running → Replies P Q t threads threads
same_replies P Q t threads runs = go_replies P Q t threads threads runs (λ u. Stays (place_of threads u))

runs_made : (threads : List Thread) (t : ℕ) → place_of threads t ≡ Running → 1 ≤ t
runs_made threads t e = made_id threads t Running e (λ k. cc)

-- it is put somewhere
pub put_replies : (P : ℕ → Answer → Type 0) (Q : Answer → Type 0) (t : ℕ) (pl : Place) (before mid : List Thread) → place_of before t ≡ Running → ((a : Answer) → pl ≡ Ready a → Q a) → AllGo P before mid → Replies P Q t before (placed t pl mid)
put_replies P Q t pl before mid runs holds go =
    record {
      others = λ u ne. elim (place_moved t pl mid u) [
        | inl e ↦ goes_at (P u) (place_of before u) (place_of mid u) (place_of (placed t pl mid) u) e (go u)
        | inr k ↦ absurd (ne (k.0 (runs_made before t runs)))
      ];
      own = λ a e. elim (place_moved t pl mid t) [
        | inl same ↦ absurd (runs_on (P t) (place_of before t) (place_of mid t) a runs (go t) (sym same ∙ e))
        | inr k ↦ holds a (sym k.1 ∙ e)
      ];
    }

-- it is put in the line with an answer
pub ready_replies : (P : ℕ → Answer → Type 0) (Q : Answer → Type 0) (t : ℕ) (x : Answer) (before mid : List Thread) → place_of before t ≡ Running → Q x → AllGo P before mid → Replies P Q t before (placed t (Ready x) mid)
ready_replies P Q t x before mid runs holds go =
    put_replies P Q t (Ready x) before mid runs (λ a e. let same : x ≡ a = cc in subst Q same holds) go

-- it waits
pub wait_replies : (P : ℕ → Answer → Type 0) (Q : Answer → Type 0) (t : ℕ) (before mid : List Thread) → place_of before t ≡ Running → AllGo P before mid → Replies P Q t before (placed t Waiting mid)
wait_replies P Q t before mid runs go = put_replies P Q t Waiting before mid runs (λ a e. cc) go

pushed_goes : (P : Answer → Type 0) (before after : Place) → (after ≡ before) ⊎ (after ≡ New) → Goes P before after
pushed_goes P before after (inl e) = rw e (Stays before)
pushed_goes P before after (inr e) = rw e (Leaves before New refl)

-- a new thread has no answer
pub push_goes : (P : ℕ → Answer → Type 0) (y : Thread) (threads : List Thread) → y.place ≡ New → AllGo P threads (threads ++ y ∷ [])
push_goes P y threads h u =
    pushed_goes (P u) (place_of threads u) (place_of (threads ++ y ∷ []) u)
    (elim (place_pushed y threads u) [ inl e ↦ inl e | inr e ↦ inr (e ∙ h) ])

ended_goes : (P : Answer → Type 0) (before after : Place) → (after ≡ before) ⊎ (after ≡ EndedPlace) → Goes P before after
ended_goes P before after (inl e) = rw e (Stays before)
ended_goes P before after (inr e) = rw e (Leaves before EndedPlace refl)

-- threads end
pub end_goes : (P : ℕ → Answer → Type 0) (ends : Gone) (threads : List Thread) → AllGo P threads (each_from (ended_if ends) 1 threads)
end_goes P ends threads u = ended_goes (P u) (place_of threads u) (place_of (each_from (ended_if ends) 1 threads) u) (place_ended ends threads u)
