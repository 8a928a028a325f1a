-- What the events of procs leave of the bodies, entry by entry.
use Rattle.std.proofs.Common.{◌≡◌, ◌≢◌, ℕ, Bool, true, false, List, [], ◌∷◌, ◌++◌, Option, Some, None, refl, sym, ◌∙◌, ap, subst}
use Rattle.std.specs.Prelude.{◌==◌, ◌⊎◌, if◌then◌else◌}
use mathlib.Core.Logic.{inl, inr}
use Rattle.std.proofs.lemmas.Bool.Decides.{eqb_tells}
use Rattle.p9_word.specs.declared.answer.Answer.{Answer}
use Rattle.p9_word.specs.declared.answer.Answer.TheVariants.{Done}
use Rattle.p9_word.specs.declared.request.Request.{Request}
use Rattle.p9_word.specs.declared.trail.Event.{Event}
use Rattle.p9_word.specs.declared.trail.Event.TheVariants.{Call, Next}
use Rattle.p9_word.specs.declared.trail.Reply.{Reply}
use Rattle.p9_word.specs.declared.trail.Reply.TheVariants.{Now, Ended, Begin, Turn}
use Rattle.p9_word.specs.declared.trail.Seat.{Seat}
use Rattle.p9_word.specs.declared.trail.Entry.{Entry}
use Rattle.p9_manual.specs.Programs.{Life, Unborn, Lives, Dead, life, life_after, given_answer, laid_down, ends_all, Asks, IsAskedBy, RunsPrograms}
use Rattle.p9_run.proofs.Lives.{life-push, runs-push, same_id, other_id}
use Rattle.p9_run.specs.ByNumber.{value_at}
use Rattle.p9_laws.specs.RunReplies.{IsLiving}
use Rattle.p9_manual.specs.Step.{makes_entry}
use Rattle.p9_manual.specs.History.{with_entry}
use Rattle.p9_run.specs.Untouched.{TouchesNoThread}
use Rattle.p9_run.specs.Stands.{Stands, IsReady, Between, InTurn}

-- what one call of `next` said
pub record Asked {B : Type 0} (plan : B → List Answer → Request) (stands : B → List Answer → Type 0) (old new : B) (last : Answer) (request : Request) : Type 0 where
  pub plan_is : plan new ≡ plan old
  pub request_is : (answers : List Answer) → stands old answers → request ≡ plan old (answers ++ last ∷ [])
  pub stands_on : (answers : List Answer) → stands old answers → stands new (answers ++ last ∷ [])

abbrev pub entry : Seat → Event → Reply → Entry
entry seat event reply = record { seat = seat; event = event; reply = reply }

module _ {B : Type 0} (asks : Asks) (plan : B → List Answer → Request) (stands : B → List Answer → Type 0) where
  answered_life : (l : Life) (last : Answer) (old new : B) (request : Request) → IsReady asks plan stands l last old → Asked plan stands old new last request → Stands asks plan stands l (Some new) (Some request)
  answered_life Unborn last old new request ready asked = tt
  answered_life Dead last old new request ready asked = tt
  answered_life (Lives program arg answers) last old new request ready asked = (
    asked.plan_is ∙ ready.plan_is,
    subst (λ (xs : List Answer). stands new xs) (sym ready.answers_are) (asked.stands_on ready.before ready.stands_for),
    asked.request_is ready.before ready.stands_for ∙ ap (λ (f : List Answer → Request). f (ready.before ++ last ∷ [])) ready.plan_is ∙ ap (asks program arg) (sym ready.answers_are),
  )

  answered_each : (H : List Entry) (bodies bodies' : List (Option B)) (requests requests' : List (Option Request)) (t : ℕ) (new : B) (request : Request) → Stands asks plan stands (life t H) (Some new) (Some request) → ((u : ℕ) → u ≢ t → Stands asks plan stands (life u H) (value_at bodies u) (value_at requests u)) → ((u : ℕ) → value_at bodies' u ≡ (if u == t then Some new else value_at bodies u)) → ((u : ℕ) → value_at requests' u ≡ (if u == t then Some request else value_at requests u)) → (u : ℕ) → (((u == t) ≡ true) × (u ≡ t)) ⊎ (((u == t) ≡ false) × (u ≢ t)) → Stands asks plan stands (life u H) (value_at bodies' u) (value_at requests' u)
  answered_each H bodies bodies' requests requests' t new request here others put put' u (inl same) = rw (put, put', same.0, same.1) here
  answered_each H bodies bodies' requests requests' t new request here others put put' u (inr differs) = rw (put, put', differs.0) (others u differs.1)

  -- a thread has had its answer, and is to ask this next
  pub answered : (H : List Entry) (bodies bodies' : List (Option B)) (requests requests' : List (Option Request)) (t : ℕ) (last : Answer) (old new : B) (request : Request) → Asked plan stands old new last request → ((u : ℕ) → value_at bodies' u ≡ (if u == t then Some new else value_at bodies u)) → ((u : ℕ) → value_at requests' u ≡ (if u == t then Some request else value_at requests u)) → InTurn asks plan stands H bodies requests t last old → Between asks plan stands H bodies' requests'
  answered H bodies bodies' requests requests' t last old new request asked put put' turn =
      record {
        runs = turn.runs;
        each = λ u. answered_each H bodies bodies' requests requests' t new request (answered_life (life t H) last old new request turn.ready asked) turn.others put put' u (eqb_tells u t);
      }

  unasked : (l : Life) (o : Option B) (next : Option Request) → Stands asks plan stands l o next → Stands asks plan stands l o None
  unasked Unborn o next here = tt
  unasked Dead o next here = tt
  unasked (Lives program arg answers) None next here = here
  unasked (Lives program arg answers) (Some b) next here = (here.0, here.1, tt)

  taken_each : (b : Bool) (l : Life) (o : Option B) (next : Option Request) → Stands asks plan stands l o next → Stands asks plan stands l o (if b then None else next)
  taken_each true l o next here = unasked l o next here
  taken_each false l o next here = here

  -- a request is taken out to be made
  pub request_taken : (H : List Entry) (bodies : List (Option B)) (requests requests' : List (Option Request)) (t : ℕ) → ((u : ℕ) → value_at requests' u ≡ (if u == t then None else value_at requests u)) → Between asks plan stands H bodies requests → Between asks plan stands H bodies requests'
  request_taken H bodies requests requests' t took between =
      record { runs = between.runs; each = λ u. rw took (taken_each (u == t) (life u H) (value_at bodies u) (value_at requests u) (between.each u)) }

  asked_life : (l : Life) (o : Option B) (request : Request) → IsLiving l → Stands asks plan stands l o (Some request) → IsAskedBy asks request l
  asked_life Unborn o request living here = living
  asked_life Dead o request living here = living
  asked_life (Lives program arg answers) None request living here = absurd here
  asked_life (Lives program arg answers) (Some b) request living here = here.2

  -- the request that was kept for a thread that lives is the one that its program makes
  pub is_asked : (H : List Entry) (bodies : List (Option B)) (requests : List (Option Request)) (t : ℕ) (request : Request) → Between asks plan stands H bodies requests → Some request ≡ value_at requests t → IsLiving (life t H) → IsAskedBy asks request (life t H)
  is_asked H bodies requests t request between is living =
      asked_life (life t H) (value_at bodies t) request living (subst (λ (o : Option Request). Stands asks plan stands (life t H) (value_at bodies t) o) (sym is) (between.each t))

  was_ready : (l : Life) (a : Answer) (body : B) (next : Option Request) → IsLiving l → Stands asks plan stands l (Some body) next → IsReady asks plan stands (given_answer a l) a body
  was_ready Unborn a body next living here = living
  was_ready Dead a body next living here = living
  was_ready (Lives program arg answers) a body next living here = record { plan_is = here.0; before = answers; answers_are = refl; stands_for = here.1 }

  -- thread t is answered at once
  pub call_now : (H : List Entry) (bodies bodies' : List (Option B)) (requests : List (Option Request)) (t : ℕ) (request : Request) (seat : Seat) (a : Answer) (body : B) → Between asks plan stands H bodies requests → IsAskedBy asks request (life t H) → IsLiving (life t H) → Some body ≡ value_at bodies t → ((u : ℕ) → value_at bodies' u ≡ (if u == t then None else value_at bodies u)) → InTurn asks plan stands (H ++ entry seat (Call t request) (Now a) ∷ []) bodies' requests t a body
  call_now H bodies bodies' requests t request seat a body between asked living body_is took =
      record {
        runs = runs-push asks H (entry seat (Call t request) (Now a)) between.runs asked;
        others = λ u ne. rw (life-push, took, other_id u t ne) (between.each u);
        ready = rw (life-push, same_id) (was_ready (life t H) a body (value_at requests t) living (rw body_is (between.each t)));
      }

  down : (l : Life) (o : Option B) (next : Option Request) → Stands asks plan stands (laid_down l) o next
  down Unborn o next = tt
  down (Lives program arg answers) o next = tt
  down Dead o next = tt

  down_if : (b : Bool) (l : Life) (o : Option B) (next : Option Request) → Stands asks plan stands l o next → Stands asks plan stands (if b then laid_down l else l) o next
  down_if true l o next here = down l o next
  down_if false l o next here = here

  ends_each : (H : List Entry) (bodies bodies' : List (Option B)) (requests : List (Option Request)) (t u : ℕ) (seat : Seat) (request : Request) → Stands asks plan stands (life u H) (value_at bodies u) (value_at requests u) → ((v : ℕ) → value_at bodies' v ≡ (if v == t then None else value_at bodies v)) → (((u == t) ≡ true) × (u ≡ t)) ⊎ (((u == t) ≡ false) × (u ≢ t)) → Stands asks plan stands (life_after u (life u H) (entry seat (Call t request) Ended)) (value_at bodies' u) (value_at requests u)
  ends_each H bodies bodies' requests t u seat request here took (inl same) = rw same.0 (down (life u H) (value_at bodies' u) (value_at requests u))
  ends_each H bodies bodies' requests t u seat request here took (inr differs) = rw (took, differs.0) (down_if (ends_all request) (life u H) (value_at bodies u) (value_at requests u) here)

  -- thread t has ended, and its body is let go
  pub call_ended : (H : List Entry) (bodies bodies' : List (Option B)) (requests : List (Option Request)) (t : ℕ) (request : Request) (seat : Seat) → Between asks plan stands H bodies requests → IsAskedBy asks request (life t H) → ((v : ℕ) → value_at bodies' v ≡ (if v == t then None else value_at bodies v)) → Between asks plan stands (H ++ entry seat (Call t request) Ended ∷ []) bodies' requests
  call_ended H bodies bodies' requests t request seat between asked took =
      record {
        runs = runs-push asks H (entry seat (Call t request) Ended) between.runs asked;
        each = λ u. rw life-push (ends_each H bodies bodies' requests t u seat request (between.each u) took (eqb_tells u t));
      }

  called_each : (l : Life) (u t : ℕ) (request : Request) (seat : Seat) (r : Reply) → ((a : Answer) → r ≡ Now a → ⊥) → (r ≡ Ended → ⊥) → life_after u l (entry seat (Call t request) r) ≡ l
  called_each l u t request seat (Now a) not_now not_ended = absurd (not_now a refl)
  called_each l u t request seat Ended not_now not_ended = absurd (not_ended refl)
  called_each l u t request seat r not_now not_ended = refl

  called_by : (b : Bool) (H : List Entry) (bodies : List (Option B)) (requests : List (Option Request)) (t : ℕ) (request : Request) (seat : Seat) (r : Reply) → Between asks plan stands H bodies requests → (b ≡ true → IsAskedBy asks request (life t H)) → ((a : Answer) → r ≡ Now a → ⊥) → (r ≡ Ended → ⊥) → Between asks plan stands (if b then H ++ entry seat (Call t request) r ∷ [] else H) bodies requests
  called_by false H bodies requests t request seat r between asked not_now not_ended = between
  called_by true H bodies requests t request seat r between asked not_now not_ended =
      record {
        runs = runs-push asks H (entry seat (Call t request) r) between.runs (asked refl);
        each = λ u. rw (life-push, called_each (life u H) u t request seat r not_now not_ended) (between.each u);
      }

  -- thread t waits, or nothing has happened
  pub call_waits : (H : List Entry) (bodies : List (Option B)) (requests : List (Option Request)) (t : ℕ) (request : Request) (seat : Seat) (r : Reply) → Between asks plan stands H bodies requests → (makes_entry r ≡ true → IsAskedBy asks request (life t H)) → ((a : Answer) → r ≡ Now a → ⊥) → (r ≡ Ended → ⊥) → Between asks plan stands (with_entry H seat (Call t request) r) bodies requests
  call_waits H bodies requests t request seat r = called_by (makes_entry r) H bodies requests t request seat r

  pub runs_on : (H : List Entry) (seat : Seat) (r : Reply) → RunsPrograms asks H → RunsPrograms asks (H ++ entry seat Next r ∷ [])
  runs_on H seat r runs = runs-push asks H (entry seat Next r) runs tt

  pub begins : (H : List Entry) (bodies : List (Option B)) (requests : List (Option Request)) (seat : Seat) (t program arg : ℕ) (body : B) → Between asks plan stands H bodies requests → plan body ≡ asks program arg → stands body [] → InTurn asks plan stands (H ++ entry seat Next (Begin t program arg) ∷ []) bodies requests t Done body
  begins H bodies requests seat t program arg body between plan_is stands_for =
      record {
        runs = runs_on H seat (Begin t program arg) between.runs;
        others = λ u ne. rw (life-push, other_id u t ne) (between.each u);
        ready = rw (life-push, same_id) (record { plan_is = plan_is; before = []; answers_are = refl; stands_for = stands_for });
      }

  pub turns : (H : List Entry) (bodies bodies' : List (Option B)) (requests : List (Option Request)) (seat : Seat) (t : ℕ) (a : Answer) (body : B) → Between asks plan stands H bodies requests → IsLiving (life t H) → Some body ≡ value_at bodies t → ((u : ℕ) → value_at bodies' u ≡ (if u == t then None else value_at bodies u)) → InTurn asks plan stands (H ++ entry seat Next (Turn t a) ∷ []) bodies' requests t a body
  turns H bodies bodies' requests seat t a body between living body_is took =
      record {
        runs = runs_on H seat (Turn t a) between.runs;
        others = λ u ne. rw (life-push, took, other_id u t ne) (between.each u);
        ready = rw (life-push, same_id) (was_ready (life t H) a body (value_at requests t) living (rw body_is (between.each t)));
      }

  quiet_each : (l : Life) (u : ℕ) (seat : Seat) (r : Reply) → ((t program arg : ℕ) → r ≡ Begin t program arg → ⊥) → ((t : ℕ) (a : Answer) → r ≡ Turn t a → ⊥) → life_after u l (entry seat Next r) ≡ l
  quiet_each l u seat (Begin t program arg) no_begin no_turn = absurd (no_begin t program arg refl)
  quiet_each l u seat (Turn t a) no_begin no_turn = absurd (no_turn t a refl)
  quiet_each l u seat r no_begin no_turn = refl

  quiet_by : (b : Bool) (H : List Entry) (bodies : List (Option B)) (requests : List (Option Request)) (seat : Seat) (r : Reply) → Between asks plan stands H bodies requests → ((t program arg : ℕ) → r ≡ Begin t program arg → ⊥) → ((t : ℕ) (a : Answer) → r ≡ Turn t a → ⊥) → Between asks plan stands (if b then H ++ entry seat Next r ∷ [] else H) bodies requests
  quiet_by false H bodies requests seat r between no_begin no_turn = between
  quiet_by true H bodies requests seat r between no_begin no_turn =
      record {
        runs = runs_on H seat r between.runs;
        each = λ u. rw (life-push, quiet_each (life u H) u seat r no_begin no_turn) (between.each u);
      }

  -- a turn in which no thread of the proc runs
  pub quiet : (H : List Entry) (bodies : List (Option B)) (requests : List (Option Request)) (seat : Seat) (r : Reply) → Between asks plan stands H bodies requests → ((t program arg : ℕ) → r ≡ Begin t program arg → ⊥) → ((t : ℕ) (a : Answer) → r ≡ Turn t a → ⊥) → Between asks plan stands (with_entry H seat Next r) bodies requests
  quiet H bodies requests seat r = quiet_by (makes_entry r) H bodies requests seat r

  -- a living thread has its body
  pub living_has : (l : Life) (o : Option B) (next : Option Request) → IsLiving l → Stands asks plan stands l o next → o ≡ None → ⊥
  living_has Unborn o next living here none = living
  living_has Dead o next living here none = living
  living_has (Lives program arg answers) None next living here none = here
  living_has (Lives program arg answers) (Some b) next living here none = cc

  pub left_between : (H K : List Entry) (bodies : List (Option B)) (requests : List (Option Request)) → TouchesNoThread H K → Between asks plan stands H bodies requests → Between asks plan stands K bodies requests
  left_between H K bodies requests left between = record { runs = left.runs asks between.runs; each = λ u. rw (left.lives u) (between.each u) }
