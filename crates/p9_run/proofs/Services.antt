-- One service of an ioproc, entry by entry.
use Rattle.std.proofs.Common.{◌≡◌, ℕ, ◌+◌, List, [], ◌∷◌, ◌++◌, length, refl, ap, append-nil, length-append}
use Rattle.p9_word.specs.declared.io_call.IoCall.{IoCall}
use Rattle.p9_word.specs.declared.io_call.Effect.{Effect}
use Rattle.p9_word.specs.declared.trail.Entry.{Entry}
use Rattle.p9_manual.specs.FilesInHistory.{calls_at, effects_at, services_at}
use Rattle.p9_outside.specs.Reached.{LeadOn}
use Rattle.p9_run.specs.Services.{TouchesOnly, Serves}
use Rattle.p9_run.specs.Takes.{took, noted}
use Rattle.p9_run.proofs.Lives.{life-push, runs-push, same_id, other_id}
use Rattle.p9_run.proofs.Paired.{calls-push, effects-push, paired-push}

abbrev pub with_service : ℕ → IoCall → Effect → List Entry → List Entry
with_service k call effect H = (H ++ took k call ∷ []) ++ noted k effect ∷ []

pub no_service : (k : ℕ) (H : List Entry) → TouchesOnly k H H
no_service k H =
    record {
      threads = record { lives = λ t. refl; runs = λ asks runs. runs };
      calls = λ j ne. refl;
      effects = λ j ne. refl;
    }

pub touches_only : (k : ℕ) (call : IoCall) (effect : Effect) (H : List Entry) → TouchesOnly k H (with_service k call effect H)
touches_only k call effect H =
    record {
      threads = record {
        lives = λ t. rw (life-push, life-push) refl;
        runs = λ asks runs. runs-push asks (H ++ took k call ∷ []) (noted k effect) (runs-push asks H (took k call) runs tt) tt;
      };
      calls = λ j ne. rw (calls-push, other_id j k ne, append-nil, calls-push, other_id j k ne, append-nil) refl;
      effects = λ j ne. rw (effects-push, other_id j k ne, append-nil, effects-push, other_id j k ne, append-nil) refl;
    }

calls_now : (k : ℕ) (call : IoCall) (effect : Effect) (H : List Entry) → calls_at k (with_service k call effect H) ≡ calls_at k H ++ call ∷ []
calls_now k call effect H = rw (calls-push, same_id, append-nil, calls-push, same_id) refl

effects_now : (k : ℕ) (call : IoCall) (effect : Effect) (H : List Entry) → effects_at k (with_service k call effect H) ≡ effects_at k H ++ effect ∷ []
effects_now k call effect H = rw (effects-push, same_id, effects-push, same_id, append-nil) refl

pub serves_on : {D : Type 0} (serves : D → IoCall → Effect → D → Type 0) (lead : LeadOn serves) (k : ℕ) (call : IoCall) (effect : Effect) (H : List Entry) (first middle last : D) → Serves serves k H first middle → serves middle call effect last → Serves serves k (with_service k call effect H) first last
serves_on serves lead k call effect H first middle last before step =
    let same : length (calls_at k H) ≡ length (effects_at k H) = before.is_done in
    record {
      is_done = rw (calls_now, effects_now, length-append, length-append) (ap (λ n. n + 1) before.is_done);
      reached = rw (calls_now, effects_now, paired-push) (lead first middle last (services_at k H) call effect before.reached step);
    }
