-- The events of a proc touch no file.
use Rattle.std.proofs.Common.{◌≡◌, ℕ, Bool, true, false, List, [], ◌∷◌, ◌++◌, refl, ◌∙◌, append-nil}
use Rattle.std.specs.Prelude.{if◌then◌else◌}
use Rattle.p9_word.specs.declared.trail.Event.{Event}
use Rattle.p9_word.specs.declared.trail.Reply.{Reply}
use Rattle.p9_word.specs.declared.trail.Seat.TheVariants.{Proc}
use Rattle.p9_word.specs.declared.trail.Entry.{Entry}
use Rattle.p9_manual.specs.Step.{makes_entry}
use Rattle.p9_manual.specs.History.{with_entry}
use Rattle.p9_run.specs.Untouched.{TouchesNoFile}
use Rattle.p9_run.proofs.Paired.{calls-push, effects-push}

pub touches_none : (H : List Entry) → TouchesNoFile H H
touches_none H = record { calls = λ k. refl; effects = λ k. refl }

by_entry : (b : Bool) (H K : List Entry) (p : ℕ) (event : Event) (reply : Reply) → TouchesNoFile H K → TouchesNoFile H (if b then K ++ record { seat = Proc p; event = event; reply = reply } ∷ [] else K)
by_entry false H K p event reply before = before
by_entry true H K p event reply before =
    record {
      calls = λ k. rw (calls-push, append-nil) (before.calls k);
      effects = λ k. rw (effects-push, append-nil) (before.effects k);
    }

pub touches_with : (H K L : List Entry) (p : ℕ) (event : Event) (reply : Reply) → TouchesNoFile H K → L ≡ with_entry K (Proc p) event reply → TouchesNoFile H L
touches_with H K L p event reply before e = rw e (by_entry (makes_entry reply) H K p event reply before)

pub touches_trans : (H K L : List Entry) → TouchesNoFile H K → TouchesNoFile K L → TouchesNoFile H L
touches_trans H K L a b = record { calls = λ k. b.calls k ∙ a.calls k; effects = λ k. b.effects k ∙ a.effects k }
