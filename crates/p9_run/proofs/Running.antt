-- What a machine that was not halted replies: an event is a step.
use Rattle.std.proofs.Common.{◌≡◌, Bool, true, false, Option, refl, ap, subst, ◌∙◌}
use Rattle.p9_word.specs.declared.setup.Setup.{Setup}
use Rattle.p9_word.specs.declared.trail.Event.{Event}
use Rattle.p9_word.specs.declared.trail.Reply.{Reply}
use Rattle.p9_word.specs.declared.trail.Seat.{Seat}
use Rattle.p9_manual.specs.Halt.{step_of}
use Rattle.p9_manual.specs.History.{IsLegal, with_entry}
use Rattle.p9_manual.specs.State.{State, Outcome}
use Rattle.p9_manual.specs.Step.{step}
use Rattle.p9_laws.specs.RunReplies.{reply_at, grown, OverStays}
use Rattle.p9_machine.specs.Shown.{Shown, reply_to, after_event, state_now}
use Rattle.p9_run.specs.Over.{StaysOver}

steps : (setup : Setup) (halted : Bool) (seat : Seat) (event : Event) (s : State) → halted ≡ false → step_of setup halted seat event s ≡ step setup seat event s
unfolding step_of step
steps setup true seat event s runs = cc
steps setup false seat event s runs = refl

pub reply_runs : (m : Shown) (seat : Seat) (event : Event) (r : Reply) → m.halted ≡ false → r ≡ reply_to m seat event → r ≡ reply_at m.setup m.entries seat event
reply_runs m seat event r runs is =
    is ∙ ap (λ (o : Outcome). o.reply) (steps m.setup m.halted seat event (state_now m) runs)

-- the same once memory was taken
pub reply_reserved : (m n : Shown) (kept : Option (Seat × Event)) (seat : Seat) (event : Event) (r : Reply) → m.halted ≡ false → n ≡ record m { reserved = kept } → r ≡ reply_to n seat event → r ≡ reply_at m.setup m.entries seat event
reply_reserved m n kept seat event r runs kept_is is =
    reply_runs m seat event r runs (subst (λ (x : Shown). r ≡ reply_to x seat event) kept_is is)

-- a proc that is over stays so
pub over_reserved : (m n k : Shown) (kept : Option (Seat × Event)) (seat : Seat) (event : Event) (r : Reply) → OverStays m.setup m.entries → IsLegal m.setup m.entries → m.halted ≡ false → n ≡ record m { reserved = kept } → r ≡ reply_to n seat event → k ≡ after_event n seat event r → StaysOver (reply_at m.setup m.entries) (reply_at k.setup k.entries)
over_reserved m n k kept seat event r law legal runs kept_is is after_is = λ q over.
    let reply : r ≡ reply_at m.setup m.entries seat event = reply_reserved m n kept seat event r runs kept_is is in
    let after : k ≡ after_event (record m { reserved = kept }) seat event r = subst (λ (x : Shown). k ≡ after_event x seat event r) kept_is after_is in
    let setup : k.setup ≡ m.setup = ap (λ (x : Shown). x.setup) after in
    let entries : k.entries ≡ grown m.setup m.entries seat event = ap (λ (x : Shown). x.entries) after ∙ ap (with_entry m.entries seat event) reply in
    rw (setup, entries) (law q seat event legal over)
