-- A request that is refused changes nothing. This project's own.
use Rattle.std.specs.Prelude.{◌≡◌, ◌+◌, Bool, true, false}
use Rattle.p9_word.specs.declared.answer.Answer.TheVariants.{Bad, Minus}
use Rattle.p9_word.specs.declared.setup.Setup.{Setup}
use Rattle.p9_word.specs.declared.trail.Event.{Event}
use Rattle.p9_word.specs.declared.trail.Reply.{Reply}
use Rattle.p9_word.specs.declared.trail.Reply.TheVariants.{Now}
use Rattle.p9_word.specs.declared.trail.Seat.{Seat}
use Rattle.p9_manual.specs.State.{State}
use Rattle.p9_manual.specs.Step.{step}

-- a request is refused where it is answered Bad or Minus
abbrev pub is_refusal : Reply → Bool
is_refusal (Now Bad) = true
is_refusal (Now Minus) = true
is_refusal reply = false

-- a refusal makes its entry, and nothing else changes
abbrev pub RefusalsLeave : Setup → State → Type 0
RefusalsLeave setup s =
    (seat : Seat) (event : Event) → is_refusal (step setup seat event s).reply ≡ true
    → (step setup seat event s).state ≡ record s { position = s.position + 1 }
