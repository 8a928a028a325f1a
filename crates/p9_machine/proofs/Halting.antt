-- What a machine that was halted, or wasn't, replies.
use Rattle.std.proofs.Common.{◌≡◌, Bool, true, false, None, refl, sym, ap, subst, ◌∙◌}
use Rattle.std.specs.Prelude.{◌&&◌, if◌then◌else◌}
use Rattle.p9_word.specs.declared.io_call.Effect.{Effect}
use Rattle.p9_word.specs.declared.setup.Setup.{Setup}
use Rattle.p9_word.specs.declared.trail.Event.{Event}
use Rattle.p9_word.specs.declared.trail.Event.TheVariants.{IoDid}
use Rattle.p9_word.specs.declared.trail.Reply.{Reply}
use Rattle.p9_word.specs.declared.trail.Reply.TheVariants.{Halted}
use Rattle.p9_word.specs.declared.trail.Seat.{Seat}
use Rattle.p9_word.specs.declared.trail.Seat.TheVariants.{Proc, Io}
use Rattle.p9_manual.specs.Halt.{step_of, stops}
use Rattle.p9_manual.specs.State.{State, Outcome, same}
use Rattle.p9_manual.specs.Step.{step}
use Rattle.p9_machine.specs.Shown.{Shown, reply_to, after_event, state_now}

if_true : {A : Type 0} (b : Bool) (x y : A) → b ≡ true → (if b then x else y) ≡ x
if_true true x y e = refl
if_true false x y e = cc

if_false : {A : Type 0} (b : Bool) (x y : A) → b ≡ false → (if b then x else y) ≡ y
if_false true x y e = cc
if_false false x y e = refl

-- an event that isn't stopped is a step
steps : (setup : Setup) (halted : Bool) (seat : Seat) (event : Event) (s : State) → (halted && stops setup seat event) ≡ false → step_of setup halted seat event s ≡ step setup seat event s
unfolding step_of step
steps setup halted seat event s on = if_false _ _ _ on

-- one that is stopped is told Halted
halts : (setup : Setup) (halted : Bool) (seat : Seat) (event : Event) (s : State) → (halted && stops setup seat event) ≡ true → step_of setup halted seat event s ≡ same Halted s
unfolding step_of
halts setup halted seat event s off = if_true _ _ _ off

-- the reply of a machine that runs on, k and m being the same
pub reply_runs : (k m : Shown) (seat : Seat) (event : Event) (r : Reply) → k ≡ m → (m.halted && stops m.setup seat event) ≡ false → r ≡ (step k.setup seat event (state_now k)).reply → r ≡ reply_to m seat event
reply_runs k m seat event r e on is =
    subst (λ (x : Shown). r ≡ (step x.setup seat event (state_now x)).reply) e is ∙ ap (λ (o : Outcome). o.reply) (sym (steps m.setup m.halted seat event (state_now m) on))

-- what an ioproc tells is never stopped
told_on : (setup : Setup) (seat : Seat) (effect : Effect) → stops setup seat (IoDid effect) ≡ false
told_on setup (Proc p) effect = refl
told_on setup (Io k) effect = refl

and_false : (a b : Bool) → b ≡ false → (a && b) ≡ false
and_false true b e = e
and_false false b e = refl

pub reply_told : (k m : Shown) (seat : Seat) (effect : Effect) (r : Reply) → k ≡ m → r ≡ (step k.setup seat (IoDid effect) (state_now k)).reply → r ≡ reply_to m seat (IoDid effect)
reply_told k m seat effect r e is = reply_runs k m seat (IoDid effect) r e (and_false m.halted _ (told_on m.setup seat effect)) is

-- what was stopped is told Halted, and changes nothing but what is reserved
pub reply_halted : (m : Shown) (seat : Seat) (event : Event) → (m.halted && stops m.setup seat event) ≡ true → Halted ≡ reply_to m seat event
reply_halted m seat event off = ap (λ (o : Outcome). o.reply) (sym (halts m.setup m.halted seat event (state_now m) off))

after_halted : (m : Shown) (seat : Seat) (event : Event) → after_event m seat event Halted ≡ record m { reserved = None }
after_halted m (Proc p) event = refl
after_halted m (Io k) event = refl

-- a machine that was halted stops the event, k and m being the same
pub stopped_by : (k m : Shown) (seat : Seat) (event : Event) (b : Bool) → k ≡ m → k.halted ≡ true → b ≡ stops k.setup seat event → b ≡ true → (m.halted && stops m.setup seat event) ≡ true
stopped_by k m seat event b e off is on =
    subst (λ (x : Shown). (x.halted && stops x.setup seat event) ≡ true) e (rw off (sym is ∙ on))

pub after_stopped : (m n : Shown) (seat : Seat) (event : Event) (r : Reply) → r ≡ Halted → n ≡ record m { reserved = None } → n ≡ after_event m seat event r
after_stopped m n seat event r told is = is ∙ sym (after_halted m seat event) ∙ ap (after_event m seat event) (sym told)
