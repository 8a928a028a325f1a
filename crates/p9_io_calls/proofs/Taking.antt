-- What an ioproc's taking of its call comes to.
use Rattle.std.proofs.Common.{◌≡◌, ℕ, ◌-◌, Bool, true, false, List, Option, Some, refl, sym, ap, subst, ◌∙◌}
use Rattle.std.specs.Prelude.{◌||◌, not, slice_get}
use Rattle.std.specs.List.{list_any}
use Rattle.p9_word.specs.declared.io_call.IoCall.{IoCall}
use Rattle.p9_word.specs.declared.setup.Setup.{Setup}
use Rattle.p9_word.specs.declared.trail.Reply.TheVariants.{Took}
use Rattle.p9_manual.specs.declared.state.Ioproc.{Ioproc}
use Rattle.p9_manual.specs.declared.state.Ioproc.TheVariants.{Posted, Begun}
use Rattle.p9_manual.specs.Ioprocs.{take_call, with_ioproc}
use Rattle.p9_manual.specs.Places.{lives}
use Rattle.p9_manual.specs.State.{State, by_id, changed, replied}
use Rattle.p9_sched.specs.Schedule.{Schedule}
use Rattle.p9_io.specs.Desks.{Desks, with_begun}
use Rattle.p9_io.specs.Stands.{IoFor, state_begun}
use Rattle.p9_io.proofs.Shown.{get_at}
use Rattle.p9_io_calls.specs.Needs.{IsSpare}
use Rattle.p9_io_calls.specs.Serves.{StandSound, Serves}
use Rattle.p9_io_calls.specs.declared.spare.Spare.{Spare}
use Rattle.p9_io_calls.specs.declared.spare.Spare.TheVariants.{Copy}
use Rattle.p9_io_calls.proofs.Answered.{if_false, sched_io, serves_by}

-- the run isn't at its end
pub not_over : (a b c r : Bool) → a ≡ false → r ≡ not c → c ≡ b → r ≡ false → (a || not b) ≡ false
not_over a b c r ea er ec e = rw ea (ap not (sym ec) ∙ (sym er ∙ e))

copy_is : (x y : IoCall) → Copy x ≡ Copy y → x ≡ y
copy_is x y e = cc

-- where a call is posted there is memory for it, and a copy of it
pub spare_posted : (o : Option Ioproc) (t : ℕ) (call copy : IoCall) (ready : Option Bool) (spare : Spare) → o ≡ Some (Posted t call) → IsSpare o ready spare → spare ≡ Copy copy → (ready ≡ Some true) × (copy ≡ call)
spare_posted o t call copy ready spare found h e =
    let both : (ready ≡ Some true) × (spare ≡ Copy call) = subst (λ (x : Option Ioproc). IsSpare x ready spare) found h in
    (both.0, copy_is copy call (sym e ∙ both.1))

-- the buffer of a call that begins is here, where there was memory for it
pub rooms_taken : (k t : ℕ) (call : IoCall) (o : Option Ioproc) (d new : Desks) → o ≡ Some (Posted t call) → slice_get d.prepared (k - 1) ≡ Some true → new ≡ with_begun k o d → new.rooms ≡ changed (λ _. true) d.rooms (k - 1)
rooms_taken k t call o d new found ready e =
    ap (λ (x : Desks). x.rooms) (e ∙ ap (λ (x : Option Ioproc). with_begun k x d) found) ∙ ap (λ (b : Bool). changed (λ _. b) d.rooms (k - 1)) (get_at d.prepared (k - 1) true ready)

-- a call that is posted begins, unless the run is at its end
begins : (k t : ℕ) (call : IoCall) (s : State) (o : Option Ioproc) → o ≡ Some (Posted t call) → (s.over || not (list_any lives s.threads)) ≡ false → take_call k s o ≡ replied (Took call) (with_ioproc k (Begun (Some t) call) s)
begins k t call s o e on = rw e (if_false _ _ _ on)

pub serves_taken : (setup : Setup) (s : State) (k t : ℕ) (call copy : IoCall) (sched : Schedule) (before desks : Desks) → StandSound sched before setup s → by_id before.ioprocs k ≡ Some (Posted t call) → copy ≡ call → (s.over || not (list_any lives s.threads)) ≡ false → IoFor desks (state_begun k (by_id before.ioprocs k) s) → Serves setup s (take_call k s (by_id s.ioprocs k)) (Took copy) sched desks
serves_taken setup s k t call copy sched before desks stands found same on ioprocs =
    let posted : by_id s.ioprocs k ≡ Some (Posted t call) = ap (λ (ios : List Ioproc). by_id ios k) stands.ioprocs.ioprocs ∙ found in
    let there : IoFor desks (with_ioproc k (Begun (Some t) call) s) = subst (λ (o : Option Ioproc). IoFor desks (state_begun k o s)) found ioprocs in
    serves_by setup s _ _ (Took copy) sched desks (begins k t call s _ posted on) (record {
      reply_is = ap (λ (c : IoCall). Took c) same;
      threads = sched_io _ _ s _ stands.threads;
      ioprocs = there;
      others = refl;
      alts = refl;
      locks = refl;
    })
