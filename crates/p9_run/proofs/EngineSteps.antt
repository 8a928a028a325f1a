-- What one event of a machine comes to, by the laws.
use Rattle.std.proofs.Common.{◌≡◌, ℕ, zero, suc, ◌-◌, ◌<◌, Bool, true, false, List, [], ◌∷◌, ◌++◌, Option, Some, length, slice_get, refl, sym, ◌∙◌, ap, subst, arith}
use Rattle.std.specs.Prelude.{if◌then◌else◌, nat_lt, None, Result, Ok, Err, IfOk}
use Rattle.p9_word.specs.declared.io_call.IoCall.{IoCall}
use Rattle.p9_word.specs.declared.io_call.Effect.{Effect}
use Rattle.p9_word.specs.declared.request.Request.{Request}
use Rattle.p9_word.specs.declared.memory.NoMemory.{NoMemory}
use Rattle.p9_word.specs.declared.setup.Setup.{Setup}
use Rattle.p9_word.specs.declared.trail.Entry.{Entry}
use Rattle.p9_word.specs.declared.trail.Event.TheVariants.{Call, IoTake, IoDid}
use Rattle.p9_word.specs.declared.trail.Reply.{Reply}
use Rattle.p9_word.specs.declared.trail.Reply.TheVariants.{Took, Noted, Stray}
use Rattle.p9_word.specs.declared.trail.Seat.TheVariants.{Proc, Io}
use Rattle.p9_manual.specs.declared.state.Ioproc.{Ioproc}
use Rattle.p9_manual.specs.History.{with_entry, IsLegal}
use Rattle.p9_manual.specs.Places.{runs_there}
use Rattle.p9_manual.specs.Programs.{life}
use Rattle.p9_manual.specs.State.{State, by_id, changed}
use Rattle.p9_manual.specs.Step.{step, outcome, called, makes_entry}
use Rattle.p9_laws.specs.IoReplies.{ioproc_after, IsBegun, IsPosted, TakenBegun, TakeReplies, IsTakeReply, FittingNoted}
use Rattle.p9_manual.specs.History.{state_after}
use Rattle.p9_laws.specs.RunReplies.{reply_at, IsLiving, RunningLive}
use Rattle.p9_io.specs.Calls.{begun_call}
use Rattle.p9_machine.specs.Shown.{rooms_after}
use Rattle.p9_run.specs.Takes.{MayTell, noted}

stray_call : (setup : Setup) (s : State) (p t : ℕ) (request : Request) → runs_there p (by_id s.threads t) ≡ false → (step setup (Proc p) (Call t request) s).reply ≡ Stray
unfolding step outcome called
stray_call setup s p t request stays = rw stays refl

live_by : (runs : Bool) (setup : Setup) (entries : List Entry) (p t : ℕ) (request : Request) (r : Reply) → runs_there p (by_id (state_after setup entries).threads t) ≡ runs → RunningLive setup entries → IsLegal setup entries → r ≡ reply_at setup entries (Proc p) (Call t request) → makes_entry r ≡ true → IsLiving (life t entries)
live_by true setup entries p t request r runs law legal is makes = law p t legal runs
live_by false setup entries p t request r runs law legal is makes =
    let stray : r ≡ Stray = is ∙ stray_call setup (state_after setup entries) p t request runs in
    absurd (cc (ap makes_entry stray, makes))

-- a thread whose call makes an entry lives
pub called_lives : (setup : Setup) (entries : List Entry) (p t : ℕ) (request : Request) (result : Result Reply NoMemory) → RunningLive setup entries → IsLegal setup entries → IfOk result (λ r. r ≡ reply_at setup entries (Proc p) (Call t request)) → IfOk result (λ r. makes_entry r ≡ true → IsLiving (life t entries))
called_lives setup entries p t request (Ok r) law legal is = live_by (runs_there p (by_id (state_after setup entries).threads t)) setup entries p t request r refl law legal is
called_lives setup entries p t request (Err wanted) law legal is = tt

pub taken_begun : (setup setup' : Setup) (entries after : List Entry) (k : ℕ) (call : IoCall) → TakenBegun setup entries → setup' ≡ setup → Took call ≡ reply_at setup entries (Io k) IoTake → after ≡ with_entry entries (Io k) IoTake (Took call) → IsBegun call (ioproc_after setup' after k)
taken_begun setup setup' entries after k call law setup_is is after_is =
    rw (setup_is, after_is) (subst (λ (r : Reply). IsBegun call (ioproc_after setup (with_entry entries (Io k) IoTake r) k)) (sym is) (law k call (sym is)))

pub call_is : (call : IoCall) (io : Option Ioproc) → IsBegun call io → begun_call io ≡ Some call
call_is call io begun = rw begun.1 refl

pub effect_noted : (setup : Setup) (entries after : List Entry) (k : ℕ) (effect : Effect) (r : Reply) → FittingNoted setup entries → MayTell (ioproc_after setup entries k) effect → r ≡ reply_at setup entries (Io k) (IoDid effect) → after ≡ with_entry entries (Io k) (IoDid effect) r → after ≡ entries ++ noted k effect ∷ []
effect_noted setup entries after k effect r law may is after_is =
    let e : r ≡ Noted = is ∙ law k may.call effect may.begun may.fits in
    after_is ∙ rw e refl

within : {A : Type 0} (xs : List A) (i : ℕ) (x : A) → slice_get xs i ≡ Some x → i < length xs
within [] i x e = cc e
within (y ∷ ys) zero x e = omega arith
within (y ∷ ys) (suc i) x e = let h : i < length ys = within ys i x e in omega (arith, h)

within_ids : {A : Type 0} (xs : List A) (b : Bool) (i : ℕ) (x : A) → (if b then slice_get xs i else None) ≡ Some x → i < length xs
within_ids xs true i x e = within xs i x e
within_ids xs false i x e = cc e

set_there : (rooms : List Bool) (i : ℕ) → i < length rooms → slice_get (changed (λ (b : Bool). true) rooms i) i ≡ Some true
set_there [] i lt = absurd (omega (arith, lt))
set_there (b ∷ bs) zero lt = refl
set_there (b ∷ bs) (suc i) lt = let h : i < length bs = omega (arith, lt) in set_there bs i h

-- a call that is taken has its buffer here
pub room_here : (setup : Setup) (entries : List Entry) (rooms after : List Bool) (k : ℕ) (call : IoCall) → TakeReplies setup entries → length rooms ≡ length (state_after setup entries).ioprocs → Took call ≡ reply_at setup entries (Io k) IoTake → after ≡ rooms_after (Io k) (Took call) rooms → slice_get after (k - 1) ≡ Some true
room_here setup entries rooms after k call law count is after_is =
    let posted : IsPosted call (ioproc_after setup entries k) = subst (λ (r : Reply). IsTakeReply (ioproc_after setup entries k) r) (sym is) (law k) in
    let h : k - 1 < length (state_after setup entries).ioprocs = within_ids (state_after setup entries).ioprocs (nat_lt 0 k) (k - 1) _ posted.1 in
    let lt : k - 1 < length rooms = omega (arith, h, count) in
    rw after_is (set_there rooms (k - 1) lt)
