-- What a posted call and the effect of a begun one come to.
use Rattle.std.proofs.Common.{◌≡◌, ℕ, Bool, true, false, List, Option, Some, None, refl, sym, ap, subst, ◌∙◌}
use Rattle.std.specs.Prelude.{if◌then◌else◌, nat_lt}
use Rattle.p9_word.specs.declared.answer.Answer.TheVariants.{Io as IoAnswered}
use Rattle.p9_word.specs.declared.answer.IoAnswer.{IoAnswer}
use Rattle.p9_word.specs.declared.io_call.IoCall.{IoCall}
use Rattle.p9_word.specs.declared.io_call.Effect.{Effect}
use Rattle.p9_word.specs.declared.request.Request.TheVariants.{Io as IoRequest}
use Rattle.p9_word.specs.declared.request.IoReq.TheVariants.{IoRun}
use Rattle.p9_word.specs.declared.setup.Setup.{Setup}
use Rattle.p9_word.specs.declared.trail.Reply.{Reply}
use Rattle.p9_word.specs.declared.trail.Reply.TheVariants.{Waits, Noted}
use Rattle.p9_manual.specs.declared.state.Ioproc.{Ioproc}
use Rattle.p9_manual.specs.declared.state.Ioproc.TheVariants.{Unmade, Idle, Posted, Begun, Closed}
use Rattle.p9_manual.specs.declared.state.Waiter.{Waiter}
use Rattle.p9_manual.specs.Effects.{fits, message_length}
use Rattle.p9_manual.specs.Ioprocs.{post_call, did_call, answered, effect_answer, with_ioproc}
use Rattle.p9_manual.specs.LockWaits.{lock_waiters}
use Rattle.p9_manual.specs.Offers.{parties}
use Rattle.p9_manual.specs.Sound.{IsSound}
use Rattle.p9_manual.specs.State.{State, Outcome, by_id, replied, waiting, waits_without}
use Rattle.p9_sched.specs.Schedule.{Schedule}
use Rattle.p9_sched.specs.Stands.{SchedFor, Tracks as SchedTracks}
use Rattle.p9_io.specs.declared.effects.Finished.{Finished}
use Rattle.p9_io.specs.Calls.{finish_of}
use Rattle.p9_io.specs.Desks.{Desks}
use Rattle.p9_io.specs.Stands.{IoFor}
use Rattle.p9_io_calls.specs.Serves.{StandSound, Serves, with_answer}
use Rattle.p9_io_calls.proofs.Beside.{held_stays, locks_push, woken_last}
use Rattle.p9_io_calls.proofs.Calling.{StaysWithout, parties_more, caller_in_call}

-- the threads stand for those of a state with other ioprocs
pub sched_io : (places : ℕ) (sched : Schedule) (s : State) (ios : List Ioproc) → SchedFor places sched s → SchedFor places sched (record s { ioprocs = ios })
sched_io places sched s ios h = record { threads = h.threads; lines = h.lines; words = h.words; opened = h.opened; count = h.count; held = record { held = h.held.held } }

pub serves_by : (setup : Setup) (s : State) (o p : Outcome) (reply : Reply) (sched : Schedule) (desks : Desks) → o ≡ p → Serves setup s p reply sched desks → Serves setup s o reply sched desks
serves_by setup s o p reply sched desks e h = subst (λ (x : Outcome). Serves setup s x reply sched desks) (sym e) h

pub if_false : {A : Type 0} (b : Bool) (x y : A) → b ≡ false → (if b then x else y) ≡ y
if_false true x y e = cc
if_false false x y e = refl

if_true : {A : Type 0} (b : Bool) (x y : A) → b ≡ true → (if b then x else y) ≡ x
if_true true x y e = refl
if_true false x y e = cc

-- a call that is posted at an idle ioproc
post_waits : (t k : ℕ) (call : IoCall) (s : State) (o : Option Ioproc) → o ≡ Some Idle → nat_lt 4294967295 (message_length call) ≡ false → post_call t k call s o ≡ waiting t (IoRequest (IoRun k call)) (with_ioproc k (Posted t call) s)
post_waits t k call s o e h = rw e (if_false _ _ _ h)

pub serves_posted : (setup : Setup) (s : State) (t k : ℕ) (call : IoCall) (sched : Schedule) (desks : Desks) → by_id s.ioprocs k ≡ Some Idle → nat_lt 4294967295 (message_length call) ≡ false → (SchedFor setup.places sched (waiting t (IoRequest (IoRun k call)) (with_ioproc k (Posted t call) s)).state) → IoFor desks (with_ioproc k (Posted t call) s) → Serves setup s (post_call t k call s (by_id s.ioprocs k)) Waits sched desks
serves_posted setup s t k call sched desks found short threads ioprocs =
    serves_by setup s _ _ Waits sched desks (post_waits t k call s _ found short) (record {
      reply_is = refl;
      threads = threads;
      ioprocs = record { ioprocs = ioprocs.ioprocs; copies = ioprocs.copies };
      others = refl;
      alts = parties_more s.waits (record { tid = t; request = IoRequest (IoRun k call); at = s.position }) refl;
      locks = locks_push s.waits (record { tid = t; request = IoRequest (IoRun k call); at = s.position }) refl;
    })

-- a finished call was begun, and its effect fits it
pub record Told (effect : Effect) (f : Finished) (o : Option Ioproc) : Type 0 where
  pub call : IoCall
  pub is : o ≡ Some (Begun f.caller call)
  pub fitting : fits call effect ≡ true
  pub answer : f.answer ≡ effect_answer effect

by_fit : (b : Bool) (f g : Finished) → Some f ≡ (if b then Some g else None) → (b ≡ true) × (f ≡ g)
by_fit true f g e = (refl, some_is f g e)
  where
    some_is : (x y : Finished) → Some x ≡ Some y → x ≡ y
    some_is x y e = cc
by_fit false f g e = absurd (cc e)

pub told : (effect : Effect) (f : Finished) (o : Option Ioproc) → Some f ≡ finish_of effect o → Told effect f o
told effect f None e = absurd (cc e)
told effect f (Some Unmade) e = absurd (cc e)
told effect f (Some Idle) e = absurd (cc e)
told effect f (Some (Posted t call)) e = absurd (cc e)
told effect f (Some Closed) e = absurd (cc e)
told effect f (Some (Begun t call)) e =
    let h = by_fit (fits call effect) f (record { caller = t; answer = effect_answer effect }) e in
    record {
      call = call;
      is = ap (λ (u : Option ℕ). Some (Begun u call)) (sym (ap (λ (x : Finished). x.caller) h.1));
      fitting = h.0;
      answer = ap (λ (x : Finished). x.answer) h.1;
    }

-- the waits without those of the thread that a call is for, if there is one
abbrev left_by : Option ℕ → List Waiter → List Waiter
left_by None waits = waits
left_by (Some t) waits = waits_without t waits

-- that thread waits in no alt, and at no lock
abbrev IsBeside : Option ℕ → List Waiter → Type 0
IsBeside None waits = Unit {0}
IsBeside (Some t) waits = StaysWithout t waits

beside : (setup : Setup) (s : State) (k : ℕ) (caller : Option ℕ) (call : IoCall) → IsSound setup s → by_id s.ioprocs k ≡ Some (Begun caller call) → IsBeside caller s.waits
beside setup s k None call sound e = tt
beside setup s k (Some t) call sound e = caller_in_call setup s k t call sound e

answered_is : (caller : Option ℕ) (answer : IoAnswer) (effect : Effect) (s : State) → answer ≡ effect_answer effect → IsBeside caller s.waits → answered caller effect s ≡ with_answer caller answer (record s { waits = left_by caller s.waits })
answered_is None answer effect s e h = refl
answered_is (Some t) answer effect s e h = rw e (woken_last t (IoAnswered (effect_answer effect)) s h.locks)

-- so the outcome of what is told is noted
noted : (k : ℕ) (effect : Effect) (s : State) (f : Finished) (o : Option Ioproc) → Told effect f o → IsBeside f.caller s.waits → did_call k effect s o ≡ replied Noted (with_answer f.caller f.answer (record (with_ioproc k Idle s) { waits = left_by f.caller s.waits }))
noted k effect s f o h b = rw h.is (if_true _ _ _ h.fitting ∙ ap (λ (n : State). replied Noted n) (answered_is f.caller f.answer effect (with_ioproc k Idle s) h.answer b))

io_answered : (caller : Option ℕ) (answer : IoAnswer) (desks : Desks) (s : State) → IoFor desks s → IoFor desks (with_answer caller answer s)
io_answered None answer desks s h = h
io_answered (Some t) answer desks s h = record { ioprocs = h.ioprocs; copies = h.copies }

others_answered : (caller : Option ℕ) (answer : IoAnswer) (s : State) (ios : List Ioproc) (ws : List Waiter) → let n : State = with_answer caller answer (record s { ioprocs = ios; waits = ws }) in n ≡ record s { threads = n.threads; line = n.line; waits = n.waits; ioprocs = n.ioprocs }
others_answered None answer s ios ws = refl
others_answered (Some t) answer s ios ws = refl

alts_answered : (caller : Option ℕ) (answer : IoAnswer) (s : State) → IsBeside caller s.waits → parties (with_answer caller answer (record s { waits = left_by caller s.waits })).waits ≡ parties s.waits
alts_answered None answer s h = refl
alts_answered (Some t) answer s h = h.alts

locks_left : (caller : Option ℕ) (waits : List Waiter) → IsBeside caller waits → lock_waiters (left_by caller waits) ≡ lock_waiters waits
locks_left None waits h = refl
locks_left (Some t) waits h = h.locks

locks_answered : (caller : Option ℕ) (answer : IoAnswer) (s : State) → IsBeside caller s.waits → lock_waiters (with_answer caller answer (record s { waits = left_by caller s.waits })).waits ≡ lock_waiters s.waits
locks_answered None answer s h = refl
locks_answered (Some t) answer s h = h.locks

pub serves_noted : (setup : Setup) (s : State) (k : ℕ) (effect : Effect) (f : Finished) (old sched : Schedule) (before desks : Desks) → StandSound old before setup s → Some f ≡ finish_of effect (by_id before.ioprocs k) → SchedTracks (with_answer f.caller f.answer) old sched → IoFor desks (with_ioproc k Idle s) → Serves setup s (did_call k effect s (by_id s.ioprocs k)) Noted sched desks
serves_noted setup s k effect f old sched before desks stands e threads ioprocs =
    let h = told effect f (by_id s.ioprocs k) (rw stands.ioprocs.ioprocs e) in
    let b = beside setup s k f.caller h.call stands.sound h.is in
    let m = with_ioproc k Idle s in
    let n : State = record m { waits = left_by f.caller s.waits } in
    let start : SchedFor setup.places old n = held_stays setup.places old m (left_by f.caller s.waits) (locks_left f.caller s.waits b) (sched_io _ _ s _ stands.threads) in
    serves_by setup s _ _ Noted sched desks (noted k effect s f _ h b) (record {
      reply_is = refl;
      threads = threads setup.places n start;
      ioprocs = io_answered f.caller f.answer desks n (record { ioprocs = ioprocs.ioprocs; copies = ioprocs.copies });
      others = others_answered f.caller f.answer s _ _;
      alts = alts_answered f.caller f.answer m b;
      locks = locks_answered f.caller f.answer m b;
    })
