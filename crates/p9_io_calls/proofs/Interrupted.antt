-- What a request to interrupt comes to.
use Rattle.std.proofs.Common.{◌≡◌, ℕ, List, [], ◌∷◌, Option, Some, None, refl, sym, ap, subst, ◌∙◌}
use Rattle.p9_word.specs.declared.answer.Answer.TheVariants.{Number, Interrupted}
use Rattle.p9_word.specs.declared.io_call.IoCall.{IoCall}
use Rattle.p9_word.specs.declared.setup.Setup.{Setup}
use Rattle.p9_word.specs.declared.trail.Reply.TheVariants.{Now}
use Rattle.p9_manual.specs.declared.state.Ioproc.{Ioproc}
use Rattle.p9_manual.specs.declared.state.Ioproc.TheVariants.{Unmade, Idle, Posted, Begun, Closed}
use Rattle.p9_manual.specs.Ioprocs.{interrupt_call, with_ioproc}
use Rattle.p9_manual.specs.Sound.{IsSound, call_of}
use Rattle.p9_manual.specs.State.{State, by_id, now, readied, wake, waits_without}
use Rattle.p9_sched.specs.Schedule.{Schedule}
use Rattle.p9_sched.specs.Stands.{SchedFor, Tracks as SchedTracks}
use Rattle.p9_sched.specs.Turns.{place_of}
use Rattle.p9_sched.specs.declared.turns.Place.TheVariants as place
use Rattle.p9_io.specs.Calls.{caller_at}
use Rattle.p9_io.specs.Desks.{Desks, interrupted}
use Rattle.p9_io.specs.Stands.{IoFor, state_interrupted}
use Rattle.p9_io_calls.specs.Serves.{StandSound, Serves}
use Rattle.p9_io_calls.proofs.Answered.{sched_io, serves_by}
use Rattle.p9_io_calls.proofs.Beside.{held_stays, woken_last}
use Rattle.p9_io_calls.proofs.Calling.{called_waits, called_beside}

-- the buffers stay
pub rooms_stay : (k : ℕ) (o : Option Ioproc) (d : Desks) → (interrupted k o d).rooms ≡ d.rooms
rooms_stay k None d = refl
rooms_stay k (Some Unmade) d = refl
rooms_stay k (Some Idle) d = refl
rooms_stay k (Some (Posted t call)) d = refl
rooms_stay k (Some (Begun None call)) d = refl
rooms_stay k (Some (Begun (Some t) call)) d = refl
rooms_stay k (Some Closed) d = refl

-- an ioproc where thread t waits has a call for it, and the interrupt leaves another ioproc in its place
record Lets (t k : ℕ) (s : State) (o : Option Ioproc) : Type 0 where
  pub call : IoCall
  pub called : call_of o ≡ (t, call) ∷ []
  pub io : Ioproc
  pub outcome : interrupt_call k s o ≡ now (Number 1) (wake t Interrupted (with_ioproc k io s))
  pub state : state_interrupted k o s ≡ with_ioproc k io s

some_is : (t u : ℕ) → Some t ≡ Some u → u ≡ t
some_is t u e = cc

lets : (t k : ℕ) (s : State) (o : Option Ioproc) → Some t ≡ caller_at o → Lets t k s o
lets t k s None e = absurd (cc e)
lets t k s (Some Unmade) e = absurd (cc e)
lets t k s (Some Idle) e = absurd (cc e)
lets t k s (Some Closed) e = absurd (cc e)
lets t k s (Some (Posted u call)) e =
    let same = some_is t u e in
    record { call = call; called = rw same refl; io = Idle; outcome = rw same refl; state = refl }
lets t k s (Some (Begun None call)) e = absurd (cc e)
lets t k s (Some (Begun (Some u) call)) e =
    let same = some_is t u e in
    record { call = call; called = rw same refl; io = Begun None call; outcome = rw same refl; state = refl }

-- it waits
pub waits_there : (setup : Setup) (s : State) (k t : ℕ) → IsSound setup s → Some t ≡ caller_at (by_id s.ioprocs k) → place_of (by_id s.threads t) ≡ place.Waiting
waits_there setup s k t sound e = let l = lets t k s (by_id s.ioprocs k) e in called_waits setup s k t l.call sound l.called

-- the thread that waits is woken, and told that it was interrupted
pub serves_interrupted : (setup : Setup) (s : State) (k t : ℕ) (old sched : Schedule) (before desks : Desks) → StandSound old before setup s → Some t ≡ caller_at (by_id before.ioprocs k) → SchedTracks (readied t Interrupted) old sched → IoFor desks (state_interrupted k (by_id before.ioprocs k) s) → Serves setup s (interrupt_call k s (by_id s.ioprocs k)) (Now (Number 1)) sched desks
serves_interrupted setup s k t old sched before desks stands e threads ioprocs =
    let o = by_id s.ioprocs k in
    let back : by_id before.ioprocs k ≡ o = ap (λ (ios : List Ioproc). by_id ios k) (sym stands.ioprocs.ioprocs) in
    let l = lets t k s o (e ∙ ap caller_at back) in
    let b = called_beside setup s k t l.call stands.sound l.called in
    let m = with_ioproc k l.io s in
    let n : State = record m { waits = waits_without t s.waits } in
    let start : SchedFor setup.places old n = held_stays setup.places old m (waits_without t s.waits) b.locks (sched_io _ _ s _ stands.threads) in
    let there : IoFor desks m = subst (λ (x : State). IoFor desks x) (ap (λ (x : Option Ioproc). state_interrupted k x s) back ∙ l.state) ioprocs in
    serves_by setup s _ _ (Now (Number 1)) sched desks (l.outcome ∙ ap (λ (x : State). now (Number 1) x) (woken_last t Interrupted m b.locks)) (record {
      reply_is = refl;
      threads = threads setup.places n start;
      ioprocs = record { ioprocs = there.ioprocs; copies = there.copies };
      others = refl;
      alts = b.alts;
      locks = b.locks;
    })
