-- What requests come to that interrupt or kill one thread.
use Rattle.std.proofs.Common.{◌≡◌, ℕ, zero, suc, ◌+◌, ◌≤◌, List, [], ◌∷◌, length, map, Some, None, refl, ap, sym, ◌∙◌, arith}
use Rattle.std.specs.Prelude.{slice_get}
use Rattle.p9_word.specs.declared.answer.Answer.TheVariants.{Bad, Number}
use Rattle.p9_word.specs.declared.setup.Setup.{Setup}
use Rattle.p9_word.specs.declared.trail.Reply.TheVariants.{Now}
use Rattle.p9_manual.specs.declared.state.Thread.{Thread}
use Rattle.p9_manual.specs.Interrupt.{Interruption, signal_thread, told}
use Rattle.p9_manual.specs.NoteCalls.{noted}
use Rattle.p9_manual.specs.Sound.{IsSound}
use Rattle.p9_manual.specs.State.{State, Proc, bad, by_id}
use Rattle.p9_alt.specs.Exchange.{Exchange}
use Rattle.p9_lock.specs.Locking.{Locking}
use Rattle.p9_note.specs.For.{NotesFor}
use Rattle.p9_note.specs.ProcNotes.{ProcNotes}
use Rattle.p9_sched.specs.Schedule.{Schedule, IsMade}
use Rattle.p9_signal_calls.specs.Affects.{Does, IsDone, PartsFor, effect}
use Rattle.p9_signal_calls.specs.Fit.{IsFit}
use Rattle.p9_signal_calls.specs.Serves.{Serves, ServesAll, StandFor}
use Rattle.p9_signal_calls.specs.declared.interrupts.Signal.{Signal}
use Rattle.p9_signal_calls.specs.declared.interrupts.Signal.TheVariants as signal
use Rattle.p9_signal_calls.proofs.Lists.{by_id_some, by_id_suc}
use Rattle.p9_signal_calls.proofs.Standing.{Rests, interrupt_rests, kill_rests}

-- a sound state is fit
pub sound_fit : (setup : Setup) (s : State) → IsSound setup s → IsFit s
sound_fit setup s sound = record { stand = sound.stand; kinds = sound.waits_right.kinds; held = sound.in_turn.held }

pub parts_of : (setup : Setup) (sched : Schedule) (alts : Exchange) (locks : Locking) (notes : List ProcNotes) (s : State) → StandFor setup sched alts locks notes s → PartsFor setup sched alts locks s
parts_of setup sched alts locks notes s h = record { threads = h.threads; alts = h.alts; locks = h.locks }

-- where the request is refused nothing changes
pub same_bad : (setup : Setup) (sched : Schedule) (alts : Exchange) (locks : Locking) (notes : List ProcNotes) (s : State) → StandFor setup sched alts locks notes s → Serves setup s (bad s) (Now Bad) sched alts locks notes
same_bad setup sched alts locks notes s h = record { reply_is = refl; stands = h; leaves = refl; entry = refl }

-- an interruption is told, and the notes are as before
pub told_serves : (setup : Setup) (s : State) (i : Interruption) (n : ℕ) (sched : Schedule) (alts : Exchange) (locks : Locking) (notes : List ProcNotes) → NotesFor setup.places notes s → IsDone setup i n sched alts locks → Rests s i.state → Serves setup s (told i) (Now (Number n)) sched alts locks notes
told_serves setup s i n sched alts locks notes h done rests =
    record {
      reply_is = ap (λ (k : ℕ). Now (Number k)) done.count_is;
      stands = record {
        threads = done.parts.threads;
        alts = done.parts.alts;
        locks = done.parts.locks;
        notes = record { procs = ap (λ (m : State). map noted m.procs) rests.same ∙ h.procs; count = h.count };
      };
      leaves = rests.same ∙ ap (λ (procs : List Proc). record s { threads = i.state.threads; line = i.state.line; waits = i.state.waits; procs = procs }) (sym (ap (λ (m : State). m.procs) rests.same));
      entry = refl;
    }

-- whatever is done to a thread, the rest stays
pub effect_rests : (signal : Signal) (t : ℕ) (s : State) → Rests s (effect signal t s).state
effect_rests signal.Interrupt t s = interrupt_rests t s
effect_rests signal.Kill t s = kill_rests t s

not_made : (t : ℕ) (threads : List Thread) → ((1 ≤ t) → t ≤ length threads → ⊥) → by_id threads t ≡ None
not_made zero threads h = refl
not_made (suc i) threads h = by_id_suc threads i ∙ get_none threads i (λ le. h (omega arith) (omega (arith, le)))
  where
    get_none : (xs : List Thread) (i : ℕ) → (i + 1 ≤ length xs → ⊥) → slice_get xs i ≡ None
    get_none [] i h = refl
    get_none (x ∷ xs) zero h = absurd (h (omega arith))
    get_none (x ∷ xs) (suc i) h = get_none xs i (λ le. h (omega arith))

-- a thread that was never made
pub serves_none : (signal : Signal) (t : ℕ) (sched : Schedule) (alts : Exchange) (locks : Locking) (notes : List ProcNotes) → (IsMade t sched → ⊥) → ServesAll (λ s. signal_thread (effect signal) t s (by_id s.threads t)) sched alts locks notes (Now Bad) sched alts locks notes
serves_none signal t sched alts locks notes no_thread = record {
  serves = λ setup s h sound.
      let e : by_id s.threads t ≡ None = ap (λ (ts : List Thread). by_id ts t) h.threads.threads ∙ not_made t sched.threads (λ a b. no_thread (record { from = a; to = b })) in
      rw e (same_bad setup sched alts locks notes s h);
}

-- one that was made
pub serves_one : (signal : Signal) (t n : ℕ) (sched new_sched : Schedule) (alts new_alts : Exchange) (locks new_locks : Locking) (notes : List ProcNotes) → IsMade t sched → Does (effect signal t) sched alts locks n new_sched new_alts new_locks → ServesAll (λ s. signal_thread (effect signal) t s (by_id s.threads t)) sched alts locks notes (Now (Number n)) new_sched new_alts new_locks notes
serves_one signal t n sched new_sched alts new_alts locks new_locks notes made does = record {
  serves = λ setup s h sound.
      let found = by_id_some sched.threads t made.from made.to in
      let e : by_id s.threads t ≡ Some found.0 = ap (λ (ts : List Thread). by_id ts t) h.threads.threads ∙ found.1 in
      rw e (told_serves setup s (effect signal t s) n new_sched new_alts new_locks notes h.notes (does setup s (parts_of setup sched alts locks notes s h) (sound_fit setup s sound)) (effect_rests signal t s));
}
