-- The turns of procs keep a sound state sound.
use Rattle.std.proofs.Common.{◌≡◌, ℕ, ◌+◌, Bool, true, false, not, cond, eqb, List, Option, Some, None, refl, ap, arith}
use Rattle.std.specs.Prelude.{option_map}
use Rattle.std.specs.List.{list_any}
use Rattle.std.specs.Option.{is_some}
use Rattle.p9_word.specs.declared.setup.Setup.{Setup}
use Rattle.p9_word.specs.declared.trail.Reply.TheVariants.{Stray, Over, Idle}
use Rattle.p9_manual.specs.declared.state.Place.{Place}
use Rattle.p9_manual.specs.declared.state.Place.TheVariants.{Running, New, Ready, Waiting, Ended}
use Rattle.p9_manual.specs.declared.state.Thread.{Thread}
use Rattle.p9_manual.specs.Held.{is_held}
use Rattle.p9_manual.specs.Ends.{proc_ended}
use Rattle.p9_manual.specs.LockWaits.{lock_waiters}
use Rattle.p9_manual.specs.NoteCalls.{met_by, next_note, with_pending, with_proc}
use Rattle.p9_manual.specs.Notes.{Delivery}
use Rattle.p9_manual.specs.Places.{runs_in, is_of}
use Rattle.p9_manual.specs.State.{State, by_id, pick, placed}
use Rattle.p9_manual.specs.Stuck.{is_stuck}
use Rattle.p9_manual.specs.Next.{first_ready, next_event, next_of, note_first, turn, turn_reply, started, stuck, is_place, is_over}
use Rattle.p9_manual.specs.Standing.{times, place_in, times_in_line}
use Rattle.p9_manual.specs.Sound.{IsSound}
use Rattle.p9_word.specs.Setup.{IsBetween}
use Rattle.p9_laws.proofs.LockWaiters.{not_held}
use Rattle.p9_laws.proofs.Pending.{placed_lives, read_on}
use Rattle.p9_laws.proofs.Sound.Counts.{pick_passes}
use Rattle.p9_laws.proofs.Sound.Ends.{ended_sound}
use Rattle.p9_laws.proofs.Sound.InTurn.{started_in_turn}
use Rattle.p9_laws.proofs.Sound.Signals.{alive_sound}
use Rattle.p9_laws.proofs.Sound.Stand.{turn_stands, picked_counts, members_placed, member_at, of_proc}
use Rattle.p9_laws.proofs.Sound.Outcomes.{IsSafe, BeginsOneOf, if_safe, same_safe, later_sound}

turn_begins : (setup : Setup) (t arg program : ℕ) (pl : Place) → IsBetween 1 setup.programs program → BeginsOneOf setup.programs (turn_reply t (program, arg, pl))
turn_begins setup t arg program New h = h
turn_begins setup t arg program (Ready a) h = tt
turn_begins setup t arg program Running h = tt
turn_begins setup t arg program Waiting h = tt
turn_begins setup t arg program Ended h = tt

-- the thread that is picked from the line runs, and there is an entry
turn_safe : (setup : Setup) (p t : ℕ) (rest : List ℕ) (s : State) (o : Option Thread) → by_id s.threads t ≡ o → 1 + times (λ u. eqb u t) rest ≡ times_in_line (place_in o) → list_any (runs_in p) s.threads ≡ false → pick (λ u. is_of p (by_id s.threads u)) s.line ≡ Some (t, rest) → is_held p s ≡ false → IsSound setup s → IsSafe setup s (turn t (record s { line = rest }) (option_map started o))
turn_safe setup p t rest s None at ready none e free sound = absurd (omega arith)
turn_safe setup p t rest s (Some thread) at ready none e free sound =
    record {
      sound = later_sound setup (record s { line = rest; threads = placed t Running s.threads }) (record {
        stand = turn_stands s.threads s.line s.waits p t rest sound.stand none e;
        members = members_placed s.opened setup.programs t Running s.threads sound.members;
        opened = sound.opened;
        waits_right = sound.waits_right;
        within = sound.within;
        in_turn = started_in_turn s.threads s.holds (lock_waiters s.waits) p t thread none (not_held p s free) at
            (of_proc p (by_id s.threads t) thread at (pick_passes (λ u. is_of p (by_id s.threads u)) s.line t rest e)) sound.in_turn;
        order = sound.order;
        calls = sound.calls;
        notes = read_on s.procs s.procs s.threads (placed t Running s.threads) (λ q. refl) (placed_lives t Running refl s.threads) sound.notes;
      });
      begins = turn_begins setup t thread.arg thread.program thread.place (member_at s.opened setup.programs s.threads t thread sound.members at).program;
    }

stuck_safe : (setup : Setup) (s : State) → IsSound setup s → IsSafe setup s (stuck s)
stuck_safe setup s sound =
    record {
      sound = later_sound setup (record s { over = true }) (record { stand = sound.stand; members = sound.members; opened = sound.opened; waits_right = sound.waits_right; within = sound.within; in_turn = sound.in_turn; order = sound.order; calls = sound.calls; notes = sound.notes });
      begins = tt;
    }

-- who is found ready is the first of its proc in the line, and the proc isn't held
found_ready : (p : ℕ) (s : State) (b : Bool) (o : Option (ℕ × List ℕ)) (found : ℕ × List ℕ) → is_held p s ≡ b → cond b None o ≡ Some found → (is_held p s ≡ false) × (o ≡ Some found)
found_ready p s true o found h e = cc
found_ready p s false o found h e = (h, e)

next_of_safe : (setup : Setup) (p : ℕ) (s : State) (o : Option (ℕ × List ℕ)) → first_ready p s ≡ o → list_any (runs_in p) s.threads ≡ false → IsSound setup s → IsSafe setup s (next_of s o)
next_of_safe setup p s None e none sound = if_safe setup s (is_stuck s) _ _ (λ _. stuck_safe setup s sound) (λ _. same_safe setup s Idle refl sound)
next_of_safe setup p s (Some found) e none sound =
    let ready = found_ready p s (is_held p s) (pick (λ u. is_of p (by_id s.threads u)) s.line) found refl e in
    turn_safe setup p found.0 found.1 s _ refl (picked_counts s.threads s.line s.waits (λ u. is_of p (by_id s.threads u)) found.0 found.1 sound.stand ready.1) none ready.1 ready.0 sound

-- a handler catches the note, or all threads of the proc end
met_safe : (setup : Setup) (p : ℕ) (note : List ℕ) (o : Option ℕ) (s : State) → IsSound setup s → IsSafe setup s (met_by p note o s)
met_safe setup p note (Some id) s sound = record { sound = later_sound setup s sound; begins = tt }
met_safe setup p note None s sound =
    record { sound = later_sound setup (proc_ended p s) (ended_sound setup (λ t. is_of p (by_id s.threads t)) s sound); begins = tt }

-- a note that is pending in a proc is delivered, and some thread of it lives
note_first_safe : (setup : Setup) (p : ℕ) (s : State) (o : Option Delivery) → next_note p s ≡ o → list_any (runs_in p) s.threads ≡ false → IsSound setup s → IsSafe setup s (note_first p s o)
note_first_safe setup p s (Some d) e none sound =
    let safe = met_safe setup p d.note d.caught_by (with_proc (with_pending d.pending) p s) (alive_sound setup (with_pending d.pending) p s (sound.notes p (ap is_some e)) sound) in
    record { sound = safe.sound; begins = safe.begins }
note_first_safe setup p s None e none sound = next_of_safe setup p s (first_ready p s) refl none sound

pub next_event_safe : (setup : Setup) (p : ℕ) (s : State) → IsSound setup s → IsSafe setup s (next_event setup p s)
unfolding next_event
next_event_safe setup p s sound =
    if_safe setup s (not (is_place setup p)) _ _ (λ _. same_safe setup s Stray refl sound)
    (λ _. if_safe setup s (is_over p s) _ _ (λ _. same_safe setup s Over refl sound)
    (λ _. if_safe setup s (list_any (runs_in p) s.threads) _ _ (λ _. same_safe setup s Stray refl sound) (λ none. note_first_safe setup p s (next_note p s) refl none sound)))
