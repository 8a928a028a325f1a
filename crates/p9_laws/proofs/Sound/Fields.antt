-- A change of a thread that leaves its place, its proc and its program keeps a sound state sound.
use Rattle.std.proofs.Common.{◌≡◌, ℕ, zero, suc, ◌+◌, ◌-◌, true, cond, List, [], ◌∷◌, refl, ap, subst, sym, ◌∙◌, arith}
use Rattle.std.specs.Prelude.{slice_get}
use Rattle.p9_word.specs.Setup.{IsBetween}
use Rattle.p9_word.specs.declared.setup.Setup.{Setup}
use Rattle.p9_manual.specs.declared.locks.LockWaiter.{LockWaiter}
use Rattle.p9_manual.specs.declared.state.Thread.{Thread}
use Rattle.p9_manual.specs.declared.state.Waiter.{Waiter}
use Rattle.p9_manual.specs.Holds.{Holds}
use Rattle.p9_manual.specs.LockWaits.{lock_waiters}
use Rattle.p9_manual.specs.Places.{lives_in, runs_in}
use Rattle.p9_manual.specs.SoundLocks.{WaitInTurn}
use Rattle.p9_manual.specs.State.{State, changed}
use Rattle.p9_manual.specs.Threads.{with_changed}
use Rattle.p9_manual.specs.Standing.{StandOnce, times, place_of, place_in, times_in_line, times_in_waits}
use Rattle.p9_manual.specs.Sound.{IsSound, IsThreadIn}
use Rattle.p9_laws.proofs.Asked.{LeavesStanding}
use Rattle.p9_laws.proofs.LockWaiters.{holders_changed}
use Rattle.p9_laws.proofs.Pending.{changed_lives, read_on}
use Rattle.p9_laws.proofs.Sound.Counts.{All-changed}
use Rattle.p9_laws.proofs.Sound.Places.{by_id-suc}

place_at : (f : Thread → Thread) → LeavesStanding f → (threads : List Thread) (i j : ℕ) → place_in (slice_get (changed f threads i) j) ≡ place_in (slice_get threads j)
place_at f leaves [] i j = refl
place_at f leaves (x ∷ xs) zero zero = leaves.place x
place_at f leaves (x ∷ xs) zero (suc j) = refl
place_at f leaves (x ∷ xs) (suc i) zero = refl
place_at f leaves (x ∷ xs) (suc i) (suc j) = place_at f leaves xs i j

-- each thread is where it was
pub place_left : (f : Thread → Thread) → LeavesStanding f → (threads : List Thread) (i t : ℕ) → place_of (changed f threads i) t ≡ place_of threads t
place_left f leaves threads i zero = refl
place_left f leaves threads i (suc j) = rw (by_id-suc (changed f threads i) j, by_id-suc threads j) (place_at f leaves threads i j)

-- as many run in each proc
runs_left : (f : Thread → Thread) → LeavesStanding f → (p : ℕ) → (threads : List Thread) (i : ℕ) → times (runs_in p) (changed f threads i) ≡ times (runs_in p) threads
runs_left f leaves p [] i = refl
runs_left f leaves p (x ∷ xs) zero = rw (leaves.proc_no x, leaves.place x) refl
runs_left f leaves p (x ∷ xs) (suc i) = ap (λ n. cond (runs_in p x) 1 0 + n) (runs_left f leaves p xs i)

stands_left : (f : Thread → Thread) → LeavesStanding f → (threads : List Thread) (line : List ℕ) (waits : List Waiter) (i : ℕ) → StandOnce threads line waits → StandOnce (changed f threads i) line waits
stands_left f leaves threads line waits i stand =
    record {
      in_line = λ t. stand.in_line t ∙ ap times_in_line (sym (place_left f leaves threads i t));
      in_waits = λ t. stand.in_waits t ∙ ap times_in_waits (sym (place_left f leaves threads i t));
      one_runs = λ p. let same = runs_left f leaves p threads i in let one = stand.one_runs p in omega (arith, same, one);
    }

member_left : (f : Thread → Thread) → LeavesStanding f → (opened programs : ℕ) (x : Thread) → IsThreadIn opened programs x → IsThreadIn opened programs (f x)
member_left f leaves opened programs x m =
    record {
      proc_no = subst (λ (n : ℕ). IsBetween 1 opened n) (sym (leaves.proc_no x)) m.proc_no;
      program = subst (λ (n : ℕ). IsBetween 1 programs n) (sym (leaves.program x)) m.program;
    }

turn_left : (f : Thread → Thread) → LeavesStanding f → (threads : List Thread) (holds : Holds) (ws : List LockWaiter) (i : ℕ) → WaitInTurn threads holds ws → WaitInTurn (changed f threads i) holds ws
turn_left f leaves threads holds ws i turn =
    record {
      held = λ p.
          let same = holders_changed f leaves.proc_no p threads i ws in
          let runs = runs_left f leaves p threads i in
          let one = turn.held p in
          omega (arith, same, runs, one);
      free = turn.free;
      tags = turn.tags;
    }

lives_left : (f : Thread → Thread) → LeavesStanding f → (x : Thread) (p : ℕ) → lives_in p x ≡ true → lives_in p (f x) ≡ true
lives_left f leaves x p h = rw (leaves.proc_no x, leaves.place x) h

pub with_changed_sound : (setup : Setup) (f : Thread → Thread) (t : ℕ) (s : State) → LeavesStanding f → IsSound setup s → IsSound setup (with_changed f t s)
with_changed_sound setup f t s leaves sound =
    record {
      stand = stands_left f leaves s.threads s.line s.waits (t - 1) sound.stand;
      members = All-changed (IsThreadIn s.opened setup.programs) f (member_left f leaves s.opened setup.programs) s.threads (t - 1) sound.members;
      opened = sound.opened;
      waits_right = sound.waits_right;
      within = sound.within;
      in_turn = turn_left f leaves s.threads s.holds (lock_waiters s.waits) (t - 1) sound.in_turn;
      order = sound.order;
      calls = sound.calls;
      notes = read_on s.procs s.procs s.threads (changed f s.threads (t - 1)) (λ p. refl) (changed_lives f (lives_left f leaves) s.threads (t - 1)) sound.notes;
    }
