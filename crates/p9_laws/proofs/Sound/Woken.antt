-- A thread that waits is woken: its waits are taken out, and it is ready.
use Rattle.std.proofs.Common.{◌≡◌, ◌≤◌, ℕ, eqb, List, [], ◌∷◌, refl, arith}
use Rattle.p9_word.specs.declared.setup.Setup.{Setup}
use Rattle.p9_word.specs.declared.answer.Answer.{Answer}
use Rattle.p9_word.specs.declared.io_call.IoCall.{IoCall}
use Rattle.p9_manual.specs.declared.state.Ioproc.{Ioproc}
use Rattle.p9_manual.specs.declared.state.Place.TheVariants.{Ready, Waiting}
use Rattle.p9_manual.specs.declared.state.Thread.{Thread}
use Rattle.p9_manual.specs.declared.state.Waiter.{Waiter}
use Rattle.p9_manual.specs.LockWaits.{is_holding, lock_waiters}
use Rattle.p9_manual.specs.State.{State, placed, waits_without, wake}
use Rattle.p9_manual.specs.Standing.{StandOnce, times, place_of}
use Rattle.p9_manual.specs.Sound.{IsSound, CallsMatch}
use Rattle.p9_laws.proofs.LockWaiters.{is_locker, is_caller, caller_or_locker, locker_waits}
use Rattle.p9_laws.proofs.Pending.{placed_lives, read_on}
use Rattle.p9_laws.proofs.Sound.InTurn.{woken_in_turn}
use Rattle.p9_laws.proofs.Sound.Order.{without_order}
use Rattle.p9_laws.proofs.Sound.Parties.{WaitsInAlt, times_parties}
use Rattle.p9_laws.proofs.Sound.Stand.{eqb_same, waits_once, answered_stands, others_run, members_placed}
use Rattle.p9_laws.proofs.Sound.Waits.{without_rightly}
use Rattle.p9_laws.proofs.Sound.Calls.{without_match, uncalled_match}
use Rattle.p9_laws.proofs.Sound.Outcomes.{RunsIn}

-- a thread that waits in an alt is at the place Waiting, and has one wait
pub party_waits : (threads : List Thread) (line : List ℕ) (waits : List Waiter) (t : ℕ) → StandOnce threads line waits → WaitsInAlt t waits → (place_of threads t ≡ Waiting) × (times (λ w. eqb w.tid t) waits ≡ 1)
party_waits threads line waits t stand h = waits_once threads line waits t stand (let k = times_parties t waits in omega (arith, k, h))

one_call : (t : ℕ) (call : IoCall) → times (is_caller t) ((t, call) ∷ []) ≡ 1
one_call t call = rw (eqb_same t) refl

-- the state where t, which waits, is ready with this answer
abbrev pub with_ready : ℕ → Answer → State → State
with_ready t a s = wake t a s

-- a thread that waits is woken, beside other ioprocs: by whatever its wait holds it stands first or last in the line
pub woken_sound_with : (setup : Setup) (s : State) (ios : List Ioproc) (t : ℕ) (a : Answer) → place_of s.threads t ≡ Waiting → CallsMatch ios (waits_without t s.waits) → IsSound setup s → IsSound setup (wake t a (record s { ioprocs = ios }))
woken_sound_with setup s ios t a here match' sound =
    record {
      stand = answered_stands s.threads s.line s.waits t a (is_holding t (lock_waiters s.waits)) sound.stand here;
      members = members_placed s.opened setup.programs t (Ready a) s.threads sound.members;
      opened = sound.opened;
      waits_right = without_rightly s.chans s.waits t sound.waits_right;
      within = sound.within;
      in_turn = woken_in_turn s.threads s.holds s.waits t a sound.in_turn;
      order = without_order s.position s.waits t sound.order;
      calls = match';
      notes = read_on s.procs s.procs s.threads (placed t (Ready a) s.threads) (λ p. refl) (placed_lives t (Ready a) refl s.threads) sound.notes;
    }

-- and where it waits in no call, beside the same ones
pub woken_sound_apart : (setup : Setup) (s : State) (t : ℕ) (a : Answer) → place_of s.threads t ≡ Waiting → CallsMatch s.ioprocs (waits_without t s.waits) → IsSound setup s → IsSound setup (with_ready t a s)
woken_sound_apart setup s t a here match' sound = woken_sound_with setup s s.ioprocs t a here match' sound

-- one that waits in an alt is woken
pub woken_sound : (setup : Setup) (s : State) (t : ℕ) (a : Answer) → WaitsInAlt t s.waits → IsSound setup s → IsSound setup (with_ready t a s)
woken_sound setup s t a h sound =
    let here = party_waits s.threads s.line s.waits t sound.stand h in
    woken_sound_apart setup s t a here.0 (without_match s.ioprocs s.waits t (let once = here.1 in omega (arith, once, h)) sound.calls) sound

-- and so is one that waits at a lock, at a Rendez or with a tag
pub granted_sound : (setup : Setup) (s : State) (t : ℕ) (a : Answer) → 1 ≤ times (is_locker t) (lock_waiters s.waits) → IsSound setup s → IsSound setup (with_ready t a s)
granted_sound setup s t a h sound =
    let here = locker_waits s.threads s.line s.waits t sound.stand h in
    woken_sound_apart setup s t a here.0
    (uncalled_match s.ioprocs s.waits t (λ k. let e = caller_or_locker k t s.waits in let once = here.1 in omega (arith, e, once, h)) sound.calls) sound

-- another thread, which runs, runs on
pub others_run_on : (s : State) (t : ℕ) (a : Answer) (u : ℕ) → place_of s.threads t ≡ Waiting → RunsIn s u → RunsIn (with_ready t a s) u
others_run_on s t a u here runs = others_run s.threads t u a here runs

pub woken_runs : (setup : Setup) (s : State) (t : ℕ) (a : Answer) (u : ℕ) → WaitsInAlt t s.waits → IsSound setup s → RunsIn s u → RunsIn (with_ready t a s) u
woken_runs setup s t a u h sound runs = others_run s.threads t u a (party_waits s.threads s.line s.waits t sound.stand h).0 runs
