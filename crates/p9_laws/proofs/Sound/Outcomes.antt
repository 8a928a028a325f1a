-- What an outcome owes, and the outcomes in which requests and events end.
use Rattle.std.proofs.Common.{◌≡◌, ◌≤◌, ℕ, ◌+◌, Bool, true, false, cond, Option, [], ◌∷◌, ◌++◌, refl}
use Rattle.std.specs.Prelude.{All}
use Rattle.p9_word.specs.declared.setup.Setup.{Setup}
use Rattle.p9_word.specs.declared.answer.Answer.{Answer}
use Rattle.p9_word.specs.declared.request.Request.{Request}
use Rattle.p9_word.specs.declared.trail.Reply.{Reply}
use Rattle.p9_word.specs.declared.trail.Reply.TheVariants.{Begin}
use Rattle.p9_word.specs.Setup.{IsBetween}
use Rattle.p9_manual.specs.declared.state.Place.TheVariants.{Running, Ready, Waiting}
use Rattle.p9_manual.specs.declared.state.Waiter.{Waiter}
use Rattle.p9_manual.specs.LockWaits.{lock_waiters}
use Rattle.p9_manual.specs.SoundLocks.{WaitInTurn}
use Rattle.p9_manual.specs.State.{Move, State, Outcome, placed, readied, same, now, bad, done, waiting}
use Rattle.p9_manual.specs.Step.{makes_entry}
use Rattle.p9_manual.specs.Standing.{StandOnce, place_of}
use Rattle.p9_manual.specs.Sound.{IsSound, IsWithin, InOrder, WaitRightly, CallsMatch, IsThreadIn, AreNotesRead}
use Rattle.p9_laws.proofs.Pending.{placed_lives, read_on}
use Rattle.p9_laws.proofs.Sound.InTurn.{placed_in_turn}
use Rattle.p9_laws.proofs.Sound.Order.{later_order, pushed_order}
use Rattle.p9_laws.proofs.Sound.Stand.{readied_stands, waiting_stands, members_placed}

-- a sound state, but for what it says of channels, locks and ioprocs with their waits
pub record IsSoundSoFar (setup : Setup) (s : State) : Type 0 where
  pub stand : StandOnce s.threads s.line s.waits
  pub members : All (IsThreadIn s.opened setup.programs) s.threads
  pub opened : s.opened ≤ setup.places
  pub within : All IsWithin s.chans
  pub order : InOrder s.position s.waits
  pub notes : AreNotesRead s.procs s.threads

pub so_far : (setup : Setup) (s : State) → IsSound setup s → IsSoundSoFar setup s
so_far setup s sound = record { stand = sound.stand; members = sound.members; opened = sound.opened; within = sound.within; order = sound.order; notes = sound.notes }

-- what begins has one of the programs
abbrev pub BeginsOneOf : ℕ → Reply → Type 0
BeginsOneOf programs (Begin t program arg) = IsBetween 1 programs program
BeginsOneOf programs reply = Unit {0}

-- the state where the number of entries has grown to this
abbrev pub at_position : ℕ → State → State
at_position n s = record s { position = n }

-- what the outcome of a request of a thread that runs owes, where n entries were made before it: a sound state once the
-- entry is made, and an entry; no thread begins
pub record IsFine (setup : Setup) (n : ℕ) (o : Outcome) : Type 0 where
  pub sound : IsSound setup (at_position (n + 1) o.state)
  pub makes : makes_entry o.reply ≡ true
  pub begins : BeginsOneOf setup.programs o.reply

-- what the outcome of any event owes: a sound state once an entry is made, and one of the programs where a thread begins
pub record IsSafe (setup : Setup) (s : State) (o : Outcome) : Type 0 where
  pub sound : IsSound setup (at_position (s.position + 1) o.state)
  pub begins : BeginsOneOf setup.programs o.reply

pub fine_safe : (setup : Setup) (s : State) (o : Outcome) → IsFine setup s.position o → IsSafe setup s o
fine_safe setup s o f = record { sound = f.sound; begins = f.begins }

-- a sound state is sound after one more entry
pub later_sound : (setup : Setup) (s : State) → IsSound setup s → IsSound setup (at_position (s.position + 1) s)
later_sound setup s sound =
    record {
      stand = sound.stand;
      members = sound.members;
      opened = sound.opened;
      waits_right = sound.waits_right;
      within = sound.within;
      in_turn = sound.in_turn;
      order = later_order s.position s.waits sound.order;
      calls = sound.calls;
      notes = sound.notes;
    }

begins_nothing : (programs : ℕ) (r : Reply) → makes_entry r ≡ false → BeginsOneOf programs r
begins_nothing programs (Begin t program arg) h = cc
begins_nothing programs r h = tt

pub same_safe : (setup : Setup) (s : State) (r : Reply) → makes_entry r ≡ false → IsSound setup s → IsSafe setup s (same r s)
same_safe setup s r h sound = record { sound = later_sound setup s sound; begins = begins_nothing setup.programs r h }

pub if_fine : (setup : Setup) (n : ℕ) (b : Bool) (o p : Outcome) → (b ≡ true → IsFine setup n o) → (b ≡ false → IsFine setup n p) → IsFine setup n (cond b o p)
if_fine setup n true o p f g = f refl
if_fine setup n false o p f g = g refl

-- whatever moves
pub moved_fine : (setup : Setup) (n : ℕ) (o : Outcome) (moved : Option Move) → IsFine setup n o → IsFine setup n (record o { moved = moved })
moved_fine setup n o moved f = record { sound = f.sound; makes = f.makes; begins = f.begins }

pub if_safe : (setup : Setup) (s : State) (b : Bool) (o p : Outcome) → (b ≡ true → IsSafe setup s o) → (b ≡ false → IsSafe setup s p) → IsSafe setup s (cond b o p)
if_safe setup s true o p f g = f refl
if_safe setup s false o p f g = g refl

-- t runs
abbrev pub RunsIn : State → ℕ → Type 0
RunsIn s t = place_of s.threads t ≡ Running

pub now_fine : (setup : Setup) (s : State) (a : Answer) → IsSound setup s → IsFine setup s.position (now a s)
now_fine setup s a sound = record { sound = later_sound setup s sound; makes = refl; begins = tt }

pub bad_fine : (setup : Setup) (s : State) → IsSound setup s → IsFine setup s.position (bad s)
bad_fine setup s sound = record { sound = later_sound setup s sound; makes = refl; begins = tt }

readied_sound : (setup : Setup) (s : State) (t : ℕ) (a : Answer) → IsSound setup s → RunsIn s t → IsSound setup (readied t a s)
readied_sound setup s t a sound runs =
    record {
      stand = readied_stands s.threads s.line s.waits t a sound.stand runs;
      members = members_placed s.opened setup.programs t (Ready a) s.threads sound.members;
      opened = sound.opened;
      waits_right = sound.waits_right;
      within = sound.within;
      in_turn = placed_in_turn s.threads s.holds (lock_waiters s.waits) t (Ready a) refl sound.in_turn;
      order = sound.order;
      calls = sound.calls;
      notes = read_on s.procs s.procs s.threads (placed t (Ready a) s.threads) (λ p. refl) (placed_lives t (Ready a) refl s.threads) sound.notes;
    }

pub done_fine : (setup : Setup) (s : State) (t : ℕ) (a : Answer) → IsSound setup s → RunsIn s t → IsFine setup s.position (done t a s)
done_fine setup s t a sound runs = record { sound = later_sound setup (readied t a s) (readied_sound setup s t a sound runs); makes = refl; begins = tt }

-- the wait of the caller's request
abbrev pub wait_of : ℕ → Request → State → Waiter
wait_of t r s = record { tid = t; request = r; at = s.position }

-- the caller waits, where its wait may stand behind the others
pub waiting_fine : (setup : Setup) (s : State) (t : ℕ) (r : Request) → IsSoundSoFar setup s → RunsIn s t → WaitRightly s.chans (s.waits ++ wait_of t r s ∷ []) → CallsMatch s.ioprocs (s.waits ++ wait_of t r s ∷ []) → WaitInTurn (placed t Waiting s.threads) s.holds (lock_waiters (s.waits ++ wait_of t r s ∷ [])) → IsFine setup s.position (waiting t r s)
waiting_fine setup s t r sound runs right match' turn =
    record {
      sound = record {
        stand = waiting_stands s.threads s.line s.waits (wait_of t r s) sound.stand runs;
        members = members_placed s.opened setup.programs t Waiting s.threads sound.members;
        opened = sound.opened;
        waits_right = right;
        within = sound.within;
        in_turn = turn;
        order = pushed_order s.waits (wait_of t r s) sound.order;
        calls = match';
        notes = read_on s.procs s.procs s.threads (placed t Waiting s.threads) (λ p. refl) (placed_lives t Waiting refl s.threads) sound.notes;
      };
      makes = refl;
      begins = tt;
    }
