-- The ends of threads keep a sound state sound: of one, of those of a proc and of all.
use Rattle.std.proofs.Common.{ℕ, true, subst, sym}
use Rattle.p9_word.specs.Setup.{IsBetween}
use Rattle.p9_word.specs.declared.setup.Setup.{Setup}
use Rattle.p9_manual.specs.declared.state.Thread.{Thread}
use Rattle.p9_manual.specs.Ends.{Gone, ended_if, ended_where, all_ended}
use Rattle.p9_manual.specs.Sound.{IsSound, IsThreadIn}
use Rattle.p9_manual.specs.State.{State, each_from}
use Rattle.p9_laws.proofs.EndedWhere.{All-each_from, proc_no-ended_if, program-ended_if, quiet_read}
use Rattle.p9_laws.proofs.Sound.Calls.{ended_match}
use Rattle.p9_laws.proofs.Sound.InTurn.{ended_in_turn}
use Rattle.p9_laws.proofs.Sound.Order.{off_order}
use Rattle.p9_laws.proofs.Sound.Stand.{ended_stands}
use Rattle.p9_laws.proofs.Sound.Waits.{off_rightly}

member_ended : (opened programs : ℕ) (ends : Gone) (k : ℕ) (x : Thread) → IsThreadIn opened programs x → IsThreadIn opened programs (ended_if ends k x)
member_ended opened programs ends k x m =
    record {
      proc_no = subst (λ (n : ℕ). IsBetween 1 opened n) (sym (proc_no-ended_if ends k x)) m.proc_no;
      program = subst (λ (n : ℕ). IsBetween 1 programs n) (sym (program-ended_if ends k x)) m.program;
    }

-- some threads have ended
pub ended_sound : (setup : Setup) (ends : Gone) (s : State) → IsSound setup s → IsSound setup (ended_where ends s)
ended_sound setup ends s sound =
    record {
      stand = ended_stands ends s.threads s.line s.waits sound.stand;
      members = All-each_from (IsThreadIn s.opened setup.programs) (ended_if ends) (member_ended s.opened setup.programs ends) 1 s.threads sound.members;
      opened = sound.opened;
      waits_right = off_rightly s.chans s.waits ends sound.waits_right;
      within = sound.within;
      in_turn = ended_in_turn ends s.threads s.holds s.waits sound.in_turn;
      order = off_order s.position s.waits ends sound.order;
      calls = ended_match ends s.ioprocs s.waits sound.calls;
      notes = quiet_read s.threads (each_from (ended_if ends) 1 s.threads) s.procs sound.notes;
    }

-- all threads have ended
pub all_ended_sound : (setup : Setup) (s : State) → IsSound setup s → IsSound setup (all_ended s)
all_ended_sound setup s sound =
    let ended = ended_sound setup (λ t. true) s sound in
    record {
      stand = ended.stand;
      members = ended.members;
      opened = ended.opened;
      waits_right = ended.waits_right;
      within = ended.within;
      in_turn = ended.in_turn;
      order = ended.order;
      calls = ended.calls;
      notes = ended.notes;
    }
