use Rattle.std.proofs.Common.{[], sym, ap, subst, arith}
use Rattle.p9_word.specs.declared.setup.Setup.{Setup}
use Rattle.p9_word.specs.Setup.{IsValid}
use Rattle.p9_manual.specs.State.{State}
use Rattle.p9_manual.specs.History.{state_after}
use Rattle.p9_machine.specs.Board.{Stands}
use Rattle.p9_machine.proofs.Laws.{state_after-begin}
use Rattle.p9_machine.proofs.machine.Machine.new.Goals as goal

pub invariant_of-result : goal.invariant_of-result
invariant_of-result c =
    let same = c.in_ok-board.ensures.setup in
    let stands = subst (λ (s : State). Stands c.in_ok-board.board s) (sym (state_after-begin c.args.setup.now)) c.in_ok-board.ensures.board in
    record {
      valid = subst (λ (S : Setup). IsValid S) (sym same) c.requires;
      board = rw c.new.ensures.items (subst (λ (S : Setup). Stands c.in_ok-board.board (state_after S [])) (sym same) stands);
      legal = rw c.new.ensures.items tt;
      counted = rw c.new.ensures.items (sym c.in_ok-board.ensures.board.position);
      procs = ap (λ (s : Setup). s.procs) (sym same);
      start = ap (λ (s : Setup). s.start) (sym same);
      spare = rw c.in_ok-board.ensures.calls (omega arith);
      memory = tt;
    }
