use Rattle.std.proofs.Common.{sym}
use Rattle.p9_machine.proofs.Turning.{stuck_calls, stuck_dead, stuck_notes, stuck_ready, stuck_running}
use Rattle.p9_machine.proofs.next.is_stuck.Goals as goal

pub returns-then-not-has_living : goal.returns-then-not-has_living
returns-then-not-has_living c = λ s st sound. stuck_dead c.args.board.now s st sound (sym c.if-not-has_living.ensures)

pub returns-then-has_running : goal.returns-then-has_running
returns-then-has_running c = λ s st sound. stuck_running c.args.board.now s st sound (sym c.if-has_running.ensures)

pub returns-then-has_ready : goal.returns-then-has_ready
returns-then-has_ready c = λ s st sound. stuck_ready c.args.board.now s st sound (sym c.if-has_ready.ensures)

pub returns-then-has_call : goal.returns-then-has_call
returns-then-has_call c = λ s st sound. stuck_calls c.args.board.now s st sound (sym c.if-has_call.ensures)

pub returns : goal.returns
returns c = λ s st sound.
    stuck_notes c.args.board.now s c.any_pending.result st sound (sym c.if-not-has_living.ensures) (sym c.if-has_running.ensures) (sym c.if-has_ready.ensures) (sym c.if-has_call.ensures) (c.any_pending.ensures.stands c.args.board.now.setup.places s st.notes)
