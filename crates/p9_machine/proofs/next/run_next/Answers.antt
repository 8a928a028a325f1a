use Rattle.std.proofs.Common.{refl}
use Rattle.p9_machine.proofs.Turning.{turned, not_turned}
use Rattle.p9_machine.proofs.next.run_next.Goals as goal

pub returns-in-Some-clause-gives : goal.returns-in-Some-clause-gives
returns-in-Some-clause-gives c = λ s st sound.
    rw c.told_turn.ensures (turned c.args.board.now s c.args.p c.in-Some.ready c.next_of.new.self c.requires.place c.in-Some.ensures.turn c.in-Some.ensures.stands st)

pub returns-in-None-clause-gives : goal.returns-in-None-clause-gives
returns-in-None-clause-gives c = λ s st sound.
    not_turned c.args.board.now c.stuck_or_idle.new.board s c.args.p c.next_of.new.self c.stuck_or_idle.result c.requires.place (c.in-None.ensures.none.0 refl) c.in-None.ensures.turn (λ on. c.stuck_or_idle.ensures.gives s on sound) st
