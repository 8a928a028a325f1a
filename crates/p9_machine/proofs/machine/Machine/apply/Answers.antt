use Rattle.p9_machine.specs.Kept.{shown}
use Rattle.p9_machine.proofs.Halting.{after_stopped, reply_halted, stopped_by}
use Rattle.p9_machine.proofs.machine.Machine.apply.Goals as goal

pub returns-then-stops-clause-reply : goal.returns-then-stops-clause-reply
returns-then-stops-clause-reply c =
    rw c.stop.ensures.reply (reply_halted c.args.self.now c.args.seat c.args.event (stopped_by (shown c.self.inside) c.args.self.now c.args.seat c.args.event c.stops.result c.self.view_is c.if-self.true c.stops.ensures c.if-stops.true))

pub returns-then-stops-clause-machine : goal.returns-then-stops-clause-machine
returns-then-stops-clause-machine c = after_stopped c.args.self.now c.stop.new.self c.args.seat c.args.event c.stop.result c.stop.ensures.reply c.stop.ensures.machine
