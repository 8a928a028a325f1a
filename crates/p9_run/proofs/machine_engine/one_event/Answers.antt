use Rattle.p9_run.proofs.Running.{reply_reserved, over_reserved}
use Rattle.p9_run.proofs.machine_engine.one_event.Goals as goal

pub returns-clause-reply : goal.returns-clause-reply
returns-clause-reply c =
    reply_reserved c.args.machine.now c.reserve.new.self _ c.args.seat c.args.event c.apply.result c.requires.running c.in_ok-reserve.ensures.ok c.apply.ensures.reply

pub returns-clause-over : goal.returns-clause-over
returns-clause-over c =
    over_reserved c.args.machine.now c.reserve.new.self c.apply.new.self _ c.args.seat c.args.event c.apply.result (c.over_stays_over.ensures _ _) c.trail.ensures.legal c.requires.running c.in_ok-reserve.ensures.ok c.apply.ensures.reply c.apply.ensures.machine
