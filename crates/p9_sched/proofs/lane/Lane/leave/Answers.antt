use Rattle.std.proofs.Common.{sym}
use Rattle.p9_sched.proofs.Leaving.{is_so, left_running}
use Rattle.p9_sched.proofs.lane.Lane.leave.Goals as goal

pub returns-else-ne : goal.returns-else-ne
returns-else-ne c =
    left_running c.args.t _ _ _ c.self.view_is c.saturating_sub-self-inside.ensures (is_so _ (sym c.if-ne.ensures)) c.requires
