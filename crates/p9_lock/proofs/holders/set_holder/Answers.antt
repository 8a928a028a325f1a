use Rattle.std.proofs.Common.{◌-◌}
use Rattle.p9_lock.proofs.Places.{set_changed}
use Rattle.p9_lock.proofs.holders.set_holder.Goals as goal

pub returns : goal.returns
returns c = set_changed c.args.holders.now.items (c.args.k - 1) c.args.holder
