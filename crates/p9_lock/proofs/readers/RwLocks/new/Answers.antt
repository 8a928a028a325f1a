use Rattle.p9_lock.proofs.RwHolds.{rw_none}
use Rattle.p9_lock.proofs.readers.RwLocks.new.Goals as goal

pub returns : goal.returns
returns c = rw (c.in_ok-writers.ensures, c.new.ensures.items) (rw_none 1 c.args.n)
