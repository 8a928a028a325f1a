use Rattle.std.proofs.Common.{ap}
use Rattle.p9_lock.specs.Waiting.{Reading}
use Rattle.p9_lock.proofs.RwHolds.{seen_there, there_seen}
use Rattle.p9_lock.proofs.readers.RwLocks.is_there.Goals as goal

pub returns : goal.returns
returns c =
    let is = ap (λ (r : Reading). r.rwlocks) c.self.view_is in
    let ws = c.self.inside.writers.items in
    let rs = c.self.inside.readers.items in
    (λ on. there_seen c.args.k ws rs c.args.self.now.rwlocks is (rw (← c.deref.ensures.value) (c.is_there.ensures.0 on)), λ there. c.is_there.ensures.1 (rw c.deref.ensures.value (seen_there c.args.k ws rs c.args.self.now.rwlocks is there)))
