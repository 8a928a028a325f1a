use Rattle.std.proofs.Common.{ap}
use Rattle.p9_lock.specs.Waiting.{Reading}
use Rattle.p9_lock.proofs.RwHolds.{seen_writer}
use Rattle.p9_lock.proofs.readers.RwLocks.writer.Goals as goal

pub returns : goal.returns
returns c =
    let is = ap (λ (r : Reading). r.rwlocks) c.self.view_is in
    rw (seen_writer c.args.k c.self.inside.writers.items c.self.inside.readers.items c.args.self.now.rwlocks is, ← c.deref.ensures.value) c.holder_at.ensures
