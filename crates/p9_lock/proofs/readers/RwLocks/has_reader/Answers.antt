use Rattle.std.proofs.Common.{ap}
use Rattle.p9_lock.specs.Waiting.{Reading}
use Rattle.p9_lock.proofs.RwHolds.{seen_readers, any_reads_by}
use Rattle.p9_lock.proofs.readers.RwLocks.has_reader.Goals as goal

pub returns : goal.returns
returns c =
    let is = ap (λ (r : Reading). r.rwlocks) c.self.view_is in
    rw (seen_readers c.args.k c.self.inside.writers.items c.self.inside.readers.items c.args.self.now.rwlocks is c.requires, ← any_reads_by c.args.k c.args.t c.self.inside.readers.items, ← c.deref.ensures.value) c.has_reader.ensures
