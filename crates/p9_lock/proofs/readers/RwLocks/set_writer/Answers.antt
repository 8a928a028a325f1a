use Rattle.std.proofs.Common.{ap}
use Rattle.p9_lock.specs.Waiting.{Reading}
use Rattle.p9_lock.proofs.RwHolds.{seen_there, put_writer}
use Rattle.p9_lock.proofs.readers.RwLocks.set_writer.Goals as goal

pub set_holder-requires : goal.set_holder-requires
set_holder-requires c =
    let is = ap (λ (r : Reading). r.rwlocks) c.self.view_is in
    seen_there c.args.k c.self.inside.writers.items c.self.inside.readers.items c.args.self.now.rwlocks is c.requires

pub returns-clause-rwlocks : goal.returns-clause-rwlocks
returns-clause-rwlocks c =
    let is = ap (λ (r : Reading). r.rwlocks) c.self.view_is in
    rw c.set_holder.ensures (put_writer c.args.k c.args.writer c.self.inside.writers.items c.self.inside.readers.items c.args.self.now.rwlocks is c.requires)
