use Rattle.std.proofs.Common.{ap}
use Rattle.p9_lock.specs.Waiting.{Reading}
use Rattle.p9_lock.proofs.RwHolds.{seen_readers, put_readers, readers_less, readers_kept}
use Rattle.p9_lock.proofs.readers.RwLocks.remove_reader.Goals as goal

pub returns-clause-rwlocks : goal.returns-clause-rwlocks
returns-clause-rwlocks c =
    let is = ap (λ (r : Reading). r.rwlocks) c.self.view_is in
    let ws = c.self.inside.writers.items in
    let rs = c.self.inside.readers.items in
    rw (seen_readers c.args.k ws rs c.args.self.now.rwlocks is c.requires, ← readers_less c.args.k c.args.t rs, c.remove_first.ensures.readers) (put_readers c.args.k ws rs _ c.args.self.now.rwlocks is c.requires (λ j ne. readers_kept j c.args.k c.args.t rs ne))
