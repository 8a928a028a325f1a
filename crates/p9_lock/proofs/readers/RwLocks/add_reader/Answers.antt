use Rattle.std.proofs.Common.{ap}
use Rattle.p9_lock.specs.Waiting.{Reading}
use Rattle.p9_lock.proofs.RwHolds.{seen_readers, put_readers, readers_more, readers_others}
use Rattle.p9_lock.proofs.readers.RwLocks.add_reader.Goals as goal

pub returns-clause-rwlocks : goal.returns-clause-rwlocks
returns-clause-rwlocks c =
    let is = ap (λ (r : Reading). r.rwlocks) c.self.view_is in
    let ws = c.self.inside.writers.items in
    let rs = c.self.inside.readers.items in
    rw (seen_readers c.args.k ws rs c.args.self.now.rwlocks is c.requires.there, ← readers_more c.args.k c.args.t rs, c.push_reserved.ensures.items) (put_readers c.args.k ws rs _ c.args.self.now.rwlocks is c.requires.there (λ j ne. readers_others j c.args.k c.args.t rs ne))
