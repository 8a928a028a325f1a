use Rattle.std.proofs.Common.{sym, ap, subst, ◌≡◌, true, arith}
use Rattle.p9_alt.specs.Exchange.{Exchange, IsIdle}
use Rattle.p9_alt.specs.Kept.{one_if}
use Rattle.p9_alt.proofs.Sends.{queue-push}
use Rattle.p9_alt.proofs.alts.Alts.unready.Goals as goal

pub invariant_of-self : goal.invariant_of-self
invariant_of-self c =
    let idle = subst (λ (x : Exchange). IsIdle c.args.me.tid x) (sym c.self.view_is) c.requires.idle in
    let on = subst (λ (x : Exchange). x.spare.waiter ≡ true) (sym c.self.view_is) c.requires.waiter in
    let one = ap one_if on in
    let room = c.self.invariant.room in
    record {
      queue = rw c.push_reserved.ensures.items (queue-push c.self.inside.waits.items c.args.me c.self.invariant.queue c.requires.few idle);
      room = omega arith;
    }
