use Rattle.std.proofs.Common.{ap, arith, not, rules}
use Rattle.std.proofs.lemmas.Fn.{filter_same}
use Rattle.p9_manual.specs.declared.state.Party.{Party}
use Rattle.p9_alt.specs.Withdrawn.{withdrawn_where}
use Rattle.p9_alt.proofs.Waits.{queue-filter}
use Rattle.p9_alt.proofs.Withdrawing.{withdrawn_where_state}
use Rattle.p9_alt.proofs.alts.Alts.withdraw_where.Goals as goal

pub invariant_of-self : goal.invariant_of-self
invariant_of-self g c =
    let keeps = λ (w : Party). not (g.E.Gone.ends c.args.ending.now w.tid) in
    let left = filter_same _ keeps _ (λ x b f' k. search rules) c.self.inside.waits.items c.retain.new.self.items c.retain.ensures.filtered in
    let room = c.self.invariant.room in
    record {
      queue = rw left (queue-filter keeps c.self.inside.waits.items c.self.invariant.queue);
      room = omega arith;
    }

pub returns-clause-after : goal.returns-clause-after
returns-clause-after g c =
    let keeps = λ (w : Party). not (g.E.Gone.ends c.args.ending.now w.tid) in
    let left = filter_same _ keeps _ (λ x b f' k. search rules) c.self.inside.waits.items c.retain.new.self.items c.retain.ensures.filtered in
    rw left (ap (withdrawn_where (g.E.Gone.ends c.args.ending.now)) c.self.view_is)

pub returns-clause-stands : goal.returns-clause-stands
returns-clause-stands g c = withdrawn_where_state (g.E.Gone.ends c.args.ending.now) c.args.self.now _ (returns-clause-after g c)
