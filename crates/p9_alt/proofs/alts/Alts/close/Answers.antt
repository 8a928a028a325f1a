use Rattle.std.proofs.Common.{ap, arith, not, rules}
use Rattle.std.proofs.lemmas.Fn.{filter_same}
use Rattle.p9_manual.specs.declared.state.Party.{Party}
use Rattle.p9_manual.specs.AltEntries.{waits_on}
use Rattle.p9_alt.specs.Exchange.{closed_on}
use Rattle.p9_alt.proofs.Waits.{queue-filter}
use Rattle.p9_alt.proofs.alts.Alts.close.Goals as goal

pub invariant_of-self : goal.invariant_of-self
invariant_of-self c =
    let keeps = λ (w : Party). not (waits_on c.args.c w) in
    let left = filter_same _ keeps _ (λ x b f' k. search rules) c.self.inside.waits.items c.retain.new.self.items c.retain.ensures.filtered in
    let room = c.self.invariant.room in
    record {
      queue = rw left (queue-filter keeps c.self.inside.waits.items c.self.invariant.queue);
      room = omega arith;
    }

pub returns-clause-closed : goal.returns-clause-closed
returns-clause-closed c =
    let keeps = λ (w : Party). not (waits_on c.args.c w) in
    let left = filter_same _ keeps _ (λ x b f' k. search rules) c.self.inside.waits.items c.retain.new.self.items c.retain.ensures.filtered in
    λ on. rw (left, c.close.ensures.closed) (ap (closed_on c.args.c) c.self.view_is)
