use Rattle.std.proofs.Common.{◌+◌, ◌++◌, ◌==◌, length, sym, ap, ◌∙◌, add-zero}
use Rattle.std.proofs.lemmas.List.{append-nil}
use Rattle.p9_manual.specs.Claims.{rw_at}
use Rattle.p9_manual.specs.Unlocks.{Grant}
use Rattle.p9_manual.specs.Queues.{without_first}
use Rattle.p9_manual.specs.State.{by_id}
use Rattle.p9_lock.specs.Locking.{granted}
use Rattle.p9_lock.specs.Shown.{shown}
use Rattle.p9_lock.proofs.Held.{held_there}
use Rattle.p9_lock.proofs.Released.{read_there, last_reader, other_readers}
use Rattle.p9_lock.proofs.locks.Locks.runlock.Goals as goal

pub has_readers-requires : goal.has_readers-requires
has_readers-requires c =
    let there = read_there c.args.t (by_id c.self.inside.rwlocks.rwlocks c.args.k) (rw (← c.self.view_is) at c.requires.holds) in
    rw c.remove_reader.ensures.rwlocks (held_there c.args.k _ c.self.inside.rwlocks.rwlocks there)

pub pass_on-requires-clause-there : goal.pass_on-requires-clause-there
pass_on-requires-clause-there c =
    let there = read_there c.args.t (by_id c.self.inside.rwlocks.rwlocks c.args.k) (rw (← c.self.view_is) at c.requires.holds) in
    rw c.remove_reader.ensures.rwlocks (held_there c.args.k _ c.self.inside.rwlocks.rwlocks there)

pub returns-then-not-has_readers-clause-after : goal.returns-then-not-has_readers-clause-after
returns-then-not-has_readers-clause-after c =
    let x = shown c.self.inside in
    let left = without_first (λ r. r == c.args.t) (rw_at c.args.k x.holds).readers in
    let there = read_there c.args.t (by_id x.holds.rwlocks c.args.k) (rw (← c.self.view_is) at c.requires.holds) in
    let last = last_reader c.args.k left x.holds c.remove_reader.new.self.rwlocks x.waits c.remove_reader.ensures.rwlocks there (sym c.has_readers.ensures ∙ c.if-not-has_readers.true) in
    rw (← c.self.view_is) (c.pass_on.ensures.after ∙ ap (λ (g : Grant). granted g x) last)

pub returns-then-not-has_readers-clause-woken : goal.returns-then-not-has_readers-clause-woken
returns-then-not-has_readers-clause-woken c =
    let x = shown c.self.inside in
    let left = without_first (λ r. r == c.args.t) (rw_at c.args.k x.holds).readers in
    let there = read_there c.args.t (by_id x.holds.rwlocks c.args.k) (rw (← c.self.view_is) at c.requires.holds) in
    let last = last_reader c.args.k left x.holds c.remove_reader.new.self.rwlocks x.waits c.remove_reader.ensures.rwlocks there (sym c.has_readers.ensures ∙ c.if-not-has_readers.true) in
    rw (← c.self.view_is) (c.pass_on.ensures.woken ∙ ap (λ (g : Grant). c.args.woken.now.items ++ g.granted) last)

pub returns-then-not-has_readers-clause-spare : goal.returns-then-not-has_readers-clause-spare
returns-then-not-has_readers-clause-spare c =
    let x = shown c.self.inside in
    let left = without_first (λ r. r == c.args.t) (rw_at c.args.k x.holds).readers in
    let there = read_there c.args.t (by_id x.holds.rwlocks c.args.k) (rw (← c.self.view_is) at c.requires.holds) in
    let last = last_reader c.args.k left x.holds c.remove_reader.new.self.rwlocks x.waits c.remove_reader.ensures.rwlocks there (sym c.has_readers.ensures ∙ c.if-not-has_readers.true) in
    rw (← c.self.view_is) (ap (λ (g : Grant). c.pass_on.new.woken.spare + length g.granted) (sym last) ∙ c.pass_on.ensures.spare)

pub returns-else-not-has_readers-clause-after : goal.returns-else-not-has_readers-clause-after
returns-else-not-has_readers-clause-after c =
    let x = shown c.self.inside in
    let left = without_first (λ r. r == c.args.t) (rw_at c.args.k x.holds).readers in
    let there = read_there c.args.t (by_id x.holds.rwlocks c.args.k) (rw (← c.self.view_is) at c.requires.holds) in
    let others = other_readers c.args.k left x.holds c.remove_reader.new.self.rwlocks x.waits c.remove_reader.ensures.rwlocks there (sym c.has_readers.ensures ∙ c.if-not-has_readers.false) in
    rw (← c.self.view_is) (ap (λ (g : Grant). granted g x) others)

pub returns-else-not-has_readers-clause-woken : goal.returns-else-not-has_readers-clause-woken
returns-else-not-has_readers-clause-woken c =
    let x = shown c.self.inside in
    let left = without_first (λ r. r == c.args.t) (rw_at c.args.k x.holds).readers in
    let there = read_there c.args.t (by_id x.holds.rwlocks c.args.k) (rw (← c.self.view_is) at c.requires.holds) in
    let others = other_readers c.args.k left x.holds c.remove_reader.new.self.rwlocks x.waits c.remove_reader.ensures.rwlocks there (sym c.has_readers.ensures ∙ c.if-not-has_readers.false) in
    rw (← c.self.view_is) (sym (append-nil c.args.woken.now.items) ∙ ap (λ (g : Grant). c.args.woken.now.items ++ g.granted) others)

pub returns-else-not-has_readers-clause-spare : goal.returns-else-not-has_readers-clause-spare
returns-else-not-has_readers-clause-spare c =
    let x = shown c.self.inside in
    let left = without_first (λ r. r == c.args.t) (rw_at c.args.k x.holds).readers in
    let there = read_there c.args.t (by_id x.holds.rwlocks c.args.k) (rw (← c.self.view_is) at c.requires.holds) in
    let others = other_readers c.args.k left x.holds c.remove_reader.new.self.rwlocks x.waits c.remove_reader.ensures.rwlocks there (sym c.has_readers.ensures ∙ c.if-not-has_readers.false) in
    rw (← c.self.view_is) (ap (λ (g : Grant). c.args.woken.now.spare + length g.granted) (sym others) ∙ add-zero c.args.woken.now.spare)
