use Rattle.p9_manual.specs.ReadyEntries.{is_ready}
use Rattle.p9_alt.proofs.Numbers.{only_number, only_ready}
use Rattle.p9_alt.proofs.ready.ready_number.Goals as goal

pub returns-then-entries-eq1-clause-number : goal.returns-then-entries-eq1-clause-number
returns-then-entries-eq1-clause-number c =
    only_number (is_ready c.args.chans.now.chans c.args.waits.now) c.args.entries.now c.args.n c.if-entries-eq1.true c.requires.within

pub returns-then-entries-eq1-clause-ready : goal.returns-then-entries-eq1-clause-ready
returns-then-entries-eq1-clause-ready c =
    only_ready (is_ready c.args.chans.now.chans c.args.waits.now) c.args.entries.now c.args.n c.if-entries-eq1.true c.requires.within
