use Rattle.std.proofs.Common.{◌≡◌, ◌+◌, List}
use Rattle.p9_run.specs.Services.{AllServe}
use Rattle.p9_run.specs.Untouched.{TouchesNoThread}
use Rattle.p9_run.proofs.rounds.io_turns.Given as goal

abbrev pub invariant-loop-device : goal.invariant-loop-device
invariant-loop-device g l = record {
  k : l.k ≡ 1 + l.device-index;
  setup : g.E.Engine.setup l.engine ≡ g.E.Engine.setup l.initial.engine;
  threads : TouchesNoThread (g.E.Engine.entries l.initial.engine) (g.E.Engine.entries l.engine);
  devices : (firsts : List g.row.D.Denot) → AllServe g.D.Device.serves (g.E.Engine.entries l.initial.engine) 1 firsts l.initial.devices → AllServe g.D.Device.serves (g.E.Engine.entries l.engine) 1 firsts l.devices;
}
