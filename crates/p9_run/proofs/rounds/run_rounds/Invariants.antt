use Rattle.p9_word.specs.Setup.{IsValid}
use Rattle.std.proofs.Common.{◌≡◌, List}
use Rattle.p9_run.specs.Services.{AllServe}
use Rattle.p9_run.specs.Stands.{IsBetween}
use Rattle.p9_run.proofs.rounds.run_rounds.Given as goal

abbrev pub invariant-loop : goal.invariant-loop
invariant-loop g l = record {
  can_next : (goal.iterator-loop g).can_next l.iterator';
  is_finite : (goal.iterator-loop g).is_finite l.iterator';
  valid : IsValid (g.E.Engine.setup l.engine);
  setup : g.E.Engine.setup l.engine ≡ g.E.Engine.setup l.initial.engine;
  between : IsBetween (g.P.Programs.asks l.programs) g.P.B.Body.plan g.P.B.Body.stands_for (g.E.Engine.entries l.engine) l.bodies;
  devices : (firsts : List g.row.D.Denot) → AllServe g.D.Device.serves (g.E.Engine.entries l.initial.engine) 1 firsts l.initial.devices → AllServe g.D.Device.serves (g.E.Engine.entries l.engine) 1 firsts l.devices;
}
