use Rattle.p9_word.specs.Setup.{IsValid}
use Rattle.std.proofs.Common.{◌≡◌, true}
use Rattle.p9_laws.specs.RunReplies.{reply_at}
use Rattle.p9_run.specs.Over.{AllOver}
use Rattle.p9_run.specs.Stands.{IsBetween}
use Rattle.p9_run.specs.Untouched.{TouchesNoFile}
use Rattle.p9_run.proofs.rounds.proc_turns.Given as goal

abbrev pub invariant-loop-i : goal.invariant-loop-i
invariant-loop-i g l = record {
  valid : IsValid (g.E.Engine.setup l.engine);
  setup : g.E.Engine.setup l.engine ≡ g.E.Engine.setup l.initial.engine;
  between : IsBetween (g.P.Programs.asks l.programs) g.P.B.Body.plan g.P.B.Body.stands_for (g.E.Engine.entries l.engine) l.bodies;
  all_over : l.all_over ≡ true → AllOver l.i (reply_at (g.E.Engine.setup l.engine) (g.E.Engine.entries l.engine));
  files : TouchesNoFile (g.E.Engine.entries l.initial.engine) (g.E.Engine.entries l.engine);
}
