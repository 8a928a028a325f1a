use Rattle.p9_outside.specs.Promised.{source_tells, sink_tells}
use Rattle.p9_outside.proofs.FileRuns.{files_run}
use Rattle.p9_outside.proofs.laws.files_run.Goals as goal

pub returns : goal.returns
returns g c =
    files_run (source_tells g.S.Source.left g.S.Source.faults g.S.Source.steady) (sink_tells g.K.Sink.held g.K.Sink.faults g.K.Sink.firm)
