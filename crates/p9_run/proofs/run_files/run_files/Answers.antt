use Rattle.std.proofs.Common.{sym, refl, ◌∙◌, arith, ◌≡◌}
use Rattle.p9_outside.specs.declared.file_device.FileDevice.TheVariants.{Out}
use Rattle.p9_outside.specs.Promised.{source_tells, sink_tells}
use Rattle.p9_run.proofs.Runs.{between_none, ended, writer_is, reader_is, history_none, moves_none, moves_at}
use Rattle.p9_run.proofs.run_files.run_files.Goals as goal

pub returns-in-Err-clause-history : goal.returns-in-Err-clause-history
returns-in-Err-clause-history g c = rw c.requires.start (history_none _)

pub returns-in-Err-clause-moves : goal.returns-in-Err-clause-moves
returns-in-Err-clause-moves g c = rw c.requires.start (moves_none c.no_bytes_move_nothing.ensures _ _ _ _ _ _)

pub run_rounds-outcome-requires-clause-between : goal.run_rounds-outcome-requires-clause-between
run_rounds-outcome-requires-clause-between g c κs within = rw c.requires.start (between_none _ _ _ _ _)

pub unreachable-requires : goal.unreachable-requires
unreachable-requires g c =
    let ran = ended (source_tells g.S.Source.left g.S.Source.faults g.S.Source.steady) (sink_tells g.K.Sink.held g.K.Sink.faults g.K.Sink.firm) c.files_run.ensures _ _ _ _ _ _ _ _ _ c.requires.start c.run_rounds-outcome.ensures.runs c.new.ensures.at c.new-2.ensures.at c.new.ensures.source c.new-2.ensures.sink (rw (c.as_mut_slice.ensures.value, c.push_reserved-2.ensures.items, c.push_reserved.ensures.items, c.in-Ok.ensures.items) refl) c.run_rounds-outcome.ensures.devices in
    let two : c.push_reserved-2.new.self.len ≡ 2 = omega (arith, c.in-Ok.ensures.len, c.push_reserved.ensures.len, c.push_reserved-2.ensures.len) in
    let w = writer_is (source_tells g.S.Source.left g.S.Source.faults g.S.Source.steady) (sink_tells g.K.Sink.held g.K.Sink.faults g.K.Sink.firm) c.files_run.ensures _ _ _ _ _ _ _ _ ran two c.pop.ensures.value in
    c.in_default.not-Some ran.writer (c.out_of.ensures ∙ w)

pub unreachable-requires-in_default-in_of : goal.unreachable-requires-in_default-in_of
unreachable-requires-in_default-in_of g c =
    let ran = ended (source_tells g.S.Source.left g.S.Source.faults g.S.Source.steady) (sink_tells g.K.Sink.held g.K.Sink.faults g.K.Sink.firm) c.files_run.ensures _ _ _ _ _ _ _ _ _ c.requires.start c.run_rounds-outcome.ensures.runs c.new.ensures.at c.new-2.ensures.at c.new.ensures.source c.new-2.ensures.sink (rw (c.as_mut_slice.ensures.value, c.push_reserved-2.ensures.items, c.push_reserved.ensures.items, c.in-Ok.ensures.items) refl) c.run_rounds-outcome.ensures.devices in
    let two : c.push_reserved-2.new.self.len ≡ 2 = omega (arith, c.in-Ok.ensures.len, c.push_reserved.ensures.len, c.push_reserved-2.ensures.len) in
    let w = writer_is (source_tells g.S.Source.left g.S.Source.faults g.S.Source.steady) (sink_tells g.K.Sink.held g.K.Sink.faults g.K.Sink.firm) c.files_run.ensures _ _ _ _ _ _ _ _ ran two c.pop.ensures.value in
    let some = c.pop.ensures.value (Out ran.writer) (omega (arith, two)) in
    let gone = rw some at c.pop.ensures.len in
    let one : c.pop.new.self.len ≡ 1 = omega (arith, two, gone) in
    let r = reader_is (source_tells g.S.Source.left g.S.Source.faults g.S.Source.steady) (sink_tells g.K.Sink.held g.K.Sink.faults g.K.Sink.firm) c.files_run.ensures _ _ _ _ _ _ _ _ _ _ ran two one c.pop.ensures.rest c.pop-2.ensures.value in
    c.in_default-in_of.not-Some ran.reader (c.in_of.ensures ∙ r)

pub returns-clause-history : goal.returns-clause-history
returns-clause-history g c =
    let ran = ended (source_tells g.S.Source.left g.S.Source.faults g.S.Source.steady) (sink_tells g.K.Sink.held g.K.Sink.faults g.K.Sink.firm) c.files_run.ensures _ _ _ _ _ _ _ _ _ c.requires.start c.run_rounds-outcome.ensures.runs c.new.ensures.at c.new-2.ensures.at c.new.ensures.source c.new-2.ensures.sink (rw (c.as_mut_slice.ensures.value, c.push_reserved-2.ensures.items, c.push_reserved.ensures.items, c.in-Ok.ensures.items) refl) c.run_rounds-outcome.ensures.devices in
    ran.history_is

pub returns-clause-moves : goal.returns-clause-moves
returns-clause-moves g c =
    let ran = ended (source_tells g.S.Source.left g.S.Source.faults g.S.Source.steady) (sink_tells g.K.Sink.held g.K.Sink.faults g.K.Sink.firm) c.files_run.ensures _ _ _ _ _ _ _ _ _ c.requires.start c.run_rounds-outcome.ensures.runs c.new.ensures.at c.new-2.ensures.at c.new.ensures.source c.new-2.ensures.sink (rw (c.as_mut_slice.ensures.value, c.push_reserved-2.ensures.items, c.push_reserved.ensures.items, c.in-Ok.ensures.items) refl) c.run_rounds-outcome.ensures.devices in
    let two : c.push_reserved-2.new.self.len ≡ 2 = omega (arith, c.in-Ok.ensures.len, c.push_reserved.ensures.len, c.push_reserved-2.ensures.len) in
    let w = writer_is (source_tells g.S.Source.left g.S.Source.faults g.S.Source.steady) (sink_tells g.K.Sink.held g.K.Sink.faults g.K.Sink.firm) c.files_run.ensures _ _ _ _ _ _ _ _ ran two c.pop.ensures.value in
    let some = c.pop.ensures.value (Out ran.writer) (omega (arith, two)) in
    let gone = rw some at c.pop.ensures.len in
    let one : c.pop.new.self.len ≡ 1 = omega (arith, two, gone) in
    let r = reader_is (source_tells g.S.Source.left g.S.Source.faults g.S.Source.steady) (sink_tells g.K.Sink.held g.K.Sink.faults g.K.Sink.firm) c.files_run.ensures _ _ _ _ _ _ _ _ _ _ ran two one c.pop.ensures.rest c.pop-2.ensures.value in
    let reader = sym c.in-Some-in_of.is ∙ c.in_of.ensures ∙ r in
    let writer = sym c.in-Some.is ∙ c.out_of.ensures ∙ w in
    rw (c.into_inner.ensures, c.into_inner-2.ensures) (moves_at (source_tells g.S.Source.left g.S.Source.faults g.S.Source.steady) (sink_tells g.K.Sink.held g.K.Sink.faults g.K.Sink.firm) c.files_run.ensures _ _ _ _ _ ran _ _ reader writer)
