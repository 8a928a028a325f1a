use Rattle.std.proofs.Common.{eqb, subst}
use Rattle.p9_manual.specs.NoteCalls.{with_proc}
use Rattle.p9_note.specs.For.{Tracks as NoteTracks}
use Rattle.p9_ends.specs.Parts.{quiet_if}
use Rattle.p9_ends.proofs.Parting.{caller_ends, place_stays}
use Rattle.p9_ends.proofs.ends.end_caller.Goals as goal

pub living-requires : goal.living-requires
living-requires c = place_stays c.args.t c.proc_of-p.result c.args.sched.now c.end.new.self c.end.ensures.ended c.proc_of-p.ensures.place

pub returns-clause-ends : goal.returns-clause-ends
returns-clause-ends c =
    caller_ends c.args.t c.proc_of-p.result c.args.sched.now c.end.new.self c.args.io.now c.let_go.new.self c.args.notes.now c.clear_if.new.notes c.requires.runs c.proc_of-p.ensures.proc c.proc_of-p.ensures.place.from c.end.ensures.ended (c.end.ensures.stands c.requires.runs) c.let_go.ensures.stands
    (subst (λ n. NoteTracks (with_proc (quiet_if (eqb n 0)) c.proc_of-p.result) c.args.notes.now c.clear_if.new.notes) c.living.ensures c.clear_if.ensures.stands)
