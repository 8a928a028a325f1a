use Rattle.std.proofs.Common.{rules}
use Rattle.p9_outside.proofs.Streams.{appends_more, take_next}
use Rattle.p9_outside.proofs.writing.drain.Goals as goal

pub loop-done-preserved : goal.loop-done-preserved
loop-done-preserved g c =
    record {
      most = search rules;
      bytes = rw take_next (appends_more _ _ _ _ _ c.loop-done.invariant.bytes c.in-Ok.ensures.bytes);
      lowered = search rules;
      none_failed = search rules;
    }
