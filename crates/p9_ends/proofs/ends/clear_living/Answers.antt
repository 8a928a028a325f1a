use Rattle.std.proofs.Common.{◌∙◌, refl}
use Rattle.p9_ends.proofs.Parting.{living_more, living_none}
use Rattle.p9_ends.proofs.ends.clear_living.Goals as goal

pub loop-i-init : goal.loop-i-init
loop-i-init c = record { stands = living_none c.args.sched.now.threads c.args.notes.now; count = c.requires.places }

pub loop-i-preserved : goal.loop-i-preserved
loop-i-preserved c = record {
  stands = living_more c.args.sched.now.threads c.loop-i.i c.living.result _ c.args.notes.now c.loop-i.notes c.clear_if.new.notes refl c.living.ensures c.clear_if.ensures.stands c.loop-i.invariant.stands;
  count = c.clear_if.ensures.count ∙ c.loop-i.invariant.count;
}
