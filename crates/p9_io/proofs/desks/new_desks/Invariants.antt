use Rattle.std.proofs.Common.{◌≡◌, replicate, false}
use Rattle.p9_manual.specs.declared.state.Ioproc.TheVariants.{Unmade}
use Rattle.p9_io.specs.Kept.{ioprocs_of, rooms_of, prepared_of}
use Rattle.p9_io.specs.Calls.{begun_count}
use Rattle.p9_io.proofs.desks.new_desks.Given as goal

abbrev pub invariant-loop-i : goal.invariant-loop-i
invariant-loop-i l = record {
  ioprocs : ioprocs_of l.desks.items ≡ replicate l._i Unmade;
  rooms : rooms_of l.desks.items ≡ replicate l._i false;
  prepared : prepared_of l.desks.items ≡ replicate l._i false;
  calls : begun_count (ioprocs_of l.desks.items) ≡ 0;
}
