use Rattle.std.proofs.Common.{◌≡◌, length, map}
use Rattle.p9_manual.specs.Ends.{let_go}
use Rattle.p9_io.specs.Kept.{ioprocs_of, rooms_of, prepared_of}
use Rattle.p9_io.proofs.Shown.{from}
use Rattle.p9_io.proofs.desks.let_go.Given as goal

abbrev pub invariant-loop-i : goal.invariant-loop-i
invariant-loop-i g l = record {
  ioprocs : from (let_go (g.E.Gone.ends l.ending)) l.i (ioprocs_of l.desks.items) ≡ map (let_go (g.E.Gone.ends l.ending)) (ioprocs_of l.fn.desks.items);
  rooms : rooms_of l.desks.items ≡ rooms_of l.fn.desks.items;
  len : length l.desks.items ≡ l.n;
  prepared : prepared_of l.desks.items ≡ prepared_of l.fn.desks.items;
}
