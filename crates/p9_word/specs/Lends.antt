-- what a list ends as, once a `&mut` into it has ended
use Rattle.std.specs.Prelude.{ℕ, List, slice_set, Option}
use Rattle.std.specs.Borrow.{LendsIf, Fml, RattleType, MutBor}
use Rattle.p9_word.specs.contracts.seq.Seq.{the_row}

module _ (T : RattleType) (s : MutBor (List T.Denot)) where
  -- the item has the last value written through r, and at `None` the list stays as it is
  abbrev pub lends_item : ℕ → Option (MutBor T.Denot) → Fml
  lends_item i r = LendsIf (the_row T) T s r (slice_set s.now i) s.now
