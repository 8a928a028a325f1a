use Rattle.std.proofs.Common.{◌≡◌, ◌+◌, ◌≤◌, length, take}
use Rattle.p9_word.proofs.datum.SeqDatum.copied.Given as goal

-- the items so far are copied, and there is room for the others
abbrev pub invariant-loop-item : goal.invariant-loop-item
invariant-loop-item g l = record {
  copied : l.room.items ≡ take l.item-index l.item-items;
  room : length l.item-items ≤ l.room.spare + l.item-index;
}
