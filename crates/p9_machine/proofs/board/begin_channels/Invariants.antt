use Rattle.std.proofs.Common.{◌≡◌, [], map, take}
use Rattle.p9_manual.specs.History.{new_channel}
use Rattle.p9_machine.proofs.board.begin_channels.Given as goal

abbrev pub invariant-loop-c : goal.invariant-loop-c
invariant-loop-c l = record {
  chans : l.alts.channels.chans ≡ map new_channel (take l.c-index l.setups);
  waits : l.alts.waits ≡ [];
}
