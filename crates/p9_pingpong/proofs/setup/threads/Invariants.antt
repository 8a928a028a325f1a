use Rattle.std.proofs.Common.{◌≡◌, ◌+◌, length, All}
use Rattle.p9_word.specs.Setup.{IsThreadOf}
use Rattle.p9_pingpong.proofs.setup.threads.Given as goal

abbrev pub invariant-loop : goal.invariant-loop
invariant-loop l = record {
  each : All (IsThreadOf 1 1) l.threads.items;
  count : length l.threads.items ≡ l.counter;
  all : l.count ≡ l.waiting + 2;
}
