use Rattle.std.proofs.Common.{◌≡◌, ◌<◌, ◌^◌, length, drop}
use Rattle.std.specs.Str.{all_ascii_digits}
use Rattle.p9_word.specs.Numbers.{value_on}
use Rattle.p9_word.proofs.numbers.read_number.Given as goal

abbrev pub invariant-loop-b : goal.invariant-loop-b
invariant-loop-b l = record {
  some : 0 < length l.bytes;
  digits : all_ascii_digits (drop l.b-index l.bytes) ≡ all_ascii_digits l.bytes;
  small : l.value < 2 ^ 64;
  value : value_on l.value (drop l.b-index l.bytes) ≡ value_on 0 l.bytes;
}
