use Rattle.std.proofs.Common.{arith}
use Rattle.p9_word.proofs.Digits.{too_big_at, is_read}
use Rattle.p9_word.proofs.numbers.read_number.Goals as goal

pub returns-in-None : goal.returns-in-None
returns-in-None c = too_big_at c.args.bytes.now c.loop-b.b-index c.loop-b.value c.loop-b-test.true c.loop-b.invariant.value (omega (arith, c.in-None.ensures))

pub returns-in-None-checked_add : goal.returns-in-None-checked_add
returns-in-None-checked_add c = too_big_at c.args.bytes.now c.loop-b.b-index c.loop-b.value c.loop-b-test.true c.loop-b.invariant.value (omega (arith, c.in-None-checked_add.ensures, c.in-Some.ensures.1, c.from.ensures))

pub returns : goal.returns
returns c = is_read c.args.bytes.now c.loop-b.b-index c.loop-b.value c.loop-b-test.false c.loop-b.invariant.some c.loop-b.invariant.digits c.loop-b.invariant.value c.loop-b.invariant.small
