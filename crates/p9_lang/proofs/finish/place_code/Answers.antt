use Rattle.std.proofs.Common.{◌<◌, ◌≤◌, length, refl, sym, arith}
use Rattle.p9_grammar.specs.Placed.{placed}
use Rattle.p9_lang.proofs.Mapped.{mapped_one, mapped_length}
use Rattle.p9_lang.proofs.finish.place_code.Goals.{in-Some+in_ok-place_instr, in_default}
use Rattle.p9_lang.proofs.finish.place_code.Goals as goal

pub loop-i-preserved : goal.loop-i-preserved
loop-i-preserved c =
    let xs = c.args.code.now in
    let lt : c.loop-i.i < length xs = omega (arith, c.loop-i-test.true, c.len-i-end.ensures) in
    elim c.match-get_mut.branch [
      | in-Some+in_ok-place_instr w ↦ mapped_one (placed c.args.threads) xs c.loop-i.code c.match-get_mut.code c.loop-i.i w.in-Some.instr.now w.place_instr.new.instr lt c.loop-i.invariant (sym w.in-Some.ensures.value) w.in_ok-place_instr.ensures w.code-is
      | in_default w ↦
          let past : length c.loop-i.code ≤ c.loop-i.i = w.in_default.ensures.past.0 refl in
          let same = mapped_length (placed c.args.threads) xs c.loop-i.i in
          let e = c.loop-i.invariant in
          let past2 = rw (e, same) at past in
          absurd (omega (arith, past2, lt))
    ]
