use Rattle.std.proofs.Common.{◌≡◌, ℕ, ◌<◌, ◌≤◌, length, List, refl, sym, ap, arith}
use Rattle.p9_grammar.specs.declared.instr.Instr.{Instr}
use Rattle.p9_grammar.specs.declared.pipeline.ProgDecl.{ProgDecl}
use Rattle.p9_grammar.specs.Placed.{placed_prog}
use Rattle.p9_lang.proofs.Mapped.{mapped_one, mapped_length}
use Rattle.p9_lang.proofs.finish.place_progs.Goals.{in-Some+in_ok-place_code, in_default}
use Rattle.p9_lang.proofs.finish.place_progs.Goals as goal

abbrev with_code : List ℕ → List Instr → ProgDecl
with_code name code = record { name = name; code = code }

pub loop-i-preserved : goal.loop-i-preserved
loop-i-preserved c =
    let xs = c.args.progs.now in
    let lt : c.loop-i.i < length xs = omega (arith, c.loop-i-test.true, c.len-i-end.ensures) in
    elim c.match-get_mut.branch [
      | in-Some+in_ok-place_code w ↦
          let new : ProgDecl = record { name = w.in-Some.prog.now.name; code = w.place_code.new.code } in
          let same : new ≡ placed_prog c.args.threads w.in-Some.prog.now = ap (with_code w.in-Some.prog.now.name) w.in_ok-place_code.ensures in
          mapped_one (placed_prog c.args.threads) xs c.loop-i.progs c.match-get_mut.progs c.loop-i.i w.in-Some.prog.now new lt c.loop-i.invariant (sym w.in-Some.ensures.value) same w.progs-is
      | in_default w ↦
          let past : length c.loop-i.progs ≤ c.loop-i.i = w.in_default.ensures.past.0 refl in
          let same = mapped_length (placed_prog c.args.threads) xs c.loop-i.i in
          let e = c.loop-i.invariant in
          let past2 = rw (e, same) at past in
          absurd (omega (arith, past2, lt))
    ]
