use Rattle.std.proofs.Common.{◌+◌, length, sym}
use Rattle.std.proofs.Math.Seq.{drop-length}
use Rattle.std.proofs.lemmas.List.{take_rest}
use Rattle.p9_lang.proofs.Cuts.{cut_at, cut_whole}
use Rattle.p9_lang.proofs.lines.cut_line.Goals as goal

pub returns-in-None-clause-line : goal.returns-in-None-clause-line
returns-in-None-clause-line c =
    let s = c.args.text.now in
    rw (take_rest s (length s), drop-length s) (cut_whole s c.requires (sym c.in-None.ensures))

pub returns-in-Some-clause-line : goal.returns-in-Some-clause-line
returns-in-Some-clause-line c =
    let s = c.args.text.now in
    rw (take_rest s (c.in-Some.i + 1)) (cut_at s c.in-Some.i c.requires (sym c.in-Some.ensures))
