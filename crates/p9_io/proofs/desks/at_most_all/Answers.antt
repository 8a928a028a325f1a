use Rattle.std.proofs.Common.{arith}
use Rattle.std.proofs.lemmas.List.{length-map}
use Rattle.p9_io.specs.declared.desk.Desk.{Desk}
use Rattle.p9_io.specs.Kept.{ioprocs_of}
use Rattle.p9_io.proofs.Counts.{count_few}
use Rattle.p9_io.proofs.desks.at_most_all.Goals as goal

pub prove-unreachable-requires : goal.prove-unreachable-requires
prove-unreachable-requires c =
    let most = count_few (ioprocs_of c.args.desks.now) in
    let all = length-map c.args.desks.now (λ (d : Desk). d.ioproc) in
    omega arith
