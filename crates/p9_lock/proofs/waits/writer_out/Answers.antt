use Rattle.std.proofs.Common.{length, sym, ap, arith}
use Rattle.std.specs.List.{find}
use Rattle.std.specs.Option.{option_to_list}
use Rattle.p9_lock.proofs.Queue.{writer_found, one_found, writes}
use Rattle.p9_lock.proofs.waits.writer_out.Goals as goal

pub returns-clause-less : goal.returns-clause-less
returns-clause-less c =
    let ws = c.args.waits.now.items in
    let at = writer_found c.args.k c.in_ok-t.t ws (rw (← c.deref.ensures.value) (sym c.in_ok-t.ensures)) in
    let one = one_found (find (writes c.args.k) ws) c.in_ok-t.t at in
    let less = c.first_out.ensures.less in
    let len = ap (λ o. length (option_to_list o)) c.first_out.ensures.first in
    omega (arith, one, less, len)
