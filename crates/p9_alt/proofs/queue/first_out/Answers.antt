use Rattle.std.proofs.Common.{◌≡◌, ◌<◌, length, ap, ◌∙◌, arith}
use Rattle.std.proofs.lemmas.Option.{slice_get_past}
use Rattle.p9_alt.proofs.Waits.{removed, left_out}
use Rattle.p9_alt.proofs.queue.first_out.Goals as goal

pub returns-then-i-len-clause-waits : goal.returns-then-i-len-clause-waits
returns-then-i-len-clause-waits c =
    let ws = c.args.waits.now.items in
    let all : length c.deref.result.now ≡ length ws = ap length c.deref.ensures.value in
    let lt : c.first_index-i.result < length ws = omega arith in
    c.remove.ensures.items ∙ removed ws c.first_index-i.result c.remove.result c.requires.queue lt c.remove.ensures.value

pub returns-then-i-len-clause-less : goal.returns-then-i-len-clause-less
returns-then-i-len-clause-less c =
    let ws = c.args.waits.now.items in
    let all : length c.deref.result.now ≡ length ws = ap length c.deref.ensures.value in
    left_out c.args.waits.now c.remove.new.self c.first_index-i.result c.remove.result c.requires.queue (omega arith) (omega arith) c.remove.ensures.value c.remove.ensures.items c.remove.ensures.len c.remove.ensures.capacity

pub returns-else-i-len-clause-first : goal.returns-else-i-len-clause-first
returns-else-i-len-clause-first c =
    let ws = c.args.waits.now.items in
    let all : length c.deref.result.now ≡ length ws = ap length c.deref.ensures.value in
    let at = c.first_index-i.ensures in
    let past = slice_get_past c.deref.result.now c.first_index-i.result (omega arith) in
    let e = c.deref.ensures.value in
    cc
