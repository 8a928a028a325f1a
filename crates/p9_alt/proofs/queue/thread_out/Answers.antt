use Rattle.std.proofs.Common.{◌≡◌, ◌<◌, length, Some, ap, sym, ◌∙◌, arith}
use Rattle.std.proofs.lemmas.List.Quantifiers.{position-Some}
use Rattle.p9_alt.proofs.Leaving.{found_at, none_passes}
use Rattle.p9_alt.proofs.Sends.{find_by_times}
use Rattle.p9_alt.proofs.Waits.{is_of, remove_is, left_out, others_all}
use Rattle.p9_alt.proofs.queue.thread_out.Goals as goal

pub returns-in-Some-clause-alt : goal.returns-in-Some-clause-alt
returns-in-Some-clause-alt c =
    let p = is_of c.args.tid in
    let ws = c.args.waits.now.items in
    let at = position-Some p ws c.in-Some.i c.remove.result (rw (← c.deref.ensures.value) (sym c.in-Some.ensures)) in
    ap Some c.remove.ensures.value ∙ sym (found_at p ws c.in-Some.i c.remove.result at.0 at.1 at.2)

pub returns-in-Some-clause-waits : goal.returns-in-Some-clause-waits
returns-in-Some-clause-waits c =
    let p = is_of c.args.tid in
    let ws = c.args.waits.now.items in
    let at = position-Some p ws c.in-Some.i c.remove.result (rw (← c.deref.ensures.value) (sym c.in-Some.ensures)) in
    c.remove.ensures.items ∙ remove_is p ws c.in-Some.i c.remove.result (c.requires.queue.apart c.args.tid) at.0 at.1

pub returns-in-Some-clause-less : goal.returns-in-Some-clause-less
returns-in-Some-clause-less c =
    let ws = c.args.waits.now.items in
    let at = position-Some (is_of c.args.tid) ws c.in-Some.i c.remove.result (rw (← c.deref.ensures.value) (sym c.in-Some.ensures)) in
    let lt : c.in-Some.i < length ws = at.0 in
    let all : length c.deref.result.now ≡ length ws = ap length c.deref.ensures.value in
    left_out c.args.waits.now c.remove.new.self c.in-Some.i c.remove.result c.requires.queue (omega arith) (omega arith) c.remove.ensures.value c.remove.ensures.items c.remove.ensures.len c.remove.ensures.capacity

pub returns-in-None-clause-alt : goal.returns-in-None-clause-alt
returns-in-None-clause-alt c =
    let p = is_of c.args.tid in
    let ws = c.args.waits.now.items in
    sym (find_by_times p ws (none_passes p ws (rw (← c.deref.ensures.value) (sym c.in-None.ensures))))

pub returns-in-None-clause-waits : goal.returns-in-None-clause-waits
returns-in-None-clause-waits c =
    let p = is_of c.args.tid in
    let ws = c.args.waits.now.items in
    sym (others_all c.args.tid ws (none_passes p ws (rw (← c.deref.ensures.value) (sym c.in-None.ensures))))
