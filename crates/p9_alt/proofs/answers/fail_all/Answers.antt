use Rattle.std.proofs.Common.{arith, sym, ap, ◌∙◌, ◌++◌, map, List}
use Rattle.p9_word.specs.declared.answer.Answer.{Answer}
use Rattle.std.specs.Prelude.{ℕ}
use Rattle.p9_alt.specs.Exchange.{pair_of}
use Rattle.p9_alt.proofs.Waits.{failed_no, woken_more, waiting_first, waiting_later}
use Rattle.p9_alt.proofs.answers.fail_all.Goals as goal
use Rattle.p9_alt.proofs.answers.fail_all.Goals.{then-is_in, else-is_in}

pub loop-w-preserved : goal.loop-w-preserved
loop-w-preserved c =
    let ws = c.args.waits.now in
    let old = c.args.woken.now.items in
    elim c.if-is_in.branch [
      | then-is_in w ↦ rw w.woken-is (record {
        woken = woken_more c.args.c ws c.loop-w.w-index c.w-item.result old c.loop-w.woken.items _ w.failed_wake.result c.loop-w-test.true c.w-item.is (sym c.is_in.ensures ∙ w.if-is_in.true) w.failed_wake.ensures c.loop-w.invariant.woken w.push.ensures.items;
        room = (let h = waiting_first c.args.c ws c.loop-w.w-index c.w-item.result c.loop-w-test.true c.w-item.is (sym c.is_in.ensures ∙ w.if-is_in.true) in let room = c.loop-w.invariant.room in let spare = w.push.ensures.spare in omega arith);
      })
      | else-is_in w ↦ rw w.woken-is (record {
        woken = c.loop-w.invariant.woken ∙ ap (λ (r : List (ℕ × Answer)). map pair_of old ++ r) (sym (failed_no c.args.c ws c.loop-w.w-index c.w-item.result c.loop-w-test.true c.w-item.is (sym c.is_in.ensures ∙ w.if-is_in.false)));
        room = (let h = waiting_later c.args.c ws c.loop-w.w-index c.w-item.result c.loop-w-test.true c.w-item.is (sym c.is_in.ensures ∙ w.if-is_in.false) in let room = c.loop-w.invariant.room in omega arith);
      })
    ]

pub push-requires : goal.push-requires
push-requires c =
    let ws = c.args.waits.now in
    let h = waiting_first c.args.c ws c.loop-w.w-index c.w-item.result c.loop-w-test.true c.w-item.is (sym c.is_in.ensures ∙ c.if-is_in.true) in
    let room = c.loop-w.invariant.room in
    omega arith
