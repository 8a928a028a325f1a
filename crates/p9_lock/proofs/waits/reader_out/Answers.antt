use Rattle.std.proofs.Common.{◌≡◌, Some, None, sym, ◌∙◌}
use Rattle.std.specs.List.{find}
use Rattle.p9_manual.specs.Queues.{waits_at_rw}
use Rattle.p9_lock.proofs.Queue.{none_in, all_left, stopped_in, stopped_left, reader_found, reader_then, reader_left, same_some, at_none, not_none}
use Rattle.p9_lock.proofs.waits.reader_out.Goals as goal

pub returns-in_err-first-clause-none : goal.returns-in_err-first-clause-none
returns-in_err-first-clause-none c =
    let e : find (waits_at_rw c.args.k) c.args.waits.now.items ≡ None = rw (← c.deref.ensures.value) (sym c.in_err-first.ensures) in
    at_none c.from_residual.result (sym (all_left c.args.k c.args.waits.now.items e))

pub returns-in_err-first-clause-done : goal.returns-in_err-first-clause-done
returns-in_err-first-clause-done c =
    let e : find (waits_at_rw c.args.k) c.args.waits.now.items ≡ None = rw (← c.deref.ensures.value) (sym c.in_err-first.ensures) in
    at_none c.from_residual.result (none_in c.args.k c.args.waits.now.items e)

pub returns-then-is_for-clause-none : goal.returns-then-is_for-clause-none
returns-then-is_for-clause-none c =
    let e : find (waits_at_rw c.args.k) c.args.waits.now.items ≡ Some c.in_ok-first.first.now = rw (← c.deref.ensures.value) (sym c.in_ok-first.ensures) in
    sym (stopped_left c.args.k c.in_ok-first.first.now c.args.waits.now.items e (sym c.is_for.ensures ∙ c.if-is_for.true))

pub returns-then-is_for-clause-done : goal.returns-then-is_for-clause-done
returns-then-is_for-clause-done c =
    let e : find (waits_at_rw c.args.k) c.args.waits.now.items ≡ Some c.in_ok-first.first.now = rw (← c.deref.ensures.value) (sym c.in_ok-first.ensures) in
    stopped_in c.args.k c.in_ok-first.first.now c.args.waits.now.items e (sym c.is_for.ensures ∙ c.if-is_for.true)

pub returns-in_err-reader-clause-none : goal.returns-in_err-reader-clause-none
returns-in_err-reader-clause-none c =
    let e : find (waits_at_rw c.args.k) c.args.waits.now.items ≡ Some c.in_ok-first.first.now = rw (← c.deref.ensures.value) (sym c.in_ok-first.ensures) in
    let at = reader_found c.args.k c.in_ok-first.first.now c.args.waits.now.items e (sym c.is_for.ensures ∙ c.if-is_for.false) in
    not_none c.in_ok-first.first.now (sym at ∙ sym c.in_err-reader.ensures.first)

pub returns-in_err-reader-clause-done : goal.returns-in_err-reader-clause-done
returns-in_err-reader-clause-done c =
    let e : find (waits_at_rw c.args.k) c.args.waits.now.items ≡ Some c.in_ok-first.first.now = rw (← c.deref.ensures.value) (sym c.in_ok-first.ensures) in
    let at = reader_found c.args.k c.in_ok-first.first.now c.args.waits.now.items e (sym c.is_for.ensures ∙ c.if-is_for.false) in
    not_none c.in_ok-first.first.now (sym at ∙ sym c.in_err-reader.ensures.first)

pub returns-clause-reader : goal.returns-clause-reader
returns-clause-reader c =
    let ws = c.args.waits.now.items in
    let e : find (waits_at_rw c.args.k) ws ≡ Some c.in_ok-first.first.now = rw (← c.deref.ensures.value) (sym c.in_ok-first.ensures) in
    let off = sym c.is_for.ensures ∙ c.if-is_for.false in
    let at = reader_found c.args.k c.in_ok-first.first.now ws e off in
    let same = same_some _ _ (sym at ∙ sym c.in_ok-reader.ensures.first) in
    rw (c.first_out.ensures.waits, ← same) (reader_then c.args.k c.in_ok-first.first.now ws e off)

pub returns-clause-left : goal.returns-clause-left
returns-clause-left c =
    let ws = c.args.waits.now.items in
    let e : find (waits_at_rw c.args.k) ws ≡ Some c.in_ok-first.first.now = rw (← c.deref.ensures.value) (sym c.in_ok-first.ensures) in
    rw c.first_out.ensures.waits (reader_left c.args.k c.in_ok-first.first.now ws e (sym c.is_for.ensures ∙ c.if-is_for.false))
