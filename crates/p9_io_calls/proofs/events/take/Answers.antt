use Rattle.std.proofs.Common.{◌≡◌, Some, false}
use Rattle.std.specs.Prelude.{◌||◌, ◌-◌, not, slice_get}
use Rattle.std.specs.List.{list_any}
use Rattle.p9_manual.specs.declared.state.Ioproc.TheVariants.{Posted}
use Rattle.p9_manual.specs.Ioprocs.{io_event}
use Rattle.p9_manual.specs.Places.{lives}
use Rattle.p9_manual.specs.State.{by_id}
use Rattle.p9_io_calls.proofs.Taking.{not_over, spare_posted, rooms_taken, serves_taken}
use Rattle.p9_io_calls.proofs.events.take.Goals as goal
use Rattle.p9_io_calls.proofs.events.take.Goals.{then-over, else-over}

found : (c : goal.After-take-took) → by_id c.args.io.now.ioprocs c.args.k ≡ Some (Posted c.in-Some-Posted.field-0-0 c.in-Some-Posted.field-0-1)
found c = cc (c.in-Some-Posted.ensures, c.in-Some-Posted.field-0-is)

running : (c : goal.After-take-took) → (c.args.over || not (list_any lives c.args.sched.now.threads)) ≡ false
running c = elim c.if-over.branch [ then-over w ↦ absurd (cc (w.is_over-is, c.if-is_over.false)) | else-over w ↦ not_over _ _ _ _ w.if-over.false w.is_over-is w.has_living.ensures c.if-is_over.false ]

pub returns-in-Copy-clause-served : goal.returns-in-Copy-clause-served
unfolding io_event
returns-in-Copy-clause-served c = λ setup s over h.
    let io = c.args.io.now in
    let both = spare_posted (by_id io.ioprocs c.args.k) _ _ c.in-Copy.call (slice_get io.prepared (c.args.k - 1)) c.args.spare (found c) c.requires.spare c.in-Copy.is in
    serves_taken setup s c.args.k c.in-Some-Posted.field-0-0 c.in-Some-Posted.field-0-1 c.in-Copy.call c.args.sched.now io c.take-took.new.self h (found c) both.1 (rw (over, h.threads.threads) (running c)) (c.take-took.ensures.stands both.0 s h.ioprocs)

pub returns-in-Copy-clause-rooms : goal.returns-in-Copy-clause-rooms
returns-in-Copy-clause-rooms c =
    let io = c.args.io.now in
    let both = spare_posted (by_id io.ioprocs c.args.k) _ _ c.in-Copy.call (slice_get io.prepared (c.args.k - 1)) c.args.spare (found c) c.requires.spare c.in-Copy.is in
    rooms_taken c.args.k _ _ (by_id io.ioprocs c.args.k) io c.take-took.new.self (found c) both.0 c.take-took.ensures.board
