use Rattle.std.proofs.Common.{sym, ◌∙◌}
use Rattle.p9_signal_calls.proofs.Posting.{post_serves, post_unread}
use Rattle.p9_signal_calls.proofs.notes.post.Goals as goal

pub returns-then-not-is_alive-clause-serves : goal.returns-then-not-is_alive-clause-serves
returns-then-not-is_alive-clause-serves c = post_unread c.args.p c.args.note c.args.sched.now c.args.alts.now c.args.locks.now c.args.notes.now (sym c.is_alive.ensures ∙ c.if-not-is_alive.true)

pub returns-clause-serves : goal.returns-clause-serves
returns-clause-serves c =
    post_serves c.args.p c.args.note c.args.sched.now c.interrupt_meeting.new.sched c.args.alts.now c.interrupt_meeting.new.alts c.args.locks.now c.interrupt_meeting.new.locks c.args.notes.now c.post.new.self (sym c.is_no_note.ensures ∙ c.if-is_no_note.false) (sym c.is_alive.ensures ∙ c.if-not-is_alive.false) c.post.ensures.stands c.interrupt_meeting.ensures
