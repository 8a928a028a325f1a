use Rattle.std.proofs.Common.{◌≡◌, ℕ, Bool, true, false, cond, refl, subst, sym, ◌∙◌}
use mir.Val.{bool_byte}
use Rattle.p9_word.specs.declared.answer.Answer.TheVariants.{Number}
use Rattle.p9_word.specs.declared.trail.Reply.TheVariants.{Now}
use Rattle.p9_manual.specs.NoteCalls.{notify, notify_in}
use Rattle.p9_manual.specs.State.{by_id}
use Rattle.p9_note.specs.For.{Tracks}
use Rattle.p9_note.specs.ProcNotes.{is_done, notes_of}
use Rattle.p9_signal_calls.specs.Serves.{ServesAll}
use Rattle.p9_signal_calls.proofs.Noting.{notify_serves, runs_made}
use Rattle.p9_signal_calls.proofs.notes.notify.Goals as goal

byte : (b : Bool) → bool_byte b ≡ cond b 1 0
byte true = refl
byte false = refl

pub returns-clause-serves : goal.returns-clause-serves
returns-clause-serves c = λ alts locks.
    subst (λ (n : ℕ). ServesAll (λ s. notify c.args.on c.args.id c.args.prefix s (by_id s.threads c.args.t)) c.args.sched.now alts locks c.args.notes.now (Now (Number n)) c.args.sched.now alts locks c.threadnotify-done.new.self) (sym (c.from.ensures ∙ byte c.threadnotify-done.result))
    (notify_serves c.args.t c.args.on c.args.id c.args.prefix c.threadnotify-done.result c.args.sched.now alts locks c.args.notes.now c.threadnotify-done.new.self (sym c.is_no_note.ensures ∙ c.if-is_no_note.false) (runs_made c.args.t c.args.sched.now c.requires.runs) c.requires.place
    (subst (λ (p : ℕ). c.threadnotify-done.result ≡ is_done c.args.on c.args.id c.args.prefix (notes_of p c.args.notes.now)) c.proc_of.ensures.proc c.threadnotify-done.ensures.done)
    (subst (λ (p : ℕ). Tracks (λ s. (notify_in p c.args.on c.args.id c.args.prefix s (by_id s.procs p)).state) c.args.notes.now c.threadnotify-done.new.self) c.proc_of.ensures.proc c.threadnotify-done.ensures.stands))
