-- The requests that interrupt or kill threads, and those on notes. thread(2), notify(2).
use Rattle.std.specs.Prelude.{ℕ}
use Rattle.p9_word.specs.declared.request.SignalReq.{SignalReq}
use Rattle.p9_word.specs.declared.request.SignalReq.TheVariants as ask
use Rattle.p9_manual.specs.Interrupt.{interrupt, kill, signal_thread, signal_group}
use Rattle.p9_manual.specs.NoteCalls.{notify, post}
use Rattle.p9_manual.specs.State.{State, Outcome, by_id}

-- a request of thread t on them
unfoldable pub signal_call : ℕ → SignalReq → State → Outcome
signal_call t (ask.ThreadInt u) s = signal_thread interrupt u s (by_id s.threads u)
signal_call t (ask.ThreadKill u) s = signal_thread kill u s (by_id s.threads u)
signal_call t (ask.ThreadIntGrp group) s = signal_group interrupt group s
signal_call t (ask.ThreadKillGrp group) s = signal_group kill group s
signal_call t (ask.ThreadNotify on id prefix) s = notify on id prefix s (by_id s.threads t)
signal_call t (ask.PostNote p note) s = post p note s
