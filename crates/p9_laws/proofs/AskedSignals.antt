-- What a request to interrupt or kill threads, or on notes, does to a state. A new one is a case here, and in no law, unless it does
-- what none of them does.
use Rattle.std.proofs.Common.{◌≡◌, ℕ, Bool, true, false, not, cond, ◌||◌, List, [], ◌∷◌, Option, Some, None, refl}
use Rattle.std.specs.List.{find}
use Rattle.std.proofs.lemmas.Bool.{or_parts}
use Rattle.p9_word.specs.declared.answer.Answer.{Answer}
use Rattle.p9_word.specs.declared.answer.Answer.TheVariants.{Done, Interrupted, Number}
use Rattle.p9_word.specs.declared.request.SignalReq.{SignalReq}
use Rattle.p9_word.specs.declared.request.SignalReq.TheVariants as ask
use Rattle.p9_manual.specs.declared.state.Thread.{Thread}
use Rattle.p9_manual.specs.declared.state.Waiter.{Waiter}
use Rattle.p9_manual.specs.Interrupt.{Interruption, each, interrupt, is_interruptible, kill, marked, members, signal_group, signal_thread}
use Rattle.p9_manual.specs.NoteCalls.{handlers_set, interrupted, is_alive, meets_in, notify, notify_in, post, with_handlers, with_note, with_proc}
use Rattle.p9_manual.specs.Notes.{is_no_note, notified}
use Rattle.p9_manual.specs.Signals.{signal_call}
use Rattle.p9_manual.specs.State.{State, Outcome, Proc, by_id, now, wake}

-- state m comes from this one by marks, and by wakes of threads that wait so that an interrupt ends their wait, one after the other
pub data Signalled (m : State) : State → Type 0 where
  Unchanged : Signalled m m
  Wakes : (u : ℕ) (s : State) → is_interruptible u s.waits ≡ true → Signalled m (wake u Interrupted s) → Signalled m s
  Marks : (u : ℕ) (s : State) → Signalled m (marked u s) → Signalled m s

-- all that such a request may come to: an answer that changes nothing, threads that are interrupted or killed, other handlers of a
-- proc, and a note that is put among its pending ones, with an interrupt
pub data DoesToSignals (s : State) : Outcome → Type 0 where
  Replies : (a : Answer) → DoesToSignals s (now a s)
  Signals : (n : ℕ) (m : State) → Signalled m s → DoesToSignals s (now (Number n) m)
  SetsHandlers : (p : ℕ) (handlers : List (ℕ × List ℕ)) → DoesToSignals s (now (Number 1) (with_proc (with_handlers handlers) p s))
  Posts : (p : ℕ) (note : List ℕ) (m : State) → is_alive p s ≡ true → Signalled m (with_proc (with_note note) p s) → DoesToSignals s (now Done m)

if_does : (s : State) (b : Bool) (o p : Outcome) → DoesToSignals s o → (b ≡ false → DoesToSignals s p) → DoesToSignals s (cond b o p)
if_does s true o p f g = f
if_does s false o p f g = g refl

-- what comes after a signal comes by it
abbrev Leads : (ℕ → State → Interruption) → Type 0
Leads signal = (u : ℕ) (s m : State) → Signalled m (signal u s).state → Signalled m s

interrupted_by : (b : Bool) (u : ℕ) (s m : State) → is_interruptible u s.waits ≡ b → Signalled m (cond b (wake u Interrupted s) s) → Signalled m s
interrupted_by true u s m e rest = Wakes u s e rest
interrupted_by false u s m e rest = rest

interruption_state : (b : Bool) (i j : Interruption) → (cond b i j).state ≡ cond b i.state j.state
interruption_state true i j = refl
interruption_state false i j = refl

interrupt_leads : Leads interrupt
interrupt_leads u s m rest = interrupted_by (is_interruptible u s.waits) u s m refl (rw interruption_state at rest)

kill_leads : Leads kill
kill_leads u s m rest = Marks u s (interrupt_leads u (marked u s) m rest)

each_signalled : (signal : ℕ → State → Interruption) → Leads signal → (ts : List ℕ) (s : State) → Signalled (each signal ts s).state s
each_signalled signal leads [] s = Unchanged
each_signalled signal leads (t ∷ ts) s = leads t s _ (each_signalled signal leads ts (signal t s).state)

signal_thread_does : (signal : ℕ → State → Interruption) → Leads signal → (u : ℕ) (s : State) (o : Option Thread) → DoesToSignals s (signal_thread signal u s o)
signal_thread_does signal leads u s None = Replies _
signal_thread_does signal leads u s (Some x) = Signals (signal u s).count (signal u s).state (leads u s _ Unchanged)

signal_group_does : (signal : ℕ → State → Interruption) → Leads signal → (group : ℕ) (s : State) → DoesToSignals s (signal_group signal group s)
signal_group_does signal leads group s = Signals (each signal (members group s) s).count (each signal (members group s) s).state (each_signalled signal leads (members group s) s)

handlers_does : (p : ℕ) (s : State) (o : Option (List (ℕ × List ℕ))) → DoesToSignals s (handlers_set p o s)
handlers_does p s None = Replies _
handlers_does p s (Some handlers) = SetsHandlers p handlers

notify_in_does : (p : ℕ) (on : Bool) (id : ℕ) (prefix : List ℕ) (s : State) (o : Option Proc) → DoesToSignals s (notify_in p on id prefix s o)
notify_in_does p on id prefix s None = Replies _
notify_in_does p on id prefix s (Some proc) = handlers_does p s (notified on id prefix proc.handlers)

notify_does : (on : Bool) (id : ℕ) (prefix : List ℕ) (s : State) (o : Option Thread) → DoesToSignals s (notify on id prefix s o)
notify_does on id prefix s None = Replies _
notify_does on id prefix s (Some caller) =
    if_does s (is_no_note prefix) _ _ (Replies _) (λ _. notify_in_does caller.proc_no on id prefix s (by_id s.procs caller.proc_no))

interrupted_signalled : (o : Option Waiter) (s : State) → Signalled (interrupted o s) s
interrupted_signalled None s = Unchanged
interrupted_signalled (Some w) s = interrupt_leads w.tid s _ Unchanged

not_not : (b : Bool) → not b ≡ false → b ≡ true
not_not true h = refl
not_not false h = cc

post_does : (p : ℕ) (note : List ℕ) (s : State) → DoesToSignals s (post p note s)
post_does p note s =
    if_does s (is_no_note note || not (is_alive p s)) _ _ (Replies _)
    (λ may. Posts p note _ (not_not (is_alive p s) (or_parts (is_no_note note) (not (is_alive p s)) may).1)
    (interrupted_signalled (find (meets_in p s.threads) s.waits) (with_proc (with_note note) p s)))

pub signal_call_does : (t : ℕ) (r : SignalReq) (s : State) → DoesToSignals s (signal_call t r s)
unfolding signal_call
signal_call_does t (ask.ThreadInt u) s = signal_thread_does interrupt interrupt_leads u s (by_id s.threads u)
signal_call_does t (ask.ThreadKill u) s = signal_thread_does kill kill_leads u s (by_id s.threads u)
signal_call_does t (ask.ThreadIntGrp group) s = signal_group_does interrupt interrupt_leads group s
signal_call_does t (ask.ThreadKillGrp group) s = signal_group_does kill kill_leads group s
signal_call_does t (ask.ThreadNotify on id prefix) s = notify_does on id prefix s (by_id s.threads t)
signal_call_does t (ask.PostNote p note) s = post_does p note s
