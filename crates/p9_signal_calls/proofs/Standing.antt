-- A thread that stands in the waits waits, and stands there once; and what stays of a state that is interrupted.
use Rattle.std.proofs.Common.{◌≡◌, ℕ, ◌≤◌, Bool, true, false, cond, eqb, List, map, Option, Some, None, refl, ap, sym, subst, ◌∙◌, arith}
use Rattle.p9_word.specs.declared.answer.Answer.TheVariants.{Interrupted}
use Rattle.p9_manual.specs.declared.state.Place.{Place as Stand}
use Rattle.p9_manual.specs.declared.state.Place.TheVariants as stand
use Rattle.p9_manual.specs.declared.state.Thread.{Thread}
use Rattle.p9_manual.specs.Interrupt.{Interruption, interrupt, is_in_group, is_interruptible, kill, marked}
use Rattle.p9_manual.specs.Standing.{place_in, place_of, times, times_in_waits}
use Rattle.p9_manual.specs.State.{State, by_id, wake}
use Rattle.p9_sched.specs.Turns.{place_of as sched_place, place_at}
use Rattle.p9_sched.specs.declared.turns.Place.TheVariants as place
use Rattle.p9_signal_calls.specs.Fit.{IsFit}
use Rattle.p9_signal_calls.proofs.Marked.{marked_fit}
use Rattle.p9_signal_calls.proofs.Members.{marked_members, woken_members}
use Rattle.p9_signal_calls.proofs.Waits.{not_there}

once_at : (pl : Stand) → times_in_waits pl ≤ 1
once_at stand.Waiting = omega arith
once_at stand.Running = omega arith
once_at stand.New = omega arith
once_at (stand.Ready a) = omega arith
once_at stand.Ended = omega arith

waiting_at : (pl : Stand) → 1 ≤ times_in_waits pl → pl ≡ stand.Waiting
waiting_at stand.Waiting h = refl
waiting_at stand.Running h = absurd (omega arith)
waiting_at stand.New h = absurd (omega arith)
waiting_at (stand.Ready a) h = absurd (omega arith)
waiting_at stand.Ended h = absurd (omega arith)

-- a thread stands at most once in the waits
pub waits_once : (t : ℕ) (s : State) → IsFit s → times (λ w. eqb w.tid t) s.waits ≤ 1
waits_once t s fit = let at = fit.stand.in_waits t in let once = once_at (place_of s.threads t) in omega (arith, at, once)

-- one that does waits
pub stands_waiting : (t : ℕ) (s : State) → IsFit s → 1 ≤ times (λ w. eqb w.tid t) s.waits → place_of s.threads t ≡ stand.Waiting
stands_waiting t s fit h = let at = fit.stand.in_waits t in waiting_at (place_of s.threads t) (omega (arith, at, h))

nowhere_at : (pl : Stand) → (place_at pl ≡ place.Waiting → ⊥) → times_in_waits pl ≡ 0
nowhere_at stand.Waiting h = absurd (h refl)
nowhere_at stand.Running h = refl
nowhere_at stand.New h = refl
nowhere_at (stand.Ready a) h = refl
nowhere_at stand.Ended h = refl

nowhere_in : (o : Option Thread) → (sched_place o ≡ place.Waiting → ⊥) → times_in_waits (place_in o) ≡ 0
nowhere_in None h = refl
nowhere_in (Some thread) h = nowhere_at thread.place h

-- one that doesn't wait isn't interrupted
pub not_waiting : (t : ℕ) (threads : List Thread) (s : State) → s.threads ≡ threads → IsFit s → (sched_place (by_id threads t) ≡ place.Waiting → ⊥) → is_interruptible t s.waits ≡ false
not_waiting t threads s e fit h = not_there t s.waits (fit.stand.in_waits t ∙ (ap (λ (ts : List Thread). times_in_waits (place_of ts t)) e ∙ nowhere_in (by_id threads t) h))

interruptible_waits : (t : ℕ) (s : State) (pl : Stand) → times (λ w. eqb w.tid t) s.waits ≡ times_in_waits pl → is_interruptible t s.waits ≡ true → pl ≡ stand.Waiting
interruptible_waits t s stand.Waiting e i = refl
interruptible_waits t s stand.Running e i = let none = not_there t s.waits e in absurd (cc (i, none))
interruptible_waits t s stand.New e i = let none = not_there t s.waits e in absurd (cc (i, none))
interruptible_waits t s (stand.Ready a) e i = let none = not_there t s.waits e in absurd (cc (i, none))
interruptible_waits t s stand.Ended e i = let none = not_there t s.waits e in absurd (cc (i, none))

members_by : (group t : ℕ) (s : State) (b : Bool) → is_interruptible t s.waits ≡ b → IsFit s → map (is_in_group group) (cond b (wake t Interrupted s) s).threads ≡ map (is_in_group group) s.threads
members_by group t s true e fit = woken_members group t s (interruptible_waits t s (place_of s.threads t) (fit.stand.in_waits t) e)
members_by group t s false e fit = refl

state_of : (b : Bool) (m n : State) → (cond {A = Interruption} b (record { count = 1; state = m }) (record { count = 0; state = n })).state ≡ cond b m n
state_of true m n = refl
state_of false m n = refl

-- an interrupt leaves the members of each group
pub interrupt_members : (group t : ℕ) (s : State) → IsFit s → map (is_in_group group) (interrupt t s).state.threads ≡ map (is_in_group group) s.threads
interrupt_members group t s fit =
    ap (λ (n : State). map (is_in_group group) n.threads) (state_of (is_interruptible t s.waits) (wake t Interrupted s) s) ∙ members_by group t s (is_interruptible t s.waits) refl fit

-- and so does a kill
pub kill_members : (group t : ℕ) (s : State) → IsFit s → map (is_in_group group) (kill t s).state.threads ≡ map (is_in_group group) s.threads
kill_members group t s fit = interrupt_members group t (marked t s) (marked_fit t s fit) ∙ marked_members group t s

-- of a state all but the threads, their line and the waits is as before
pub record Rests (s n : State) : Type 0 where
  pub same : n ≡ record s { threads = n.threads; line = n.line; waits = n.waits }

pub rests : (s : State) → Rests s s
rests s = record { same = refl }

-- so it is after two steps
pub rests_on : (s n m : State) → Rests s n → Rests n m → Rests s m
rests_on s n m a b = record { same = b.same ∙ ap (λ (k : State). record k { threads = m.threads; line = m.line; waits = m.waits }) a.same }

rests_by : (t : ℕ) (s : State) (b : Bool) → Rests s (cond b (wake t Interrupted s) s)
rests_by t s true = record { same = refl }
rests_by t s false = rests s

pub interrupt_rests : (t : ℕ) (s : State) → Rests s (interrupt t s).state
interrupt_rests t s = subst (λ (n : State). Rests s n) (sym (state_of (is_interruptible t s.waits) (wake t Interrupted s) s)) (rests_by t s (is_interruptible t s.waits))

pub kill_rests : (t : ℕ) (s : State) → Rests s (kill t s).state
kill_rests t s = rests_on s (marked t s) (kill t s).state (record { same = refl }) (interrupt_rests t (marked t s))
