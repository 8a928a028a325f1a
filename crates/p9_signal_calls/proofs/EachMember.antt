-- The threads of a group are interrupted, or killed, one after another.
use Rattle.std.proofs.Common.{◌≡◌, ℕ, ◌+◌, ◌≤◌, true, List, [], ◌∷◌, map, Option, Some, None, refl, ap, sym, subst, ◌∙◌, arith}
use Rattle.p9_word.specs.declared.answer.Answer.TheVariants.{Number}
use Rattle.p9_word.specs.declared.setup.Setup.{Setup}
use Rattle.p9_word.specs.declared.trail.Reply.TheVariants.{Now}
use Rattle.p9_manual.specs.declared.state.Thread.{Thread}
use Rattle.p9_manual.specs.Interrupt.{Interruption, added, each, is_in_group, members, signal_group}
use Rattle.p9_manual.specs.State.{State, by_id}
use Rattle.p9_alt.specs.Exchange.{Exchange}
use Rattle.p9_lock.specs.Locking.{Locking}
use Rattle.p9_note.specs.ProcNotes.{ProcNotes}
use Rattle.p9_sched.specs.Members.{NextMember, NoMember, is_member}
use Rattle.p9_sched.specs.Schedule.{Schedule, IsMade}
use Rattle.p9_signal_calls.specs.Affects.{Does, IsDone, PartsFor, effect}
use Rattle.p9_signal_calls.specs.Fit.{IsFit}
use Rattle.p9_signal_calls.specs.Serves.{ServesAll}
use Rattle.p9_signal_calls.specs.declared.interrupts.Signal.{Signal}
use Rattle.p9_signal_calls.specs.declared.interrupts.Signal.TheVariants as signal
use Rattle.p9_signal_calls.proofs.Lists.{by_id_within}
use Rattle.p9_signal_calls.proofs.Members.{above, above_same, next_above, none_above}
use Rattle.p9_signal_calls.proofs.Serving.{effect_rests, parts_of, sound_fit, told_serves}
use Rattle.p9_signal_calls.proofs.Standing.{Rests, interrupt_members, kill_members, rests, rests_on}

effect_members : (signal : Signal) (group t : ℕ) (s : State) → IsFit s → map (is_in_group group) (effect signal t s).state.threads ≡ map (is_in_group group) s.threads
effect_members signal.Interrupt group t s fit = interrupt_members group t s fit
effect_members signal.Kill group t s fit = kill_members group t s fit

-- so far those up to thread `last` were interrupted, or killed, and the parts stand for the state after that
pub record Going (setup : Setup) (signal : Signal) (group last count : ℕ) (s : State) (sched : Schedule) (alts : Exchange) (locks : Locking) : Type 0 where
  pub now : State
  pub parts : PartsFor setup sched alts locks now
  pub fit : IsFit now
  pub whole : each (effect signal) (members group s) s ≡ added count (each (effect signal) (above group last now.threads) now)

-- whatever fit state the old parts stood for
pub record HaveGone (signal : Signal) (group last count : ℕ) (old_sched : Schedule) (old_alts : Exchange) (old_locks : Locking) (sched : Schedule) (alts : Exchange) (locks : Locking) : Type 0 where
  pub few : count ≤ last
  pub going : (setup : Setup) (s : State) → PartsFor setup old_sched old_alts old_locks s → IsFit s → Going setup signal group last count s sched alts locks

added_none : (i : Interruption) → added 0 i ≡ i
added_none i = let n : 0 + i.count ≡ i.count = omega arith in ap (λ (k : ℕ). record i { count = k }) n

added_more : (n m : ℕ) (i : Interruption) → added n (added m i) ≡ added (n + m) i
added_more n m i = let k : n + (m + i.count) ≡ (n + m) + i.count = omega arith in ap (λ (j : ℕ). record i { count = j }) k

-- at first none was
pub begun : (signal : Signal) (group : ℕ) (sched : Schedule) (alts : Exchange) (locks : Locking) → HaveGone signal group 0 0 sched alts locks sched alts locks
begun signal group sched alts locks = record {
  few = omega arith;
  going = λ setup s parts fit. record { now = s; parts = parts; fit = fit; whole = sym (added_none (each (effect signal) (members group s) s)) };
}

step_whole : (signal : Signal) (group last u n m : ℕ) (s : State) (i : Interruption) → IsFit s → NextMember group last s.threads u → m ≡ (effect signal u s).count → i ≡ added n (each (effect signal) (above group last s.threads) s) → i ≡ added (n + m) (each (effect signal) (above group u (effect signal u s).state.threads) (effect signal u s).state)
step_whole signal group last u n m s i fit next count e =
    let one = effect signal u s in
    let rest = each (effect signal) (above group u one.state.threads) one.state in
    let ids : above group last s.threads ≡ u ∷ above group u one.state.threads =
    next_above group last u s.threads next ∙ ap (λ us. u ∷ us) (above_same group u s.threads one.state.threads (sym (effect_members signal group u s fit))) in
    e ∙ ap (λ us. added n (each (effect signal) us s)) ids ∙ added_more n one.count rest ∙ ap (λ k. added (n + k) rest) (sym count)

-- one more was
pub gone_on : (signal : Signal) (group last u n m : ℕ) (old_sched sched new_sched : Schedule) (old_alts alts new_alts : Exchange) (old_locks locks new_locks : Locking) → m ≤ 1 → NextMember group last sched.threads u → Does (effect signal u) sched alts locks m new_sched new_alts new_locks → HaveGone signal group last n old_sched old_alts old_locks sched alts locks → HaveGone signal group u (n + m) old_sched old_alts old_locks new_sched new_alts new_locks
gone_on signal group last u n m old_sched sched new_sched old_alts alts new_alts old_locks locks new_locks one next does gone = record {
  few = let a = gone.few in let b = next.after in omega (arith, a, b, one);
  going = λ setup s parts fit.
      let k = gone.going setup s parts fit in
      let done : IsDone setup (effect signal u k.now) m new_sched new_alts new_locks = does setup k.now k.parts k.fit in
      let there : NextMember group last k.now.threads u = subst (λ (ts : List Thread). NextMember group last ts u) (sym k.parts.threads.threads) next in
      record {
        now = (effect signal u k.now).state;
        parts = done.parts;
        fit = done.fit;
        whole = step_whole signal group last u n m k.now (each (effect signal) (members group s) s) k.fit there done.count_is k.whole;
      };
}

each_rests : (signal : Signal) → (ts : List ℕ) (s : State) → Rests s (each (effect signal) ts s).state
each_rests signal [] s = rests s
each_rests signal (t ∷ ts) s = rests_on s (effect signal t s).state (each (effect signal) ts (effect signal t s).state).state (effect_rests signal t s) (each_rests signal ts (effect signal t s).state)

all_done : (setup : Setup) (signal : Signal) (group last n : ℕ) (s : State) (sched : Schedule) (alts : Exchange) (locks : Locking) → NoMember group last sched.threads → Going setup signal group last n s sched alts locks → IsDone setup (each (effect signal) (members group s) s) n sched alts locks
all_done setup signal group last n s sched alts locks nobody k =
    let there : NoMember group last k.now.threads = subst (λ (ts : List Thread). NoMember group last ts) (sym k.parts.threads.threads) nobody in
    let count : n + 0 ≡ n = omega arith in
    let whole : each (effect signal) (members group s) s ≡ record { count = n; state = k.now } =
    k.whole ∙ (ap (λ us. added n (each (effect signal) us k.now)) (none_above group last k.now.threads there) ∙ ap (λ (j : ℕ). record { count = j; state = k.now }) count) in
    rw whole (record { count_is = refl; parts = k.parts; fit = k.fit })

-- all were
pub all_served : (signal : Signal) (group last n : ℕ) (old_sched sched : Schedule) (old_alts alts : Exchange) (old_locks locks : Locking) (notes : List ProcNotes) → NoMember group last sched.threads → HaveGone signal group last n old_sched old_alts old_locks sched alts locks → ServesAll (signal_group (effect signal) group) old_sched old_alts old_locks notes (Now (Number n)) sched alts locks notes
all_served signal group last n old_sched sched old_alts alts old_locks locks notes nobody gone = record {
  serves = λ setup s h sound.
      told_serves setup s (each (effect signal) (members group s) s) n sched alts locks notes h.notes
      (all_done setup signal group last n s sched alts locks nobody (gone.going setup s (parts_of setup old_sched old_alts old_locks notes s h) (sound_fit setup s sound)))
      (each_rests signal (members group s) s);
}

is_made : (group : ℕ) (o : Option Thread) → is_member group o ≡ true → (thread : Thread) × (o ≡ Some thread)
is_made group None h = absurd (cc h)
is_made group (Some thread) h = (thread, refl)

-- the next member was made
pub next_made : (group t u : ℕ) (sched : Schedule) → NextMember group t sched.threads u → IsMade u sched
next_made group t u sched next =
    let found = is_made group (by_id sched.threads u) next.member in
    let within = by_id_within sched.threads u found.0 found.1 in
    record { from = within.0; to = within.1 }
