-- What an interrupt of one thread comes to, and a kill.
use Rattle.std.proofs.Common.{◌≡◌, ℕ, ◌+◌, ◌≤◌, Bool, true, false, cond, eqb, List, [], ◌∷◌, Option, Some, None, refl, ap, sym, ◌∙◌, arith}
use Rattle.std.specs.List.{find, list_any}
use Rattle.std.specs.Option.{option_map}
use Rattle.p9_word.specs.declared.answer.Answer.TheVariants.{Interrupted}
use Rattle.p9_word.specs.declared.setup.Setup.{Setup}
use Rattle.p9_manual.specs.declared.locks.LockWait.{LockWait}
use Rattle.p9_manual.specs.declared.locks.LockWait.TheVariants as wait
use Rattle.p9_manual.specs.declared.locks.LockWaiter.{LockWaiter}
use Rattle.p9_manual.specs.declared.state.Place.TheVariants as stand
use Rattle.p9_manual.specs.Ends.{off_waits}
use Rattle.p9_manual.specs.Interrupt.{interrupt, is_interruptible, is_meeting, kill, marked}
use Rattle.p9_manual.specs.LockWaits.{lock_waiters}
use Rattle.p9_manual.specs.Offers.{parties}
use Rattle.p9_manual.specs.Standing.{place_of, times}
use Rattle.p9_manual.specs.State.{State, by_id, wake}
use Rattle.p9_alt.specs.Exchange.{Exchange}
use Rattle.p9_alt.specs.For.{AltsFor, Tracks as AltsTrack}
use Rattle.p9_lock.specs.Locking.{Locking}
use Rattle.p9_lock.specs.Meetings.{is_tag}
use Rattle.p9_lock.specs.Stands.{LocksFor, Tracks as LocksTrack}
use Rattle.p9_lock.specs.Waiting.{wait_of}
use Rattle.p9_sched.specs.Schedule.{Schedule}
use Rattle.p9_sched.specs.Stands.{Tracks, TracksBeside, TracksHolder}
use Rattle.p9_sched.specs.Turns.{place_of as sched_place}
use Rattle.p9_sched.specs.declared.turns.Place.TheVariants as place
use Rattle.p9_signal_calls.specs.Affects.{Does, IsDone, PartsFor, is_meeting_wait}
use Rattle.p9_signal_calls.specs.Fit.{IsFit}
use Rattle.p9_signal_calls.proofs.Lists.{none_times, some_times}
use Rattle.p9_signal_calls.proofs.Marked.{marked_fit}
use Rattle.p9_signal_calls.proofs.Standing.{not_waiting, stands_waiting, waits_once}
use Rattle.p9_signal_calls.proofs.Waits.{has_tag, holds_by_tag, holds_none, is_ended, is_locker, is_party, lockers_kept, parties_kept, party_or_locker}
use Rattle.p9_signal_calls.proofs.Woken.{woken_fit}

done_nothing : (t : ℕ) (setup : Setup) (s : State) (sched : Schedule) (alts : Exchange) (locks : Locking) → PartsFor setup sched alts locks s → IsFit s → is_interruptible t s.waits ≡ false → IsDone setup (interrupt t s) 0 sched alts locks
done_nothing t setup s sched alts locks parts fit e = rw e (record { count_is = refl; parts = parts; fit = fit })

-- a thread that doesn't wait
pub idle_does : (t : ℕ) (sched : Schedule) (alts : Exchange) (locks : Locking) → (sched_place (by_id sched.threads t) ≡ place.Waiting → ⊥) → Does (interrupt t) sched alts locks 0 sched alts locks
idle_does t sched alts locks h = λ setup s parts fit. done_nothing t setup s sched alts locks parts fit (not_waiting t sched.threads s parts.threads.threads fit h)

-- it is a wait with a tag
pub tag_of : (what : LockWait) (value : ℕ) → is_meeting (Some (what, value)) ≡ is_tag what
tag_of (wait.Tag tag) value = refl
tag_of (wait.Lock s k) value = refl
tag_of (wait.Sleep r) value = refl

meets_by : (o : Option LockWaiter) → has_tag o ≡ is_meeting_wait (option_map (λ w. w.what) o)
meets_by None = refl
meets_by (Some w) = tag_of w.what w.value

-- what the locks say of where a thread waits
meets_at : (t : ℕ) (locks : Locking) (s : State) → lock_waiters s.waits ≡ locks.waits → has_tag (find (is_locker t) (lock_waiters s.waits)) ≡ is_meeting_wait (wait_of t locks.waits)
meets_at t locks s e = meets_by (find (is_locker t) (lock_waiters s.waits)) ∙ ap (λ ws. is_meeting_wait (wait_of t ws)) e

ended_by_alt : (t : ℕ) (s : State) → list_any (is_party t) (parties s.waits) ≡ true → IsFit s → is_interruptible t s.waits ≡ true
ended_by_alt t s h fit = is_ended t s.waits fit.kinds (waits_once t s fit) ∙ rw h refl

ended_by_tag : (t : ℕ) (s : State) (b : Bool) → list_any (is_party t) (parties s.waits) ≡ false → has_tag (find (is_locker t) (lock_waiters s.waits)) ≡ b → IsFit s → is_interruptible t s.waits ≡ b
ended_by_tag t s b h e fit = is_ended t s.waits fit.kinds (waits_once t s fit) ∙ rw (h, e) refl

woken_done : (t : ℕ) (setup : Setup) (s : State) (sched : Schedule) (alts : Exchange) (locks : Locking) → is_interruptible t s.waits ≡ true → PartsFor setup sched alts locks (wake t Interrupted s) → IsFit (wake t Interrupted s) → IsDone setup (interrupt t s) 1 sched alts locks
woken_done t setup s sched alts locks e parts fit = rw e (record { count_is = refl; parts = parts; fit = fit })

alts_woken : (t : ℕ) (s : State) (alts : Exchange) → AltsFor alts (off_waits (λ u. eqb u t) s) → AltsFor alts (wake t Interrupted s)
alts_woken t s alts h = record { waits = h.waits; chans = h.chans }

locks_woken : (t : ℕ) (s : State) (rendezes : List ℕ) (locks : Locking) → LocksFor rendezes locks (off_waits (λ u. eqb u t) s) → LocksFor rendezes locks (wake t Interrupted s)
locks_woken t s rendezes locks h = record { holds = h.holds; waits = h.waits; on = h.on }

-- a thread that waits in an alt
pub alt_does : (t : ℕ) (sched new_sched : Schedule) (alts new_alts : Exchange) (locks : Locking) → list_any (is_party t) alts.waits ≡ true → AltsTrack (off_waits (λ u. eqb u t)) alts new_alts → TracksBeside t (wake t Interrupted) sched new_sched → Does (interrupt t) sched alts locks 1 new_sched new_alts locks
alt_does t sched new_sched alts new_alts locks waits off wakes = λ setup s parts fit.
    let there : list_any (is_party t) (parties s.waits) ≡ true = ap (list_any (is_party t)) (sym parts.alts.waits) ∙ waits in
    let some : 1 ≤ times (is_party t) (parties s.waits) = some_times (is_party t) (parties s.waits) there in
    let both = party_or_locker t s.waits in
    let once = waits_once t s fit in
    let none : times (is_locker t) (lock_waiters s.waits) ≡ 0 = omega (arith, some, both, once) in
    let here : place_of s.threads t ≡ stand.Waiting = stands_waiting t s fit (omega (arith, some, both)) in
    woken_done t setup s new_sched new_alts locks (ended_by_alt t s there fit) (record {
      threads = wakes setup.places s (holds_none t (lock_waiters s.waits) none) parts.threads;
      alts = alts_woken t s new_alts (off s parts.alts);
      locks = record { holds = parts.locks.holds; waits = lockers_kept t s.waits none ∙ parts.locks.waits; on = parts.locks.on };
    }) (woken_fit t Interrupted s here fit)

has_locker : (t : ℕ) → (ws : List LockWaiter) → has_tag (find (is_locker t) ws) ≡ true → 1 ≤ times (is_locker t) ws
has_locker t [] h = absurd (cc h)
has_locker t (w ∷ ws) h = locker_step (eqb w.tid t) w (find (is_locker t) ws) (times (is_locker t) ws) h (has_locker t ws)
  where
    locker_step : (b : Bool) (w : LockWaiter) (o : Option LockWaiter) (n : ℕ) → has_tag (cond b (Some w) o) ≡ true → (has_tag o ≡ true → 1 ≤ n) → 1 ≤ cond b 1 0 + n
    locker_step true w o n h k = omega arith
    locker_step false w o n h k = let le = k h in omega (arith, le)

-- a thread that waits with a tag
pub tag_does : (t : ℕ) (sched new_sched : Schedule) (alts : Exchange) (locks new_locks : Locking) → list_any (is_party t) alts.waits ≡ false → is_meeting_wait (wait_of t locks.waits) ≡ true → LocksTrack (off_waits (λ u. eqb u t)) locks new_locks → TracksHolder t (wake t Interrupted) sched new_sched → Does (interrupt t) sched alts locks 1 new_sched alts new_locks
tag_does t sched new_sched alts locks new_locks no_alt meets off wakes = λ setup s parts fit.
    let not_there : list_any (is_party t) (parties s.waits) ≡ false = ap (list_any (is_party t)) (sym parts.alts.waits) ∙ no_alt in
    let tag : has_tag (find (is_locker t) (lock_waiters s.waits)) ≡ true = meets_at t locks s parts.locks.waits ∙ meets in
    let some : 1 ≤ times (is_locker t) (lock_waiters s.waits) = has_locker t (lock_waiters s.waits) tag in
    let both = party_or_locker t s.waits in
    let here : place_of s.threads t ≡ stand.Waiting = stands_waiting t s fit (omega (arith, some, both)) in
    woken_done t setup s new_sched alts new_locks (ended_by_tag t s true not_there tag fit) (record {
      threads = wakes setup.places s fit.stand (record { holds = holds_by_tag t (lock_waiters s.waits) tag; alone = fit.held }) parts.threads;
      alts = record { waits = parts.alts.waits ∙ sym (parties_kept t s.waits (none_times (is_party t) (parties s.waits) not_there)); chans = parts.alts.chans };
      locks = locks_woken t s setup.rendezes new_locks (off setup.rendezes s parts.locks);
    }) (woken_fit t Interrupted s here fit)

-- a thread that waits for something else
pub other_does : (t : ℕ) (sched : Schedule) (alts : Exchange) (locks : Locking) → list_any (is_party t) alts.waits ≡ false → is_meeting_wait (wait_of t locks.waits) ≡ false → Does (interrupt t) sched alts locks 0 sched alts locks
other_does t sched alts locks no_alt meets = λ setup s parts fit.
    let not_there : list_any (is_party t) (parties s.waits) ≡ false = ap (list_any (is_party t)) (sym parts.alts.waits) ∙ no_alt in
    let tag : has_tag (find (is_locker t) (lock_waiters s.waits)) ≡ false = meets_at t locks s parts.locks.waits ∙ meets in
    done_nothing t setup s sched alts locks parts fit (ended_by_tag t s false not_there tag fit)

-- a thread that is marked, and interrupted then
pub kill_does : (t n : ℕ) (sched marked_sched new_sched : Schedule) (alts new_alts : Exchange) (locks new_locks : Locking) → Tracks (marked t) sched marked_sched → Does (interrupt t) marked_sched alts locks n new_sched new_alts new_locks → Does (kill t) sched alts locks n new_sched new_alts new_locks
kill_does t n sched marked_sched new_sched alts new_alts locks new_locks marks does = λ setup s parts fit.
    does setup (marked t s) (record {
      threads = marks setup.places s parts.threads;
      alts = record { waits = parts.alts.waits; chans = parts.alts.chans };
      locks = record { holds = parts.locks.holds; waits = parts.locks.waits; on = parts.locks.on };
    }) (marked_fit t s fit)
