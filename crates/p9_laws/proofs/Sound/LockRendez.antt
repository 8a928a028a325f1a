-- Threads sleep at Rendezes and are woken: a sound state stays sound.
use Rattle.std.proofs.Common.{◌≡◌, ℕ, ◌+◌, ◌≤◌, Bool, true, false, ◌&&◌, eqb, List, [], Option, Some, None, refl, ap, sym, subst, ◌∙◌, arith}
use Rattle.std.specs.Prelude.{All, length}
use Rattle.std.specs.List.{find}
use Rattle.p9_word.specs.declared.answer.Answer.TheVariants.{Number}
use Rattle.p9_word.specs.declared.request.LockReq.TheVariants as ask
use Rattle.p9_word.specs.declared.request.Request.{Request}
use Rattle.p9_word.specs.declared.request.Request.TheVariants.{Lock as LockRequest}
use Rattle.p9_word.specs.declared.setup.Setup.{Setup}
use Rattle.p9_manual.specs.declared.locks.Sort.{Sort}
use Rattle.p9_manual.specs.declared.locks.Sort.TheVariants as sort
use Rattle.p9_manual.specs.declared.locks.LockWait.{LockWait}
use Rattle.p9_manual.specs.declared.locks.LockWait.TheVariants as wait
use Rattle.p9_manual.specs.declared.locks.LockWaiter.{LockWaiter}
use Rattle.p9_manual.specs.declared.state.Thread.{Thread}
use Rattle.p9_manual.specs.declared.state.Waiter.{Waiter}
use Rattle.p9_manual.specs.Claims.{is_free, is_thread, holder_in}
use Rattle.p9_manual.specs.Held.{holds_in}
use Rattle.p9_manual.specs.Holds.{Holds}
use Rattle.p9_manual.specs.LockCalls.{with_grant}
use Rattle.p9_manual.specs.LockWaits.{holds_proc, lock_waiters}
use Rattle.p9_manual.specs.Offers.{parties, party_of, party_with, alternation_of}
use Rattle.p9_manual.specs.Places.{is_of}
use Rattle.p9_manual.specs.Queues.{same_wait, waits_for}
use Rattle.p9_manual.specs.Rendez.{woken_for, woken_first, count_woken, sleepers, sleep}
use Rattle.p9_manual.specs.RendezCalls.{qlock_of, may_call, sleep_at, sleeps_at, for_qlock, first_moved, wake_first, all_moved, wake_sleepers}
use Rattle.p9_manual.specs.Sound.{IsSound, can_wait, call_in, call_at, waiting_calls}
use Rattle.p9_manual.specs.SoundLocks.{WaitInTurn, is_unheld}
use Rattle.p9_manual.specs.Standing.{times}
use Rattle.p9_manual.specs.State.{State, by_id, waiting}
use Rattle.p9_laws.proofs.Sound.Calls.{same_calls}
use Rattle.p9_laws.proofs.Sound.LockHolds.{apart}
use Rattle.p9_laws.proofs.Sound.LockLists.{first_times, first_flat, first_all, all_times, all_flat, all_all}
use Rattle.p9_laws.proofs.Sound.LockMoved.{first_moved_waiters, all_moved_waiters}
use Rattle.p9_laws.proofs.Sound.LockUnlocks.{IsGranted, release_grants}
use Rattle.p9_laws.proofs.Sound.LockWaiting.{parties_rightly, parties_rise, waits_so_fine}
use Rattle.p9_laws.proofs.Sound.Outcomes.{IsFine, RunsIn, if_fine, now_fine, bad_fine}

-- these waits are the others, where some that slept at Rendez r were moved to the end as waits for QLock q
record AreMoved (r q : ℕ) (waits more : List Waiter) : Type 0 where
  tids : (u : ℕ) → times (λ w. eqb w.tid u) more ≡ times (λ w. eqb w.tid u) waits
  alts : parties more ≡ parties waits
  calls : (k : ℕ) → waiting_calls k more ≡ waiting_calls k waits
  kinds : All (λ w. can_wait w.request ≡ true) waits → All (λ w. can_wait w.request ≡ true) more
  before : (n : ℕ) → All (λ w. w.at + 1 ≤ n) waits → All (λ w. w.at + 1 ≤ n) more
  counts : (g : LockWaiter → Bool) → ((w : LockWaiter) → waits_for (wait.Sleep r) w ≡ true → g (woken_for q w) ≡ g w) → times g (lock_waiters more) ≡ times g (lock_waiters waits)

no_party : (r t at : ℕ) (request : Request) → sleeps_at r (record { tid = t; request = request; at = at }) ≡ true → party_with t at (alternation_of request) ≡ []
no_party r t at (LockRequest a) h = refl
no_party r t at request h = cc

no_call : (r t at k : ℕ) (request : Request) → sleeps_at r (record { tid = t; request = request; at = at }) ≡ true → call_in k t request ≡ []
no_call r t at k (LockRequest a) h = refl
no_call r t at k request h = cc

first_counts : (r q : ℕ) (g : LockWaiter → Bool) (ws : List LockWaiter) (o : Option LockWaiter) → find (waits_for (wait.Sleep r)) ws ≡ o → ((w : LockWaiter) → waits_for (wait.Sleep r) w ≡ true → g (woken_for q w) ≡ g w) → times g (woken_first r q o ws) ≡ times g ws
first_counts r q g ws None e h = refl
first_counts r q g ws (Some w) e h = first_times (waits_for (wait.Sleep r)) g (woken_for q) h ws w e

first_waits_moved : (r q : ℕ) (waits : List Waiter) (o : Option Waiter) → find (sleeps_at r) waits ≡ o → ((g : LockWaiter → Bool) → ((w : LockWaiter) → waits_for (wait.Sleep r) w ≡ true → g (woken_for q w) ≡ g w) → times g (lock_waiters (first_moved r q o waits)) ≡ times g (lock_waiters waits)) → AreMoved r q waits (first_moved r q o waits)
first_waits_moved r q waits None e counts =
    record { tids = λ u. refl; alts = refl; calls = λ k. refl; kinds = λ h. h; before = λ n h. h; counts = counts }
first_waits_moved r q waits (Some w) e counts =
    record {
      tids = λ u. first_times (sleeps_at r) (λ x. eqb x.tid u) (for_qlock q) (λ y h. refl) waits w e;
      alts = first_flat (sleeps_at r) party_of (for_qlock q) (λ y h. no_party r y.tid y.at y.request h) (λ y. refl) waits w e;
      calls = λ k. first_flat (sleeps_at r) (call_at k) (for_qlock q) (λ y h. no_call r y.tid y.at k y.request h) (λ y. refl) waits w e;
      kinds = λ h. first_all (λ (x : Waiter). can_wait x.request ≡ true) (sleeps_at r) (for_qlock q) (λ y k. refl) waits w e h;
      before = λ n h. first_all (λ (x : Waiter). x.at + 1 ≤ n) (sleeps_at r) (for_qlock q) (λ y k. k) waits w e h;
      counts = counts;
    }

first_are_moved : (r q : ℕ) (waits : List Waiter) → AreMoved r q waits (first_moved r q (find (sleeps_at r) waits) waits)
first_are_moved r q waits =
    first_waits_moved r q waits (find (sleeps_at r) waits) refl
    (λ g h. ap (times g) (first_moved_waiters r q waits) ∙ first_counts r q g (lock_waiters waits) (find (waits_for (wait.Sleep r)) (lock_waiters waits)) refl h)

all_are_moved : (r q : ℕ) (waits : List Waiter) → AreMoved r q waits (all_moved r q waits)
all_are_moved r q waits =
    record {
      tids = λ u. all_times (sleeps_at r) (λ x. eqb x.tid u) (for_qlock q) (λ y h. refl) waits;
      alts = all_flat (sleeps_at r) party_of (for_qlock q) (λ y h. no_party r y.tid y.at y.request h) (λ y. refl) waits;
      calls = λ k. all_flat (sleeps_at r) (call_at k) (for_qlock q) (λ y h. no_call r y.tid y.at k y.request h) (λ y. refl) waits;
      kinds = λ h. all_all (λ (x : Waiter). can_wait x.request ≡ true) (sleeps_at r) (for_qlock q) (λ y k. refl) waits h;
      before = λ n h. all_all (λ (x : Waiter). x.at + 1 ≤ n) (sleeps_at r) (for_qlock q) (λ y k. k) waits h;
      counts = λ g h. ap (times g) (all_moved_waiters r q waits) ∙ all_times (waits_for (wait.Sleep r)) g (woken_for q) h (lock_waiters waits);
    }

sleeps_freely : (r : ℕ) (what : LockWait) → same_wait what (wait.Sleep r) ≡ true → holds_proc what ≡ false
sleeps_freely r (wait.Sleep a) h = refl
sleeps_freely r (wait.Tag a) h = cc
sleeps_freely r (wait.Lock s k) h = cc

sleeps_for_no_lock : (r : ℕ) (s : Sort) (k : ℕ) (what : LockWait) → same_wait what (wait.Sleep r) ≡ true → same_wait what (wait.Lock s k) ≡ false
sleeps_for_no_lock r s k (wait.Sleep a) h = refl
sleeps_for_no_lock r s k (wait.Tag a) h = cc
sleeps_for_no_lock r s k (wait.Lock a b) h = cc

sleeps_with_no_tag : (r tag : ℕ) (what : LockWait) → same_wait what (wait.Sleep r) ≡ true → same_wait what (wait.Tag tag) ≡ false
sleeps_with_no_tag r tag (wait.Sleep a) h = refl
sleeps_with_no_tag r tag (wait.Tag a) h = cc
sleeps_with_no_tag r tag (wait.Lock a b) h = cc

moved_turns : (threads : List Thread) (holds : Holds) (waits more : List Waiter) (r q : ℕ) → AreMoved r q waits more → is_unheld sort.QLock q holds ≡ false → WaitInTurn threads holds (lock_waiters waits) → WaitInTurn threads holds (lock_waiters more)
moved_turns threads holds waits more r q moved taken turns =
    record {
      held = λ p. let k = moved.counts (holds_in threads p) (λ w h. sym (ap (λ b. b && is_of p (by_id threads w.tid)) (sleeps_freely r w.what h))) in
          let one = turns.held p in omega (arith, k, one);
      free = λ s k u. moved.counts (waits_for (wait.Lock s k)) (λ w h. apart sort.QLock s q k holds taken u ∙ sym (sleeps_for_no_lock r s k w.what h)) ∙ turns.free s k u;
      tags = λ tag. let k = moved.counts (waits_for (wait.Tag tag)) (λ w h. sym (sleeps_with_no_tag r tag w.what h)) in
          let one = turns.tags tag in omega (arith, k, one);
    }

moved_sound : (setup : Setup) (s : State) (more : List Waiter) (r q : ℕ) → AreMoved r q s.waits more → is_unheld sort.QLock q s.holds ≡ false → IsSound setup s → IsSound setup (record s { waits = more })
moved_sound setup s more r q moved taken sound =
    record {
      stand = record { in_line = sound.stand.in_line; in_waits = λ u. moved.tids u ∙ sound.stand.in_waits u; one_runs = sound.stand.one_runs };
      members = sound.members;
      opened = sound.opened;
      waits_right = parties_rightly s.chans s.waits more moved.alts (moved.kinds sound.waits_right.kinds) sound.waits_right;
      within = sound.within;
      in_turn = moved_turns s.threads s.holds s.waits more r q moved taken sound.in_turn;
      order = record { before = moved.before s.position sound.order.before; rising = parties_rise s.waits more moved.alts sound.order.rising };
      calls = same_calls s.ioprocs s.waits more moved.calls sound.calls;
      notes = sound.notes;
    }

-- a QLock that a thread holds isn't free
held_qlock : (t : ℕ) (o : Option (Option ℕ)) → is_thread t (holder_in o) ≡ true → is_free o ≡ false
held_qlock t None h = cc
held_qlock t (Some None) h = cc
held_qlock t (Some (Some u)) h = refl

-- rwakeup
pub wake_first_fine : (setup : Setup) (t r : ℕ) (s : State) → IsSound setup s → IsFine setup s.position (wake_first setup t r s)
wake_first_fine setup t r s sound =
    let q = qlock_of r setup.rendezes in
    if_fine setup s.position (may_call setup t r s) _ _
    (λ has. now_fine setup (record s { waits = first_moved r q (find (sleeps_at r) s.waits) s.waits }) (Number (count_woken r (lock_waiters s.waits)))
    (moved_sound setup s (first_moved r q (find (sleeps_at r) s.waits) s.waits) r q (first_are_moved r q s.waits) (held_qlock t (by_id s.holds.qlocks q) has) sound))
    (λ f. bad_fine setup s sound)

-- rwakeupall
pub wake_sleepers_fine : (setup : Setup) (t r : ℕ) (s : State) → IsSound setup s → IsFine setup s.position (wake_sleepers setup t r s)
wake_sleepers_fine setup t r s sound =
    let q = qlock_of r setup.rendezes in
    if_fine setup s.position (may_call setup t r s) _ _
    (λ has. now_fine setup (record s { waits = all_moved r q s.waits }) (Number (length (sleepers r (lock_waiters s.waits))))
    (moved_sound setup s (all_moved r q s.waits) r q (all_are_moved r q s.waits) (held_qlock t (by_id s.holds.qlocks q) has) sound))
    (λ f. bad_fine setup s sound)

-- rsleep
pub sleep_at_fine : (setup : Setup) (t r : ℕ) (s : State) → IsSound setup s → RunsIn s t → IsFine setup s.position (sleep_at setup t r s)
sleep_at_fine setup t r s sound runs =
    if_fine setup s.position (may_call setup t r s) _ _ (λ has. sleeps (release_grants setup sort.QLock t (qlock_of r setup.rendezes) s has sound runs)) (λ f. bad_fine setup s sound)
  where
    given_up : State
    given_up = with_grant (sleep t r (qlock_of r setup.rendezes) s.holds (lock_waiters s.waits)) s

    sleeps : IsGranted setup t s given_up → IsFine setup s.position (waiting t (LockRequest (ask.RSleep r)) given_up)
    sleeps g =
        subst (λ (n : ℕ). IsFine setup n (waiting t (LockRequest (ask.RSleep r)) given_up)) g.position
        (waits_so_fine setup given_up t (ask.RSleep r) (wait.Sleep r) 0 refl (λ a j u. refl) (λ tag h. cc) g.sound g.runs)
