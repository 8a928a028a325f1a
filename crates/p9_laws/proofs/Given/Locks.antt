-- Requests on locks wake threads that wait for them or to meet.
use Rattle.std.proofs.Common.{◌≡◌, ℕ, Bool, true, false, cond, eqb, List, [], ◌∷◌, Option, Some, None, refl}
use Rattle.std.specs.Prelude.{All, option_map}
use Rattle.std.specs.List.{find}
use Rattle.std.specs.Option.{option_to_list}
use Rattle.std.proofs.lemmas.List.Elements.{All-append, All-cons, All-head, All-nil, All-tail}
use Rattle.p9_word.specs.declared.answer.Answer.{Answer}
use Rattle.p9_word.specs.declared.answer.Answer.TheVariants.{Done, Met}
use Rattle.p9_word.specs.declared.request.LockReq.{LockReq}
use Rattle.p9_word.specs.declared.setup.Setup.{Setup}
use Rattle.p9_manual.specs.declared.locks.LockWait.{LockWait}
use Rattle.p9_manual.specs.declared.locks.LockWait.TheVariants as wait
use Rattle.p9_manual.specs.declared.locks.LockWaiter.{LockWaiter}
use Rattle.p9_manual.specs.declared.locks.Sort.{Sort}
use Rattle.p9_manual.specs.declared.locks.Sort.TheVariants as sort
use Rattle.p9_manual.specs.declared.state.Place.TheVariants.{Running, Waiting}
use Rattle.p9_manual.specs.declared.state.Thread.{Thread}
use Rattle.p9_manual.specs.declared.state.Waiter.{Waiter}
use Rattle.p9_manual.specs.Claims.{rw_at}
use Rattle.p9_manual.specs.Holds.{Holds}
use Rattle.p9_manual.specs.LockCalls.{all_granted, with_grant, with_holds}
use Rattle.p9_manual.specs.LockWaits.{lock_wait_of, lock_waiter, lock_waiter_of, lock_waiters}
use Rattle.p9_manual.specs.Locks.{lock_call}
use Rattle.p9_manual.specs.Queues.{readers_in, waits_at_rw, waits_for, without_first, writer_first, writer_of}
use Rattle.p9_manual.specs.Rendez.{sleep}
use Rattle.p9_manual.specs.RendezCalls.{qlock_of}
use Rattle.p9_manual.specs.Standing.{place_of}
use Rattle.p9_manual.specs.State.{State, Outcome, wake}
use Rattle.p9_manual.specs.Unlocks.{Grant, read_released, release, rw_passed}
use Rattle.p9_laws.proofs.AskedLocks.{DoesToLocks, Says, Counts, Gets, GetsInTurn, WaitsFor, GivesUp, Sleeps, Meets, MovesFirst, MovesAll, lock_call_does}
use Rattle.p9_laws.proofs.Tallies.{found_holds}
use Rattle.p9_laws.proofs.Given.Causes.{tells_lock}
use Rattle.p9_laws.proofs.Given.Goes.{Rests, Stays, Woken, woken_wake}
use Rattle.p9_laws.proofs.Given.Replies.{Replies, go_replies, same_replies, ready_replies, wait_replies}

-- each of these threads waits
abbrev AllWait : List Thread → List ℕ → Type 0
AllWait threads ts = All (λ t. place_of threads t ≡ Waiting) ts

abbrev LockersRest : List Thread → List LockWaiter → Type 0
LockersRest threads ws = All (λ w. place_of threads w.tid ≡ Waiting) ws

one_rests : (threads : List Thread) (t : ℕ) (o : Option (LockWait × ℕ)) → place_of threads t ≡ Waiting → LockersRest threads (lock_waiter t o)
one_rests threads t None h = All-nil (λ w. place_of threads w.tid ≡ Waiting)
one_rests threads t (Some (what, value)) h = All-cons (λ w. place_of threads w.tid ≡ Waiting) (record { tid = t; what = what; value = value }) [] h (All-nil (λ w. place_of threads w.tid ≡ Waiting))

lockers_rest : (threads : List Thread) → (waits : List Waiter) → Rests threads waits → LockersRest threads (lock_waiters waits)
lockers_rest threads [] rests = All-nil (λ w. place_of threads w.tid ≡ Waiting)
lockers_rest threads (w ∷ ws) rests =
    All-append (λ p. place_of threads p.tid ≡ Waiting) (lock_waiter_of w) (lock_waiters ws)
    (one_rests threads w.tid (lock_wait_of w.request) (All-head (λ x. place_of threads x.tid ≡ Waiting) w ws rests))
    (lockers_rest threads ws (All-tail (λ x. place_of threads x.tid ≡ Waiting) w ws rests))

module _ (threads : List Thread) where
  none_wait : AllWait threads []
  none_wait = All-nil (λ t. place_of threads t ≡ Waiting)

  one_waits : (t : ℕ) → place_of threads t ≡ Waiting → AllWait threads (t ∷ [])
  one_waits t h = All-cons (λ u. place_of threads u ≡ Waiting) t [] h none_wait

  first_waits : (p : LockWaiter → Bool) (ws : List LockWaiter) (o : Option LockWaiter) → LockersRest threads ws → find p ws ≡ o → AllWait threads (option_to_list (option_map (λ w. w.tid) o))
  first_waits p ws None rest e = none_wait
  first_waits p ws (Some w) rest e = one_waits w.tid (found_holds (λ x. place_of threads x.tid ≡ Waiting) p w ws rest e)

  readers_step : (b c : Bool) (t : ℕ) (ts : List ℕ) → place_of threads t ≡ Waiting → AllWait threads ts → AllWait threads (cond b [] (cond c (t ∷ ts) ts))
  readers_step true c t ts h k = none_wait
  readers_step false true t ts h k = All-cons (λ u. place_of threads u ≡ Waiting) t ts h k
  readers_step false false t ts h k = k

  readers_wait : (k : ℕ) → (ws : List LockWaiter) → LockersRest threads ws → AllWait threads (readers_in k ws)
  readers_wait k [] rest = none_wait
  readers_wait k (w ∷ ws) rest =
      readers_step (waits_for (wait.Lock sort.Write k) w) (waits_for (wait.Lock sort.Read k) w) w.tid (readers_in k ws) (All-head (λ x. place_of threads x.tid ≡ Waiting) w ws rest)
      (readers_wait k ws (All-tail (λ x. place_of threads x.tid ≡ Waiting) w ws rest))

  -- a writer that is found waits
  abbrev WriterWaits : Option ℕ → Type 0
  WriterWaits o = (t : ℕ) → o ≡ Some t → place_of threads t ≡ Waiting

  writer_step : (b : Bool) (t : ℕ) → place_of threads t ≡ Waiting → WriterWaits (cond b (Some t) None)
  writer_step true t h u e = let same : t ≡ u = cc in cc (same, h)
  writer_step false t h u e = cc

  writer_waits : (k : ℕ) (ws : List LockWaiter) (o : Option LockWaiter) → LockersRest threads ws → find (waits_at_rw k) ws ≡ o → WriterWaits (writer_of k o)
  writer_waits k ws None rest e t h = cc
  writer_waits k ws (Some w) rest e t h = writer_step (waits_for (wait.Lock sort.Write k) w) w.tid (found_holds (λ x. place_of threads x.tid ≡ Waiting) (waits_at_rw k) w ws rest e) t h

  module _ (h : Holds) (ws : List LockWaiter) (rest : LockersRest threads ws) where
    passed_waits : (k : ℕ) (readers : List ℕ) (o : Option ℕ) → WriterWaits o → AllWait threads (rw_passed k readers o h ws).granted
    passed_waits k readers None writer = readers_wait k ws rest
    passed_waits k readers (Some t) writer = one_waits t (writer t refl)

    first_writer : (k : ℕ) → WriterWaits (writer_first k ws)
    first_writer k = writer_waits k ws (find (waits_at_rw k) ws) rest refl

    read_waits : (k : ℕ) (readers : List ℕ) → AllWait threads (read_released k readers h ws).granted
    read_waits k [] = passed_waits k [] (writer_first k ws) (first_writer k)
    read_waits k (r ∷ rs) = none_wait

    -- who is granted a lock waits
    granted_wait : (l : Sort) (t k : ℕ) → AllWait threads (release l t k h ws).granted
    granted_wait sort.Lock t k = first_waits (waits_for (wait.Lock sort.Lock k)) ws (find (waits_for (wait.Lock sort.Lock k)) ws) rest refl
    granted_wait sort.QLock t k = first_waits (waits_for (wait.Lock sort.QLock k)) ws (find (waits_for (wait.Lock sort.QLock k)) ws) rest refl
    granted_wait sort.Read t k = read_waits k (without_first (λ r. eqb r t) (rw_at k h).readers)
    granted_wait sort.Write t k = passed_waits k (rw_at k h).readers (writer_first k ws) (first_writer k)

module _ (s : State) where
  -- who is woken, with which answers
  abbrev P : ℕ → Answer → Type 0
  P u a = tells_lock a ≡ true

  all_granted_woken : (ts : List ℕ) (n : State) → AllWait s.threads ts → Woken P s n → Woken P s (all_granted ts n)
  all_granted_woken [] n all w = w
  all_granted_woken (t ∷ ts) n all w =
      all_granted_woken ts (wake t Done n) (All-tail (λ u. place_of s.threads u ≡ Waiting) t ts all)
      (woken_wake P s n t Done (All-head (λ u. place_of s.threads u ≡ Waiting) t ts all) refl w)

  module _ (setup : Setup) (t : ℕ) (runs : place_of s.threads t ≡ Running) (rests : Rests s.threads s.waits) where
    abbrev Q : Answer → Type 0
    Q a = a ≡ Done

    lockers_here : LockersRest s.threads (lock_waiters s.waits)
    lockers_here = lockers_rest s.threads s.waits rests

    start : (h : Holds) → Woken P s (with_holds h s)
    start h = record { each = λ u. Stays (place_of s.threads u); rests = rests }

    grant_woken : (g : Grant) → AllWait s.threads g.granted → Woken P s (with_grant g s)
    grant_woken g all = all_granted_woken g.granted (with_holds g.holds s) all (start g.holds)

    does_replies : (o : Outcome) → DoesToLocks setup t s o → Replies P Q t s.threads o.state.threads
    does_replies _ (Says a) = same_replies P Q t s.threads runs
    does_replies _ (Counts k value) = same_replies P Q t s.threads runs
    does_replies _ (Gets l k a grants can) = same_replies P Q t s.threads runs
    does_replies _ (GetsInTurn l k can) = ready_replies P Q t Done s.threads s.threads runs refl (λ u. Stays (place_of s.threads u))
    does_replies _ (WaitsFor r waits) = wait_replies P Q t s.threads s.threads runs (λ u. Stays (place_of s.threads u))
    does_replies _ (GivesUp l k has) =
        let g = release l t k s.holds (lock_waiters s.waits) in
        go_replies P Q t s.threads (with_grant g s).threads runs (grant_woken g (granted_wait s.threads s.holds (lock_waiters s.waits) lockers_here l t k)).each
    does_replies _ (Sleeps r may) =
        let g = sleep t r (qlock_of r setup.rendezes) s.holds (lock_waiters s.waits) in
        wait_replies P Q t s.threads (with_grant g s).threads runs (grant_woken g (granted_wait s.threads s.holds (lock_waiters s.waits) lockers_here sort.QLock t (qlock_of r setup.rendezes))).each
    does_replies _ (Meets tag value w found) =
        let waits = found_holds (λ x. place_of s.threads x.tid ≡ Waiting) (waits_for (wait.Tag tag)) w (lock_waiters s.waits) lockers_here found in
        go_replies P Q t s.threads (wake w.tid (Met value) s).threads runs (woken_wake P s s w.tid (Met value) waits refl (start s.holds)).each
    does_replies _ (MovesFirst r n may) = same_replies P Q t s.threads runs
    does_replies _ (MovesAll r n may) = same_replies P Q t s.threads runs

-- a request on locks
pub lock_replies : (setup : Setup) (t : ℕ) (r : LockReq) (s : State) → place_of s.threads t ≡ Running → Rests s.threads s.waits → Replies (λ u a. tells_lock a ≡ true) (λ a. a ≡ Done) t s.threads (lock_call setup t r s).state.threads
lock_replies setup t r s runs rests = does_replies s setup t runs rests (lock_call setup t r s) (lock_call_does setup t r s)
