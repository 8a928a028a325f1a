-- What each request on locks, Rendezes and tags of a thread that runs does.
use Rattle.std.proofs.Common.{◌≡◌, ℕ, ◌+◌, ◌≤◌, Bool, true, false, not, cond, ◌&&◌, eqb, List, [], ◌∷◌, map, Option, Some, None, refl, ap, ◌∙◌, arith}
use Rattle.std.specs.List.{filter, find}
use Rattle.std.specs.Option.{option_map, option_to_list}
use Rattle.p9_word.specs.declared.answer.Answer.{Answer}
use Rattle.p9_word.specs.declared.answer.Answer.TheVariants.{Done, Number, Met}
use Rattle.p9_word.specs.declared.request.LockReq.{LockReq}
use Rattle.p9_word.specs.declared.request.LockReq.TheVariants as ask
use Rattle.p9_word.specs.declared.request.Request.{Request}
use Rattle.p9_word.specs.declared.request.Request.TheVariants.{Thread as ThreadRequest, Signal as SignalRequest, Chan as ChanRequest, Lock as LockRequest, Io as IoRequest}
use Rattle.p9_word.specs.declared.setup.Setup.{Setup}
use Rattle.p9_manual.specs.declared.locks.LockWait.{LockWait}
use Rattle.p9_manual.specs.declared.locks.LockWait.TheVariants as wait
use Rattle.p9_manual.specs.declared.locks.LockWaiter.{LockWaiter}
use Rattle.p9_manual.specs.declared.locks.Sort.{Sort}
use Rattle.p9_manual.specs.declared.locks.Sort.TheVariants as sort
use Rattle.p9_manual.specs.declared.state.Waiter.{Waiter}
use Rattle.p9_manual.specs.Close.{all_woken}
use Rattle.p9_manual.specs.Holds.{Holds}
use Rattle.p9_manual.specs.LockCalls.{with_holds, all_granted, with_grant}
use Rattle.p9_manual.specs.LockWaits.{lock_wait_of, lock_waiter, lock_waiter_of, lock_waiters}
use Rattle.p9_manual.specs.Locks.{lock_call}
use Rattle.p9_manual.specs.Queues.{waits_for, waits_at_rw, without_first, writer_of, writer_first, readers_in}
use Rattle.p9_manual.specs.Rendez.{sleep}
use Rattle.p9_manual.specs.RendezCalls.{qlock_of, sleeps_at, for_qlock, first_moved, all_moved}
use Rattle.p9_manual.specs.Rendezvous.{partner}
use Rattle.p9_manual.specs.State.{State, Outcome, done, now, waiting, wake}
use Rattle.p9_manual.specs.Unlocks.{Grant, read_released, release, rw_passed}
use Rattle.p9_laws.proofs.AskedLocks.{DoesToLocks, Says, Counts, Gets, GetsInTurn, WaitsFor, GivesUp, Sleeps, Meets, MovesFirst, MovesAll, lock_call_does}
use Rattle.p9_laws.proofs.Tallies.{tally, tally-append, tally-push}
use Rattle.p9_laws.proofs.RunMoves.{IsUpright, RunsIn, asks_io, is_io_wait_of, moved_on, no_io_wait, unmoved}
use Rattle.p9_laws.proofs.RunCalls.{IsServed, done_served, just_waiting, now_served}
use Rattle.p9_laws.proofs.RunChans.{answer_served}
use Rattle.p9_laws.proofs.RunWoken.{is_other_wait_of, AllWait, IsWaking, waking}

-- how often thread u is among these threads
abbrev pub is_lock_wait_of : ℕ → LockWaiter → Bool
is_lock_wait_of u w = eqb w.tid u

abbrev pub is_id : ℕ → ℕ → Bool
is_id u t = eqb t u

-- who waits for a lock, at a Rendez or with a tag waits, but not for an ioproc
lock_wait_step : (t u : ℕ) (r : Request) → tally (is_lock_wait_of u) (lock_waiter t (lock_wait_of r)) ≤ cond (eqb t u && not (asks_io r)) 1 0
lock_wait_step t u (LockRequest r) = some_step t u (lock_wait_of (LockRequest r))
  where
    one_step : (b : Bool) → cond b 1 0 + 0 ≤ cond (b && true) 1 0
    one_step true = omega arith
    one_step false = omega arith

    some_step : (t u : ℕ) (o : Option (LockWait × ℕ)) → tally (is_lock_wait_of u) (lock_waiter t o) ≤ cond (eqb t u && true) 1 0
    some_step t u None = omega arith
    some_step t u (Some (what, value)) = one_step (eqb t u)
lock_wait_step t u r = omega arith

lock_waiters_wait : (u : ℕ) → (waits : List Waiter) → tally (is_lock_wait_of u) (lock_waiters waits) ≤ tally (is_other_wait_of u) waits
lock_waiters_wait u [] = omega arith
lock_waiters_wait u (w ∷ ws) =
    let a = tally-append (is_lock_wait_of u) (lock_waiter_of w) (lock_waiters ws) in
    let k = lock_wait_step w.tid u w.request in
    let l = lock_waiters_wait u ws in
    omega (arith, a, k, l)

-- who is found is there
found_step : (p : LockWaiter → Bool) (b : Bool) (x : LockWaiter) (xs : List LockWaiter) (u : ℕ) → tally (is_id u) (option_to_list (option_map (λ w. w.tid) (find p xs))) ≤ tally (is_lock_wait_of u) xs → tally (is_id u) (option_to_list (option_map (λ w. w.tid) (cond b (Some x) (find p xs)))) ≤ cond (eqb x.tid u) 1 0 + tally (is_lock_wait_of u) xs
found_step p true x xs u h = omega arith
found_step p false x xs u h = omega (arith, h)

found : (p : LockWaiter → Bool) → (waits : List LockWaiter) (u : ℕ) → tally (is_id u) (option_to_list (option_map (λ w. w.tid) (find p waits))) ≤ tally (is_lock_wait_of u) waits
found p [] u = omega arith
found p (x ∷ xs) u = found_step p (p x) x xs u (found p xs u)

-- the threads that these wait as are each there as often
abbrev pub AreAmong : List LockWaiter → List ℕ → Type 0
AreAmong waits ts = (u : ℕ) → tally (is_id u) ts ≤ tally (is_lock_wait_of u) waits

reader_step : (b c : Bool) (n u : ℕ) (w : LockWaiter) (ts : List ℕ) → tally (is_id u) ts ≤ n → tally (is_id u) (cond b [] (cond c (w.tid ∷ ts) ts)) ≤ cond (eqb w.tid u) 1 0 + n
reader_step true c n u w ts h = omega arith
reader_step false true n u w ts h = omega (arith, h)
reader_step false false n u w ts h = omega (arith, h)

readers_among : (k : ℕ) → (waits : List LockWaiter) → AreAmong waits (readers_in k waits)
readers_among k [] u = omega arith
readers_among k (w ∷ ws) u = reader_step (waits_for (wait.Lock sort.Write k) w) (waits_for (wait.Lock sort.Read k) w) _ u w (readers_in k ws) (readers_among k ws u)

writer_step : (b : Bool) (t u : ℕ) → tally (is_id u) (option_to_list (cond b (Some t) None)) ≤ tally (is_id u) (t ∷ [])
writer_step true t u = omega arith
writer_step false t u = omega arith

writer_in : (k u : ℕ) (o : Option LockWaiter) → tally (is_id u) (option_to_list (writer_of k o)) ≤ tally (is_id u) (option_to_list (option_map (λ w. w.tid) o))
writer_in k u None = omega arith
writer_in k u (Some w) = writer_step (waits_for (wait.Lock sort.Write k) w) w.tid u

writer_among : (k : ℕ) (waits : List LockWaiter) → AreAmong waits (option_to_list (writer_first k waits))
writer_among k waits u =
    let a = writer_in k u (find (waits_at_rw k) waits) in
    let b = found (waits_at_rw k) waits u in
    omega (arith, a, b)

passed_among : (k : ℕ) (readers : List ℕ) (o : Option ℕ) (h : Holds) (waits : List LockWaiter) → AreAmong waits (option_to_list o) → AreAmong waits (rw_passed k readers o h waits).granted
passed_among k readers (Some t) h waits among = among
passed_among k readers None h waits among = readers_among k waits

read_among : (k : ℕ) (readers : List ℕ) (h : Holds) (waits : List LockWaiter) → AreAmong waits (read_released k readers h waits).granted
read_among k [] h waits = passed_among k [] (writer_first k waits) h waits (writer_among k waits)
read_among k (r ∷ rs) h waits = λ u. omega arith

-- whom an unlock grants the lock waits
release_among : (s : Sort) (t k : ℕ) (h : Holds) (waits : List LockWaiter) → AreAmong waits (release s t k h waits).granted
release_among sort.Lock t k h waits = found (waits_for (wait.Lock sort.Lock k)) waits
release_among sort.QLock t k h waits = found (waits_for (wait.Lock sort.QLock k)) waits
release_among sort.Read t k h waits = read_among k _ h waits
release_among sort.Write t k h waits = passed_among k _ (writer_first k waits) h waits (writer_among k waits)

-- who is granted a lock is told Done
abbrev pub with_done : ℕ → ℕ × Answer
with_done t = (t, Done)

done_tally : (u : ℕ) → (ts : List ℕ) → tally (λ w. eqb w.0 u) (map with_done ts) ≡ tally (is_id u) ts
done_tally u [] = refl
done_tally u (t ∷ ts) = ap (λ n. cond (eqb t u) 1 0 + n) (done_tally u ts)

granted_woken : (ts : List ℕ) (s : State) → all_granted ts s ≡ all_woken (map with_done ts) s
granted_woken [] s = refl
granted_woken (t ∷ ts) s = granted_woken ts (wake t Done s)

-- what it keeps to grant a lock to threads that wait
granting : (ts : List ℕ) (t : ℕ) (s : State) → IsUpright s → RunsIn s t → AreAmong (lock_waiters s.waits) ts → IsWaking t s (all_granted ts s)
granting ts t s upright runs among =
    rw (granted_woken ts s) (waking (map with_done ts) t s upright runs
    (λ u. let a = done_tally u ts in let b = among u in let c = lock_waiters_wait u s.waits in omega (arith, a, b, c)))

-- other holds are no other threads
holds_waking : (t : ℕ) (h : Holds) (s m : State) → IsWaking t (with_holds h s) m → IsWaking t s m
holds_waking t h s m is = record { moved = is.moved; upright = is.upright; stays = is.stays; ioprocs = is.ioprocs; over = is.over; opened = is.opened }

grant_waking : (g : Grant) (t : ℕ) (s : State) → IsUpright s → RunsIn s t → AreAmong (lock_waiters s.waits) g.granted → IsWaking t s (with_grant g s)
grant_waking g t s upright runs among = holds_waking t g.holds s _ (granting g.granted t (with_holds g.holds s) upright runs among)

-- the caller waits after threads are woken
sleep_served : (t : ℕ) (r : LockReq) (s m : State) → IsWaking t s m → RunsIn s t → IsServed t s (waiting t (LockRequest r) m)
sleep_served t r s m is runs =
    let there : RunsIn m t = rw (is.stays) runs in
    let rest = just_waiting m t (LockRequest r) is.upright there refl in
    record {
      moved = moved_on s.threads m.threads _ is.moved rest.moved;
      upright = rest.upright;
      reply = tt;
      ends = λ e. cc;
      stays = λ a e. cc;
      begun = λ k call h. rw (is.ioprocs) h;
      over = is.over;
      opened = is.opened;
    }

holds_served : (t : ℕ) (h : Holds) (s : State) (o : Outcome) → IsServed t (with_holds h s) o → IsServed t s o
holds_served t h s o is =
    record {
      moved = is.moved;
      upright = is.upright;
      reply = is.reply;
      ends = is.ends;
      stays = is.stays;
      begun = is.begun;
      over = is.over;
      opened = is.opened;
    }

-- an answer at once, with other holds
told_served : (t : ℕ) (a : Answer) (h : Holds) (s : State) → IsUpright s → IsServed t s (now a (with_holds h s))
told_served t a h s upright = holds_served t h s _ (now_served (with_holds h s) t a s.ioprocs upright (λ k call h. h))

-- a turn for the others, with other holds
turned_served : (t : ℕ) (h : Holds) (s : State) → IsUpright s → RunsIn s t → IsServed t s (done t Done (with_holds h s))
turned_served t h s upright runs = holds_served t h s _ (done_served (with_holds h s) t Done upright runs)

give_up_served : (l : Sort) (t k : ℕ) (s : State) → IsUpright s → RunsIn s t → IsServed t s (now Done (with_grant (release l t k s.holds (lock_waiters s.waits)) s))
give_up_served l t k s upright runs =
    answer_served t Done s _ (grant_waking (release l t k s.holds (lock_waiters s.waits)) t s upright runs (release_among l t k s.holds (lock_waiters s.waits)))

sleep_at_served : (t r q : ℕ) (s : State) → IsUpright s → RunsIn s t → IsServed t s (waiting t (LockRequest (ask.RSleep r)) (with_grant (sleep t r q s.holds (lock_waiters s.waits)) s))
sleep_at_served t r q s upright runs =
    sleep_served t (ask.RSleep r) s _
    (grant_waking (sleep t r q s.holds (lock_waiters s.waits)) t s upright runs (found (waits_for (wait.Lock sort.QLock q)) (lock_waiters s.waits)))
    runs

partner_waits : (tag value : ℕ) (w : LockWaiter) (s : State) → partner tag (lock_waiters s.waits) ≡ Some w → AllWait ((w.tid, Met value) ∷ []) s
partner_waits tag value w s e u =
    let a = rw e at (found (waits_for (wait.Tag tag)) (lock_waiters s.waits) u) in
    let c = lock_waiters_wait u s.waits in
    omega (arith, a, c)

meeting_served : (t tag value : ℕ) (w : LockWaiter) (s : State) → partner tag (lock_waiters s.waits) ≡ Some w → IsUpright s → RunsIn s t → IsServed t s (now (Met w.value) (wake w.tid (Met value) s))
meeting_served t tag value w s e upright runs =
    answer_served t (Met w.value) s _ (waking ((w.tid, Met value) ∷ []) t s upright runs (partner_waits tag value w s e))

-- a test of waits that tells no sleeper from one that waits for the QLock
abbrev pub IsBlind : ℕ → (Waiter → Bool) → Type 0
IsBlind r q = (b : ℕ) (w : Waiter) → sleeps_at r w ≡ true → q (for_qlock b w) ≡ q w

no_sleep : (r t at : ℕ) (request : Request) → sleeps_at r (record { tid = t; request = request; at = at }) ≡ true → asks_io request ≡ false
no_sleep r t at (IoRequest x) h = cc
no_sleep r t at (LockRequest x) h = refl
no_sleep r t at (ChanRequest x) h = refl
no_sleep r t at (ThreadRequest x) h = refl
no_sleep r t at (SignalRequest x) h = refl

io_blind : (r u : ℕ) → IsBlind r (is_io_wait_of u)
io_blind r u b w h =
    let none = no_io_wait u w (no_sleep r w.tid w.at w.request h) in
    rw none (no_io_wait u (for_qlock b w) refl)

-- one that is moved to the end
moved_step : (q p : Waiter → Bool) (b : Bool) (w x : Waiter) (xs : List Waiter) (n : ℕ) → (find p xs ≡ Some w → tally q (without_first p xs) + n ≡ tally q xs) → (x ≡ w → cond (q x) 1 0 ≡ n) → cond b (Some x) (find p xs) ≡ Some w → tally q (cond b xs (x ∷ without_first p xs)) + n ≡ cond (q x) 1 0 + tally q xs
moved_step q p true w x xs n h f e = let same : x ≡ w = cc in let k = f same in omega (arith, k)
moved_step q p false w x xs n h f e = let k = h e in omega (arith, k)

moved_first : (q p : Waiter → Bool) → (xs : List Waiter) (w : Waiter) → find p xs ≡ Some w → tally q (without_first p xs) + cond (q w) 1 0 ≡ tally q xs
moved_first q p [] w e = cc
moved_first q p (x ∷ xs) w e = moved_step q p (p x) w x xs (cond (q w) 1 0) (moved_first q p xs w) (λ same. rw same refl) e

-- who is found passes
passes_step : (p : Waiter → Bool) (b : Bool) (w x : Waiter) (xs : List Waiter) → p x ≡ b → (find p xs ≡ Some w → p w ≡ true) → cond b (Some x) (find p xs) ≡ Some w → p w ≡ true
passes_step p true w x xs t h e = let same : x ≡ w = cc in rw (← same) t
passes_step p false w x xs t h e = h e

found_passes : (p : Waiter → Bool) → (xs : List Waiter) (w : Waiter) → find p xs ≡ Some w → p w ≡ true
found_passes p [] w e = cc
found_passes p (x ∷ xs) w e = passes_step p (p x) w x xs refl (found_passes p xs w) e

first_tally : (r b : ℕ) (q : Waiter → Bool) (o : Option Waiter) (waits : List Waiter) → IsBlind r q → find (sleeps_at r) waits ≡ o → tally q (first_moved r b o waits) ≡ tally q waits
first_tally r b q None waits blind e = refl
first_tally r b q (Some w) waits blind e =
    let same = blind b w (found_passes (sleeps_at r) waits w e) in
    let k = tally-push q (q w) (without_first (sleeps_at r) waits) (for_qlock b w) same in
    k ∙ moved_first q (sleeps_at r) waits w e

-- all sleepers are moved to the end
all_step : (r b : ℕ) (q : Waiter → Bool) (c : Bool) (x : Waiter) (stay go : List Waiter) (n : ℕ) → IsBlind r q → sleeps_at r x ≡ c → tally q stay + tally q (map (for_qlock b) go) ≡ n → tally q (cond (not c) (x ∷ stay) stay) + tally q (map (for_qlock b) (cond c (x ∷ go) go)) ≡ cond (q x) 1 0 + n
all_step r b q true x stay go n blind e h = let same = blind b x e in rw same (omega (arith, h))
all_step r b q false x stay go n blind e h = omega (arith, h)

all_parts : (r b : ℕ) (q : Waiter → Bool) → IsBlind r q → (waits : List Waiter) → tally q (filter (λ w. not (sleeps_at r w)) waits) + tally q (map (for_qlock b) (filter (sleeps_at r) waits)) ≡ tally q waits
all_parts r b q blind [] = refl
all_parts r b q blind (x ∷ xs) =
    all_step r b q (sleeps_at r x) x (filter (λ w. not (sleeps_at r w)) xs) (filter (sleeps_at r) xs) (tally q xs) blind refl (all_parts r b q blind xs)

all_tally : (r b : ℕ) (q : Waiter → Bool) (waits : List Waiter) → IsBlind r q → tally q (all_moved r b waits) ≡ tally q waits
all_tally r b q waits blind = tally-append q (filter (λ w. not (sleeps_at r w)) waits) (map (for_qlock b) (filter (sleeps_at r) waits)) ∙ all_parts r b q blind waits

-- an answer at once, where the waits change and no thread does
waits_served : (t r : ℕ) (a : Answer) (s : State) (waits : List Waiter) → ((q : Waiter → Bool) → IsBlind r q → tally q waits ≡ tally q s.waits) → IsUpright s → IsServed t s (now a (record s { waits = waits }))
waits_served t r a s waits same upright =
    answer_served t a s (record s { waits = waits }) (record {
      moved = unmoved s.threads;
      upright = record {
        in_line = upright.in_line;
        in_waits = λ u. same (λ w. eqb w.tid u) (λ b w h. refl) ∙ upright.in_waits u;
        in_calls = λ u. same (is_io_wait_of u) (io_blind r u) ∙ upright.in_calls u;
        short = upright.short;
      };
      stays = refl;
      ioprocs = refl;
      over = refl;
      opened = refl;
    })

locks_served : (setup : Setup) (t : ℕ) (s : State) (o : Outcome) → DoesToLocks setup t s o → IsUpright s → RunsIn s t → IsServed t s o
locks_served setup t s _ (Says a) upright runs = now_served s t a s.ioprocs upright (λ k call h. h)
locks_served setup t s _ (Counts k value) upright runs = told_served t (Number value) _ s upright
locks_served setup t s _ (Gets l k a grants can) upright runs = told_served t a _ s upright
locks_served setup t s _ (GetsInTurn l k can) upright runs = turned_served t _ s upright runs
locks_served setup t s _ (WaitsFor r can) upright runs = just_waiting s t (LockRequest r) upright runs refl
locks_served setup t s _ (GivesUp l k has) upright runs = give_up_served l t k s upright runs
locks_served setup t s _ (Sleeps r may) upright runs = sleep_at_served t r (qlock_of r setup.rendezes) s upright runs
locks_served setup t s _ (Meets tag value w e) upright runs = meeting_served t tag value w s e upright runs
locks_served setup t s _ (MovesFirst r n may) upright runs =
    waits_served t r (Number n) s _ (λ q blind. first_tally r (qlock_of r setup.rendezes) q (find (sleeps_at r) s.waits) s.waits blind refl) upright
locks_served setup t s _ (MovesAll r n may) upright runs =
    waits_served t r (Number n) s _ (λ q blind. all_tally r (qlock_of r setup.rendezes) q s.waits blind) upright

pub lock_call_served : (setup : Setup) (t : ℕ) (r : LockReq) (s : State) → IsUpright s → RunsIn s t → IsServed t s (lock_call setup t r s)
lock_call_served setup t r s upright runs = locks_served setup t s _ (lock_call_does setup t r s) upright runs
