-- A thread that runs waits for a lock, at a Rendez or to meet: a sound state stays sound.
use Rattle.std.proofs.Common.{◌≡◌, ℕ, ◌≤◌, Bool, true, false, List, [], ◌∷◌, ◌++◌, map, Some, refl, ap, sym, subst, ◌∙◌, arith, append-nil}
use Rattle.std.specs.Prelude.{All}
use Rattle.std.specs.Option.{is_some}
use Rattle.std.proofs.lemmas.List.Elements.{All-push}
use Rattle.p9_word.specs.declared.request.LockReq.{LockReq}
use Rattle.p9_word.specs.declared.request.Request.TheVariants.{Lock as LockRequest}
use Rattle.p9_word.specs.declared.setup.Setup.{Setup}
use Rattle.p9_manual.specs.declared.locks.Sort.{Sort}
use Rattle.p9_manual.specs.declared.locks.LockWait.{LockWait}
use Rattle.p9_manual.specs.declared.locks.LockWait.TheVariants as wait
use Rattle.p9_manual.specs.declared.locks.LockWaiter.{LockWaiter}
use Rattle.p9_manual.specs.declared.state.Channel.{Channel}
use Rattle.p9_manual.specs.declared.state.Party.{Party}
use Rattle.p9_manual.specs.declared.state.Place.TheVariants.{Waiting}
use Rattle.p9_manual.specs.declared.state.Waiter.{Waiter}
use Rattle.p9_manual.specs.AltEntries.{sends_on, receives_on, waits_on}
use Rattle.p9_manual.specs.LockWaits.{wait_for, lock_waiter, lock_waiters}
use Rattle.p9_manual.specs.Offers.{parties}
use Rattle.p9_manual.specs.Queues.{waits_for}
use Rattle.p9_manual.specs.Sound.{IsSound, WaitRightly, can_wait}
use Rattle.p9_manual.specs.SoundLocks.{WaitInTurn, is_unheld}
use Rattle.p9_manual.specs.Standing.{IsRising, times}
use Rattle.p9_manual.specs.State.{State, placed, waiting}
use Rattle.p9_laws.proofs.Sound.Calls.{pushed_match}
use Rattle.p9_laws.proofs.Sound.LockGrants.{waiters_push}
use Rattle.p9_laws.proofs.Sound.LockTurns.{waiting_turns}
use Rattle.p9_laws.proofs.Sound.Outcomes.{IsFine, RunsIn, so_far, waiting_fine}
use Rattle.p9_laws.proofs.Sound.Parties.{parties_push}
use Rattle.p9_laws.proofs.Sound.Waits.{both}

-- the wait of thread t with a request on locks
abbrev pub lock_wait : ℕ → LockReq → ℕ → Waiter
lock_wait t r at = record { tid = t; request = LockRequest r; at = at }

-- the thread, as one that waits so
abbrev pub waits_as : ℕ → LockWait → ℕ → LockWaiter
waits_as t what value = record { tid = t; what = what; value = value }

-- it waits in no alt
same_parties : (waits : List Waiter) (t : ℕ) (r : LockReq) (at : ℕ) → parties (waits ++ lock_wait t r at ∷ []) ≡ parties waits
same_parties waits t r at = parties_push waits (lock_wait t r at) ∙ append-nil (parties waits)

more_waiters : (waits : List Waiter) (t : ℕ) (r : LockReq) (at : ℕ) (what : LockWait) (value : ℕ) → wait_for r ≡ Some (what, value) → lock_waiters (waits ++ lock_wait t r at ∷ []) ≡ lock_waiters waits ++ waits_as t what value ∷ []
more_waiters waits t r at what value e = waiters_push waits (lock_wait t r at) ∙ ap (λ o. lock_waiters waits ++ lock_waiter t o) e

-- with the same threads in alts, what holds of the waits on channels still does
pub parties_rightly : (chans : List Channel) (waits more : List Waiter) → parties more ≡ parties waits → All (λ w. can_wait w.request ≡ true) more → WaitRightly chans waits → WaitRightly chans more
parties_rightly chans waits more same kinds right =
    record {
      kinds = kinds;
      sends = λ c h. count (sends_on c) ∙ right.sends c h;
      receives = λ c h. count (receives_on c) ∙ right.receives c h;
      unpaired = λ c. both (λ h. count (sends_on c) ∙ h) (both (λ h. count (receives_on c) ∙ h) (few c)) (right.unpaired c);
    }
  where
    count : (q : Party → Bool) → times q (parties more) ≡ times q (parties waits)
    count q = ap (times q) same

    few : (c : ℕ) → times (waits_on c) (parties waits) ≤ 1 → times (waits_on c) (parties more) ≤ 1
    few c h = let k = count (waits_on c) in omega (arith, k, h)

pub parties_rise : (waits more : List Waiter) → parties more ≡ parties waits → IsRising (map (λ (p : Party). p.at) (parties waits)) → IsRising (map (λ (p : Party). p.at) (parties more))
parties_rise waits more same h = subst (λ (ps : List Party). IsRising (map (λ (p : Party). p.at) ps)) (sym same) h

-- t, which runs, waits with a request, for no lock that nobody holds and with no tag with which another waits
pub waits_so_fine : (setup : Setup) (s : State) (t : ℕ) (r : LockReq) (what : LockWait) (value : ℕ) → wait_for r ≡ Some (what, value) → ((sort : Sort) (k : ℕ) → is_unheld sort k s.holds ≡ true → waits_for (wait.Lock sort k) (waits_as t what value) ≡ false) → ((tag : ℕ) → waits_for (wait.Tag tag) (waits_as t what value) ≡ true → times (waits_for (wait.Tag tag)) (lock_waiters s.waits) ≡ 0) → IsSound setup s → RunsIn s t → IsFine setup s.position (waiting t (LockRequest r) s)
waits_so_fine setup s t r what value e locks tags sound runs =
    let w = lock_wait t r s.position in
    waiting_fine setup s t (LockRequest r) (so_far setup s sound) runs
    (parties_rightly s.chans s.waits (s.waits ++ w ∷ []) (same_parties s.waits t r s.position) (All-push (λ (x : Waiter). can_wait x.request ≡ true) s.waits w sound.waits_right.kinds (ap is_some e)) sound.waits_right)
    (pushed_match s.ioprocs s.waits w (λ k. refl) sound.calls)
    (subst (λ (ws : List LockWaiter). WaitInTurn (placed t Waiting s.threads) s.holds ws) (sym (more_waiters s.waits t r s.position what value e)) (waiting_turns s.threads s.holds (lock_waiters s.waits) (waits_as t what value) runs locks tags sound.in_turn))
