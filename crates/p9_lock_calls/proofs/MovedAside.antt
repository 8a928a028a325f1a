-- Where sleepers are moved, the alts that wait stay, and which procs are held.
use Rattle.std.proofs.Common.{◌≡◌, ℕ, Bool, true, false, not, cond, ◌&&◌, ◌||◌, List, [], ◌∷◌, ◌++◌, map, Option, Some, None, refl, ap, ◌∙◌, append-nil}
use Rattle.std.specs.List.{filter, find, list_any}
use Rattle.std.proofs.lemmas.List.Concat.{flat_map-append}
use Rattle.std.proofs.lemmas.List.Folds.{list_any-append}
use Rattle.p9_word.specs.declared.request.Request.{Request}
use Rattle.p9_word.specs.declared.request.Request.TheVariants.{Thread as ThreadRequest, Signal as SignalRequest, Chan as ChanRequest, Lock as LockRequest, Io as IoRequest}
use Rattle.p9_manual.specs.declared.locks.LockWait.{LockWait}
use Rattle.p9_manual.specs.declared.locks.LockWait.TheVariants as wait
use Rattle.p9_manual.specs.declared.locks.LockWaiter.{LockWaiter}
use Rattle.p9_manual.specs.declared.state.Thread.{Thread}
use Rattle.p9_manual.specs.declared.state.Waiter.{Waiter}
use Rattle.p9_manual.specs.Held.{holds_in}
use Rattle.p9_manual.specs.LockWaits.{holds_proc, lock_wait_of, lock_waiter}
use Rattle.p9_manual.specs.Offers.{alternation_of, parties, party_of, party_with}
use Rattle.p9_manual.specs.Places.{is_of}
use Rattle.p9_manual.specs.Queues.{same_wait, waits_for, without_first}
use Rattle.p9_manual.specs.Rendez.{sleepers, wakeup, wakeup_all, woken_first, woken_for}
use Rattle.p9_manual.specs.RendezCalls.{all_moved, first_moved, for_qlock, sleeps_at}
use Rattle.p9_manual.specs.State.{by_id}

-- a waiter that passes is in no alt
abbrev NoAlts : (Waiter → Bool) → Type 0
NoAlts p = (w : Waiter) → p w ≡ true → party_of w ≡ []

sleeper_no_alt : (r t at : ℕ) (request : Request) → list_any (waits_for (wait.Sleep r)) (lock_waiter t (lock_wait_of request)) ≡ true → party_with t at (alternation_of request) ≡ []
sleeper_no_alt r t at (LockRequest asked) h = refl
sleeper_no_alt r t at (ThreadRequest asked) h = cc
sleeper_no_alt r t at (SignalRequest asked) h = cc
sleeper_no_alt r t at (ChanRequest asked) h = cc
sleeper_no_alt r t at (IoRequest asked) h = cc

-- a sleeper is in no alt
sleepers_no_alts : (r : ℕ) → NoAlts (sleeps_at r)
sleepers_no_alts r w h = sleeper_no_alt r w.tid w.at w.request h

filtered_step : (b : Bool) (w : Waiter) (fs ws : List Waiter) → (b ≡ true → party_of w ≡ []) → parties fs ≡ parties ws → parties (cond (not b) (w ∷ fs) fs) ≡ party_of w ++ parties ws
filtered_step true w fs ws none e = rw (none refl) e
filtered_step false w fs ws none e = ap (λ ps. party_of w ++ ps) e

-- without some that are in no alt
parties_filtered : (p : Waiter → Bool) → NoAlts p → (waits : List Waiter) → parties (filter (λ w. not (p w)) waits) ≡ parties waits
parties_filtered p none [] = refl
parties_filtered p none (w ∷ ws) = filtered_step (p w) w (filter (λ u. not (p u)) ws) ws (none w) (parties_filtered p none ws)

first_step : (b : Bool) (w : Waiter) (fs ws : List Waiter) → (b ≡ true → party_of w ≡ []) → parties fs ≡ parties ws → parties (cond b ws (w ∷ fs)) ≡ party_of w ++ parties ws
first_step true w fs ws none e = rw (none refl) refl
first_step false w fs ws none e = ap (λ ps. party_of w ++ ps) e

parties_without_first : (p : Waiter → Bool) → NoAlts p → (waits : List Waiter) → parties (without_first p waits) ≡ parties waits
parties_without_first p none [] = refl
parties_without_first p none (w ∷ ws) = first_step (p w) w (without_first p ws) ws (none w) (parties_without_first p none ws)

parties_for_qlock : (q : ℕ) → (waits : List Waiter) → parties (map (for_qlock q) waits) ≡ []
parties_for_qlock q [] = refl
parties_for_qlock q (w ∷ ws) = parties_for_qlock q ws

-- the alts that wait stay where the first sleeper is moved
pub first_moved_leaves : (r q : ℕ) (o : Option Waiter) (waits : List Waiter) → parties (first_moved r q o waits) ≡ parties waits
first_moved_leaves r q None waits = refl
first_moved_leaves r q (Some w) waits =
    flat_map-append party_of (without_first (sleeps_at r) waits) (for_qlock q w ∷ []) ∙ append-nil (parties (without_first (sleeps_at r) waits)) ∙ parties_without_first (sleeps_at r) (sleepers_no_alts r) waits

-- and where all sleepers are
pub all_moved_leaves : (r q : ℕ) (waits : List Waiter) → parties (all_moved r q waits) ≡ parties waits
all_moved_leaves r q waits =
    flat_map-append party_of (filter (λ w. not (sleeps_at r w)) waits) (map (for_qlock q) (filter (sleeps_at r) waits))
    ∙ ap (λ ps. parties (filter (λ w. not (sleeps_at r w)) waits) ++ ps) (parties_for_qlock q (filter (sleeps_at r) waits))
    ∙ append-nil (parties (filter (λ w. not (sleeps_at r w)) waits))
    ∙ parties_filtered (sleeps_at r) (sleepers_no_alts r) waits

-- a thread that sleeps holds no proc
sleep_holds_none : (what : LockWait) (r : ℕ) → same_wait what (wait.Sleep r) ≡ true → holds_proc what ≡ false
sleep_holds_none (wait.Tag a) r h = cc
sleep_holds_none (wait.Lock s k) r h = cc
sleep_holds_none (wait.Sleep a) r h = refl

-- whom a test passes, another one doesn't
abbrev AreApart : (LockWaiter → Bool) → (LockWaiter → Bool) → Type 0
AreApart q f = (w : LockWaiter) → q w ≡ true → f w ≡ false

sleepers_apart : (r p : ℕ) (threads : List Thread) → AreApart (waits_for (wait.Sleep r)) (holds_in threads p)
sleepers_apart r p threads w h = ap (λ (b : Bool). b && is_of p (by_id threads w.tid)) (sleep_holds_none w.what r h)

any_first_step : (q f : LockWaiter → Bool) (b : Bool) (w : LockWaiter) (fs ws : List LockWaiter) → (b ≡ true → f w ≡ false) → list_any f fs ≡ list_any f ws → list_any f (cond b ws (w ∷ fs)) ≡ (f w || list_any f ws)
any_first_step q f true w fs ws none e = rw (none refl) refl
any_first_step q f false w fs ws none e = ap (λ (b : Bool). f w || b) e

any_without_first : (q f : LockWaiter → Bool) → AreApart q f → (ws : List LockWaiter) → list_any f (without_first q ws) ≡ list_any f ws
any_without_first q f apart [] = refl
any_without_first q f apart (w ∷ ws) = any_first_step q f (q w) w (without_first q ws) ws (apart w) (any_without_first q f apart ws)

any_others_step : (f : LockWaiter → Bool) (b : Bool) (w : LockWaiter) (fs ws : List LockWaiter) → (b ≡ true → f w ≡ false) → list_any f fs ≡ list_any f ws → list_any f (cond (not b) (w ∷ fs) fs) ≡ (f w || list_any f ws)
any_others_step f true w fs ws none e = rw (none refl) e
any_others_step f false w fs ws none e = ap (λ (b : Bool). f w || b) e

any_others : (q f : LockWaiter → Bool) → AreApart q f → (ws : List LockWaiter) → list_any f (filter (λ w. not (q w)) ws) ≡ list_any f ws
any_others q f apart [] = refl
any_others q f apart (w ∷ ws) = any_others_step f (q w) w (filter (λ u. not (q u)) ws) ws (apart w) (any_others q f apart ws)

or_false : (b : Bool) → (b || false) ≡ b
or_false true = refl
or_false false = refl

first_woken_holds : (r q p : ℕ) (threads : List Thread) (o : Option LockWaiter) (ws : List LockWaiter) → list_any (holds_in threads p) (woken_first r q o ws) ≡ list_any (holds_in threads p) ws
first_woken_holds r q p threads None ws = refl
first_woken_holds r q p threads (Some w) ws =
    list_any-append (holds_in threads p) (without_first (waits_for (wait.Sleep r)) ws) (woken_for q w ∷ [])
    ∙ or_false (list_any (holds_in threads p) (without_first (waits_for (wait.Sleep r)) ws))
    ∙ any_without_first (waits_for (wait.Sleep r)) (holds_in threads p) (sleepers_apart r p threads) ws

-- the procs that are held stay so where the first sleeper is moved
pub wakeup_holds : (r q p : ℕ) (threads : List Thread) (ws : List LockWaiter) → list_any (holds_in threads p) (wakeup r q ws) ≡ list_any (holds_in threads p) ws
wakeup_holds r q p threads ws = first_woken_holds r q p threads (find (waits_for (wait.Sleep r)) ws) ws

woken_hold_none : (q p : ℕ) (threads : List Thread) → (ws : List LockWaiter) → list_any (holds_in threads p) (map (woken_for q) ws) ≡ false
woken_hold_none q p threads [] = refl
woken_hold_none q p threads (w ∷ ws) = woken_hold_none q p threads ws

-- and where all sleepers are
pub wakeup_all_holds : (r q p : ℕ) (threads : List Thread) (ws : List LockWaiter) → list_any (holds_in threads p) (wakeup_all r q ws) ≡ list_any (holds_in threads p) ws
wakeup_all_holds r q p threads ws =
    list_any-append (holds_in threads p) (filter (λ w. not (waits_for (wait.Sleep r) w)) ws) (map (woken_for q) (sleepers r ws))
    ∙ ap (λ (b : Bool). list_any (holds_in threads p) (filter (λ w. not (waits_for (wait.Sleep r) w)) ws) || b) (woken_hold_none q p threads (sleepers r ws))
    ∙ or_false (list_any (holds_in threads p) (filter (λ w. not (waits_for (wait.Sleep r) w)) ws))
    ∙ any_others (waits_for (wait.Sleep r)) (holds_in threads p) (sleepers_apart r p threads) ws
