-- What requests on locks leave as it is: the alts that wait, the channels, and who waits where sleepers are moved.
use Rattle.std.proofs.Common.{◌≡◌, ℕ, Bool, true, false, not, cond, List, [], ◌∷◌, ◌++◌, map, Option, Some, None, refl, ap, ◌∙◌, append-nil}
use Rattle.std.specs.Prelude.{All}
use Rattle.std.specs.List.{filter, find, list_any}
use Rattle.std.proofs.lemmas.List.Concat.{flat_map-append}
use Rattle.std.proofs.lemmas.List.Elements.{All-append, All-cons, All-filter, All-head, All-map, All-nil, All-push, All-tail, All-weaker}
use Rattle.p9_word.specs.declared.request.LockReq.{LockReq}
use Rattle.p9_word.specs.declared.request.Request.{Request}
use Rattle.p9_word.specs.declared.request.Request.TheVariants.{Thread as ThreadRequest, Signal as SignalRequest, Chan as ChanRequest, Lock as LockRequest, Io as IoRequest}
use Rattle.p9_manual.specs.declared.locks.LockWait.TheVariants as wait
use Rattle.p9_manual.specs.declared.state.Waiter.{Waiter}
use Rattle.p9_manual.specs.LockWaits.{lock_wait_of, lock_waiter}
use Rattle.p9_manual.specs.Offers.{alternation_of, parties, party_of, party_with}
use Rattle.p9_manual.specs.Queues.{waits_for, without_first}
use Rattle.p9_manual.specs.RendezCalls.{all_moved, first_moved, for_qlock, sleeps_at}
use Rattle.p9_laws.proofs.Sound.Parties.{parties_push}
use Rattle.p9_laws.proofs.Tallies.{found_holds}

-- a wait for a lock is no alt
pub lock_wait_leaves : (t at : ℕ) (r : LockReq) (waits : List Waiter) → parties (waits ++ record { tid = t; request = LockRequest r; at = at } ∷ []) ≡ parties waits
lock_wait_leaves t at r waits = parties_push waits (record { tid = t; request = LockRequest r; at = at }) ∙ append-nil (parties waits)

-- a waiter that passes is in no alt
abbrev NoAlts : (Waiter → Bool) → Type 0
NoAlts p = (w : Waiter) → p w ≡ true → party_of w ≡ []

sleeper_no_alt : (r t at : ℕ) (request : Request) → list_any (waits_for (wait.Sleep r)) (lock_waiter t (lock_wait_of request)) ≡ true → party_with t at (alternation_of request) ≡ []
sleeper_no_alt r t at (LockRequest asked) h = refl
sleeper_no_alt r t at (ThreadRequest asked) h = cc
sleeper_no_alt r t at (SignalRequest asked) h = cc
sleeper_no_alt r t at (ChanRequest asked) h = cc
sleeper_no_alt r t at (IoRequest asked) h = cc

-- a sleeper is in no alt
sleepers_no_alts : (r : ℕ) → NoAlts (sleeps_at r)
sleepers_no_alts r w h = sleeper_no_alt r w.tid w.at w.request h

filtered_step : (b : Bool) (w : Waiter) (fs ws : List Waiter) → (b ≡ true → party_of w ≡ []) → parties fs ≡ parties ws → parties (cond (not b) (w ∷ fs) fs) ≡ party_of w ++ parties ws
filtered_step true w fs ws none e = rw (none refl) e
filtered_step false w fs ws none e = ap (λ ps. party_of w ++ ps) e

-- without some that are in no alt
parties_filtered : (p : Waiter → Bool) → NoAlts p → (waits : List Waiter) → parties (filter (λ w. not (p w)) waits) ≡ parties waits
parties_filtered p none [] = refl
parties_filtered p none (w ∷ ws) = filtered_step (p w) w (filter (λ u. not (p u)) ws) ws (none w) (parties_filtered p none ws)

first_step : (b : Bool) (w : Waiter) (fs ws : List Waiter) → (b ≡ true → party_of w ≡ []) → parties fs ≡ parties ws → parties (cond b ws (w ∷ fs)) ≡ party_of w ++ parties ws
first_step true w fs ws none e = rw (none refl) refl
first_step false w fs ws none e = ap (λ ps. party_of w ++ ps) e

parties_without_first : (p : Waiter → Bool) → NoAlts p → (waits : List Waiter) → parties (without_first p waits) ≡ parties waits
parties_without_first p none [] = refl
parties_without_first p none (w ∷ ws) = first_step (p w) w (without_first p ws) ws (none w) (parties_without_first p none ws)

parties_for_qlock : (q : ℕ) → (waits : List Waiter) → parties (map (for_qlock q) waits) ≡ []
parties_for_qlock q [] = refl
parties_for_qlock q (w ∷ ws) = parties_for_qlock q ws

-- the alts that wait stay where the first sleeper is moved
pub first_moved_leaves : (r q : ℕ) (o : Option Waiter) (waits : List Waiter) → parties (first_moved r q o waits) ≡ parties waits
first_moved_leaves r q None waits = refl
first_moved_leaves r q (Some w) waits =
    parties_push (without_first (sleeps_at r) waits) (for_qlock q w) ∙ append-nil (parties (without_first (sleeps_at r) waits)) ∙ parties_without_first (sleeps_at r) (sleepers_no_alts r) waits

-- and where all sleepers are
pub all_moved_leaves : (r q : ℕ) (waits : List Waiter) → parties (all_moved r q waits) ≡ parties waits
all_moved_leaves r q waits =
    flat_map-append party_of (filter (λ w. not (sleeps_at r w)) waits) (map (for_qlock q) (filter (sleeps_at r) waits))
    ∙ ap (λ ps. parties (filter (λ w. not (sleeps_at r w)) waits) ++ ps) (parties_for_qlock q (filter (sleeps_at r) waits))
    ∙ append-nil (parties (filter (λ w. not (sleeps_at r w)) waits))
    ∙ parties_filtered (sleeps_at r) (sleepers_no_alts r) waits

left_step : {A : Type 0} (P : A → Type 0) (b : Bool) (x : A) (fs xs : List A) → P x → All P xs → All P fs → All P (cond b xs (x ∷ fs))
left_step P true x fs xs here all rest = all
left_step P false x fs xs here all rest = All-cons P x fs here rest

all_without_first : {A : Type 0} (P : A → Type 0) (p : A → Bool) → (xs : List A) → All P xs → All P (without_first p xs)
all_without_first P p [] h = All-nil P
all_without_first P p (x ∷ xs) h = left_step P (p x) x (without_first p xs) xs (All-head P x xs h) (All-tail P x xs h) (all_without_first P p xs (All-tail P x xs h))

-- what holds of each wait by its thread and its position
abbrev HoldsWhenMoved : (Waiter → Type 0) → Type 0
HoldsWhenMoved P = (q : ℕ) (w : Waiter) → P w → P (for_qlock q w)

first_step_holds : (P : Waiter → Type 0) → HoldsWhenMoved P → (r q : ℕ) (o : Option Waiter) (waits : List Waiter) → find (sleeps_at r) waits ≡ o → All P waits → All P (first_moved r q o waits)
first_step_holds P moved r q None waits e h = h
first_step_holds P moved r q (Some w) waits e h =
    All-push P (without_first (sleeps_at r) waits) (for_qlock q w) (all_without_first P (sleeps_at r) waits h) (moved q w (found_holds P (sleeps_at r) w waits h e))

-- holds of each where the first sleeper is moved
pub first_moved_holds : (P : Waiter → Type 0) → HoldsWhenMoved P → (r q : ℕ) (waits : List Waiter) → All P waits → All P (first_moved r q (find (sleeps_at r) waits) waits)
first_moved_holds P moved r q waits h = first_step_holds P moved r q (find (sleeps_at r) waits) waits refl h

-- and where all sleepers are
pub all_moved_holds : (P : Waiter → Type 0) → HoldsWhenMoved P → (r q : ℕ) (waits : List Waiter) → All P waits → All P (all_moved r q waits)
all_moved_holds P moved r q waits h =
    All-append P (filter (λ w. not (sleeps_at r w)) waits) (map (for_qlock q) (filter (sleeps_at r) waits))
    (All-filter (λ w. not (sleeps_at r w)) P waits h)
    (All-map P (for_qlock q) (filter (sleeps_at r) waits)
    (All-weaker P (λ w. P (for_qlock q w)) (moved q) (filter (sleeps_at r) waits) (All-filter (sleeps_at r) P waits h)))
