-- What it keeps to wake threads that wait, but not for ioprocs, one or several of them.
use Rattle.std.proofs.Common.{◌≡◌, ◌≢◌, ℕ, ◌+◌, ◌≤◌, Bool, true, false, not, cond, ◌&&◌, eqb, List, [], ◌∷◌, Option, Some, None, refl, ap, subst, ◌∙◌, inl, inr, arith}
use Rattle.std.proofs.lemmas.Bool.{cases_eq}
use Rattle.p9_word.specs.declared.answer.Answer.{Answer}
use Rattle.p9_word.specs.declared.request.Request.{Request}
use Rattle.p9_word.specs.declared.request.Request.TheVariants.{Chan as ChanRequest}
use Rattle.p9_manual.specs.declared.state.Place.{Place}
use Rattle.p9_manual.specs.declared.state.Place.TheVariants.{Running, New, Ready, Waiting, Ended}
use Rattle.p9_manual.specs.declared.state.Waiter.{Waiter}
use Rattle.p9_manual.specs.declared.state.Party.{Party}
use Rattle.p9_manual.specs.State.{State, by_id, at_place, wake, waits_without}
use Rattle.p9_manual.specs.LockWaits.{is_holding, lined, lock_waiters}
use Rattle.p9_manual.specs.Offers.{Alternation, alternation_of, party_of, party_with, parties}
use Rattle.p9_manual.specs.Close.{all_woken}
use Rattle.p9_laws.proofs.Tallies.{tally, tally-append, tally-filtered_out, tally-filtered_other}
use Rattle.p9_laws.proofs.Standing.{IsUp, place_of, times_waiting, times_in_line, made_up, by_id-changed_other}
use Rattle.p9_laws.proofs.RunMoves.{IsUpright, IsMoved, RunsIn, is_call_of, asks_io, is_io_wait_of, io_waits, io_wait_tid, unmoved, moved_on, placed_moved, placed_upright, lined_other, lined_here, same_id, other_id, apart}

-- thread u waits, but not for an ioproc
abbrev pub is_other_wait_of : ℕ → Waiter → Bool
is_other_wait_of u w = eqb w.tid u && not (asks_io w.request)

-- how often thread u is among these threads
abbrev pub is_party : ℕ → Party → Bool
is_party u p = eqb p.tid u

both_step : (b c : Bool) (n m k : ℕ) → n + m ≡ k → (cond (b && c) 1 0 + n) + (cond (b && not c) 1 0 + m) ≡ cond b 1 0 + k
both_step true true n m k h = omega (arith, h)
both_step true false n m k h = omega (arith, h)
both_step false c n m k h = omega (arith, h)

-- a wait is one for an ioproc, or another one
wait_kinds : (u : ℕ) → (waits : List Waiter) → tally (is_io_wait_of u) waits + tally (is_other_wait_of u) waits ≡ tally (λ w. eqb w.tid u) waits
wait_kinds u [] = refl
wait_kinds u (w ∷ ws) = both_step (eqb w.tid u) (asks_io w.request) _ _ _ (wait_kinds u ws)

party_wait_step : (t u : ℕ) (r : Request) (at : ℕ) → tally (is_party u) (party_with t at (alternation_of r)) ≤ cond (eqb t u && not (asks_io r)) 1 0
party_wait_step t u (ChanRequest r) at = some_step t u at (alternation_of (ChanRequest r))
  where
    one_step : (b : Bool) → cond b 1 0 + 0 ≤ cond (b && true) 1 0
    one_step true = omega arith
    one_step false = omega arith

    some_step : (t u at : ℕ) (o : Option Alternation) → tally (is_party u) (party_with t at o) ≤ cond (eqb t u && true) 1 0
    some_step t u at None = omega arith
    some_step t u at (Some a) = one_step (eqb t u)
party_wait_step t u r at = omega arith

-- who waits in an alt waits, but not for an ioproc
pub parties_wait : (u : ℕ) → (waits : List Waiter) → tally (is_party u) (parties waits) ≤ tally (is_other_wait_of u) waits
parties_wait u [] = omega arith
parties_wait u (w ∷ ws) =
    let a = tally-append (is_party u) (party_of w) (parties ws) in
    let k = party_wait_step w.tid u w.request w.at in
    let l = parties_wait u ws in
    omega (arith, a, k, l)

once_waiting : (pl : Place) (a b : ℕ) → a + b ≡ times_waiting pl → 1 ≤ b → (pl ≡ Waiting) × (a ≡ 0)
once_waiting Waiting a b h k = (refl, omega arith)
once_waiting New a b h k = absurd (omega arith)
once_waiting (Ready x) a b h k = absurd (omega arith)
once_waiting Running a b h k = absurd (omega arith)
once_waiting Ended a b h k = absurd (omega arith)

-- thread t waits, and not for an ioproc
abbrev pub WaitsThere : ℕ → State → Type 0
WaitsThere t s = 1 ≤ tally (is_other_wait_of t) s.waits

there_waits : (s : State) (t : ℕ) → IsUpright s → WaitsThere t s → (place_of s.threads t ≡ Waiting) × (tally (is_io_wait_of t) s.waits ≡ 0)
there_waits s t upright there =
    once_waiting (place_of s.threads t) (tally (is_io_wait_of t) s.waits) (tally (is_other_wait_of t) s.waits) (wait_kinds t s.waits ∙ upright.in_waits t) there

there_up : (s : State) (t : ℕ) → IsUpright s → WaitsThere t s → IsUp (place_of s.threads t)
there_up s t upright there = rw ((there_waits s t upright there).0) tt

-- the state after thread t is woken
abbrev pub after_waking : ℕ → Answer → State → State
after_waking t a s = wake t a s

woken_calls : (s : State) (t : ℕ) → IsUpright s → WaitsThere t s → (u : ℕ) → tally (is_io_wait_of u) (waits_without t s.waits) ≡ tally (is_call_of u) s.ioprocs
woken_calls s t upright there u = elim (cases_eq u t) [
  | inl same ↦
      let none = tally-filtered_out (λ w. eqb w.tid t) s.waits in
      let more = io_waits t (waits_without t s.waits) in
      let no_call = (there_waits s t upright there).1 in
      let calls = upright.in_calls t in
      rw same (omega (arith, none, more, no_call, calls))
  | inr ne ↦
      tally-filtered_other (λ w. eqb w.tid t) (is_io_wait_of u) (λ w h. apart w.tid t u ne (io_wait_tid u w h)) s.waits ∙ upright.in_calls u
]

pub woken_upright : (s : State) (t : ℕ) (a : Answer) → IsUpright s → WaitsThere t s → IsUpright (after_waking t a s)
woken_upright s t a upright there =
    let waits = (there_waits s t upright there).0 in
    placed_upright s.threads s.line (lined (is_holding t (lock_waiters s.waits)) t s.line) s.waits (waits_without t s.waits) s.ioprocs s.ioprocs t (Ready a) upright (made_up s.threads t (there_up s t upright there))
    (lined_other _ t s.line) (lined_here _ t s.line (upright.in_line t ∙ ap times_in_line waits))
    (λ u ne. tally-filtered_other (λ w. eqb w.tid t) (λ w. eqb w.tid u) (λ w h. apart w.tid t u ne h) s.waits)
    (tally-filtered_out (λ w. eqb w.tid t) s.waits) (woken_calls s t upright there) upright.short

-- one who runs doesn't wait
runs_elsewhere : (s : State) (t u : ℕ) → IsUpright s → WaitsThere t s → RunsIn s u → u ≢ t
runs_elsewhere s t u upright there runs same =
    let waits = (there_waits s t upright there).0 in
    let r = subst (λ (x : ℕ). place_of s.threads x ≡ Running) same runs in
    cc (r, waits)

-- these threads wait, each as often as it stands here
abbrev pub AllWait : List (ℕ × Answer) → State → Type 0
AllWait ws s = (u : ℕ) → tally (λ w. eqb w.0 u) ws ≤ tally (is_other_wait_of u) s.waits

-- what it keeps to wake them, for a thread t that runs
pub record IsWaking (t : ℕ) (s m : State) : Type 0 where
  pub moved : IsMoved s.threads m.threads
  pub upright : IsUpright m
  pub stays : by_id m.threads t ≡ by_id s.threads t
  pub ioprocs : m.ioprocs ≡ s.ioprocs
  pub over : m.over ≡ s.over
  pub opened : m.opened ≡ s.opened

first_waits : (t : ℕ) (a : Answer) (ws : List (ℕ × Answer)) (s : State) → AllWait ((t, a) ∷ ws) s → WaitsThere t s
first_waits t a ws s all = let k = rw (same_id t) at (all t) in omega (arith, k)

-- the others wait on
others_wait : (t : ℕ) (a : Answer) (ws : List (ℕ × Answer)) (s : State) → IsUpright s → AllWait ((t, a) ∷ ws) s → AllWait ws (after_waking t a s)
others_wait t a ws s upright all u = elim (cases_eq u t) [
  | inl same ↦
      let k = rw (same_id t) at (all t) in
      let kinds = wait_kinds t s.waits in
      let once = waiting_once (place_of s.threads t) _ (upright.in_waits t) in
      rw same (omega (arith, k, kinds, once))
  | inr ne ↦
      let k = rw (other_id t u ne) at (all u) in
      let same = tally-filtered_other (λ w. eqb w.tid t) (is_other_wait_of u) (λ w h. apart w.tid t u ne (other_wait_tid u w h)) s.waits in
      omega (arith, k, same)
]
  where
    waiting_once : (pl : Place) (n : ℕ) → n ≡ times_waiting pl → n ≤ 1
    waiting_once Waiting n h = omega arith
    waiting_once New n h = omega arith
    waiting_once (Ready x) n h = omega arith
    waiting_once Running n h = omega arith
    waiting_once Ended n h = omega arith

    first_true : (b c : Bool) → (b && c) ≡ true → b ≡ true
    first_true true c h = refl
    first_true false c h = h

    other_wait_tid : (u : ℕ) (w : Waiter) → is_other_wait_of u w ≡ true → eqb w.tid u ≡ true
    other_wait_tid u w h = first_true (eqb w.tid u) (not (asks_io w.request)) h

pub waking : (ws : List (ℕ × Answer)) (t : ℕ) (s : State) → IsUpright s → RunsIn s t → AllWait ws s → IsWaking t s (all_woken ws s)
waking [] t s upright runs all = record { moved = unmoved s.threads; upright = upright; stays = refl; ioprocs = refl; over = refl; opened = refl }
waking ((u, a) ∷ ws) t s upright runs all =
    let there = first_waits u a ws s all in
    let up = there_up s u upright there in
    let made = made_up s.threads u up in
    let stays : by_id (after_waking u a s).threads t ≡ by_id s.threads t = by_id-changed_other (at_place (Ready a)) s.threads u t made.0 made.1 (runs_elsewhere s u t upright there runs) in
    let rest = waking ws t (after_waking u a s) (woken_upright s u a upright there) (rw stays runs) (others_wait u a ws s upright all) in
    record {
      moved = moved_on s.threads (after_waking u a s).threads _ (placed_moved s.threads u (Ready a) up (λ h. cc)) rest.moved;
      upright = rest.upright;
      stays = rest.stays ∙ stays;
      ioprocs = rest.ioprocs;
      over = rest.over;
      opened = rest.opened;
    }
