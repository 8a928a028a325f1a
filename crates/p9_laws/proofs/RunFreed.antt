-- An ioproc that had a call for a thread has none for anybody, and that thread is woken.
use Rattle.std.proofs.Common.{◌≡◌, ℕ, ◌+◌, ◌-◌, ◌≤◌, true, false, cond, eqb, List, Some, None, refl, ap, subst, ◌∙◌, inl, inr, arith}
use Rattle.std.proofs.lemmas.Bool.{cases_eq}
use Rattle.p9_word.specs.declared.answer.Answer.{Answer}
use Rattle.p9_word.specs.declared.io_call.IoCall.{IoCall}
use Rattle.p9_manual.specs.declared.state.Place.{Place}
use Rattle.p9_manual.specs.declared.state.Place.TheVariants.{Running, New, Ready, Waiting, Ended}
use Rattle.p9_manual.specs.declared.state.Thread.{Thread}
use Rattle.p9_manual.specs.declared.state.Ioproc.{Ioproc}
use Rattle.p9_manual.specs.declared.state.Ioproc.TheVariants.{Idle, Posted, Begun}
use Rattle.p9_manual.specs.State.{State, by_id, changed, placed, wake, waits_without}
use Rattle.p9_manual.specs.LockWaits.{is_holding, lined, lock_waiters}
use Rattle.p9_manual.specs.Ioprocs.{with_ioproc}
use Rattle.p9_laws.proofs.Tallies.{tally, tally-at, tally-changed, tally-put_exact, tally-filtered_out, tally-filtered_other}
use Rattle.p9_laws.proofs.Standing.{IsUp, place_of, times_waiting, times_in_line, made_up, get_by_id}
use Rattle.p9_laws.proofs.RunMoves.{IsUpright, IsMoved, is_call_of, is_long, placed_moved, placed_upright, same_id, other_id, is_io_wait_of, io_waits, io_wait_tid, lined_other, lined_here, apart}

-- ioproc k has a call for t, and is to have none for anybody
pub record IsFreed (t k : ℕ) (old io : Ioproc) (s : State) : Type 0 where
  pub there : by_id s.ioprocs k ≡ Some old
  pub had : (u : ℕ) → is_call_of u old ≡ eqb t u
  pub none : (u : ℕ) → is_call_of u io ≡ false
  pub short : is_long io ≡ true → is_long old ≡ true

-- a posted call is taken back
pub taken_back : (t k : ℕ) (call : IoCall) (s : State) → by_id s.ioprocs k ≡ Some (Posted t call) → IsFreed t k (Posted t call) Idle s
taken_back t k call s at = record { there = at; had = λ u. refl; none = λ u. refl; short = λ h. cc }

-- a begun one is done
pub done_for : (t k : ℕ) (call : IoCall) (s : State) → by_id s.ioprocs k ≡ Some (Begun (Some t) call) → IsFreed t k (Begun (Some t) call) Idle s
done_for t k call s at = record { there = at; had = λ u. refl; none = λ u. refl; short = λ h. cc }

-- or goes on for nobody
pub disowned : (t k : ℕ) (call : IoCall) (s : State) → by_id s.ioprocs k ≡ Some (Begun (Some t) call) → IsFreed t k (Begun (Some t) call) (Begun None call) s
disowned t k call s at = record { there = at; had = λ u. refl; none = λ u. refl; short = λ h. h }

-- whom a call is for waits
pub caller_waits : (t k : ℕ) (old io : Ioproc) (s : State) → IsFreed t k old io s → IsUpright s → (place_of s.threads t ≡ Waiting) × (tally (is_call_of t) s.ioprocs ≡ 1)
caller_waits t k old io s freed upright =
    let some = tally-at (is_call_of t) s.ioprocs (k - 1) old (get_by_id s.ioprocs k old freed.there) (freed.had t ∙ same_id t) in
    let calls = upright.in_calls t in
    let more = io_waits t s.waits in
    let waits = upright.in_waits t in
    waiting_calls (place_of s.threads t) (tally (is_call_of t) s.ioprocs) some (omega (arith, calls, more, waits))
  where
    waiting_calls : (pl : Place) (n : ℕ) → 1 ≤ n → n ≤ times_waiting pl → (pl ≡ Waiting) × (n ≡ 1)
    waiting_calls Waiting n h k = (refl, omega arith)
    waiting_calls New n h k = absurd (omega arith)
    waiting_calls (Ready a) n h k = absurd (omega arith)
    waiting_calls Running n h k = absurd (omega arith)
    waiting_calls Ended n h k = absurd (omega arith)

-- nobody waits for the call of t any more, and the others do as before
freed_calls : (t k : ℕ) (old io : Ioproc) (s : State) → IsFreed t k old io s → IsUpright s → (u : ℕ) → tally (is_io_wait_of u) (waits_without t s.waits) ≡ tally (is_call_of u) (changed (λ _. io) s.ioprocs (k - 1))
freed_calls t k old io s freed upright u =
    let e = rw (freed.had u, freed.none u) at (tally-put_exact (is_call_of u) io s.ioprocs (k - 1) old (get_by_id s.ioprocs k old freed.there)) in
    elim (cases_eq u t) [
      | inl same ↦
          let one = (caller_waits t k old io s freed upright).1 in
          let none = tally-filtered_out (λ w. eqb w.tid t) s.waits in
          let more = io_waits t (waits_without t s.waits) in
          let f = subst (λ (x : ℕ). tally (is_call_of x) (changed (λ _. io) s.ioprocs (k - 1)) + cond (eqb t x) 1 0 ≡ tally (is_call_of x) s.ioprocs + 0) same e in
          let g = rw (same_id t) at f in
          rw same (omega (arith, one, none, more, g))
      | inr ne ↦
          let g = rw (other_id t u ne) at e in
          let c = upright.in_calls u in
          tally-filtered_other (λ w. eqb w.tid t) (is_io_wait_of u) (λ w h. apart w.tid t u ne (io_wait_tid u w h)) s.waits ∙ (omega (arith, g, c))
    ]

caller_up : (threads : List Thread) (t : ℕ) → place_of threads t ≡ Waiting → IsUp (place_of threads t)
caller_up threads t e = rw e tt

pub freed_up : (t k : ℕ) (old io : Ioproc) (s : State) → IsFreed t k old io s → IsUpright s → IsUp (place_of s.threads t)
freed_up t k old io s freed upright = caller_up s.threads t (caller_waits t k old io s freed upright).0

pub freed_moved : (t k : ℕ) (old io : Ioproc) (a : Answer) (s : State) → IsFreed t k old io s → IsUpright s → IsMoved s.threads (placed t (Ready a) s.threads)
freed_moved t k old io a s freed upright = placed_moved s.threads t (Ready a) (freed_up t k old io s freed upright) (λ e. cc)

pub freed_upright : (t k : ℕ) (old io : Ioproc) (a : Answer) (s : State) → IsFreed t k old io s → IsUpright s → IsUpright (wake t a (with_ioproc k io s))
freed_upright t k old io a s freed upright =
    let waits = (caller_waits t k old io s freed upright).0 in
    placed_upright s.threads s.line (lined (is_holding t (lock_waiters s.waits)) t s.line) s.waits (waits_without t s.waits) s.ioprocs (changed (λ _. io) s.ioprocs (k - 1)) t (Ready a) upright (made_up s.threads t (freed_up t k old io s freed upright))
    (lined_other _ t s.line) (lined_here _ t s.line (upright.in_line t ∙ ap times_in_line waits))
    (λ u ne. tally-filtered_other (λ w. eqb w.tid t) (λ w. eqb w.tid u) (λ w h. apart w.tid t u ne h) s.waits)
    (tally-filtered_out (λ w. eqb w.tid t) s.waits) (freed_calls t k old io s freed upright)
    (let e = tally-changed is_long (λ _. io) s.ioprocs (k - 1) old (get_by_id s.ioprocs k old freed.there) freed.short in let z = upright.short in omega (arith, e, z))
