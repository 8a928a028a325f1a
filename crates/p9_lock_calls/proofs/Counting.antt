-- What requests on Refs come to.
use Rattle.std.proofs.Common.{◌≡◌, ℕ, zero, suc, ◌+◌, ◌-◌, ◌≤◌, true, false, eqb, List, [], ◌∷◌, length, Some, None, refl, ap, sym, ◌∙◌, arith, rules, tests}
use Rattle.std.specs.Prelude.{slice_get, nat_lt}
use Rattle.p9_word.specs.declared.answer.Answer.TheVariants.{Bad, Number}
use Rattle.p9_word.specs.declared.request.LockReq.TheVariants as ask
use Rattle.p9_word.specs.declared.setup.Setup.{Setup}
use Rattle.p9_word.specs.declared.trail.Reply.TheVariants.{Now}
use Rattle.p9_manual.specs.Holds.{Holds}
use Rattle.p9_manual.specs.Locks.{lock_call}
use Rattle.p9_manual.specs.Refs.{raise, lower, greatest, with_ref as state_with_ref}
use Rattle.p9_manual.specs.State.{State, by_id, bad, now}
use Rattle.p9_lock.specs.Locking.{Locking, IsRef, value_in}
use Rattle.p9_lock.specs.Stands.{Tracks}
use Rattle.p9_sched.specs.Schedule.{Schedule}
use Rattle.p9_lock_calls.specs.Serves.{ServesRequest}
use Rattle.p9_lock_calls.proofs.Others.{eq_other}
use Rattle.p9_lock_calls.proofs.Served.{same_bad, by_outcome}
use Rattle.p9_lock_calls.proofs.Standing.{sched_same}

get_none : {A : Type 0} (xs : List A) (i : ℕ) → (i + 1 ≤ length xs → ⊥) → slice_get xs i ≡ None
get_none [] i h = refl
get_none (x ∷ xs) zero h = absurd (h (omega arith))
get_none (x ∷ xs) (suc i) h = get_none xs i (λ le. h (omega arith))

no_ref : (k : ℕ) (x : Locking) → (IsRef k x → ⊥) → by_id x.holds.refs k ≡ None
no_ref zero x h = refl
no_ref (suc k) x h = rw (above k) (get_none x.holds.refs (suc k - 1) (λ le. h (record { from = omega arith; to = omega arith })))
  where
    above : (k : ℕ) → nat_lt 0 (suc k) ≡ true
    above k = search (rules, tests)

raises : (setup : Setup) (t k : ℕ) (m : State) → lock_call setup t (ask.IncRef k) m ≡ raise k m (by_id m.holds.refs k)
unfolding lock_call
raises setup t k m = refl

lowers : (setup : Setup) (t k : ℕ) (m : State) → lock_call setup t (ask.DecRef k) m ≡ lower k m (by_id m.holds.refs k)
unfolding lock_call
lowers setup t k m = refl

pub no_raise : (t k : ℕ) (sched : Schedule) (x : Locking) → (IsRef k x → ⊥) → ServesRequest t (ask.IncRef k) sched x (Now Bad) sched x
no_raise t k sched x h = record {
  serves = λ setup m at.
      let e : by_id m.holds.refs k ≡ None = ap (λ (y : Holds). by_id y.refs k) at.locked.holds ∙ no_ref k x h in
      by_outcome setup m _ (bad m) (Now Bad) sched x (raises setup t k m ∙ ap (raise k m) e) (same_bad setup sched x m at);
}

pub no_lower : (t k : ℕ) (sched : Schedule) (x : Locking) → (IsRef k x → ⊥) → ServesRequest t (ask.DecRef k) sched x (Now Bad) sched x
no_lower t k sched x h = record {
  serves = λ setup m at.
      let e : by_id m.holds.refs k ≡ None = ap (λ (y : Holds). by_id y.refs k) at.locked.holds ∙ no_ref k x h in
      by_outcome setup m _ (bad m) (Now Bad) sched x (lowers setup t k m ∙ ap (lower k m) e) (same_bad setup sched x m at);
}

get_some : (xs : List ℕ) (i : ℕ) → i + 1 ≤ length xs → slice_get xs i ≡ Some (value_in (slice_get xs i))
get_some [] i h = absurd (omega arith)
get_some (x ∷ xs) zero h = refl
get_some (x ∷ xs) (suc i) h = get_some xs i (omega arith)

has_ref : (k : ℕ) (x : Locking) → IsRef k x → by_id x.holds.refs k ≡ Some (value_in (by_id x.holds.refs k))
has_ref zero x h = absurd (let a = h.from in omega (arith, a))
has_ref (suc k) x h = rw (above k) (get_some x.holds.refs (suc k - 1) (let a = h.to in omega (arith, a)))
  where
    above : (k : ℕ) → nat_lt 0 (suc k) ≡ true
    above k = search (rules, tests)

raised_is : (k v : ℕ) (m : State) → v + 1 ≤ greatest → raise k m (Some v) ≡ now (Number (v + 1)) (state_with_ref k (v + 1) m)
raised_is k v m h = let e : eqb v greatest ≡ false = eq_other v greatest (λ f. omega (arith, f, h)) in rw e refl

-- a Ref is raised by 1
pub raised : (t k : ℕ) (sched : Schedule) (x new : Locking) (value : ℕ) → IsRef k x → value ≡ value_in (by_id x.holds.refs k) + 1 → value ≤ greatest → Tracks (state_with_ref k value) x new → ServesRequest t (ask.IncRef k) sched x (Now (Number value)) sched new
raised t k sched x new value there e fits tracks = record {
  serves = λ setup m at.
      let v : ℕ = value_in (by_id x.holds.refs k) in
      let f : by_id m.holds.refs k ≡ Some v = ap (λ (y : Holds). by_id y.refs k) at.locked.holds ∙ has_ref k x there in
      let o : raise k m (Some v) ≡ now (Number value) (state_with_ref k value m) = raised_is k v m (omega (arith, e, fits)) ∙ ap (λ (n : ℕ). now (Number n) (state_with_ref k n m)) (sym e) in
      by_outcome setup m _ (now (Number value) (state_with_ref k value m)) (Now (Number value)) sched new (raises setup t k m ∙ (ap (raise k m) f ∙ o)) (record {
        reply_is = refl;
        threads = sched_same setup.places sched m (state_with_ref k value m) refl refl refl refl (λ p. refl) at.threads;
        locked = tracks setup.rendezes m at.locked;
        leaves = record { same = refl; alts = refl };
        entry = refl;
      });
}
