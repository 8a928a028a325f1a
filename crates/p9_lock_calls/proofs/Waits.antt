-- Who waits for a Lock holds its proc, and who waits for another lock doesn't.
use Rattle.std.proofs.Common.{◌≡◌, ◌≢◌, ◌⊎◌, inl, inr, ℕ, Bool, true, false, ◌&&◌, ◌||◌, eqb, refl, rules, tests}
use Rattle.p9_word.specs.declared.request.Request.TheVariants.{Lock as LockRequest}
use Rattle.p9_manual.specs.declared.locks.Sort.{Sort}
use Rattle.p9_manual.specs.declared.locks.Sort.TheVariants as sort
use Rattle.p9_sched.specs.Stands.{IsWaitBeside, IsWaitHolding}
use Rattle.p9_lock_calls.specs.Granted.{ask_for}

same_id : (t : ℕ) → eqb t t ≡ true
same_id t = search (rules, tests)

holds_one : (b : Bool) → b ≡ true → ((b && true) || false) ≡ true
holds_one true h = refl
holds_one false h = cc

beside_one : (b : Bool) → ((b && false) || false) ≡ false
beside_one true = refl
beside_one false = refl

pub lock_holds : (s : Sort) (k : ℕ) → s ≡ sort.Lock → IsWaitHolding (LockRequest (ask_for s k))
lock_holds sort.Lock k e = λ t at. holds_one (eqb t t) (same_id t)
lock_holds sort.QLock k e = absurd (cc e)
lock_holds sort.Read k e = absurd (cc e)
lock_holds sort.Write k e = absurd (cc e)

pub other_beside : (s : Sort) (k : ℕ) → s ≢ sort.Lock → IsWaitBeside (LockRequest (ask_for s k))
other_beside sort.Lock k e = absurd (e refl)
other_beside sort.QLock k e = λ t at. beside_one (eqb t t)
other_beside sort.Read k e = λ t at. beside_one (eqb t t)
other_beside sort.Write k e = λ t at. beside_one (eqb t t)

-- a lock of one of the other sorts
pub is_other : (s : Sort) → (s ≡ sort.QLock) ⊎ ((s ≡ sort.Read) ⊎ (s ≡ sort.Write)) → s ≢ sort.Lock
is_other s (inl e) = λ f. cc
is_other s (inr (inl e)) = λ f. cc
is_other s (inr (inr e)) = λ f. cc
