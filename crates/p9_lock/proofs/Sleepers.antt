-- Waking one sleeper, and then the others, is waking all.
use Rattle.std.proofs.Common.{◌≡◌, inl, inr, ℕ, suc, ◌+◌, ◌≤◌, Bool, true, false, not, cond, List, [], ◌∷◌, ◌++◌, length, map, Option, Some, None, is_some, refl, ap, ◌∙◌, arith, append_assoc}
use Rattle.std.proofs.lemmas.Bool.{cases_Bool}
use Rattle.std.proofs.lemmas.List.{append-nil}
use Rattle.std.proofs.lemmas.List.Elements.{filter-append}
use Rattle.std.specs.List.{find, filter}
use Rattle.p9_manual.specs.declared.locks.LockWait.TheVariants as wait
use Rattle.p9_manual.specs.declared.locks.LockWaiter.{LockWaiter}
use Rattle.p9_manual.specs.Queues.{waits_for, without_first}
use Rattle.p9_manual.specs.Rendez.{sleepers, woken_for, wakeup, wakeup_all}

-- the first leaves those that pass, and no other
pub others_stay : {A : Type 0} (p : A → Bool) (ws : List A) → filter (λ w. not (p w)) (without_first p ws) ≡ filter (λ w. not (p w)) ws
others_stay p [] = refl
others_stay p (w ∷ ws) = elim (cases_Bool (p w)) [ inl on ↦ rw on refl | inr off ↦ rw (off, off) (ap (λ zs. w ∷ zs) (others_stay p ws)) ]

pub first_goes : {A : Type 0} (p : A → Bool) (ws : List A) (x : A) → find p ws ≡ Some x → filter p ws ≡ x ∷ filter p (without_first p ws)
first_goes p [] x e = absurd (cc e)
first_goes p (w ∷ ws) x e = elim (cases_Bool (p w)) [ inl on ↦ rw on (ap (λ zs. zs ∷ filter p ws) (same w x (rw on at e))) | inr off ↦ rw (off, off) (first_goes p ws x (rw off at e)) ]
  where
    same : {A : Type 0} (x y : A) → Some x ≡ Some y → x ≡ y
    same x y e = cc

pub none_passes : {A : Type 0} (p : A → Bool) (ws : List A) → find p ws ≡ None → filter p ws ≡ []
none_passes p [] e = refl
none_passes p (w ∷ ws) e = elim (cases_Bool (p w)) [ inl on ↦ absurd (cc (rw on at e)) | inr off ↦ rw off (none_passes p ws (rw off at e)) ]

pub all_others : {A : Type 0} (p : A → Bool) (ws : List A) → find p ws ≡ None → filter (λ w. not (p w)) ws ≡ ws
all_others p [] e = refl
all_others p (w ∷ ws) e = elim (cases_Bool (p w)) [ inl on ↦ absurd (cc (rw on at e)) | inr off ↦ rw off (ap (λ zs. w ∷ zs) (all_others p ws (rw off at e))) ]

abbrev pub sleeps : ℕ → LockWaiter → Bool
sleeps r w = waits_for (wait.Sleep r) w

-- one sleeper is woken first
pub woken_one : (r q : ℕ) (ws : List LockWaiter) (w : LockWaiter) → find (sleeps r) ws ≡ Some w → wakeup_all r q (without_first (sleeps r) ws ++ woken_for q w ∷ []) ≡ wakeup_all r q ws
woken_one r q ws w e =
    let rest = without_first (sleeps r) ws in
    rw (filter-append (sleeps r) rest (woken_for q w ∷ []), filter-append (λ v. not (sleeps r v)) rest (woken_for q w ∷ []), others_stay (sleeps r) ws, first_goes (sleeps r) ws w e, append-nil) (append_assoc (filter (λ v. not (sleeps r v)) ws) (woken_for q w ∷ []) (map (woken_for q) (filter (sleeps r) rest)))

-- and there is one less
pub fewer_sleep : (r q : ℕ) (ws : List LockWaiter) (w : LockWaiter) → find (sleeps r) ws ≡ Some w → length (sleepers r (without_first (sleeps r) ws ++ woken_for q w ∷ [])) + 1 ≡ length (sleepers r ws)
fewer_sleep r q ws w e =
    rw (filter-append (sleeps r) (without_first (sleeps r) ws) (woken_for q w ∷ []), first_goes (sleeps r) ws w e, append-nil) (omega arith)

some_found : (o : Option LockWaiter) → is_some o ≡ true → (w : LockWaiter) × (o ≡ Some w)
some_found None e = absurd (cc e)
some_found (Some w) e = (w, refl)

none_found : (o : Option LockWaiter) → is_some o ≡ false → o ≡ None
none_found None e = refl
none_found (Some w) e = absurd (cc e)

woken_is : (r q : ℕ) (ws new : List LockWaiter) (w : LockWaiter) → find (sleeps r) ws ≡ Some w → new ≡ wakeup r q ws → new ≡ without_first (sleeps r) ws ++ woken_for q w ∷ []
woken_is r q ws new w at is = is ∙ rw at refl

pub wake_step : (r q : ℕ) (ws new : List LockWaiter) → is_some (find (sleeps r) ws) ≡ true → new ≡ wakeup r q ws → (wakeup_all r q new ≡ wakeup_all r q ws) × (length (sleepers r new) + 1 ≡ length (sleepers r ws))
wake_step r q ws new some is =
    let at = some_found (find (sleeps r) ws) some in
    let e = woken_is r q ws new at.0 at.1 is in
    (rw e (woken_one r q ws at.0 at.1), rw e (fewer_sleep r q ws at.0 at.1))

pub wake_end : (r q : ℕ) (ws new : List LockWaiter) → is_some (find (sleeps r) ws) ≡ false → new ≡ wakeup r q ws → (new ≡ wakeup_all r q ws) × (length (sleepers r ws) ≡ 0)
wake_end r q ws new none is =
    let at = none_found (find (sleeps r) ws) none in
    (is ∙ rw (at, none_passes (sleeps r) ws at, all_others (sleeps r) ws at, append-nil) refl, rw (none_passes (sleeps r) ws at) refl)

fewer_by : (b : Bool) (n m : ℕ) (w : LockWaiter) (r : List LockWaiter) → length r ≤ n → length (cond b (w ∷ r) r) ≤ suc n
fewer_by true n m w r le = omega arith
fewer_by false n m w r le = omega arith

pub sleepers_few : (r : ℕ) (ws : List LockWaiter) → length (sleepers r ws) ≤ length ws
sleepers_few r [] = omega arith
sleepers_few r (w ∷ ws) = fewer_by (sleeps r w) (length ws) 0 w (sleepers r ws) (sleepers_few r ws)
