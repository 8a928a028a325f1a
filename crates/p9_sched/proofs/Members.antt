-- Which ids above t are those of no living member of a group.
use Rattle.std.proofs.Common.{◌≡◌, ◌⊎◌, inl, inr, ℕ, zero, suc, ◌+◌, ◌<◌, ◌≤◌, false, List, length, ap, arith, ◌∙◌}
use Rattle.p9_manual.specs.declared.state.Thread.{Thread}
use Rattle.p9_manual.specs.State.{by_id}
use Rattle.p9_sched.specs.Members.{is_member, NoMember}
use Rattle.p9_sched.proofs.Lists.{by_id-past}

-- no id above t, up to n, is one
abbrev pub NoneTo : ℕ → ℕ → List Thread → ℕ → Type 0
NoneTo group t threads n = (v : ℕ) → t < v → v ≤ n → is_member group (by_id threads v) ≡ false

one_later : (v n : ℕ) → (v ≤ n) ⊎ (n < v) → (suc v ≤ suc n) ⊎ (suc n < suc v)
one_later v n (inl le) = inl (omega arith)
one_later v n (inr lt) = inr (omega arith)

to_or_past : (v n : ℕ) → (v ≤ n) ⊎ (n < v)
to_or_past zero n = inl (omega arith)
to_or_past (suc v) zero = inr (omega arith)
to_or_past (suc v) (suc n) = one_later v n (to_or_past v n)

none_at : (group t : ℕ) (threads : List Thread) (n : ℕ) → NoneTo group t threads n → is_member group (by_id threads (n + 1)) ≡ false → (v : ℕ) → t < v → v ≤ n + 1 → (v ≤ n) ⊎ (n < v) → is_member group (by_id threads v) ≡ false
none_at group t threads n before here v above le (inl within) = before v above within
none_at group t threads n before here v above le (inr past) =
    let same : v ≡ n + 1 = omega arith in
    ap (λ u. is_member group (by_id threads u)) same ∙ here

-- nor is the next
pub none_more : (group t : ℕ) (threads : List Thread) (n : ℕ) → NoneTo group t threads n → is_member group (by_id threads (n + 1)) ≡ false → NoneTo group t threads (n + 1)
none_more group t threads n before here = λ v above le. none_at group t threads n before here v above le (to_or_past v n)

none_past : (group t : ℕ) (threads : List Thread) (n : ℕ) → NoneTo group t threads n → length threads ≤ n → (v : ℕ) → t < v → (v ≤ n) ⊎ (n < v) → is_member group (by_id threads v) ≡ false
none_past group t threads n before all v above (inl within) = before v above within
none_past group t threads n before all v above (inr past) = ap (is_member group) (by_id-past threads v (omega arith))

-- no thread is one, if none up to the last id is
pub none_at_all : (group t : ℕ) (threads : List Thread) (n : ℕ) → NoneTo group t threads n → length threads ≤ n → NoMember group t threads
none_at_all group t threads n before all = record { none = λ v above. none_past group t threads n before all v above (to_or_past v n) }
