-- An entry on a channel sends there or receives there, and so does a party that waits there.
use Rattle.std.proofs.Common.{◌≡◌, ℕ, ◌+◌, ◌≤◌, Bool, true, false, not, cond, ◌&&◌, ◌||◌, eqb, List, [], ◌∷◌, refl, arith}
use Rattle.std.specs.List.{list_any}
use Rattle.p9_word.specs.declared.alt.AltOp.{AltOp}
use Rattle.p9_word.specs.declared.alt.AltOp.TheVariants.{Snd, Rcv, Nop}
use Rattle.p9_word.specs.declared.alt.AltEntry.{AltEntry}
use Rattle.p9_manual.specs.declared.state.Party.{Party}
use Rattle.p9_manual.specs.AltEntries.{is_snd, is_rcv, is_nop, sends_to, receives_from, is_on, sends_on, receives_on, waits_on}
use Rattle.p9_manual.specs.Standing.{times}

op_either : (err : Bool) (op : AltOp) (b : Bool) → (not err && (not (is_nop op) && b)) ≡ ((not err && (is_snd op && b)) || (not err && (is_rcv op && b)))
op_either true op b = refl
op_either false Snd true = refl
op_either false Snd false = refl
op_either false Rcv b = refl
op_either false Nop b = refl

entry_either : (c : ℕ) (e : AltEntry) → is_on c e ≡ (sends_to c e || receives_from c e)
entry_either c e = op_either e.err e.op (eqb e.chan c)

shuffle : (a b c d : Bool) → ((a || b) || (c || d)) ≡ ((a || c) || (b || d))
shuffle true b c d = refl
shuffle false true true d = refl
shuffle false true false d = refl
shuffle false false c d = refl

any_either : {A : Type 0} (p q r : A → Bool) → ((x : A) → p x ≡ (q x || r x)) → (xs : List A) → list_any p xs ≡ (list_any q xs || list_any r xs)
any_either p q r h [] = refl
any_either p q r h (x ∷ xs) = rw (h x, any_either p q r h xs) (shuffle (q x) (r x) (list_any q xs) (list_any r xs))

-- a party that waits on a channel sends or receives there
pub waits_either : (c : ℕ) (w : Party) → waits_on c w ≡ (sends_on c w || receives_on c w)
waits_either c w = any_either (is_on c) (sends_to c) (receives_from c) (entry_either c) w.entries

either_counts : (a b : Bool) → cond (a || b) 1 0 ≤ cond a 1 0 + cond b 1 0
either_counts true b = omega arith
either_counts false b = omega arith

either_step : (a b c : Bool) (k m n : ℕ) → a ≡ (b || c) → k ≤ m + n → cond a 1 0 + k ≤ (cond b 1 0 + m) + (cond c 1 0 + n)
either_step a b c k m n e h = let one = either_counts b c in rw e (omega (arith, one, h))

-- there are no more of them than of those together
pub times_either : (c : ℕ) → (ws : List Party) → times (waits_on c) ws ≤ times (sends_on c) ws + times (receives_on c) ws
times_either c [] = omega arith
times_either c (w ∷ ws) =
    either_step (waits_on c w) (sends_on c w) (receives_on c w) (times (waits_on c) ws) (times (sends_on c) ws) (times (receives_on c) ws) (waits_either c w) (times_either c ws)
