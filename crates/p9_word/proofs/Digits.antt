-- When digits are a number.
use Rattle.std.proofs.Common.{◌≡◌, ℕ, suc, ◌+◌, ◌-◌, ◌*◌, ◌^◌, ◌≤◌, ◌<◌, Bool, true, false, ◌&&◌, cond, List, [], ◌∷◌, length, drop, get_or, Some, None, refl, sym, arith, drop-cons}
use Rattle.std.proofs.lemmas.Bool.{le-ltb, lt-ltb}
use Rattle.std.proofs.Math.ListN.{drop_of_length-le}
use Rattle.std.specs.Fmt.{decimal}
use Rattle.std.proofs.Common.{rules}
use Rattle.std.proofs.lemmas.Fmt.{digits_decimal, digits_value-decimal, decimal_nonempty}
use Rattle.std.proofs.lemmas.Str.Parse.{IsNumeralModel, numerals_by_fold}
use Rattle.std.specs.Str.{all_ascii_digits}
use Rattle.p9_word.specs.Numbers.{value_on, number_of}

pub value_grows : (n : ℕ) (ds : List ℕ) → n ≤ value_on n ds
value_grows n [] = omega arith
value_grows n (d ∷ ds) = omega (arith, value_grows (10 * n + (d - 48)) ds)

not_all : (a b c : Bool) (v : ℕ) → c ≡ false → None ≡ cond (a && (b && c)) (Some v) None
not_all true true c v e = rw e refl
not_all true false c v e = refl
not_all false b c v e = refl

pub too_big : (bytes : List ℕ) → 2 ^ 64 ≤ value_on 0 bytes → None ≡ number_of bytes
too_big bytes h = not_all _ _ _ _ (le-ltb _ _ h)

-- with the digits from i on behind a value that is too big with them
pub too_big_at : (bytes : List ℕ) (i v : ℕ) → i < length bytes → value_on v (drop i bytes) ≡ value_on 0 bytes → 2 ^ 64 ≤ 10 * v + (get_or bytes i 0 - 48) → None ≡ number_of bytes
too_big_at bytes i v lt e big =
    let f = rw (drop-cons bytes i 0 lt) at e in
    too_big bytes (omega (arith, f, value_grows (10 * v + (get_or bytes i 0 - 48)) (drop (suc i) bytes)))

all_hold : (a b c : Bool) (v w : ℕ) → a ≡ true → b ≡ true → c ≡ true → v ≡ w → Some v ≡ cond (a && (b && c)) (Some w) None
all_hold a b c v w p q r e = rw (p, q, r, e) refl

pub is_read : (bytes : List ℕ) (i v : ℕ) → length bytes ≤ i → 0 < length bytes → all_ascii_digits (drop i bytes) ≡ all_ascii_digits bytes → value_on v (drop i bytes) ≡ value_on 0 bytes → v < 2 ^ 64 → Some v ≡ number_of bytes
is_read bytes i v le some d e small =
    let past = drop_of_length-le bytes {i = i} le in
    let d2 : true ≡ all_ascii_digits bytes = rw past at d in
    let e2 : v ≡ value_on 0 bytes = rw past at e in
    all_hold _ _ _ v _ (lt-ltb _ _ some) (sym d2) (lt-ltb _ _ (omega (arith, e2))) e2

own : IsNumeralModel (λ ds. all_ascii_digits ds ≡ true) (value_on 0)
own = numerals_by_fold _ (search rules) value_on (search rules)

pub number_again : (n : ℕ) → n < 2 ^ 64 → number_of (decimal n) ≡ Some n
number_again n small =
    let d : all_ascii_digits (decimal n) ≡ true = digits_decimal own n small in
    let v : value_on 0 (decimal n) ≡ n = digits_value-decimal own n small in
    sym (all_hold _ _ _ n _ (lt-ltb _ _ (decimal_nonempty n small)) d (lt-ltb _ _ (omega (arith, v))) (sym v))
