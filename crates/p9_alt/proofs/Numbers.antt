-- The first entry that passes, and the numbers of all that do, entry by entry.
use Rattle.std.proofs.Common.{◌≡◌, ◌≢◌, ℕ, zero, suc, All, ◌-◌, ◌+◌, ◌<◌, ◌≤◌, Bool, true, false, cond, List, [], ◌∷◌, ◌++◌, length, get_or, drop, take, refl, sym, ap, ◌∙◌, arith}
use Rattle.std.proofs.lemmas.List.{drop_more, at_drop_all, take_more, take_all}
use Rattle.std.proofs.lemmas.List.Elements.{All-more, All-weaker, All-same}
use Rattle.std.proofs.lemmas.Bool.{ltb-true, ltb-false}
use Rattle.std.proofs.lemmas.Option.{slice_get_read, slice_get_past}
use Rattle.std.specs.Prelude.{Some, None, IfSome, ◌||◌, nat_lt, slice_get, slice_set}
use Rattle.std.specs.List.{list_any}
use Rattle.p9_word.specs.declared.alt.AltEntry.{AltEntry}
use Rattle.p9_word.specs.declared.alt.Slot.{Slot}
use Rattle.p9_word.specs.declared.alt.Slot.TheVariants.{Null}
use Rattle.p9_manual.specs.AltEntries.{first_number, first_slot}
use Rattle.p9_manual.specs.ReadyEntries.{numbers_of}

-- what stands at i comes next
pub next_is : {A : Type 0} → (es : List A) (i : ℕ) (x : A) → i < length es → x ≡ get_or es i x → drop i es ≡ x ∷ drop (i + 1) es
next_is es i x lt at = drop_more es i x lt ∙ ap (λ y. y ∷ drop (i + 1) es) (sym at)

pub first_here : (p : AltEntry → Bool) (es : List AltEntry) (i : ℕ) (x : AltEntry) → i < length es → x ≡ get_or es i x → p x ≡ true → first_number p (drop i es) ≡ 0
first_here p es i x lt at on = rw (next_is es i x lt at, on) refl

pub first_later : (p : AltEntry → Bool) (es : List AltEntry) (i : ℕ) (x : AltEntry) → i < length es → x ≡ get_or es i x → p x ≡ false → first_number p (drop i es) ≡ suc (first_number p (drop (i + 1) es))
first_later p es i x lt at off = rw (next_is es i x lt at, off) refl

pub first_none : (p : AltEntry → Bool) (es : List AltEntry) (i : ℕ) → length es ≤ i → first_number p (drop i es) ≡ 0
first_none p es i le = at_drop_all (first_number p) es i le

pub numbers_here : (p : AltEntry → Bool) (es : List AltEntry) (i : ℕ) (x : AltEntry) → i < length es → x ≡ get_or es i x → p x ≡ true → numbers_of p i (drop i es) ≡ i ∷ numbers_of p (i + 1) (drop (i + 1) es)
numbers_here p es i x lt at on =
    let more : suc i ≡ i + 1 = omega arith in
    rw (next_is es i x lt at, on) (ap (λ (n : ℕ). i ∷ numbers_of p n (drop (i + 1) es)) more)

pub numbers_later : (p : AltEntry → Bool) (es : List AltEntry) (i : ℕ) (x : AltEntry) → i < length es → x ≡ get_or es i x → p x ≡ false → numbers_of p i (drop i es) ≡ numbers_of p (i + 1) (drop (i + 1) es)
numbers_later p es i x lt at off =
    let more : suc i ≡ i + 1 = omega arith in
    rw (next_is es i x lt at, off) (ap (λ (n : ℕ). numbers_of p n (drop (i + 1) es)) more)

pub numbers_none : (p : AltEntry → Bool) (es : List AltEntry) (i : ℕ) → length es ≤ i → numbers_of p i (drop i es) ≡ []
numbers_none p es i le = at_drop_all (numbers_of p i) es i le

count_step : (b : Bool) (i n : ℕ) (r s : List ℕ) → length r ≡ length s + n → length (cond b (i ∷ r) r) ≡ length (cond b (i ∷ s) s) + n
count_step true i n r s e = omega arith
count_step false i n r s e = e

count_last : (b : Bool) (i : ℕ) → length (cond b (i ∷ []) []) ≡ cond b 1 0
count_last true i = refl
count_last false i = refl

count_push : (p : AltEntry → Bool) (i : ℕ) (es : List AltEntry) (x : AltEntry) → length (numbers_of p i (es ++ x ∷ [])) ≡ length (numbers_of p i es) + cond (p x) 1 0
count_push p i [] x = let h = count_last (p x) i in omega arith
count_push p i (e ∷ es) x =
    count_step (p e) i (cond (p x) 1 0) (numbers_of p (suc i) (es ++ x ∷ [])) (numbers_of p (suc i) es) (count_push p (suc i) es x)

-- how many pass, with one more
pub count_more : (p : AltEntry → Bool) (es : List AltEntry) (i : ℕ) (x : AltEntry) → i < length es → x ≡ get_or es i x → length (numbers_of p 0 (take (i + 1) es)) ≡ length (numbers_of p 0 (take i es)) + cond (p x) 1 0
count_more p es i x lt at =
    rw (take_more es i x lt, ← at) (count_push p 0 (take i es) x)

slot_by : (b : Bool) (e x : AltEntry) (es : List AltEntry) (n : ℕ) (s : Slot) → slice_get (e ∷ es) (cond b 0 (suc n)) ≡ Some x → (slice_get es n ≡ Some x → s ≡ x.slot) → cond b e.slot s ≡ x.slot
slot_by true e x es n s at k = let same : e ≡ x = cc in ap (λ (y : AltEntry). y.slot) same
slot_by false e x es n s at k = k at

-- the slot of the first entry that passes
pub slot_there : (p : AltEntry → Bool) (es : List AltEntry) (x : AltEntry) → slice_get es (first_number p es) ≡ Some x → first_slot p es ≡ x.slot
slot_there p [] x at = cc
slot_there p (e ∷ es) x at = slot_by (p e) e x es (first_number p es) (first_slot p es) at (slot_there p es x)

none_by : (b : Bool) (e : AltEntry) (es : List AltEntry) (n : ℕ) (s : Slot) → slice_get (e ∷ es) (cond b 0 (suc n)) ≡ None → (slice_get es n ≡ None → s ≡ Null) → cond b e.slot s ≡ Null
none_by true e es n s at k = cc
none_by false e es n s at k = k at

-- and where none does
pub slot_none : (p : AltEntry → Bool) (es : List AltEntry) → slice_get es (first_number p es) ≡ None → first_slot p es ≡ Null
slot_none p [] at = refl
slot_none p (e ∷ es) at = none_by (p e) e es (first_number p es) (first_slot p es) at (slot_none p es)

within_by : (b c : Bool) (n m : ℕ) → (b || c) ≡ true → (c ≡ true → n < m) → cond b 0 (suc n) < suc m
within_by true c n m e k = omega arith
within_by false c n m e k = let h = k e in omega arith

-- where one passes, the first is within the list
pub first_within : (p : AltEntry → Bool) (es : List AltEntry) → list_any p es ≡ true → first_number p es < length es
first_within p [] e = cc
first_within p (x ∷ es) e = within_by (p x) (list_any p es) (first_number p es) (length es) e (first_within p es)

-- the same, where the entry was read
pub slot_at : (p : AltEntry → Bool) (es : List AltEntry) (n : ℕ) (x : AltEntry) → n ≡ first_number p es → true ≡ nat_lt n (length es) → x ≡ get_or es n x → first_slot p es ≡ x.slot
slot_at p es n x is lt at =
    slot_there p es x (rw (← is) (slice_get_read es (length es) n x refl (ltb-true n (length es) (sym lt)) at))

pub slot_past : (p : AltEntry → Bool) (es : List AltEntry) (n : ℕ) → n ≡ first_number p es → false ≡ nat_lt n (length es) → first_slot p es ≡ Null
slot_past p es n is le =
    slot_none p es (rw (← is) (slice_get_past es n (ltb-false n (length es) (sym le))))

pub count_yes : (p : AltEntry → Bool) (es : List AltEntry) (i : ℕ) (x : AltEntry) → i < length es → x ≡ get_or es i x → p x ≡ true → length (numbers_of p 0 (take (i + 1) es)) ≡ length (numbers_of p 0 (take i es)) + 1
count_yes p es i x lt at on = count_more p es i x lt at ∙ ap (λ (b : Bool). length (numbers_of p 0 (take i es)) + cond b 1 0) on

pub count_no : (p : AltEntry → Bool) (es : List AltEntry) (i : ℕ) (x : AltEntry) → i < length es → x ≡ get_or es i x → p x ≡ false → length (numbers_of p 0 (take (i + 1) es)) ≡ length (numbers_of p 0 (take i es))
count_no p es i x lt at off = let h = count_more p es i x lt at ∙ ap (λ (b : Bool). length (numbers_of p 0 (take i es)) + cond b 1 0) off in omega arith

one_less : (i left : ℕ) (r : List ℕ) → left ≢ 0 → left < length (i ∷ r) → (get_or (i ∷ r) left 0 ≡ get_or r (left - 1) 0) × (left - 1 < length r)
one_less i zero r ne lt = absurd (ne refl)
one_less i (suc left) r ne lt = let e : suc left - 1 ≡ left = omega arith in rw e (refl, omega arith)

step_by : (a : List ℕ) (i left : ℕ) (r : List ℕ) → a ≡ i ∷ r → left ≢ 0 → left < length a → (get_or a left 0 ≡ get_or r (left - 1) 0) × (left - 1 < length r)
step_by a i left r e ne lt = let k = rw e at lt in rw e (one_less i left r ne k)

-- the entry at i is ready, and further ones are counted
pub ready_step : (p : AltEntry → Bool) (es : List AltEntry) (i left : ℕ) (x : AltEntry) → i < length es → x ≡ get_or es i x → p x ≡ true → left ≢ 0 → left < length (numbers_of p i (drop i es)) → (get_or (numbers_of p i (drop i es)) left 0 ≡ get_or (numbers_of p (i + 1) (drop (i + 1) es)) (left - 1) 0) × (left - 1 < length (numbers_of p (i + 1) (drop (i + 1) es)))
ready_step p es i left x lt at on ne within =
    step_by (numbers_of p i (drop i es)) i left (numbers_of p (i + 1) (drop (i + 1) es)) (numbers_here p es i x lt at on) ne within

skip_by : (a r : List ℕ) (left : ℕ) → a ≡ r → left < length a → (get_or a left 0 ≡ get_or r left 0) × (left < length r)
skip_by a r left e lt = let k = rw e at lt in (ap (λ (s : List ℕ). get_or s left 0) e, k)

-- it isn't
pub ready_skip : (p : AltEntry → Bool) (es : List AltEntry) (i left : ℕ) (x : AltEntry) → i < length es → x ≡ get_or es i x → p x ≡ false → left < length (numbers_of p i (drop i es)) → (get_or (numbers_of p i (drop i es)) left 0 ≡ get_or (numbers_of p (i + 1) (drop (i + 1) es)) left 0) × (left < length (numbers_of p (i + 1) (drop (i + 1) es)))
ready_skip p es i left x lt at off within =
    skip_by (numbers_of p i (drop i es)) (numbers_of p (i + 1) (drop (i + 1) es)) left (numbers_later p es i x lt at off) within

-- one more entry has no more than n
pub bounded_more : (f : AltEntry → ℕ) (es : List AltEntry) (i m n : ℕ) (x : AltEntry) → i < length es → x ≡ get_or es i x → m ≤ n → f x ≤ n → All (λ e. f e ≤ m) (take i es) → All (λ e. f e ≤ n) (take (i + 1) es)
bounded_more f es i m n x lt at le fx h =
    All-more (λ e. f e ≤ n) es i x lt (All-weaker (λ e. f e ≤ m) (λ e. f e ≤ n) (λ e k. omega arith) (take i es) h) (rw (← at) fx)

pub bounded_all : (f : AltEntry → ℕ) (es : List AltEntry) (i m : ℕ) → length es ≤ i → All (λ e. f e ≤ m) (take i es) → All (λ e. f e ≤ m) es
bounded_all f es i m le h = All-same (λ e. f e ≤ m) es (take i es) (sym (take_all i es le)) h

only_by : (b : Bool) (n : ℕ) → n < length {A = ℕ} (cond b (0 ∷ []) []) → ◌≡◌ {A = ℕ} 0 (get_or (cond b (0 ∷ []) []) n 0)
only_by true zero lt = refl
only_by true (suc n) lt = absurd (omega arith)
only_by false n lt = absurd (omega arith)

-- of one entry alone that which is ready is the first
pub only_number : (p : AltEntry → Bool) (es : List AltEntry) (n : ℕ) → length es ≡ 1 → n < length (numbers_of p 0 es) → 0 ≡ get_or (numbers_of p 0 es) n 0
only_number p [] n one lt = absurd (omega arith)
only_number p (e ∷ []) n one lt = only_by (p e) n lt
only_number p (e ∷ f ∷ es) n one lt = absurd (omega arith)

passes_by : (b : Bool) (n : ℕ) → n < length {A = ℕ} (cond b (0 ∷ []) []) → b ≡ true
passes_by true n lt = refl
passes_by false n lt = absurd (omega arith)

-- and it passes
pub only_ready : (p : AltEntry → Bool) (es : List AltEntry) (n : ℕ) → length es ≡ 1 → n < length (numbers_of p 0 es) → IfSome (slice_get es 0) (λ e. p e ≡ true)
only_ready p [] n one lt = absurd (omega arith)
only_ready p (e ∷ []) n one lt = passes_by (p e) n lt
only_ready p (e ∷ f ∷ es) n one lt = absurd (omega arith)

-- the one item of a list is replaced
pub only_set : {A : Type 0} (xs : List A) (x y : A) → length xs ≡ 1 → y ≡ x → slice_set xs 0 y ≡ x ∷ []
only_set [] x y one e = absurd (omega arith)
only_set (z ∷ []) x y one e = ap (λ w. w ∷ []) e
only_set (z ∷ w ∷ zs) x y one e = absurd (omega arith)
