-- The threads that wait to send on a channel: the first of them, and the others once it is taken out.
use Rattle.std.proofs.Common.{◌≡◌, inl, inr, ◌⊎◌, ℕ, suc, ◌+◌, ◌≤◌, Bool, true, false, not, cond, ◌||◌, eqb, List, [], ◌∷◌, Option, Some, refl, ap, arith, rules, tests}
use Rattle.std.specs.Prelude.{slice_get}
use Rattle.std.specs.List.{filter, find, list_any}
use Rattle.p9_word.specs.declared.alt.AltEntry.{AltEntry}
use Rattle.p9_manual.specs.declared.state.Party.{Party}
use Rattle.p9_manual.specs.AltEntries.{sends_on, receives_on, waits_on, first_slot, first_number}
use Rattle.p9_manual.specs.Standing.{times}
use Rattle.p9_laws.proofs.Sound.Counts.{times_fewer, found_counts}
use Rattle.p9_laws.proofs.Sound.Entries.{waits_either}
use Rattle.p9_laws.proofs.Sound.Parties.{is_tid}
use Rattle.p9_laws.proofs.Moves.Counted.{times_filter, times_found}

swap_step : {A : Type 0} (p q : A → Bool) (a b : Bool) (x : A) (ps qs rest : List A) → p x ≡ a → q x ≡ b → filter p qs ≡ rest → filter q ps ≡ rest → filter p (cond b (x ∷ qs) qs) ≡ filter q (cond a (x ∷ ps) ps)
swap_step p q true true x ps qs rest e f h k = rw (e, f, h, k) refl
swap_step p q true false x ps qs rest e f h k = rw (f, h, k) refl
swap_step p q false true x ps qs rest e f h k = rw (e, h, k) refl
swap_step p q false false x ps qs rest e f h k = rw (h, k) refl

pub filters_swap : {A : Type 0} (p q : A → Bool) → (xs : List A) → filter p (filter q xs) ≡ filter q (filter p xs)
filters_swap p q [] = refl
filters_swap p q (x ∷ xs) = swap_step p q (p x) (q x) x (filter p xs) (filter q xs) (filter q (filter p xs)) refl refl (filters_swap p q xs) refl

-- what is found passes
pub find_passes : {A : Type 0} (p : A → Bool) (w : A) (xs : List A) → find p xs ≡ Some w → p w ≡ true
find_passes p w xs e = (found_counts p (λ x. true) xs w refl e).0

-- the first of those that pass, and the others
abbrev pub StandsFirst : {A : Type 0} → A → List A → Type 0
StandsFirst {A} w xs = (rest : List A) × (xs ≡ w ∷ rest)

first_step : {A : Type 0} (b : Bool) (x w : A) (o : Option A) (xs : List A) → cond b (Some x) o ≡ Some w → (o ≡ Some w → StandsFirst w xs) → StandsFirst w (cond b (x ∷ xs) xs)
first_step true x w o xs e later = let same : x ≡ w = cc in (xs, ap (λ y. y ∷ xs) same)
first_step false x w o xs e later = later e

pub found_first : {A : Type 0} (p : A → Bool) (w : A) → (xs : List A) → find p xs ≡ Some w → StandsFirst w (filter p xs)
found_first p w [] e = cc
found_first p w (x ∷ xs) e = first_step (p x) x w (find p xs) (filter p xs) e (found_first p w xs)

none_step : {A : Type 0} (b : Bool) (x : A) (xs : List A) (n : ℕ) → cond b 1 0 + n ≡ 0 → (n ≡ 0 → xs ≡ []) → cond b (x ∷ xs) xs ≡ []
none_step true x xs n h k = absurd (omega arith)
none_step false x xs n h k = k (omega arith)

pub none_left : {A : Type 0} (p : A → Bool) → (xs : List A) → times p xs ≡ 0 → filter p xs ≡ []
none_left p [] h = refl
none_left p (x ∷ xs) h = none_step (p x) x (filter p xs) (times p xs) h (none_left p xs)

either_way : (b c : Bool) → c ≡ true → (b || c) ≡ true
either_way true c h = refl
either_way false c h = h

sender_waits : (c : ℕ) (w : Party) → sends_on c w ≡ true → waits_on c w ≡ true
sender_waits c w h = rw (waits_either c w, h) refl

receiver_waits : (c : ℕ) (w : Party) → receives_on c w ≡ true → waits_on c w ≡ true
receiver_waits c w h = rw (waits_either c w) (either_way (sends_on c w) (receives_on c w) h)

abbrev pub not_of : ℕ → Party → Bool
not_of t u = not (is_tid t u)

pub is_itself : (n : ℕ) → eqb n n ≡ true
is_itself n = search (rules, tests)

counts : (b : Bool) → b ≡ true → 1 ≤ cond b 1 0
counts true h = omega arith
counts false h = cc

-- where a thread waits to receive beside no other thread, or none sends, none waits to send once it is taken out
pub senders_gone : (c : ℕ) (w : Party) (waits : List Party) → (times (sends_on c) waits ≡ 0) ⊎ ((times (receives_on c) waits ≡ 0) ⊎ (times (waits_on c) waits ≤ 1)) → find (receives_on c) waits ≡ Some w → filter (sends_on c) (filter (not_of w.tid) waits) ≡ []
senders_gone c w waits (inl none) e =
    none_left (sends_on c) (filter (not_of w.tid) waits) (let k = times_filter (sends_on c) (not_of w.tid) waits in omega arith)
senders_gone c w waits (inr (inl none)) e =
    let passes : receives_on c w ≡ true = find_passes (receives_on c) w waits e in
    let k = times_found (receives_on c) (receives_on c) (λ u. eqb u.tid w.tid) w (is_itself w.tid) waits e in
    let here = counts (receives_on c w) passes in
    absurd (omega arith)
senders_gone c w waits (inr (inr one)) e =
    let passes : waits_on c w ≡ true = receiver_waits c w (find_passes (receives_on c) w waits e) in
    let k = times_found (receives_on c) (waits_on c) (λ u. eqb u.tid w.tid) w (is_itself w.tid) waits e in
    let here = counts (waits_on c w) passes in
    let le = times_fewer (sends_on c) (waits_on c) (sender_waits c) (filter (not_of w.tid) waits) in
    none_left (sends_on c) (filter (not_of w.tid) waits) (omega arith)

-- the first entry that passes
pub record FirstEntry (p : AltEntry → Bool) (entries : List AltEntry) : Type 0 where
  pub entry : AltEntry
  pub index : ℕ
  pub there : slice_get entries index ≡ Some entry
  pub passes : p entry ≡ true
  pub slot : first_slot p entries ≡ entry.slot
  pub number : first_number p entries ≡ index

entry_step : (p : AltEntry → Bool) (b : Bool) (x : AltEntry) (xs : List AltEntry) → p x ≡ b → (list_any p xs ≡ true → FirstEntry p xs) → (b || list_any p xs) ≡ true → FirstEntry p (x ∷ xs)
entry_step p true x xs e later h = record { entry = x; index = 0; there = refl; passes = e; slot = rw e refl; number = rw e refl }
entry_step p false x xs e later h =
    let f = later h in
    record { entry = f.entry; index = suc f.index; there = f.there; passes = f.passes; slot = rw e f.slot; number = rw e (ap suc f.number) }

pub first_entry : (p : AltEntry → Bool) → (entries : List AltEntry) → list_any p entries ≡ true → FirstEntry p entries
first_entry p [] h = cc
first_entry p (x ∷ xs) h = entry_step p (p x) x xs refl (first_entry p xs) h
