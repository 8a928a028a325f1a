-- What the waits are when one that waits leaves them.
use Rattle.std.proofs.Common.{◌≡◌, ℕ, zero, suc, ◌+◌, ◌<◌, ◌≤◌, Bool, true, false, not, cond, List, [], ◌∷◌, ◌++◌, length, get_or, drop, take, map, refl, sym, ap, ◌∙◌, arith}
use Rattle.std.proofs.lemmas.Bool.{eq-eqb}
use Rattle.std.proofs.lemmas.List.{at_drop_all, append_assoc, append-nil, map_push, map-append}
use Rattle.std.proofs.lemmas.List.Elements.{All-filter, filter_more}
use Rattle.std.proofs.lemmas.List.Sums.{sum_by-drop_more}
use Rattle.std.proofs.lemmas.Option.{slice_get_read, slice_get_past}
use Rattle.std.specs.Prelude.{Option, Some, is_some, ◌||◌, if◌then◌else◌, ◌==◌, count_by, slice_get, remove, vec_len, vec_capacity, Vec}
use Rattle.std.specs.List.{find, filter, list_any}
use Rattle.std.specs.declared.alloc.Global.{Global}
use Rattle.p9_word.specs.declared.limits.TheConstants.{MOST_ENTRIES}
use Rattle.p9_manual.specs.declared.state.Party.{Party}
use Rattle.p9_manual.specs.Standing.{times}
use Rattle.p9_manual.specs.AltEntries.{waits_on}
use Rattle.p9_manual.specs.Close.{all_failed, failed_on}
use Rattle.p9_alt.specs.declared.offer.Wake.{Wake}
use Rattle.p9_alt.specs.Exchange.{pair_of}
use Rattle.p9_alt.specs.Kept.{IsQueue}
use Rattle.p9_alt.specs.Passing.{without, IsLess}
use Rattle.p9_alt.proofs.Numbers.{next_is}

pub find_here : {A : Type 0} (p : A → Bool) (ws : List A) (i : ℕ) (w : A) → i < length ws → w ≡ get_or ws i w → p w ≡ true → slice_get ws i ≡ find p (drop i ws)
find_here p ws i w lt at on = rw (next_is ws i w lt at, on) (slice_get_read ws (length ws) i w refl lt at)

pub find_later : {A : Type 0} (p : A → Bool) (ws : List A) (i : ℕ) (w : A) → i < length ws → w ≡ get_or ws i w → p w ≡ false → find p (drop i ws) ≡ find p (drop (i + 1) ws)
find_later p ws i w lt at off = rw (next_is ws i w lt at, off) refl

pub find_none : {A : Type 0} (p : A → Bool) (ws : List A) (i : ℕ) → length ws ≤ i → slice_get ws (length ws) ≡ find p (drop i ws)
find_none p ws i le = slice_get_past ws (length ws) (omega arith) ∙ sym (at_drop_all (find p) ws i le)

-- none passes of those before an end
pub unmet_past : {A : Type 0} (p : A → Bool) (ws : List A) (i : ℕ) → length ws ≤ i → find p ws ≡ find p (drop i ws) → find p ws ≡ find p (drop (length ws) ws)
unmet_past p ws i le e = e ∙ (at_drop_all (find p) ws i le ∙ sym (at_drop_all (find p) ws (length ws) (omega arith)))

some_or : {A : Type 0} (b : Bool) (x : A) (o : Option A) (r : Bool) → is_some o ≡ r → is_some (if b then Some x else o) ≡ (b || r)
some_or true x o r e = refl
some_or false x o r e = e

-- one is found where one passes
pub found_any : {A : Type 0} (p : A → Bool) (ws : List A) → is_some (find p ws) ≡ list_any p ws
found_any p [] = refl
found_any p (w ∷ ws) = some_or (p w) w (find p ws) (list_any p ws) (found_any p ws)

some_within : {A : Type 0} (ws : List A) (i : ℕ) → i < length ws → is_some (slice_get ws i) ≡ true
some_within [] i lt = absurd (omega arith)
some_within (w ∷ ws) zero lt = refl
some_within (w ∷ ws) (suc i) lt = some_within ws i (omega arith)

-- one passes where the first that does stands among them
pub met_within : {A : Type 0} (p : A → Bool) (ws : List A) (i : ℕ) → i < length ws → slice_get ws i ≡ find p ws → true ≡ list_any p ws
met_within p ws i lt at = sym (some_within ws i lt) ∙ (ap is_some at ∙ found_any p ws)

-- and none where it stands behind them
pub met_past : {A : Type 0} (p : A → Bool) (ws : List A) (i : ℕ) → length ws ≤ i → slice_get ws i ≡ find p ws → false ≡ list_any p ws
met_past p ws i le at = ap is_some (sym (slice_get_past ws i le) ∙ at) ∙ found_any p ws

-- a test of the thread's id
abbrev pub is_of : ℕ → Party → Bool
is_of t w = w.tid == t

one_step : (b : Bool) (n : ℕ) → 1 ≤ n → 1 ≤ cond b 1 0 + n
one_step b n le = omega arith

pub times_at : {A : Type 0} (p : A → Bool) (ws : List A) (i : ℕ) (d : A) → i < length ws → p (get_or ws i d) ≡ true → 1 ≤ times p ws
times_at p [] i d lt on = absurd (omega arith)
times_at p (w ∷ ws) zero d lt on = rw on (omega arith)
times_at p (w ∷ ws) (suc i) d lt on = one_step (p w) (times p ws) (times_at p ws i d (omega arith) on)

filter_by : {A : Type 0} (b : Bool) (x : A) (r s : List A) (n : ℕ) → cond b 1 0 + n ≡ 0 → (n ≡ 0 → r ≡ s) → cond (not b) (x ∷ r) r ≡ x ∷ s
filter_by true x r s n e k = absurd (omega arith)
filter_by false x r s n e k = ap (λ (zs : List _). x ∷ zs) (k (omega arith))

-- where none passes, all stay
pub filter_none : {A : Type 0} (p : A → Bool) (ws : List A) → times p ws ≡ 0 → filter (λ u. not (p u)) ws ≡ ws
filter_none p [] e = refl
filter_none p (w ∷ ws) e = filter_by (p w) w (filter (λ u. not (p u)) ws) ws (times p ws) e (filter_none p ws)

gone_by : {A : Type 0} (b : Bool) (x : A) (r s : List A) → b ≡ true → r ≡ s → s ≡ cond (not b) (x ∷ r) r
gone_by true x r s on e = sym e
gone_by false x r s on e = cc

stays_by : {A : Type 0} (b : Bool) (n : ℕ) (x : A) (r s : List A) → cond b 1 0 + n ≤ 1 → 1 ≤ n → s ≡ r → x ∷ s ≡ cond (not b) (x ∷ r) r
stays_by true n x r s le one e = absurd (omega arith)
stays_by false n x r s le one e = ap (λ (zs : List _). x ∷ zs) e

rest_le : (b : Bool) (n : ℕ) → cond b 1 0 + n ≤ 1 → n ≤ 1
rest_le b n le = omega arith

first_le : (b : Bool) (n : ℕ) → b ≡ true → cond b 1 0 + n ≤ 1 → n ≡ 0
first_le true n on le = omega arith
first_le false n on le = cc

-- where one passes alone, the others stay
pub remove_is : {A : Type 0} (p : A → Bool) (ws : List A) (i : ℕ) (d : A) → times p ws ≤ 1 → i < length ws → p (get_or ws i d) ≡ true → remove ws i ≡ filter (λ u. not (p u)) ws
remove_is p [] i d once lt on = absurd (omega arith)
remove_is p (w ∷ ws) zero d once lt on =
    gone_by (p w) w (filter (λ u. not (p u)) ws) ws on (filter_none p ws (first_le (p w) (times p ws) on once))
remove_is p (w ∷ ws) (suc i) d once lt on =
    stays_by (p w) (times p ws) w (filter (λ u. not (p u)) ws) (remove ws i) once (times_at p ws i d (omega arith) on) (remove_is p ws i d (rest_le (p w) (times p ws) once) (omega arith) on)

-- the thread at i leaves
pub removed : (ws : List Party) (i : ℕ) (w : Party) → IsQueue ws → i < length ws → w ≡ get_or ws i w → remove ws i ≡ without (Some w) ws
removed ws i w q lt at = remove_is (is_of w.tid) ws i w (q.apart w.tid) lt (rw (← at) (eq-eqb w.tid w.tid refl))

kept_by : {A : Type 0} (f : A → Bool) (b : Bool) (x : A) (r : List A) (n : ℕ) → times f r ≤ n → times f (cond b (x ∷ r) r) ≤ cond (f x) 1 0 + n
kept_by f true x r n le = omega arith
kept_by f false x r n le = omega arith

-- a test passes no more often where some are left out
pub times-filter : {A : Type 0} (f p : A → Bool) (ws : List A) → times f (filter p ws) ≤ times f ws
times-filter f p [] = omega arith
times-filter f p (w ∷ ws) = kept_by f (p w) w (filter p ws) (times f ws) (times-filter f p ws)

pub queue-filter : (p : Party → Bool) (ws : List Party) → IsQueue ws → IsQueue (filter p ws)
queue-filter p ws q = record {
  few = All-filter p (λ w. length w.entries ≤ MOST_ENTRIES) ws q.few;
  apart = λ t. let h = times-filter (is_of t) p ws in let k = q.apart t in omega arith;
}

-- one that waits leaves
pub left_out : (old new : Vec Party Global) (i : ℕ) (w : Party) → IsQueue old.items → i < vec_len old → length old.items ≡ vec_len old → w ≡ get_or old.items i w → new.items ≡ remove old.items i → vec_len new + 1 ≡ vec_len old → vec_capacity new ≡ vec_capacity old → IsLess old new
left_out old new i w q lt all at items len cap = record {
  queue = rw (items, removed old.items i w q (omega arith) at) (queue-filter (λ u. not (u.tid == w.tid)) old.items q);
  shorter = omega arith;
  capacity = cap;
}

failed_step : (c : ℕ) (ws : List Party) (i : ℕ) (w : Party) → i < length ws → w ≡ get_or ws i w → all_failed c (take (i + 1) ws) ≡ all_failed c (take i ws) ++ map (failed_on c) (cond (waits_on c w) (w ∷ []) [])
failed_step c ws i w lt at =
    rw (filter_more (waits_on c) ws i w lt, ← at, map-append) refl

failed_yes : (c : ℕ) (ws : List Party) (i : ℕ) (w : Party) → i < length ws → w ≡ get_or ws i w → waits_on c w ≡ true → all_failed c (take (i + 1) ws) ≡ all_failed c (take i ws) ++ failed_on c w ∷ []
failed_yes c ws i w lt at on = failed_step c ws i w lt at ∙ ap (λ (b : Bool). all_failed c (take i ws) ++ map (failed_on c) (cond b (w ∷ []) [])) on

-- one that doesn't wait there isn't woken
pub failed_no : (c : ℕ) (ws : List Party) (i : ℕ) (w : Party) → i < length ws → w ≡ get_or ws i w → waits_on c w ≡ false → all_failed c (take (i + 1) ws) ≡ all_failed c (take i ws)
failed_no c ws i w lt at off =
    failed_step c ws i w lt at ∙ (ap (λ (b : Bool). all_failed c (take i ws) ++ map (failed_on c) (cond b (w ∷ []) [])) off ∙ append-nil (all_failed c (take i ws)))

-- one that does is woken last
pub woken_more : (c : ℕ) (ws : List Party) (i : ℕ) (w : Party) (old now next : List Wake) (wake : Wake) → i < length ws → w ≡ get_or ws i w → waits_on c w ≡ true → pair_of wake ≡ failed_on c w → map pair_of now ≡ map pair_of old ++ all_failed c (take i ws) → next ≡ now ++ wake ∷ [] → map pair_of next ≡ map pair_of old ++ all_failed c (take (i + 1) ws)
woken_more c ws i w old now next wake lt at on is so next_is =
    rw (next_is, map_push pair_of now wake, so, is, failed_yes c ws i w lt at on) (append_assoc (map pair_of old) (all_failed c (take i ws)) (failed_on c w ∷ []))

-- of those from i on the first waits on the channel
pub waiting_first : (c : ℕ) (ws : List Party) (i : ℕ) (w : Party) → i < length ws → w ≡ get_or ws i w → waits_on c w ≡ true → count_by (waits_on c) (drop i ws) ≡ 1 + count_by (waits_on c) (drop (i + 1) ws)
waiting_first c ws i w lt at on =
    let one : cond {A = ℕ} (waits_on c (get_or ws i w)) 1 0 ≡ 1 = ap (λ (x : Party). cond {A = ℕ} (waits_on c x) 1 0) (sym at) ∙ ap (λ (b : Bool). cond {A = ℕ} b 1 0) on in
    omega (arith, sum_by-drop_more (λ (x : Party). cond {A = ℕ} (waits_on c x) 1 0) ws i w lt)

-- or it doesn't
pub waiting_later : (c : ℕ) (ws : List Party) (i : ℕ) (w : Party) → i < length ws → w ≡ get_or ws i w → waits_on c w ≡ false → count_by (waits_on c) (drop i ws) ≡ count_by (waits_on c) (drop (i + 1) ws)
waiting_later c ws i w lt at off =
    let none : cond {A = ℕ} (waits_on c (get_or ws i w)) 1 0 ≡ 0 = ap (λ (x : Party). cond {A = ℕ} (waits_on c x) 1 0) (sym at) ∙ ap (λ (b : Bool). cond {A = ℕ} b 1 0) off in
    omega (arith, sum_by-drop_more (λ (x : Party). cond {A = ℕ} (waits_on c x) 1 0) ws i w lt)

-- a thread that doesn't wait has none of the waits
pub others_all : (t : ℕ) (ws : List Party) → times (λ w. w.tid == t) ws ≡ 0 → filter (λ w. not (w.tid == t)) ws ≡ ws
others_all t ws e = filter_none (is_of t) ws e
