-- What other elements on a channel do to the channels.
use Rattle.std.proofs.Common.{◌≡◌, ◌≢◌, ℕ, zero, suc, ◌-◌, ◌<◌, ◌≤◌, Bool, true, false, List, [], ◌∷◌, length, refl, sym, ap, ◌∙◌, arith}
use Rattle.std.proofs.lemmas.Bool.{lt-ltb}
use Rattle.std.specs.Prelude.{Option, Some, None, nat_lt, option_map, slice_get, if◌then◌else◌}
use Rattle.p9_manual.specs.declared.state.Channel.{Channel}
use Rattle.p9_manual.specs.declared.state.Element.{Element}
use Rattle.p9_manual.specs.Commit.{holding, with_elements}
use Rattle.p9_manual.specs.State.{by_id, changed}
use Rattle.p9_chan.specs.Channels.{Channels, IsMade, chan_of, elements_in, is_closed_in, refilled}

pub by_id_at : {A : Type 0} → (xs : List A) (t : ℕ) → 1 ≤ t → by_id xs t ≡ slice_get xs (t - 1)
by_id_at xs t one = ap (λ b. if b then slice_get xs (t - 1) else None) (lt-ltb 0 t (omega arith))

by_id_none : {A : Type 0} → (xs : List A) (t : ℕ) → t ≡ 0 → by_id xs t ≡ None
by_id_none xs t e = rw e refl

some_at : {A : Type 0} → (xs : List A) (i : ℕ) → i < length xs → (x : A) × (slice_get xs i ≡ Some x)
some_at [] i lt = absurd (omega arith)
some_at (x ∷ xs) zero lt = (x, refl)
some_at (x ∷ xs) (suc i) lt = some_at xs i (omega arith)

-- a channel that was made is there
pub made_chan : (x : Channels) (c : ℕ) → IsMade c x → (chan : Channel) × (chan_of c x ≡ Some chan)
made_chan x c made =
    let from = made.from in
    let to = made.to in
    let found = some_at x.chans (c - 1) (omega arith) in
    (found.0, by_id_at x.chans c from ∙ found.1)

pub length-changed : {A : Type 0} (f : A → A) → (xs : List A) (i : ℕ) → length (changed f xs i) ≡ length xs
length-changed f [] i = refl
length-changed f (x ∷ xs) zero = refl
length-changed f (x ∷ xs) (suc i) = ap (λ (n : ℕ). suc n) (length-changed f xs i)

changed_same : {A : Type 0} (f : A → A) → (xs : List A) (i : ℕ) → slice_get (changed f xs i) i ≡ option_map f (slice_get xs i)
changed_same f [] i = refl
changed_same f (x ∷ xs) zero = refl
changed_same f (x ∷ xs) (suc i) = changed_same f xs i

changed_other : {A : Type 0} (f : A → A) → (xs : List A) (i k : ℕ) → k ≢ i → slice_get (changed f xs i) k ≡ slice_get xs k
changed_other f [] i k ne = refl
changed_other f (x ∷ xs) zero zero ne = absurd (ne refl)
changed_other f (x ∷ xs) zero (suc k) ne = refl
changed_other f (x ∷ xs) (suc i) zero ne = refl
changed_other f (x ∷ xs) (suc i) (suc k) ne = changed_other f xs i k (λ e. ne (ap (λ (n : ℕ). suc n) e))

pub by_id-changed : {A : Type 0} (f : A → A) → (xs : List A) (t : ℕ) → 1 ≤ t → by_id (changed f xs (t - 1)) t ≡ option_map f (by_id xs t)
by_id-changed f xs t one =
    by_id_at (changed f xs (t - 1)) t one ∙ (changed_same f xs (t - 1) ∙ ap (option_map f) (sym (by_id_at xs t one)))

held_twice : (a b : List Element) (chans : List Channel) (i : ℕ) → changed (holding b) (changed (holding a) chans i) i ≡ changed (holding b) chans i
held_twice a b [] i = refl
held_twice a b (x ∷ chans) zero = refl
held_twice a b (x ∷ chans) (suc i) = ap (λ (r : List Channel). x ∷ r) (held_twice a b chans i)

-- the elements that are put last count
pub refilled_twice : (c : ℕ) (a b : List Element) (x : Channels) → refilled c b (refilled c a x) ≡ refilled c b x
refilled_twice c a b x = ap (λ (chans : List Channel). record x { chans = chans }) (held_twice a b x.chans (c - 1))

held_same : (chans : List Channel) (i : ℕ) → changed (holding (elements_in (slice_get chans i))) chans i ≡ chans
held_same [] i = refl
held_same (x ∷ chans) zero = refl
held_same (x ∷ chans) (suc i) = ap (λ (r : List Channel). x ∷ r) (held_same chans i)

-- the elements that are there change nothing
pub refilled_same : (c : ℕ) (x : Channels) → IsMade c x → refilled c (elements_in (chan_of c x)) x ≡ x
refilled_same c x made =
    let at = by_id_at x.chans c made.from in
    ap (λ (es : List Element). refilled c es x) (ap elements_in at) ∙ ap (λ (chans : List Channel). record x { chans = chans }) (held_same x.chans (c - 1))

-- the channel with other elements
pub chan_of-refilled : (c : ℕ) (es : List Element) (x : Channels) → IsMade c x → chan_of c (refilled c es x) ≡ option_map (holding es) (chan_of c x)
chan_of-refilled c es x made = by_id-changed (holding es) x.chans c made.from

pub made-refilled : (c : ℕ) (es : List Element) (x : Channels) → IsMade c x → IsMade c (refilled c es x)
made-refilled c es x made =
    let to = made.to in
    let len = length-changed (holding es) x.chans (c - 1) in
    record { from = made.from; to = omega arith }

closed_at : (es : List Element) (chans : List Channel) (i k : ℕ) → is_closed_in (slice_get (changed (holding es) chans i) k) ≡ is_closed_in (slice_get chans k)
closed_at es [] i k = refl
closed_at es (x ∷ chans) zero zero = refl
closed_at es (x ∷ chans) zero (suc k) = refl
closed_at es (x ∷ chans) (suc i) zero = refl
closed_at es (x ∷ chans) (suc i) (suc k) = closed_at es chans i k

if_closed : (b : Bool) (o p : Option Channel) → is_closed_in o ≡ is_closed_in p → is_closed_in (if b then o else None) ≡ is_closed_in (if b then p else None)
if_closed true o p e = e
if_closed false o p e = refl

-- the same channels are closed
pub closed-with : (c : ℕ) (es : List Element) (chans : List Channel) (k : ℕ) → is_closed_in (by_id (with_elements c es chans) k) ≡ is_closed_in (by_id chans k)
closed-with c es chans k =
    if_closed (nat_lt 0 k) (slice_get (with_elements c es chans) (k - 1)) (slice_get chans (k - 1)) (closed_at es chans (c - 1) (k - 1))
