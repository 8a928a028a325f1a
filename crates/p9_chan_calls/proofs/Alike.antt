-- Two lists of channels that differ at most in the elements of freed channels.
use Rattle.std.proofs.Common.{◌≡◌, ℕ, zero, suc, ◌-◌, Bool, true, false, cond, ◌&&◌, ◌||◌, List, [], ◌∷◌, ◌++◌, length, map, Option, Some, None, refl, ap, sym, ◌∙◌}
use Rattle.std.specs.Prelude.{option_map, slice_get, nat_lt, nat_le}
use Rattle.std.specs.List.{list_all}
use Rattle.p9_word.specs.declared.limits.TheConstants.{MOST_ENTRIES}
use Rattle.p9_word.specs.declared.alt.AltEntry.{AltEntry}
use Rattle.p9_manual.specs.declared.state.Channel.{Channel}
use Rattle.p9_manual.specs.declared.state.Element.{Element}
use Rattle.p9_manual.specs.ReadyEntries.{unfreed, fits, fits_entry, fits_channel, goes_with}
use Rattle.p9_manual.specs.AltEntries.{is_nop}
use Rattle.p9_manual.specs.Commit.{holding, with_elements}
use Rattle.p9_manual.specs.Close.{closed_chan, freed_chan}
use Rattle.p9_manual.specs.State.{by_id, changed}
use Rattle.p9_chan.specs.Channels.{emptied_chan, is_closed_in}
use Rattle.p9_alt.specs.For.{AreAlike}

-- the channels but for the elements of freed ones
abbrev pub shown_chans : List Channel → List Channel
shown_chans chans = map emptied_chan chans

pub alike_length : (a b : List Channel) → AreAlike a b → length a ≡ length b
alike_length a b h = sym (map_length a) ∙ (ap length h ∙ map_length b)
  where
    map_length : (xs : List Channel) → length (shown_chans xs) ≡ length xs
    map_length [] = refl
    map_length (x ∷ xs) = ap suc (map_length xs)

slice_map : {A B : Type 0} (f : A → B) → (xs : List A) (i : ℕ) → slice_get (map f xs) i ≡ option_map f (slice_get xs i)
slice_map f [] i = refl
slice_map f (x ∷ xs) zero = refl
slice_map f (x ∷ xs) (suc i) = slice_map f xs i

by_id_if : {A B : Type 0} (f : A → B) (b : Bool) (o : Option A) (m : Option B) → m ≡ option_map f o → cond b m None ≡ option_map f (cond b o None)
by_id_if f true o m h = h
by_id_if f false o m h = refl

by_id_map : {A B : Type 0} (f : A → B) (xs : List A) (id : ℕ) → by_id (map f xs) id ≡ option_map f (by_id xs id)
by_id_map f xs id = by_id_if f (nat_lt 0 id) (slice_get xs (id - 1)) (slice_get (map f xs) (id - 1)) (slice_map f xs (id - 1))

-- what doesn't see the elements of freed channels agrees
pub alike_by : {A : Type 0} (f : Option Channel → A) → ((o : Option Channel) → f (option_map emptied_chan o) ≡ f o) → (a b : List Channel) (c : ℕ) → AreAlike a b → f (by_id a c) ≡ f (by_id b c)
alike_by f blind a b c h =
    sym (blind (by_id a c)) ∙ (ap f (sym (by_id_map emptied_chan a c)) ∙ (ap (λ xs. f (by_id xs c)) h ∙ (ap f (by_id_map emptied_chan b c) ∙ blind (by_id b c))))

unfreed_if : (b : Bool) (chan : Channel) → chan.freed ≡ b → unfreed (Some (cond b (record chan { elements = [] }) chan)) ≡ unfreed (Some chan)
unfreed_if true chan e = rw e refl
unfreed_if false chan e = refl

unfreed_blind : (o : Option Channel) → unfreed (option_map emptied_chan o) ≡ unfreed o
unfreed_blind None = refl
unfreed_blind (Some chan) = unfreed_if chan.freed chan refl

-- the channel that a request may name is the same
pub alike_unfreed : (a b : List Channel) (c : ℕ) → AreAlike a b → unfreed (by_id a c) ≡ unfreed (by_id b c)
alike_unfreed a b c h = alike_by unfreed unfreed_blind a b c h

field_if : {A : Type 0} (f : Channel → A) → ((chan : Channel) → f (record chan { elements = [] }) ≡ f chan) → (b : Bool) (chan : Channel) → f (cond b (record chan { elements = [] }) chan) ≡ f chan
field_if f blind true chan = blind chan
field_if f blind false chan = refl

closed_blind : (o : Option Channel) → is_closed_in (option_map emptied_chan o) ≡ is_closed_in o
closed_blind None = refl
closed_blind (Some chan) = field_if (λ x. x.closed) (λ x. refl) chan.freed chan

pub alike_closed : (a b : List Channel) (c : ℕ) → AreAlike a b → is_closed_in (by_id a c) ≡ is_closed_in (by_id b c)
alike_closed a b c h = alike_by is_closed_in closed_blind a b c h

-- a step that agrees with one on what is shown keeps channels alike
changed_shown : (f g : Channel → Channel) → ((x : Channel) → emptied_chan (f x) ≡ g (emptied_chan x)) → (xs : List Channel) (i : ℕ) → shown_chans (changed f xs i) ≡ changed g (shown_chans xs) i
changed_shown f g same [] i = refl
changed_shown f g same (x ∷ xs) zero = ap (λ y. y ∷ shown_chans xs) (same x)
changed_shown f g same (x ∷ xs) (suc i) = ap (λ ys. emptied_chan x ∷ ys) (changed_shown f g same xs i)

changed_alike : (f g : Channel → Channel) → ((x : Channel) → emptied_chan (f x) ≡ g (emptied_chan x)) → (a b : List Channel) (i : ℕ) → AreAlike a b → AreAlike (changed f a i) (changed f b i)
changed_alike f g same a b i h = changed_shown f g same a i ∙ (ap (λ xs. changed g xs i) h ∙ sym (changed_shown f g same b i))

cond_closed : (b : Bool) (x : Channel) → cond b (record (closed_chan x) { elements = [] }) (closed_chan x) ≡ closed_chan (cond b (record x { elements = [] }) x)
cond_closed true x = refl
cond_closed false x = refl

pub alike_close : (a b : List Channel) (c : ℕ) → AreAlike a b → AreAlike (changed closed_chan a (c - 1)) (changed closed_chan b (c - 1))
alike_close a b c h = changed_alike closed_chan closed_chan (λ x. cond_closed x.freed x) a b (c - 1) h

gone : Channel → Channel
gone x = record x { freed = true; elements = [] }

cond_gone : (b : Bool) (x : Channel) → gone x ≡ gone (cond b (record x { elements = [] }) x)
unfolding gone
cond_gone true x = refl
cond_gone false x = refl

freed_shown : (x : Channel) → emptied_chan (freed_chan x) ≡ gone (emptied_chan x)
unfolding gone
freed_shown x = cond_gone x.freed x

pub alike_free : (a b : List Channel) (c : ℕ) → AreAlike a b → AreAlike (changed freed_chan a (c - 1)) (changed freed_chan b (c - 1))
alike_free a b c h = changed_alike freed_chan gone freed_shown a b (c - 1) h

held : List Element → Channel → Channel
held elements x = cond x.freed x (record x { elements = elements })

holding_if : (b : Bool) (elements : List Element) (x : Channel) → x.freed ≡ b → cond b (record x { elements = [] }) (holding elements x) ≡ held elements (cond b (record x { elements = [] }) x)
unfolding held
holding_if true elements x e = rw e refl
holding_if false elements x e = rw e refl

pub alike_refill : (a b : List Channel) (c : ℕ) (elements : List Element) → AreAlike a b → AreAlike (with_elements c elements a) (with_elements c elements b)
alike_refill a b c elements h = changed_alike (holding elements) (held elements) (λ x. holding_if x.freed elements x refl) a b (c - 1) h

emptied_if : (b : Bool) (x : Channel) → x.freed ≡ b → emptied_chan (cond b (record x { elements = [] }) x) ≡ cond b (record x { elements = [] }) x
emptied_if true x e = rw e refl
emptied_if false x e = rw e refl

same_at : (xs : List Channel) (i : ℕ) → changed (λ x. x) xs i ≡ xs
same_at [] i = refl
same_at (x ∷ xs) zero = refl
same_at (x ∷ xs) (suc i) = ap (λ ys. x ∷ ys) (same_at xs i)

-- a freed channel is emptied on one side
pub alike_emptied : (a b : List Channel) (c : ℕ) → AreAlike a b → AreAlike (changed emptied_chan a (c - 1)) b
alike_emptied a b c h = changed_shown emptied_chan (λ x. x) (λ x. emptied_if x.freed x refl) a (c - 1) ∙ (same_at (shown_chans a) (c - 1) ∙ h)

-- a channel that may be named is the same on both sides
pub alike_live : (a b : List Channel) (c : ℕ) (chan : Channel) → AreAlike a b → unfreed (by_id a c) ≡ Some chan → (by_id a c ≡ Some chan) × (by_id b c ≡ Some chan)
alike_live a b c chan h e = (live_is (by_id a c) chan e, live_is (by_id b c) chan (sym (alike_unfreed a b c h) ∙ e))
  where
    live_if : (b : Bool) (x chan : Channel) → cond b None (Some x) ≡ Some chan → Some x ≡ Some chan
    live_if true x chan e = absurd (cc e)
    live_if false x chan e = e

    live_is : (o : Option Channel) (chan : Channel) → unfreed o ≡ Some chan → o ≡ Some chan
    live_is None chan e = absurd (cc e)
    live_is (Some x) chan e = live_if x.freed x chan e

fits_entry_alike : (a b : List Channel) → AreAlike a b → (e : AltEntry) → fits_entry a e ≡ fits_entry b e
fits_entry_alike a b h e =
    ap (λ o. goes_with e.op e.slot && (is_nop e.op || (e.err || fits_channel e.slot o))) (alike_unfreed a b e.chan h)

all_same : {A : Type 0} (p q : A → Bool) → ((x : A) → p x ≡ q x) → (xs : List A) → list_all p xs ≡ list_all q xs
all_same p q same [] = refl
all_same p q same (x ∷ xs) = rw (same x, all_same p q same xs) refl

-- the same entries may be asked for
pub alike_fits : (a b : List Channel) (entries : List AltEntry) → AreAlike a b → fits a entries ≡ fits b entries
alike_fits a b entries h =
    ap (λ all. nat_le (length entries) MOST_ENTRIES && all) (all_same (fits_entry a) (fits_entry b) (fits_entry_alike a b h) entries)

shown_push : (xs : List Channel) (x : Channel) → shown_chans (xs ++ x ∷ []) ≡ shown_chans xs ++ emptied_chan x ∷ []
shown_push [] x = refl
shown_push (y ∷ ys) x = ap (λ (zs : List Channel). emptied_chan y ∷ zs) (shown_push ys x)

-- one more channel stands on both sides
pub alike_push : (a b : List Channel) (x : Channel) → AreAlike a b → AreAlike (a ++ x ∷ []) (b ++ x ∷ [])
alike_push a b x h = shown_push a x ∙ (ap (λ (xs : List Channel). xs ++ emptied_chan x ∷ []) h ∙ sym (shown_push b x))
