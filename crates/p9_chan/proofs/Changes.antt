-- What a change of one channel does to the channels.
use Rattle.std.proofs.Common.{◌≡◌, ℕ, zero, suc, ◌-◌, ◌<◌, ◌≤◌, List, [], ◌∷◌, length, get_or, set, Option, Some, None, refl, sym, ap, ◌∙◌, arith}
use Rattle.std.proofs.lemmas.Bool.{lt-ltb}
use Rattle.std.proofs.lemmas.List.{set-get_or}
use Rattle.std.specs.Prelude.{slice_get, MatchOption, if◌then◌else◌}
use Rattle.p9_manual.specs.declared.state.Channel.{Channel}
use Rattle.p9_manual.specs.declared.state.Element.{Element}
use Rattle.p9_manual.specs.Commit.{holding}
use Rattle.p9_manual.specs.State.{by_id, changed}
use Rattle.p9_chan.specs.Channels.{Channels, IsMade, chan_of, elements_in, refilled}

-- the channels as callers see them
abbrev pub seen : List Channel → Option ℕ → Channels
seen chans room = record { chans = chans; room = room }

-- x is channel c of these channels, which callers see as v
pub record IsAt (c : ℕ) (x : Channel) (chans : List Channel) (room : Option ℕ) (v : Channels) : Type 0 where
  pub view_is : seen chans room ≡ v
  pub made : IsMade c v
  pub is : x ≡ get_or chans (c - 1) x

set_changed : {A : Type 0} (f : A → A) → (xs : List A) (i : ℕ) (y d : A) → i < length xs → y ≡ f (get_or xs i d) → set xs i y ≡ changed f xs i
set_changed f [] i y d lt e = absurd (omega arith)
set_changed f (x ∷ xs) zero y d lt e = ap (λ z. z ∷ xs) e
set_changed f (x ∷ xs) (suc i) y d lt e = ap (λ zs. x ∷ zs) (set_changed f xs i y d (omega arith) e)

slice_get-within : {A : Type 0} → (xs : List A) (i : ℕ) (d : A) → i < length xs → slice_get xs i ≡ Some (get_or xs i d)
slice_get-within [] i d lt = absurd (omega arith)
slice_get-within (x ∷ xs) zero d lt = refl
slice_get-within (x ∷ xs) (suc i) d lt = slice_get-within xs i d (omega arith)

slice_get-set : {A : Type 0} → (xs : List A) (i : ℕ) (y : A) → i < length xs → slice_get (set xs i y) i ≡ Some y
slice_get-set [] i y lt = absurd (omega arith)
slice_get-set (x ∷ xs) zero y lt = refl
slice_get-set (x ∷ xs) (suc i) y lt = slice_get-set xs i y (omega arith)

by_id_at : {A : Type 0} → (xs : List A) (c : ℕ) → 1 ≤ c → by_id xs c ≡ slice_get xs (c - 1)
by_id_at xs c one = ap (λ b. if b then slice_get xs (c - 1) else None) (lt-ltb 0 c (omega arith))

within : (c : ℕ) (x : Channel) (chans : List Channel) (room : Option ℕ) (v : Channels) → IsAt c x chans room v → c - 1 < length chans
within c x chans room v at =
    let from = at.made.from in
    let to = at.made.to in
    let len : length chans ≡ length v.chans = ap (λ (w : Channels). length w.chans) at.view_is in
    omega arith

-- a channel as callers see it
pub chan_is : (c : ℕ) (x : Channel) (chans : List Channel) (room : Option ℕ) (v : Channels) → IsAt c x chans room v → chan_of c v ≡ Some x
chan_is c x chans room v at =
    ap (λ (w : Channels). chan_of c w) (sym at.view_is)
    ∙ (by_id_at chans c at.made.from
    ∙ (slice_get-within chans (c - 1) x (within c x chans room v at) ∙ ap Some (sym at.is)))

-- a channel that was changed, as callers see it
pub chan_new : (c : ℕ) (x y : Channel) (chans : List Channel) (room : Option ℕ) (v : Channels) → IsAt c x chans room v → chan_of c (seen (set chans (c - 1) y) room) ≡ Some y
chan_new c x y chans room v at =
    by_id_at (set chans (c - 1) y) c at.made.from ∙ slice_get-set chans (c - 1) y (within c x chans room v at)

-- the channels after a change of one of them
pub change : (f : Channel → Channel) → (c : ℕ) (x y : Channel) (chans : List Channel) (room : Option ℕ) (v : Channels) → IsAt c x chans room v → y ≡ f x → seen (set chans (c - 1) y) room ≡ record v { chans = changed f v.chans (c - 1) }
change f c x y chans room v at e =
    ap (λ zs. seen zs room) (set_changed f chans (c - 1) y x (within c x chans room v at) (e ∙ ap f at.is))
    ∙ ap (λ (w : Channels). record w { chans = changed f w.chans (c - 1) }) at.view_is

-- the channels after no change of one of them
pub no_change : (c : ℕ) (x y : Channel) (chans : List Channel) (room : Option ℕ) (v : Channels) → IsAt c x chans room v → y ≡ x → seen (set chans (c - 1) y) room ≡ v
no_change c x y chans room v at e =
    ap (λ z. seen (set chans (c - 1) z) room) (e ∙ at.is)
    ∙ (ap (λ zs. seen zs room) (set-get_or chans (c - 1) x) ∙ at.view_is)

-- an element taken from one of the channels
pub taken : (r : Option Element) → (c : ℕ) (x y : Channel) (chans : List Channel) (room : Option ℕ) (v new : Channels) → IsAt c x chans room v → seen (set chans (c - 1) y) room ≡ new → MatchOption r ((x.elements ≡ []) × (y ≡ x)) (λ e. (x.elements ≡ e ∷ y.elements) × (y ≡ holding y.elements x)) → MatchOption r ((elements_in (chan_of c v) ≡ []) × (new ≡ v)) (λ e. (elements_in (chan_of c v) ≡ e ∷ elements_in (chan_of c new)) × (new ≡ refilled c (elements_in (chan_of c new)) v))
taken None c x y chans room v new at is h =
    (ap elements_in (chan_is c x chans room v at) ∙ h.0, sym is ∙ no_change c x y chans room v at h.1)
taken (Some e) c x y chans room v new at is h =
    let after : chan_of c new ≡ Some y = ap (chan_of c) (sym is) ∙ chan_new c x y chans room v at in
    let now : elements_in (chan_of c new) ≡ y.elements = ap elements_in after in (
      ap elements_in (chan_is c x chans room v at) ∙ (h.0 ∙ ap (λ es. e ∷ es) (sym now)),
      sym is ∙ (change (holding y.elements) c x y chans room v at h.1 ∙ ap (λ es. refilled c es v) (sym now)),
    )
