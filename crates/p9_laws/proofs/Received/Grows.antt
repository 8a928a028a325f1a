-- Channels after an event: each is there with the size of its elements, and each of its elements is still there or has moved.
use Rattle.std.proofs.Common.{◌≡◌, ◌⊎◌, inl, inr, ℕ, zero, suc, List, [], ◌∷◌, ◌++◌, Option, Some, refl, subst, ◌∙◌, ap}
use Rattle.std.specs.Prelude.{slice_get}
use Rattle.p9_manual.specs.declared.state.Channel.{Channel}
use Rattle.p9_manual.specs.declared.state.Element.{Element}
use Rattle.p9_manual.specs.Commit.{holding, with_elements}
use Rattle.p9_manual.specs.State.{Move, by_id, changed}
use Rattle.p9_laws.specs.ToldSent.{HasLeft, IsAmong}
use Rattle.p9_laws.proofs.Sound.Places.{by_id-suc}
use Rattle.p9_laws.proofs.Moves.Sent.{slice_get-longer}
use Rattle.p9_laws.proofs.Moves.Kept.{each_channel}

-- the value that the call at this position sent has left channel c, or is among its elements
abbrev pub IsThere : ℕ → ℕ → List ℕ → List Move → List Channel → Type 0
IsThere c position bytes ms chans = HasLeft c position bytes ms ⊎ IsAmong c position bytes chans

-- an element has left channel c, or is among these
abbrev pub Remains : List Move → ℕ → List Element → Element → Type 0
Remains mv c later e = HasLeft c e.from e.msg mv ⊎ ((j : ℕ) × (slice_get later j ≡ Some e))

-- what becomes of channel c, which was old
pub record GrowsAt (mv : List Move) (c : ℕ) (old : Channel) (found : Option Channel) : Type 0 where
  pub new : Channel
  pub there : found ≡ Some new
  pub sized : new.elsize ≡ old.elsize
  pub kept : (k : ℕ) (e : Element) → slice_get old.elements k ≡ Some e → Remains mv c new.elements e

-- what becomes of all channels, where these values move
pub record Grows (mv : List Move) (chans more : List Channel) : Type 0 where
  pub each : (c : ℕ) (old : Channel) → by_id chans c ≡ Some old → GrowsAt mv c old (by_id more c)

pub grows_same : (mv : List Move) (chans : List Channel) → Grows mv chans chans
grows_same mv chans = record { each = λ c old at. record { new = old; there = at; sized = refl; kept = λ k e is. inr (k, is) } }

pushed_at : (y : Channel) (chans : List Channel) (c : ℕ) (old : Channel) → by_id chans c ≡ Some old → by_id (chans ++ y ∷ []) c ≡ Some old
pushed_at y chans zero old at = absurd (cc at)
pushed_at y chans (suc i) old at = by_id-suc (chans ++ y ∷ []) i ∙ slice_get-longer (y ∷ []) old chans i (rw (by_id-suc chans i) at at)

-- one more channel
pub grows_push : (mv : List Move) (y : Channel) (chans : List Channel) → Grows mv chans (chans ++ y ∷ [])
grows_push mv y chans =
    record { each = λ c old at. record { new = old; there = pushed_at y chans c old at; sized = refl; kept = λ k e is. inr (k, is) } }

changed_get : (f : Channel → Channel) → (chans : List Channel) (i j : ℕ) (x : Channel) → slice_get chans j ≡ Some x → (slice_get (changed f chans i) j ≡ Some x) ⊎ (slice_get (changed f chans i) j ≡ Some (f x))
changed_get f [] i j x at = cc at
changed_get f (y ∷ ys) zero zero x at = let same : y ≡ x = cc in inr (ap (λ z. Some (f z)) same)
changed_get f (y ∷ ys) zero (suc j) x at = inl at
changed_get f (y ∷ ys) (suc i) zero x at = inl at
changed_get f (y ∷ ys) (suc i) (suc j) x at = changed_get f ys i j x at

changed_at : (f : Channel → Channel) (chans : List Channel) (i c : ℕ) (x : Channel) → by_id chans c ≡ Some x → (by_id (changed f chans i) c ≡ Some x) ⊎ (by_id (changed f chans i) c ≡ Some (f x))
changed_at f chans i zero x at = absurd (cc at)
changed_at f chans i (suc j) x at = rw (by_id-suc (changed f chans i) j) (changed_get f chans i j x (rw (by_id-suc chans j) at at))

-- a channel changes, and keeps its elements and their size
pub grows_changed : (mv : List Move) (f : Channel → Channel) → ((x : Channel) → (f x).elements ≡ x.elements) → ((x : Channel) → (f x).elsize ≡ x.elsize) → (chans : List Channel) (i : ℕ) → Grows mv chans (changed f chans i)
grows_changed mv f elements elsize chans i =
    record {
      each = λ c old at. elim (changed_at f chans i c old at) [
        | inl e ↦ record { new = old; there = e; sized = refl; kept = λ k x is. inr (k, is) }
        | inr e ↦ record { new = f old; there = e; sized = elsize old; kept = λ k x is. inr (k, rw (elements old) is) }
      ];
    }

-- channel c has other elements
pub grows_held : (mv : List Move) (chans : List Channel) (c : ℕ) (chan : Channel) (later : List Element) → by_id chans c ≡ Some chan → ((k : ℕ) (e : Element) → slice_get chan.elements k ≡ Some e → Remains mv c later e) → Grows mv chans (with_elements c later chans)
grows_held mv chans c chan later at kept =
    record {
      each = each_channel (λ d o. (old : Channel) → by_id chans d ≡ Some old → GrowsAt mv d old o) (holding later) chans c chan at
          (λ old there. let same : chan ≡ old = cc in subst (λ (x : Channel). GrowsAt mv c x (Some (holding later chan))) same (record { new = holding later chan; there = refl; sized = refl; kept = kept }))
          (λ d ne old there. record { new = old; there = there; sized = refl; kept = λ k e is. inr (k, is) });
    }

pub left_more : (c position : ℕ) (bytes : List ℕ) (ms mv : List Move) → HasLeft c position bytes ms → HasLeft c position bytes (ms ++ mv)
left_more c position bytes ms mv (t, i, is) = (t, i, slice_get-longer mv _ ms i is)

pub left_new : (c position : ℕ) (bytes : List ℕ) → (ms : List Move) (mv : List Move) → HasLeft c position bytes mv → HasLeft c position bytes (ms ++ mv)
left_new c position bytes [] mv h = h
left_new c position bytes (x ∷ ms) mv h = let k = left_new c position bytes ms mv h in (k.0, suc k.1, k.2)

among_at : (c position : ℕ) (bytes : List ℕ) (ms mv : List Move) (more : List Channel) (old : Channel) → GrowsAt mv c old (by_id more c) → (i : ℕ) → slice_get old.elements i ≡ Some (record { from = position; msg = bytes }) → IsThere c position bytes (ms ++ mv) more
among_at c position bytes ms mv more old g i is = elim (g.kept i (record { from = position; msg = bytes }) is) [
  | inl left ↦ inl (left_new c position bytes ms mv left)
  | inr found ↦ inr (g.new, found.0, g.there, found.1)
]

-- a value that is there stays there
pub there_more : (c position : ℕ) (bytes : List ℕ) (ms mv : List Move) (chans more : List Channel) → Grows mv chans more → IsThere c position bytes ms chans → IsThere c position bytes (ms ++ mv) more
there_more c position bytes ms mv chans more grows (inl left) = inl (left_more c position bytes ms mv left)
there_more c position bytes ms mv chans more grows (inr (chan, i, at, is)) = among_at c position bytes ms mv more chan (grows.each c chan at) i is

remains_then : (c : ℕ) (mv mw : List Move) (later last : List Element) (e : Element) → ((k : ℕ) → slice_get later k ≡ Some e → Remains mw c last e) → Remains mv c later e → Remains (mv ++ mw) c last e
remains_then c mv mw later last e next (inl left) = inl (left_more c e.from e.msg mv mw left)
remains_then c mv mw later last e next (inr (j, is)) = elim (next j is) [
  | inl left ↦ inl (left_new c e.from e.msg mv mw left)
  | inr found ↦ inr found
]

-- and by more events
pub grows_then : (mv mw : List Move) (chans more last : List Channel) → Grows mv chans more → Grows mw more last → Grows (mv ++ mw) chans last
grows_then mv mw chans more last one two =
    record {
      each = λ c old at.
          let g = one.each c old at in
          let h = two.each c g.new g.there in
          record {
            new = h.new;
            there = h.there;
            sized = h.sized ∙ g.sized;
            kept = λ k e is. remains_then c mv mw g.new.elements h.new.elements e (λ j at. h.kept j e at) (g.kept k e is);
          };
    }
