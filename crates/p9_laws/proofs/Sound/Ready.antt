-- What it says that an entry is ready, and that no entry of an alt is.
use Rattle.std.proofs.Common.{◌≡◌, ℕ, suc, ◌+◌, Bool, true, false, not, cond, ◌&&◌, ◌||◌, eqb, List, [], ◌∷◌, Option, Some, None, refl, ap, sym, subst, ◌∙◌, arith}
use Rattle.std.specs.Prelude.{All, slice_get}
use Rattle.std.specs.List.{list_any, list_all, AllByRecursion}
use Rattle.std.proofs.lemmas.Bool.{and_parts, or_parts, eqb-true}
use Rattle.std.proofs.lemmas.List.Elements.{All-from_recursion}
use Rattle.p9_word.specs.declared.alt.AltOp.{AltOp}
use Rattle.p9_word.specs.declared.alt.AltOp.TheVariants.{Snd, Rcv, Nop}
use Rattle.p9_word.specs.declared.alt.Slot.{Slot}
use Rattle.p9_word.specs.declared.alt.AltEntry.{AltEntry}
use Rattle.p9_manual.specs.declared.state.Channel.{Channel}
use Rattle.p9_manual.specs.declared.state.Party.{Party}
use Rattle.p9_manual.specs.AltEntries.{is_snd, is_rcv, is_nop, sends_to, receives_from}
use Rattle.p9_manual.specs.ReadyEntries.{can_send, can_receive, can_go_on, is_ready, numbers_of, ready_entries, unfreed, goes_with, fits_channel, fits_entry}
use Rattle.p9_manual.specs.State.{by_id}

-- entry k of those that are counted on from i passes
abbrev PassesAt : (AltEntry → Bool) → ℕ → List AltEntry → ℕ → Type 0
PassesAt p i es k = (j : ℕ) × (e : AltEntry) × (k ≡ i + j) × (slice_get es j ≡ Some e) × (p e ≡ true)

later_passes : (p : AltEntry → Bool) (i : ℕ) (e : AltEntry) (es : List AltEntry) (k : ℕ) → PassesAt p (suc i) es k → PassesAt p i (e ∷ es) k
later_passes p i e es k (j, x, at, is, h) = (suc j, x, omega (arith, at), is, h)

every_later : (p : AltEntry → Bool) (i : ℕ) (e : AltEntry) (es : List AltEntry) → (ks : List ℕ) → AllByRecursion (PassesAt p (suc i) es) ks → AllByRecursion (PassesAt p i (e ∷ es)) ks
every_later p i e es [] h = tt
every_later p i e es (k ∷ ks) h = (later_passes p i e es k h.0, every_later p i e es ks h.1)

numbers_step : (p : AltEntry → Bool) (i : ℕ) (b : Bool) (e : AltEntry) (es : List AltEntry) (ks : List ℕ) → p e ≡ b → AllByRecursion (PassesAt p i (e ∷ es)) ks → AllByRecursion (PassesAt p i (e ∷ es)) (cond b (i ∷ ks) ks)
numbers_step p i true e es ks h rest = ((0, e, omega arith, refl, h), rest)
numbers_step p i false e es ks h rest = rest

numbers_pass : (p : AltEntry → Bool) → (i : ℕ) (es : List AltEntry) → AllByRecursion (PassesAt p i es) (numbers_of p i es)
numbers_pass p i [] = tt
numbers_pass p i (e ∷ es) = numbers_step p i (p e) e es (numbers_of p (suc i) es) refl (every_later p i e es (numbers_of p (suc i) es) (numbers_pass p (suc i) es))

-- there is an entry with this number, and it passes
abbrev pub HasPassing : (AltEntry → Bool) → List AltEntry → ℕ → Type 0
HasPassing p es k = (e : AltEntry) × (slice_get es k ≡ Some e) × (p e ≡ true)

from_passes : (p : AltEntry → Bool) (es : List AltEntry) (k : ℕ) → PassesAt p 0 es k → HasPassing p es k
from_passes p es k (j, e, at, is, h) = (e, ap (slice_get es) (same k j at) ∙ is, h)
  where
    same : (k j : ℕ) → k ≡ 0 + j → k ≡ j
    same k j h = omega arith

every_from : (p : AltEntry → Bool) (es : List AltEntry) → (ks : List ℕ) → AllByRecursion (PassesAt p 0 es) ks → AllByRecursion (HasPassing p es) ks
every_from p es [] h = tt
every_from p es (k ∷ ks) h = (from_passes p es k h.0, every_from p es ks h.1)

-- each number of a ready entry is that of a ready entry
pub ready_numbers : (chans : List Channel) (waits : List Party) (es : List AltEntry) → All (HasPassing (is_ready chans waits) es) (ready_entries chans waits es)
ready_numbers chans waits es =
    All-from_recursion (HasPassing (is_ready chans waits) es) (ready_entries chans waits es) (every_from (is_ready chans waits) es (ready_entries chans waits es) (numbers_pass (is_ready chans waits) 0 es))

none_step : (p : AltEntry → Bool) (i : ℕ) (b : Bool) (c : Bool) (ks : List ℕ) → (ks ≡ [] → c ≡ false) → cond b (i ∷ ks) ks ≡ [] → (b || c) ≡ false
none_step p i true c ks h e = cc
none_step p i false c ks h e = h e

-- where there is no number no entry passes
pub no_numbers : (p : AltEntry → Bool) → (i : ℕ) (es : List AltEntry) → numbers_of p i es ≡ [] → list_any p es ≡ false
no_numbers p i [] e = refl
no_numbers p i (x ∷ es) e = none_step p i (p x) (list_any p es) (numbers_of p (suc i) es) (no_numbers p (suc i) es) e

-- the channel is there, and no send goes on, or no receive
abbrev SendWaits : List Channel → List Party → ℕ → Type 0
SendWaits chans waits c = (chan : Channel) × (by_id chans c ≡ Some chan) × (can_send c chan waits ≡ false)

abbrev ReceiveWaits : List Channel → List Party → ℕ → Type 0
ReceiveWaits chans waits c = (chan : Channel) × (by_id chans c ≡ Some chan) × (can_receive c chan waits ≡ false)

there : (slot : Slot) (o : Option Channel) → fits_channel slot (unfreed o) ≡ true → (chan : Channel) × (o ≡ Some chan)
there slot None h = cc
there slot (Some chan) h = (chan, refl)

send_at : (chans : List Channel) (waits : List Party) (c d : ℕ) (err : Bool) (op : AltOp) (slot : Slot) → (not err && (is_snd op && eqb d c)) ≡ true → (goes_with op slot && (is_nop op || (err || fits_channel slot (unfreed (by_id chans d))))) ≡ true → (not err && can_go_on op d (by_id chans d) waits) ≡ false → SendWaits chans waits c
send_at chans waits c d true op slot s f r = cc
send_at chans waits c d false Rcv slot s f r = cc
send_at chans waits c d false Nop slot s f r = cc
send_at chans waits c d false Snd slot s f r =
    let same = eqb-true d c s in
    let here = there slot (by_id chans d) (and_parts (goes_with Snd slot) (fits_channel slot (unfreed (by_id chans d))) f).1 in
    subst (λ (x : ℕ). SendWaits chans waits x) same (here.0, here.1, sym (ap (λ o. can_go_on Snd d o waits) here.1) ∙ r)

receive_at : (chans : List Channel) (waits : List Party) (c d : ℕ) (err : Bool) (op : AltOp) (slot : Slot) → (not err && (is_rcv op && eqb d c)) ≡ true → (goes_with op slot && (is_nop op || (err || fits_channel slot (unfreed (by_id chans d))))) ≡ true → (not err && can_go_on op d (by_id chans d) waits) ≡ false → ReceiveWaits chans waits c
receive_at chans waits c d true op slot s f r = cc
receive_at chans waits c d false Snd slot s f r = cc
receive_at chans waits c d false Nop slot s f r = cc
receive_at chans waits c d false Rcv slot s f r =
    let same = eqb-true d c s in
    let here = there slot (by_id chans d) (and_parts (goes_with Rcv slot) (fits_channel slot (unfreed (by_id chans d))) f).1 in
    subst (λ (x : ℕ). ReceiveWaits chans waits x) same (here.0, here.1, sym (ap (λ o. can_go_on Rcv d o waits) here.1) ∙ r)

any_or : (a b : Bool) (P : Type 0) → (a ≡ true → P) → (b ≡ true → P) → (a || b) ≡ true → P
any_or true b P f g h = f refl
any_or false b P f g h = g h

-- an alt whose entries fit and of which none is ready, on each channel where it sends
pub sends_wait : (chans : List Channel) (waits : List Party) (c : ℕ) → (es : List AltEntry) → list_all (fits_entry chans) es ≡ true → list_any (is_ready chans waits) es ≡ false → list_any (sends_to c) es ≡ true → SendWaits chans waits c
sends_wait chans waits c [] f r s = cc
sends_wait chans waits c (e ∷ es) f r s =
    let fs = and_parts (fits_entry chans e) (list_all (fits_entry chans) es) f in
    let rs = or_parts (is_ready chans waits e) (list_any (is_ready chans waits) es) r in
    any_or (sends_to c e) (list_any (sends_to c) es) (SendWaits chans waits c) (λ h. send_at chans waits c e.chan e.err e.op e.slot h fs.0 rs.0) (λ h. sends_wait chans waits c es fs.1 rs.1 h) s

-- and where it receives
pub receives_wait : (chans : List Channel) (waits : List Party) (c : ℕ) → (es : List AltEntry) → list_all (fits_entry chans) es ≡ true → list_any (is_ready chans waits) es ≡ false → list_any (receives_from c) es ≡ true → ReceiveWaits chans waits c
receives_wait chans waits c [] f r s = cc
receives_wait chans waits c (e ∷ es) f r s =
    let fs = and_parts (fits_entry chans e) (list_all (fits_entry chans) es) f in
    let rs = or_parts (is_ready chans waits e) (list_any (is_ready chans waits) es) r in
    any_or (receives_from c e) (list_any (receives_from c) es) (ReceiveWaits chans waits c) (λ h. receive_at chans waits c e.chan e.err e.op e.slot h fs.0 rs.0) (λ h. receives_wait chans waits c es fs.1 rs.1 h) s
