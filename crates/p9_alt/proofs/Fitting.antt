-- Entries that fit are usable.
use Rattle.std.proofs.Common.{◌≡◌, ℕ, zero, suc, ◌-◌, ◌<◌, All, Bool, true, false, not, List, [], ◌∷◌, length, refl, sym, ap, ◌∙◌, arith}
use Rattle.std.proofs.lemmas.Bool.{and_parts}
use Rattle.std.proofs.lemmas.List.Elements.{All-nil, All-cons, All-get_or}
use Rattle.std.proofs.lemmas.Option.{slice_get_within, get_or_from_slice_get}
use Rattle.std.specs.Prelude.{Option, Some, None, IfSome, ◌||◌, ◌&&◌, slice_get, nat_le, if◌then◌else◌}
use Rattle.std.specs.List.{list_all}
use Rattle.p9_word.specs.declared.alt.AltEntry.{AltEntry}
use Rattle.p9_word.specs.declared.alt.AltOp.{AltOp}
use Rattle.p9_word.specs.declared.alt.AltOp.TheVariants.{Snd, Rcv, Nop}
use Rattle.p9_word.specs.declared.alt.Slot.{Slot}
use Rattle.p9_word.specs.declared.limits.TheConstants.{MOST_ENTRIES}
use Rattle.p9_manual.specs.declared.state.Channel.{Channel}
use Rattle.p9_manual.specs.declared.state.Party.{Party}
use Rattle.p9_manual.specs.AltEntries.{is_nop}
use Rattle.p9_manual.specs.ReadyEntries.{fits, fits_entry, fits_channel, goes_with, unfreed, can_go_on, is_ready}
use Rattle.p9_manual.specs.State.{by_id}
use Rattle.p9_chan.specs.Channels.{Channels, IsMade, chan_of, is_live_in}
use Rattle.p9_alt.specs.Passing.{IsUsable}
use Rattle.p9_alt.proofs.Changes.{by_id_at}

-- what stands at an index has what all have
pub at_index : {A : Type 0} (P : A → Type 0) (xs : List A) (i : ℕ) (x : A) → slice_get xs i ≡ Some x → All P xs → P x
at_index P xs i x at all =
    let lt = slice_get_within xs i x at in
    let same = get_or_from_slice_get xs i x x at in
    rw same at (All-get_or P xs i x lt all)

live_by : (slot : Slot) (b : Bool) (chan : Channel) → fits_channel slot (if b then None else Some chan) ≡ true → (if b then false else true) ≡ true
live_by slot true chan e = cc
live_by slot false chan e = refl

live_from : (slot : Slot) (o : Option Channel) → fits_channel slot (unfreed o) ≡ true → is_live_in o ≡ true
live_from slot None e = cc
live_from slot (Some chan) e = live_by slot chan.freed chan e

made_by : (x : Channels) (i : ℕ) (o : Option Channel) → slice_get x.chans i ≡ o → is_live_in o ≡ true → i < length x.chans
made_by x i None at e = cc
made_by x i (Some chan) at e = slice_get_within x.chans i chan at

-- a live channel was made
pub made_from_live : (x : Channels) (c : ℕ) → is_live_in (chan_of c x) ≡ true → IsMade c x
made_from_live x zero e = cc
made_from_live x (suc i) e =
    let same : suc i - 1 ≡ i = omega arith in
    let at = by_id_at x.chans (suc i) (omega arith) in
    let h = made_by x (suc i - 1) (slice_get x.chans (suc i - 1)) refl (ap is_live_in (sym at) ∙ e) in
    record { from = omega arith; to = omega arith }

by_use : (a b d : Bool) → (a || (b || d)) ≡ true → (a || b) ≡ false → d ≡ true
by_use true b d e off = cc
by_use false true d e off = cc
by_use false false d e off = e

-- an entry in use that fits names a live channel
pub live_entry : (x : Channels) (e : AltEntry) → fits_entry x.chans e ≡ true → (is_nop e.op || e.err) ≡ false → is_live_in (chan_of e.chan x) ≡ true
live_entry x e ok used =
    let parts = and_parts (goes_with e.op e.slot) (is_nop e.op || (e.err || fits_channel e.slot (unfreed (by_id x.chans e.chan)))) ok in
    live_from e.slot (chan_of e.chan x) (by_use (is_nop e.op) e.err (fits_channel e.slot (unfreed (by_id x.chans e.chan))) parts.1 used)

usable_entry : (x : Channels) (e : AltEntry) → fits_entry x.chans e ≡ true → IsUsable x e
usable_entry x e ok = λ used. made_from_live x e.chan (live_entry x e ok used)

all_by : (P : AltEntry → Type 0) (p : AltEntry → Bool) → ((e : AltEntry) → p e ≡ true → P e) → (es : List AltEntry) → list_all p es ≡ true → All P es
all_by P p k [] ok = All-nil P
all_by P p k (e ∷ es) ok =
    let parts = and_parts (p e) (list_all p es) ok in
    All-cons P e es (k e parts.0) (all_by P p k es parts.1)

-- all that fit are usable
pub all_usable : (x : Channels) (es : List AltEntry) → fits x.chans es ≡ true → All (IsUsable x) es
all_usable x es ok =
    let parts = and_parts (nat_le (length es) MOST_ENTRIES) (list_all (fits_entry x.chans) es) ok in
    all_by (IsUsable x) (fits_entry x.chans) (usable_entry x) es parts.1

fits_itself : (chans : List Channel) (e : AltEntry) → fits_entry chans e ≡ true → fits_entry chans e ≡ true
fits_itself chans e h = h

pub one_fits : (x : Channels) (es : List AltEntry) (i : ℕ) (e : AltEntry) → fits x.chans es ≡ true → slice_get es i ≡ Some e → fits_entry x.chans e ≡ true
one_fits x es i e ok at =
    let parts = and_parts (nat_le (length es) MOST_ENTRIES) (list_all (fits_entry x.chans) es) ok in
    at_index (λ (e : AltEntry). fits_entry x.chans e ≡ true) es i e at (all_by (λ (e : AltEntry). fits_entry x.chans e ≡ true) (fits_entry x.chans) (fits_itself x.chans) es parts.1)

used_by : (op : AltOp) (err : Bool) (c : ℕ) (o : Option Channel) (waits : List Party) → (not err && can_go_on op c o waits) ≡ true → (is_nop op || err) ≡ false
used_by op true c o waits e = cc
used_by Snd false c o waits e = refl
used_by Rcv false c o waits e = refl
used_by Nop false c None waits e = cc
used_by Nop false c (Some chan) waits e = cc

-- an entry that is ready is in use
pub ready_used : (chans : List Channel) (waits : List Party) (e : AltEntry) → is_ready chans waits e ≡ true → (is_nop e.op || e.err) ≡ false
ready_used chans waits e on = used_by e.op e.err e.chan (by_id chans e.chan) waits on

-- a fact of what stands at an index
some_is : {A : Type 0} (P : A → Type 0) (o : Option A) (x : A) → o ≡ Some x → IfSome o P → P x
some_is P None x e h = cc
some_is P (Some y) x e h = let same : y ≡ x = cc in rw (← same) h

pub read_is : {A : Type 0} (P : A → Type 0) (es read : List A) (i : ℕ) (x : A) → read ≡ es → slice_get es i ≡ Some x → IfSome (slice_get read i) P → P x
read_is P es read i x same at h = some_is P (slice_get read i) x (ap (λ (xs : List _). slice_get xs i) same ∙ at) h
