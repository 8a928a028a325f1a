-- Which call of a history asked for an alt, and sent a value: the history may go on.
use Rattle.std.proofs.Common.{◌≡◌, ℕ, zero, suc, List, [], ◌∷◌, ◌++◌, Option, Some}
use Rattle.std.specs.Prelude.{slice_get}
use Rattle.p9_word.specs.declared.alt.AltEntry.{AltEntry}
use Rattle.p9_word.specs.declared.trail.Entry.{Entry}
use Rattle.p9_word.specs.declared.trail.Reply.TheVariants.{Waits}
use Rattle.p9_laws.specs.Senders.{entries_asked, IsSendOf, SendsBytes}

pub slice_get-longer : {A : Type 0} (ys : List A) (y : A) → (xs : List A) (i : ℕ) → slice_get xs i ≡ Some y → slice_get (xs ++ ys) i ≡ Some y
slice_get-longer ys y [] i e = cc
slice_get-longer ys y (x ∷ xs) zero e = e
slice_get-longer ys y (x ∷ xs) (suc i) e = slice_get-longer ys y xs i e

-- an entry of a history asks for an alt with these entries, and is answered later
pub record Asks (entries : List AltEntry) (found : Option Entry) : Type 0 where
  pub call : Entry
  pub is_there : found ≡ Some call
  pub waits : call.reply ≡ Waits
  pub has : entries_asked call.event ≡ entries

pub asks_later : (entries : List AltEntry) (H more : List Entry) (at : ℕ) → Asks entries (slice_get H at) → Asks entries (slice_get (H ++ more) at)
asks_later entries H more at a = record { call = a.call; is_there = slice_get-longer more a.call H at a.is_there; waits = a.waits; has = a.has }

pub sent_later : (c elsize : ℕ) (bytes : List ℕ) (H more : List Entry) (at : ℕ) → IsSendOf c elsize bytes (slice_get H at) → IsSendOf c elsize bytes (slice_get (H ++ more) at)
sent_later c elsize bytes H more at (number, s) = (
  number,
  record {
    call = s.call;
    entry = s.entry;
    is_there = slice_get-longer more s.call H at s.is_there;
    waits = s.waits;
    is_entry = s.is_entry;
    sends = s.sends;
  },
)

-- the call that asks for an alt sends what one of its entries does
pub sent_from : (c elsize : ℕ) (bytes : List ℕ) (entries : List AltEntry) (found : Option Entry) (number : ℕ) (e : AltEntry) → Asks entries found → slice_get entries number ≡ Some e → SendsBytes c elsize bytes e → IsSendOf c elsize bytes found
sent_from c elsize bytes entries found number e a there sends =
    (number, record { call = a.call; entry = e; is_there = a.is_there; waits = a.waits; is_entry = rw (a.has) there; sends = sends })
