-- What the text of a path is, where its source was read.
use Rattle.std.specs.Prelude.{ℕ, ◌≡◌, ◌+◌, ◌≤◌, ◌⊎◌, List, [], ◌++◌, length, take, Option, Some, None}
use Rattle.std.proofs.Common.{sym, ◌∙◌, ap, append-nil, inl, inr}
use Rattle.std.proofs.lemmas.List.{take_all}
use Rattle.std.proofs.Math.Seq.{take-append_seam}
use Rattle.std.specs.Io.KnownBytes.{Consumes, IsAtEnd}
use Rattle.p9_word.specs.declared.limits.TheConstants.{MOST_TEXT_BYTES}
use Rattle.p9_outside.specs.Contents.{Told, Opens}
use Rattle.p9_run.specs.FileText.{IsReadFrom}

-- all of a text, or its first bytes
all_of : (n : ℕ) (text bytes rest : List ℕ) → text ≡ bytes ++ rest → rest ≡ [] → length bytes ≤ n → bytes ≡ take n text
all_of n text bytes rest is none short =
    let whole : text ≡ bytes = is ∙ ap (λ r. bytes ++ r) none ∙ append-nil bytes in
    rw whole (sym (take_all n bytes short))

first_of : (n : ℕ) (text bytes rest : List ℕ) → text ≡ bytes ++ rest → length bytes ≡ n → bytes ≡ take n text
first_of n text bytes rest is len =
    sym (take-append_seam bytes rest) ∙ ap (λ m. take m (bytes ++ rest)) len ∙ ap (λ t. take n t) (sym is)

front_of : (n : ℕ) (text bytes rest : List ℕ) → text ≡ bytes ++ rest → (length bytes ≡ n) ⊎ (rest ≡ []) → length bytes ≤ n → bytes ≡ take n text
front_of n text bytes rest is (inl len) short = first_of n text bytes rest is len
front_of n text bytes rest is (inr none) short = all_of n text bytes rest is none short

-- a path whose source was read to its end, or to one byte past the longest text
pub was_read : (told : Told) (path : List ℕ) (left now : Option (List ℕ)) (bytes : List ℕ) → Opens told path left → Consumes left now bytes → (length bytes ≡ MOST_TEXT_BYTES + 1) ⊎ IsAtEnd now → length bytes ≤ MOST_TEXT_BYTES + 1 → IsReadFrom told path bytes
was_read None path None now bytes opens takes ends short = record { text = bytes; has = tt; read = sym (take_all (MOST_TEXT_BYTES + 1) bytes short) }
was_read None path (Some text) None bytes opens takes ends short = absurd takes
was_read None path (Some text) (Some rest) bytes opens takes ends short = record { text = text; has = tt; read = front_of (MOST_TEXT_BYTES + 1) text bytes rest takes ends short }
was_read (Some f) path None now bytes opens takes ends short = absurd opens
was_read (Some f) path (Some text) None bytes opens takes ends short = absurd takes
was_read (Some f) path (Some text) (Some rest) bytes opens takes ends short = record { text = text; has = opens; read = front_of (MOST_TEXT_BYTES + 1) text bytes rest takes ends short }
