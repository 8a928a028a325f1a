-- How the lines of a copy's text are taken apart.
use Rattle.std.proofs.Common.{◌≡◌, ◌≢◌, ℕ, ◌<◌, List, [], ◌∷◌, ◌++◌, length, take, drop, sym, ◌∙◌, ap, append_assoc, arith, length-append}
use Rattle.std.specs.Prelude.{codes}
use Rattle.std.specs.List.{AllPass, prefix_len}
use Rattle.std.proofs.lemmas.List.{append_cancel_left, get_or_append_left, get_or-take, take-append-drop}
use Rattle.std.proofs.lemmas.List.Sums.{prefix_len_is, prefix_len_passes}
use Rattle.std.proofs.lemmas.List.Folds.{length-prefix_len}
use Rattle.std.proofs.Math.Seq.{take-append_seam, drop-append_seam, get_or-append_seam}
use Rattle.p9_run.specs.CopyText.{is_path_byte, copy_lines, copy_end, IsCopyText}

abbrev pub front : List ℕ
front = codes "file i in '"

abbrev pub middle : List ℕ
middle = codes "'\nfile o out '"

to_right : (a f m t e : List ℕ) → a ++ f ++ m ++ t ++ e ≡ a ++ (f ++ (m ++ (t ++ e)))
to_right a f m t e = search (append_assoc)

pub apart : (from to : List ℕ) → copy_lines from to ≡ front ++ (from ++ (middle ++ (to ++ copy_end)))
apart from to = to_right front from middle to copy_end

-- a path ends where a quote follows it
path_length : (path more : List ℕ) → AllPass is_path_byte path → prefix_len is_path_byte (path ++ 39 ∷ more) ≡ length path
path_length path more all =
    prefix_len_is is_path_byte (path ++ 39 ∷ more) (length path) 0 (omega (arith, length-append path (39 ∷ more)))
    (λ k l. ap is_path_byte (get_or_append_left path (39 ∷ more) 0 k l) ∙ all k 0 l)
    (λ l. ap is_path_byte (get_or-append_seam path 39 more 0))

-- so the text is split there
path_found : (text path more : List ℕ) → text ≡ path ++ 39 ∷ more → AllPass is_path_byte path → take (prefix_len is_path_byte text) text ≡ path
path_found text path more e all = rw (e, path_length path more all) (take-append_seam path (39 ∷ more))

rest_found : (text path more : List ℕ) → text ≡ path ++ 39 ∷ more → AllPass is_path_byte path → drop (prefix_len is_path_byte text) text ≡ 39 ∷ more
rest_found text path more e all = rw (e, path_length path more all) (drop-append_seam path (39 ∷ more))

passes : (text : List ℕ) → AllPass is_path_byte (take (prefix_len is_path_byte text) text)
passes text k d l =
    let below : k < prefix_len is_path_byte text = omega (arith, l, length-prefix_len is_path_byte text) in
    ap is_path_byte (get_or-take (prefix_len is_path_byte text) text k d below) ∙ prefix_len_passes is_path_byte text k d below

abbrev pub path_of : List ℕ → List ℕ
path_of text = take (prefix_len is_path_byte text) text

abbrev pub rest_of : List ℕ → List ℕ
rest_of text = drop (prefix_len is_path_byte text) text

-- a text with a copy's lines begins with the front
pub has_front : (text : List ℕ) → ((rest : List ℕ) → text ≢ front ++ rest) → (from to : List ℕ) → IsCopyText text from to → ⊥
has_front text none from to h = none _ (h.lines ∙ apart from to)

-- what follows it is the first path, the middle, the second path and the end
after_front : (text r : List ℕ) → text ≡ front ++ r → (from to : List ℕ) → IsCopyText text from to → r ≡ from ++ (middle ++ (to ++ copy_end))
after_front text r e from to h = append_cancel_left front r _ (sym e ∙ h.lines ∙ apart from to)

pub first_path : (text r : List ℕ) → text ≡ front ++ r → (from to : List ℕ) → IsCopyText text from to → (path_of r ≡ from) × (rest_of r ≡ middle ++ (to ++ copy_end))
first_path text r e from to h =
    let parts = after_front text r e from to h in
    (path_found r from _ parts h.from_path.bytes, rest_found r from _ parts h.from_path.bytes)

pub second_path : (text r s : List ℕ) → text ≡ front ++ r → rest_of r ≡ middle ++ s → (from to : List ℕ) → IsCopyText text from to → (path_of s ≡ to) × (rest_of s ≡ copy_end)
second_path text r s e f from to h =
    let parts = append_cancel_left middle s (to ++ copy_end) (sym f ∙ (first_path text r e from to h).1) in
    (path_found s to _ parts h.to_path.bytes, rest_found s to _ parts h.to_path.bytes)

split_again : (text path rest : List ℕ) → path ≡ path_of text → rest ≡ rest_of text → text ≡ path ++ rest
split_again text path rest e f = rw (e, f) (sym (take-append-drop (prefix_len is_path_byte text) text))

all_pass : (text path : List ℕ) → path ≡ path_of text → AllPass is_path_byte path
all_pass text path e = rw e (passes text)

-- the parts that were found make the lines
pub put_together : (text r s p q t u : List ℕ) → text ≡ front ++ r → p ≡ path_of r → t ≡ rest_of r → t ≡ middle ++ s → q ≡ path_of s → u ≡ rest_of s → u ≡ copy_end → p ≢ [] → q ≢ [] → p ≢ q → IsCopyText text p q
put_together text r s p q t u whole first after_first middle_found second after_second end_found some other differ =
    let two : s ≡ q ++ copy_end = split_again s q u second after_second ∙ ap (λ z. q ++ z) end_found in
    let one : r ≡ p ++ (middle ++ s) = split_again r p t first after_first ∙ ap (λ z. p ++ z) middle_found in
    record {
      lines = whole ∙ ap (λ z. front ++ z) (one ∙ ap (λ z. p ++ (middle ++ z)) two) ∙ sym (apart p q);
      from_path = record { some = some; bytes = all_pass r p first };
      to_path = record { some = other; bytes = all_pass s q second };
      differ = differ;
    }

-- and the parts of a text with a copy's lines are such parts
pub taken_apart : (text r s p q t u : List ℕ) → text ≡ front ++ r → p ≡ path_of r → t ≡ rest_of r → t ≡ middle ++ s → q ≡ path_of s → u ≡ rest_of s → (from to : List ℕ) → IsCopyText text from to → (u ≡ copy_end) × (p ≢ []) × (q ≢ []) × (p ≢ q)
taken_apart text r s p q t u whole first after_first middle_found second after_second from to h =
    let one = first_path text r whole from to h in
    let two = second_path text r s whole (sym after_first ∙ middle_found) from to h in
    let p_is : p ≡ from = first ∙ one.0 in
    let q_is : q ≡ to = second ∙ two.0 in
    (after_second ∙ two.1, λ e. h.from_path.some (sym p_is ∙ e), λ e. h.to_path.some (sym q_is ∙ e), λ e. h.differ (sym p_is ∙ e ∙ q_is))
