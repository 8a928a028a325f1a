-- What the scanner reads is what the line spells.
use Rattle.std.proofs.Common.{◌≡◌, ◌≢◌, ◌↔◌, ℕ, ◌==◌, ◌&&◌, Bool, true, false, not, ◌⊎◌, inl, inr, List, [], ◌∷◌, ◌++◌, Option, Some, None, Result, Ok, Err, refl, sym, ap, subst, ◌∙◌, append_assoc}
use Rattle.std.specs.Prelude.{IfOk}
use Rattle.std.specs.List.{list_all, AllByRecursion}
use Rattle.std.proofs.lemmas.Bool.{eqb-true}
use Rattle.std.proofs.lemmas.List.{append-nil}
use Rattle.p9_word.specs.declared.words.Word.{Word}
use Rattle.p9_word.specs.declared.words.WordsFault.{WordsFault}
use Rattle.p9_word.specs.declared.scanner.Mode.{Mode}
use Rattle.p9_word.specs.declared.scanner.Mode.TheVariants.{Between, Plain, Quoted, Closed}
use Rattle.p9_word.specs.Words.{IsLine, IsUnspelled, IsEnd, IsPlain, IsSpelled, StandsAs, CanStand, spelled_as, spelled, joined, is_blank, is_visible, doubled, quote}
use Rattle.p9_word.specs.Scan.{Scan, scan, words_of, Gives}

truth : (b : Bool) → (b ≡ true) ⊎ (b ≡ false)
truth true = inl refl
truth false = inr refl

abbrev at : List Word → Mode → List ℕ → Scan
at words mode cur = record { words = words; mode = mode; current = cur }

abbrev word : List ℕ → Bool → Word
word bytes quoted = record { bytes = bytes; quoted = quoted }

-- how a line goes on, where a word that isn't quoted has begun with cur
record PlainRest (cur line : List ℕ) (ws : List Word) : Type 0 where
  more : List ℕ
  rest : List ℕ
  others : List Word
  parts : line ≡ more ++ rest
  visible : list_all is_visible more ≡ true
  ended : IsEnd rest
  is_rest : IsLine others rest
  words : ws ≡ word (cur ++ more) false ∷ others

-- the same, where the word is quoted
record QuotedRest (cur line : List ℕ) (ws : List Word) : Type 0 where
  more : List ℕ
  rest : List ℕ
  others : List Word
  parts : line ≡ doubled more ++ 39 ∷ rest
  ended : IsEnd rest
  is_rest : IsLine others rest
  words : ws ≡ word (cur ++ more) true ∷ others

abbrev Reads : Mode → List ℕ → List ℕ → List Word → Type 0
Reads Between cur line ws = IsLine ws line
Reads Plain cur line ws = PlainRest cur line ws
Reads Quoted cur line ws = QuotedRest cur line ws
Reads Closed cur line ws = QuotedRest cur (39 ∷ line) ws

abbrev Fine : Mode → List ℕ → Type 0
Fine Between cur = cur ≡ []
Fine Plain cur = Unit {0}
Fine Quoted cur = Unit {0}
Fine Closed cur = Unit {0}

-- ---- blanks in front

visible_not_blank : (b : Bool) → b ≡ true → not b ≡ true → ⊥
visible_not_blank true h k = cc
visible_not_blank false h k = cc

front_blank : (ws : List Word) (b : ℕ) (bs : List ℕ) → is_blank b ≡ true → IsLine ws bs → IsLine ws (b ∷ bs)
front_blank [] b bs h l = rw h l
front_blank (w ∷ ws) b bs h l = record {
  gap = b ∷ l.gap;
  text = l.text;
  rest = l.rest;
  parts = ap (λ (x : List ℕ). b ∷ x) l.parts;
  blank = rw h l.blank;
  spelled = l.spelled;
  ended = l.ended;
  others = l.others;
}

both : (a b : Bool) → (a && b) ≡ true → (a ≡ true) × (b ≡ true)
both true b h = (refl, h)
both false b h = absurd cc

-- a word doesn't begin with a blank, and isn't empty
no_blank_word : (quoted : Bool) (bytes text rest : List ℕ) (b : ℕ) (bs : List ℕ) → is_blank b ≡ true → IsSpelled quoted bytes text → b ∷ bs ≡ text ++ rest → ⊥
no_blank_word true bytes text rest b bs h s e =
    let f : b ∷ bs ≡ 39 ∷ ((doubled bytes ++ 39 ∷ []) ++ rest) = rw s at e in
    let g : b ≡ 39 = cc in
    let k : is_blank 39 ≡ true = rw g at h in
    cc
no_blank_word false [] text rest b bs h s e = s.1
no_blank_word false (c ∷ cs) text rest b bs h s e =
    let f : b ∷ bs ≡ c ∷ (cs ++ rest) = rw s.0 at e in
    let g : c ≡ b = cc in
    let v : is_visible c ≡ true = (both _ _ s.1.1).0 in
    visible_not_blank (is_blank b) h (subst (λ x. is_visible x ≡ true) g v)

no_empty_word : (quoted : Bool) (bytes text rest : List ℕ) → IsSpelled quoted bytes text → [] ≡ text ++ rest → ⊥
no_empty_word true bytes text rest s e = let f : [] ≡ 39 ∷ ((doubled bytes ++ 39 ∷ []) ++ rest) = rw s at e in cc
no_empty_word false [] text rest s e = s.1
no_empty_word false (c ∷ cs) text rest s e = let f : [] ≡ c ∷ (cs ++ rest) = rw s.0 at e in cc

after_gap : (w : Word) (ws : List Word) (gap text rest : List ℕ) (b : ℕ) (bs : List ℕ) → is_blank b ≡ true → b ∷ bs ≡ gap ++ (text ++ rest) → list_all is_blank gap ≡ true → IsSpelled w.quoted w.bytes text → IsEnd rest → IsLine ws rest → IsLine (w ∷ ws) bs
after_gap w ws [] text rest b bs h e g s d o = absurd (no_blank_word w.quoted w.bytes text rest b bs h s e)
after_gap w ws (c ∷ gap) text rest b bs h e g s d o = record { gap = gap; text = text; rest = rest; parts = cc; blank = (both _ _ g).1; spelled = s; ended = d; others = o }

behind_blank : (ws : List Word) (b : ℕ) (bs : List ℕ) → is_blank b ≡ true → IsLine ws (b ∷ bs) → IsLine ws bs
behind_blank [] b bs h l = (both _ _ l).1
behind_blank (w ∷ ws) b bs h l = after_gap w ws l.gap l.text l.rest b bs h l.parts l.blank l.spelled l.ended l.others

no_words_gap : (gap more : List ℕ) → [] ≡ gap ++ more → [] ≡ more
no_words_gap [] more e = e
no_words_gap (g ∷ gap) more e = absurd cc

no_words : (ws : List Word) → IsLine ws [] → ws ≡ []
no_words [] l = refl
no_words (w ∷ ws) l = absurd (no_empty_word w.quoted w.bytes l.text l.rest l.spelled (no_words_gap l.gap (l.text ++ l.rest) l.parts))

-- ---- what is read is spelled

-- one step of the scanner, by what the byte is
abbrev Gets : Mode → List Word → List ℕ → List ℕ → List Word → Type 0
Gets mode front cur line out = scan (at front mode cur) line ≡ Some out

record Found (mode : Mode) (front : List Word) (cur line : List ℕ) (out : List Word) : Type 0 where
  ws : List Word
  joined : out ≡ front ++ ws
  reads : Reads mode cur line ws

between_plain : (front out : List Word) (b : ℕ) (bs : List ℕ) → is_blank b ≡ false → b ≢ 39 → Found Plain front (b ∷ []) bs out → Found Between front [] (b ∷ bs) out
between_plain front out b bs h q f =
    let r = f.reads in
    record {
      ws = f.ws;
      joined = f.joined;
      reads = rw r.words (record {
        gap = [];
        text = b ∷ r.more;
        rest = r.rest;
        parts = ap (λ (x : List ℕ). b ∷ x) r.parts;
        blank = refl;
        spelled = (refl, (q, rw h r.visible));
        ended = r.ended;
        others = r.is_rest;
      });
    }

between_quoted : (front out : List Word) (bs : List ℕ) → Found Quoted front [] bs out → Found Between front [] (39 ∷ bs) out
between_quoted front out bs f =
    let r = f.reads in
    record {
      ws = f.ws;
      joined = f.joined;
      reads = rw r.words (record {
        gap = [];
        text = quote r.more;
        rest = r.rest;
        parts = ap (λ (x : List ℕ). 39 ∷ x) (r.parts ∙ sym (append_assoc (doubled r.more) (39 ∷ []) r.rest));
        blank = refl;
        spelled = refl;
        ended = r.ended;
        others = r.is_rest;
      });
    }

between_blank : (front out : List Word) (b : ℕ) (bs : List ℕ) → is_blank b ≡ true → Found Between front [] bs out → Found Between front [] (b ∷ bs) out
between_blank front out b bs h f = record { ws = f.ws; joined = f.joined; reads = front_blank f.ws b bs h f.reads }

plain_ends : (front out : List Word) (cur : List ℕ) (b : ℕ) (bs : List ℕ) → is_blank b ≡ true → Found Between (front ++ word cur false ∷ []) [] bs out → Found Plain front cur (b ∷ bs) out
plain_ends front out cur b bs h f = record {
  ws = word cur false ∷ f.ws;
  joined = f.joined ∙ append_assoc front (word cur false ∷ []) f.ws;
  reads = record { more = []; rest = b ∷ bs; others = f.ws; parts = refl; visible = refl; ended = h; is_rest = front_blank f.ws b bs h f.reads; words = rw (append-nil cur) refl };
}

plain_more : (front out : List Word) (cur : List ℕ) (b : ℕ) (bs : List ℕ) → is_blank b ≡ false → Found Plain front (cur ++ b ∷ []) bs out → Found Plain front cur (b ∷ bs) out
plain_more front out cur b bs h f =
    let r = f.reads in
    record {
      ws = f.ws;
      joined = f.joined;
      reads = record {
        more = b ∷ r.more;
        rest = r.rest;
        others = r.others;
        parts = ap (λ (x : List ℕ). b ∷ x) r.parts;
        visible = rw h r.visible;
        ended = r.ended;
        is_rest = r.is_rest;
        words = r.words ∙ ap (λ (x : List ℕ). word x false ∷ r.others) (append_assoc cur (b ∷ []) r.more);
      };
    }

quoted_more : (front out : List Word) (cur : List ℕ) (b : ℕ) (bs : List ℕ) → (b == 39) ≡ false → Found Quoted front (cur ++ b ∷ []) bs out → Found Quoted front cur (b ∷ bs) out
quoted_more front out cur b bs h f =
    let r = f.reads in
    record {
      ws = f.ws;
      joined = f.joined;
      reads = record {
        more = b ∷ r.more;
        rest = r.rest;
        others = r.others;
        parts = rw h (ap (λ (x : List ℕ). b ∷ x) r.parts);
        ended = r.ended;
        is_rest = r.is_rest;
        words = r.words ∙ ap (λ (x : List ℕ). word x true ∷ r.others) (append_assoc cur (b ∷ []) r.more);
      };
    }

closed_more : (front out : List Word) (cur bs : List ℕ) → Found Quoted front (cur ++ 39 ∷ []) bs out → Found Closed front cur (39 ∷ bs) out
closed_more front out cur bs f =
    let r = f.reads in
    record {
      ws = f.ws;
      joined = f.joined;
      reads = record {
        more = 39 ∷ r.more;
        rest = r.rest;
        others = r.others;
        parts = ap (λ (x : List ℕ). 39 ∷ 39 ∷ x) r.parts;
        ended = r.ended;
        is_rest = r.is_rest;
        words = r.words ∙ ap (λ (x : List ℕ). word x true ∷ r.others) (append_assoc cur (39 ∷ []) r.more);
      };
    }

closed_ends : (front out : List Word) (cur : List ℕ) (b : ℕ) (bs : List ℕ) → is_blank b ≡ true → Found Between (front ++ word cur true ∷ []) [] bs out → Found Closed front cur (b ∷ bs) out
closed_ends front out cur b bs h f = record {
  ws = word cur true ∷ f.ws;
  joined = f.joined ∙ append_assoc front (word cur true ∷ []) f.ws;
  reads = record { more = []; rest = b ∷ bs; others = f.ws; parts = refl; ended = h; is_rest = front_blank f.ws b bs h f.reads; words = rw (append-nil cur) refl };
}

some_is : {A : Type 0} (x y : A) → Some x ≡ Some y → x ≡ y
some_is x y e = cc

not_quote : (b : ℕ) → (b == 39) ≡ false → b ≢ 39
not_quote b h e = let f : (39 == 39) ≡ false = rw e at h in cc

sound : (line : List ℕ) (mode : Mode) (front : List Word) (cur : List ℕ) (out : List Word) → Fine mode cur → Gets mode front cur line out → Found mode front cur line out
sound [] Between front cur out fine e = record { ws = []; joined = sym (some_is _ _ e) ∙ sym (append-nil front); reads = refl }
sound [] Plain front cur out fine e = record {
  ws = word cur false ∷ [];
  joined = sym (some_is _ _ e);
  reads = record { more = []; rest = []; others = []; parts = refl; visible = refl; ended = tt; is_rest = refl; words = rw (append-nil cur) refl };
}
sound [] Quoted front cur out fine e = absurd cc
sound [] Closed front cur out fine e = record {
  ws = word cur true ∷ [];
  joined = sym (some_is _ _ e);
  reads = record { more = []; rest = []; others = []; parts = refl; ended = tt; is_rest = refl; words = rw (append-nil cur) refl };
}
sound (b ∷ bs) Between front cur out fine e =
    let f : Gets Between front [] (b ∷ bs) out = rw fine at e in
    rw fine (elim (truth (is_blank b)) [
      | inl h ↦ between_blank front out b bs h (sound bs Between front [] out refl (rw h at f))
      | inr h ↦ elim (truth (b == 39)) [
        | inl q ↦ let k = rw (h, q) at f in rw (eqb-true b 39 q) (between_quoted front out bs (sound bs Quoted front [] out tt k))
        | inr q ↦ let k = rw (h, q) at f in between_plain front out b bs h (not_quote b q) (sound bs Plain front (b ∷ []) out tt k)
      ]
    ])
sound (b ∷ bs) Plain front cur out fine e =
    elim (truth (is_blank b)) [
      | inl h ↦ plain_ends front out cur b bs h (sound bs Between (front ++ word cur false ∷ []) [] out refl (rw h at e))
      | inr h ↦ plain_more front out cur b bs h (sound bs Plain front (cur ++ b ∷ []) out tt (rw h at e))
    ]
sound (b ∷ bs) Quoted front cur out fine e =
    elim (truth (b == 39)) [
      | inl q ↦ let k = sound bs Closed front cur out tt (rw q at e) in rw (eqb-true b 39 q) (record { ws = k.ws; joined = k.joined; reads = k.reads })
      | inr q ↦ quoted_more front out cur b bs q (sound bs Quoted front (cur ++ b ∷ []) out tt (rw q at e))
    ]
sound (b ∷ bs) Closed front cur out fine e =
    elim (truth (b == 39)) [
      | inl q ↦ let k = sound bs Quoted front (cur ++ b ∷ []) out tt (rw q at e) in let n = eqb-true b 39 q in let m = rw n at k in rw n (closed_more front out cur bs m)
      | inr q ↦ elim (truth (is_blank b)) [
        | inl h ↦ let k = rw (q, h) at e in closed_ends front out cur b bs h (sound bs Between (front ++ word cur true ∷ []) [] out refl k)
        | inr h ↦ let k = rw (q, h) at e in absurd (cc k)
      ]
    ]

pub words_spell : (line : List ℕ) (ws : List Word) → words_of line ≡ Some ws → IsLine ws line
words_spell line ws e =
    let f = sound line Between [] [] ws refl e in
    rw f.joined f.reads

pub found : (line : List ℕ) (r : Result (List Word) WordsFault) → Gives (λ ws. ws) r (words_of line) → IfOk r (λ ws. IsLine ws line)
found line (Ok ws) g = words_spell line ws g
found line (Err fault) g = tt

-- ---- what is spelled is read

-- what the rest of the line gives, whatever was before
record Goes (bs : List ℕ) : Type 0 where
  go : (mode : Mode) (front : List Word) (cur : List ℕ) (ws : List Word) → Fine mode cur → Reads mode cur bs ws → Gets mode front cur bs (front ++ ws)

push_words : (front : List Word) (w : Word) (ws : List Word) (s : Scan) (bs : List ℕ) → scan s bs ≡ Some ((front ++ w ∷ []) ++ ws) → scan s bs ≡ Some (front ++ w ∷ ws)
push_words front w ws s bs e = e ∙ ap Some (append_assoc front (w ∷ []) ws)

visible_is : (c : ℕ) (cs : List ℕ) → list_all is_visible (c ∷ cs) ≡ true → is_blank c ≡ false
visible_is c cs v = elim (truth (is_blank c)) [ inl h ↦ absurd (visible_not_blank (is_blank c) h (both _ _ v).0) | inr h ↦ h ]

is_not : (b : ℕ) → b ≢ 39 → (b == 39) ≡ false
is_not b n = elim (truth (b == 39)) [ inl q ↦ absurd (n (eqb-true b 39 q)) | inr q ↦ q ]

blank_not_quote : (b : ℕ) → is_blank b ≡ true → (b == 39) ≡ false
blank_not_quote b h = is_not b (λ e. let f : is_blank 39 ≡ true = rw e at h in cc)

-- a word begins
begin_plain : (front ws : List Word) (bytes text rest : List ℕ) (b : ℕ) (bs : List ℕ) → Goes bs → (text ≡ bytes) → IsPlain bytes → IsEnd rest → IsLine ws rest → b ∷ bs ≡ text ++ rest → Gets Between front [] (b ∷ bs) (front ++ word bytes false ∷ ws)
begin_plain front ws [] text rest b bs g s p d o e = absurd p
begin_plain front ws (c ∷ cs) text rest b bs g s p d o e =
    let f : b ∷ bs ≡ c ∷ (cs ++ rest) = rw s at e in
    let b_is : b ≡ c = cc in
    let bs_is : bs ≡ cs ++ rest = cc in
    let h : is_blank b ≡ false = rw b_is (visible_is c cs p.1) in
    let q : (b == 39) ≡ false = rw b_is (is_not c p.0) in
    rw (h, q) (rw (← b_is) (g.go Plain front (b ∷ []) (word (b ∷ cs) false ∷ ws) tt (record {
      more = cs;
      rest = rest;
      others = ws;
      parts = bs_is;
      visible = (both _ _ p.1).1;
      ended = d;
      is_rest = o;
      words = refl;
    })))

begin_quoted : (front ws : List Word) (bytes text rest : List ℕ) (b : ℕ) (bs : List ℕ) → Goes bs → text ≡ quote bytes → IsEnd rest → IsLine ws rest → b ∷ bs ≡ text ++ rest → Gets Between front [] (b ∷ bs) (front ++ word bytes true ∷ ws)
begin_quoted front ws bytes text rest b bs g s d o e =
    let f : b ∷ bs ≡ 39 ∷ ((doubled bytes ++ 39 ∷ []) ++ rest) = rw s at e in
    let b_is : b ≡ 39 = cc in
    let bs_is : bs ≡ (doubled bytes ++ 39 ∷ []) ++ rest = cc in
    rw b_is (g.go Quoted front [] (word bytes true ∷ ws) tt (record {
      more = bytes;
      rest = rest;
      others = ws;
      parts = bs_is ∙ append_assoc (doubled bytes) (39 ∷ []) rest;
      ended = d;
      is_rest = o;
      words = refl;
    }))

begin_word : (front ws : List Word) (quoted : Bool) (bytes text rest : List ℕ) (b : ℕ) (bs : List ℕ) → Goes bs → IsSpelled quoted bytes text → IsEnd rest → IsLine ws rest → b ∷ bs ≡ text ++ rest → Gets Between front [] (b ∷ bs) (front ++ word bytes quoted ∷ ws)
begin_word front ws true bytes text rest b bs g s d o e = begin_quoted front ws bytes text rest b bs g s d o e
begin_word front ws false bytes text rest b bs g s d o e = begin_plain front ws bytes text rest b bs g s.0 s.1 d o e

begin_gap : (front ws : List Word) (w : Word) (gap text rest : List ℕ) (b : ℕ) (bs : List ℕ) → Goes bs → list_all is_blank gap ≡ true → IsSpelled w.quoted w.bytes text → IsEnd rest → IsLine ws rest → b ∷ bs ≡ gap ++ (text ++ rest) → Gets Between front [] (b ∷ bs) (front ++ w ∷ ws)
begin_gap front ws w [] text rest b bs g k s d o e = begin_word front ws w.quoted w.bytes text rest b bs g s d o e
begin_gap front ws w (c ∷ gap) text rest b bs g k s d o e =
    let b_is : b ≡ c = cc in
    let bs_is : bs ≡ gap ++ (text ++ rest) = cc in
    let h : is_blank b ≡ true = rw b_is (both _ _ k).0 in
    rw h (g.go Between front [] (w ∷ ws) refl (record { gap = gap; text = text; rest = rest; parts = bs_is; blank = (both _ _ k).1; spelled = s; ended = d; others = o }))

begin_line : (front ws : List Word) (b : ℕ) (bs : List ℕ) → Goes bs → IsLine ws (b ∷ bs) → Gets Between front [] (b ∷ bs) (front ++ ws)
begin_line front [] b bs g l = let h : is_blank b ≡ true = (both _ _ l).0 in rw h (g.go Between front [] [] refl (both _ _ l).1)
begin_line front (w ∷ ws) b bs g l = begin_gap front ws w l.gap l.text l.rest b bs g l.blank l.spelled l.ended l.others l.parts

-- a word that isn't quoted goes on, or ends
go_plain : (front : List Word) (cur more rest : List ℕ) (others : List Word) (b : ℕ) (bs : List ℕ) → Goes bs → b ∷ bs ≡ more ++ rest → list_all is_visible more ≡ true → IsEnd rest → IsLine others rest → Gets Plain front cur (b ∷ bs) (front ++ word (cur ++ more) false ∷ others)
go_plain front cur [] [] others b bs g e v d o = absurd cc
go_plain front cur [] (c ∷ rest) others b bs g e v d o =
    let b_is : b ≡ c = cc in
    let bs_is : bs ≡ rest = cc in
    let h : is_blank b ≡ true = rw b_is d in
    let l : IsLine others bs = rw bs_is (behind_blank others c rest d o) in
    rw (append-nil cur, h) (push_words front (word cur false) others (at (front ++ word cur false ∷ []) Between []) bs (g.go Between (front ++ word cur false ∷ []) [] others refl l))
go_plain front cur (m ∷ more) rest others b bs g e v d o =
    let b_is : b ≡ m = cc in
    let bs_is : bs ≡ more ++ rest = cc in
    let h : is_blank b ≡ false = rw b_is (visible_is m more v) in
    let k : (cur ++ b ∷ []) ++ more ≡ cur ++ m ∷ more = append_assoc cur (b ∷ []) more ∙ ap (λ x. cur ++ x ∷ more) b_is in
    rw h (g.go Plain front (cur ++ b ∷ []) (word (cur ++ m ∷ more) false ∷ others) tt (record {
      more = more;
      rest = rest;
      others = others;
      parts = bs_is;
      visible = (both _ _ v).1;
      ended = d;
      is_rest = o;
      words = ap (λ x. word x false ∷ others) (sym k);
    }))

-- a quoted word goes on by a byte that is no quote
go_quoted : (front : List Word) (cur more rest : List ℕ) (others : List Word) (b : ℕ) (bs : List ℕ) → Goes bs → (b == 39) ≡ false → b ∷ bs ≡ doubled more ++ 39 ∷ rest → IsEnd rest → IsLine others rest → Gets Quoted front cur (b ∷ bs) (front ++ word (cur ++ more) true ∷ others)
go_quoted front cur [] rest others b bs g q e d o = let b_is : b ≡ 39 = cc in absurd (not_quote b q b_is)
go_quoted front cur (m ∷ more) rest others b bs g q e d o =
    elim (truth (m == 39)) [
      | inl h ↦ let f : b ∷ bs ≡ (39 ∷ 39 ∷ doubled more) ++ 39 ∷ rest = rw h at e in let b_is : b ≡ 39 = cc in absurd (not_quote b q b_is)
      | inr h ↦
          let f : b ∷ bs ≡ (m ∷ doubled more) ++ 39 ∷ rest = rw h at e in
          let b_is : b ≡ m = cc in
          let bs_is : bs ≡ doubled more ++ 39 ∷ rest = cc in
          let k : (cur ++ b ∷ []) ++ more ≡ cur ++ m ∷ more = append_assoc cur (b ∷ []) more ∙ ap (λ x. cur ++ x ∷ more) b_is in
          rw q (g.go Quoted front (cur ++ b ∷ []) (word (cur ++ m ∷ more) true ∷ others) tt (record {
            more = more;
            rest = rest;
            others = others;
            parts = bs_is;
            ended = d;
            is_rest = o;
            words = ap (λ x. word x true ∷ others) (sym k);
          }))
    ]

-- behind a quote
go_closed : (front : List Word) (cur more rest : List ℕ) (others : List Word) (b : ℕ) (bs : List ℕ) → Goes bs → 39 ∷ b ∷ bs ≡ doubled more ++ 39 ∷ rest → IsEnd rest → IsLine others rest → Gets Closed front cur (b ∷ bs) (front ++ word (cur ++ more) true ∷ others)
go_closed front cur [] [] others b bs g e d o = absurd cc
go_closed front cur [] (c ∷ rest) others b bs g e d o =
    let b_is : b ≡ c = cc in
    let bs_is : bs ≡ rest = cc in
    let h : is_blank b ≡ true = rw b_is d in
    let l : IsLine others bs = rw bs_is (behind_blank others c rest d o) in
    rw (append-nil cur, blank_not_quote b h, h) (push_words front (word cur true) others (at (front ++ word cur true ∷ []) Between []) bs (g.go Between (front ++ word cur true ∷ []) [] others refl l))
go_closed front cur (m ∷ more) rest others b bs g e d o =
    elim (truth (m == 39)) [
      | inl h ↦
          let f : 39 ∷ b ∷ bs ≡ (39 ∷ 39 ∷ doubled more) ++ 39 ∷ rest = rw h at e in
          let b_is : b ≡ 39 = cc in
          let bs_is : bs ≡ doubled more ++ 39 ∷ rest = cc in
          let m_is : m ≡ 39 = eqb-true m 39 h in
          rw b_is (g.go Quoted front (cur ++ 39 ∷ []) (word (cur ++ m ∷ more) true ∷ others) tt (record {
            more = more;
            rest = rest;
            others = others;
            parts = bs_is;
            ended = d;
            is_rest = o;
            words = ap (λ x. word x true ∷ others) (ap (λ x. cur ++ x ∷ more) m_is ∙ sym (append_assoc cur (39 ∷ []) more));
          }))
      | inr h ↦
          let f : 39 ∷ b ∷ bs ≡ (m ∷ doubled more) ++ 39 ∷ rest = rw h at e in
          let m_is : m ≡ 39 = cc in
          absurd (not_quote m h m_is)
    ]

end_plain : (cur more rest : List ℕ) (front others : List Word) → [] ≡ more ++ rest → IsLine others rest → Gets Plain front cur [] (front ++ word (cur ++ more) false ∷ others)
end_plain cur [] [] front others e o = rw (no_words others o, append-nil cur) refl
end_plain cur [] (c ∷ rest) front others e o = absurd cc
end_plain cur (m ∷ more) rest front others e o = absurd cc

end_quoted : (more rest : List ℕ) → [] ≡ doubled more ++ 39 ∷ rest → ⊥
end_quoted [] rest e = cc
end_quoted (m ∷ more) rest e = elim (truth (m == 39)) [
  | inl h ↦ let f : [] ≡ (39 ∷ 39 ∷ doubled more) ++ 39 ∷ rest = rw h at e in cc
  | inr h ↦ let f : [] ≡ (m ∷ doubled more) ++ 39 ∷ rest = rw h at e in cc
]

end_closed : (cur more rest : List ℕ) (front others : List Word) → 39 ∷ [] ≡ doubled more ++ 39 ∷ rest → IsLine others rest → Gets Closed front cur [] (front ++ word (cur ++ more) true ∷ others)
end_closed cur [] [] front others e o = rw (no_words others o, append-nil cur) refl
end_closed cur [] (c ∷ rest) front others e o = absurd cc
end_closed cur (m ∷ more) rest front others e o = elim (truth (m == 39)) [
  | inl h ↦ let f : 39 ∷ [] ≡ (39 ∷ 39 ∷ doubled more) ++ 39 ∷ rest = rw h at e in absurd cc
  | inr h ↦ let f : 39 ∷ [] ≡ (m ∷ doubled more) ++ 39 ∷ rest = rw h at e in let k : [] ≡ doubled more ++ 39 ∷ rest = cc in absurd (end_quoted more rest k)
]

complete : (line : List ℕ) (mode : Mode) (front : List Word) (cur : List ℕ) (ws : List Word) → Fine mode cur → Reads mode cur line ws → Gets mode front cur line (front ++ ws)
complete [] Between front cur ws fine r = rw (no_words ws r, append-nil front) refl
complete [] Plain front cur ws fine r = rw r.words (end_plain cur r.more r.rest front r.others r.parts r.is_rest)
complete [] Quoted front cur ws fine r = absurd (end_quoted r.more r.rest r.parts)
complete [] Closed front cur ws fine r = rw r.words (end_closed cur r.more r.rest front r.others r.parts r.is_rest)
complete (b ∷ bs) Between front cur ws fine r = rw fine (begin_line front ws b bs (record { go = complete bs }) r)
complete (b ∷ bs) Plain front cur ws fine r = rw r.words (go_plain front cur r.more r.rest r.others b bs (record { go = complete bs }) r.parts r.visible r.ended r.is_rest)
complete (b ∷ bs) Quoted front cur ws fine r = elim (truth (b == 39)) [
  | inl q ↦ let n = eqb-true b 39 q in let k : QuotedRest cur (39 ∷ bs) ws = rw n at r in rw n (complete bs Closed front cur ws tt k)
  | inr q ↦ rw r.words (go_quoted front cur r.more r.rest r.others b bs (record { go = complete bs }) q r.parts r.ended r.is_rest)
]
complete (b ∷ bs) Closed front cur ws fine r = rw r.words (go_closed front cur r.more r.rest r.others b bs (record { go = complete bs }) r.parts r.ended r.is_rest)

pub spelled_words : (line : List ℕ) (ws : List Word) → IsLine ws line → words_of line ≡ Some ws
spelled_words line ws l = complete line Between [] [] ws refl l

pub only : (line : List ℕ) (r : Result (List Word) WordsFault) → Gives (λ ws. ws) r (words_of line) → (ws : List Word) → IsLine ws line → Gives (λ ws. ws) r (Some ws)
only line r g ws l = subst (Gives (λ ws. ws) r) (spelled_words line ws l) g

-- ---- a line that spells no words

unspelled : (line : List ℕ) (given : Option (List Word)) → words_of line ≡ given → ((ws : List Word) → IsLine ws line → ⊥) → given ≡ None
unspelled line None e f = refl
unspelled line (Some ws) e f = absurd (f ws (words_spell line ws e))

none_some : (ws : List Word) → None ≡ Some ws → ⊥
none_some ws e = cc

pub bad_quote : (line : List ℕ) → (words_of line ≡ None) ↔ IsUnspelled line
bad_quote line = ((λ e ws l. none_some ws (sym e ∙ spelled_words line ws l)), unspelled line (words_of line) refl)

-- ---- words that are joined by spaces

spelled_is : (quoted : Bool) (bytes : List ℕ) → StandsAs quoted bytes → IsSpelled quoted bytes (spelled_as quoted bytes)
spelled_is true bytes s = refl
spelled_is false bytes s = (refl, s)

pub joined_line : (ws : List Word) → AllByRecursion CanStand ws → IsLine ws (joined ws)
joined_line [] s = refl
joined_line (w ∷ []) s = record { gap = []; text = spelled w; rest = []; parts = sym (append-nil (spelled w)); blank = refl; spelled = spelled_is w.quoted w.bytes s.0; ended = tt; others = refl }
joined_line (w ∷ v ∷ ws) s = record {
  gap = [];
  text = spelled w;
  rest = 32 ∷ joined (v ∷ ws);
  parts = refl;
  blank = refl;
  spelled = spelled_is w.quoted w.bytes s.0;
  ended = refl;
  others = front_blank (v ∷ ws) 32 (joined (v ∷ ws)) refl (joined_line (v ∷ ws) s.1);
}

pub joined_again : (ws : List Word) → AllByRecursion CanStand ws → words_of (joined ws) ≡ Some ws
joined_again ws s = spelled_words (joined ws) ws (joined_line ws s)
