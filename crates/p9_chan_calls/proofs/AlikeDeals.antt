-- On channels that are alike the same entries are ready, and an entry that goes on comes to the same.
use Rattle.std.proofs.Common.{◌≡◌, ℕ, zero, suc, ◌+◌, ◌<◌, Bool, true, false, not, cond, ◌&&◌, ◌||◌, List, [], ◌∷◌, ◌++◌, length, get_or, Option, Some, None, refl, ap, sym, ◌∙◌, arith, rules, tests}
use Rattle.std.specs.Prelude.{slice_get, nat_le}
use Rattle.std.specs.List.{list_all, find}
use Rattle.p9_word.specs.declared.limits.TheConstants.{MOST_ENTRIES}
use Rattle.p9_word.specs.declared.alt.AltEntry.{AltEntry}
use Rattle.p9_word.specs.declared.alt.AltOp.{AltOp}
use Rattle.p9_word.specs.declared.alt.AltOp.TheVariants.{Snd, Rcv, Nop}
use Rattle.p9_word.specs.declared.alt.Slot.{Slot}
use Rattle.p9_manual.specs.declared.state.Channel.{Channel}
use Rattle.p9_manual.specs.declared.state.Element.{Element}
use Rattle.p9_manual.specs.declared.state.Party.{Party}
use Rattle.p9_manual.specs.AltEntries.{is_nop, sends_on, receives_on}
use Rattle.p9_manual.specs.ReadyEntries.{can_go_on, is_ready, is_unbuffered, ready_entries, numbers_of, unfreed, fits, fits_entry, fits_channel, goes_with}
use Rattle.p9_manual.specs.Commit.{Deal, failed, hand_over, pass_on, take_over, receive_from, commit_op, commit_entry, commit, element, refilled}
use Rattle.p9_manual.specs.Told.{sent_bytes}
use Rattle.p9_manual.specs.State.{by_id}
use Rattle.p9_alt.specs.For.{AreAlike}
use Rattle.p9_chan_calls.proofs.Alike.{alike_live, alike_refill}

fits_same : (a b : List Channel) (c : ℕ) (slot : Slot) (o : Option Channel) → AreAlike a b → unfreed (by_id a c) ≡ o → fits_channel slot o ≡ true → by_id a c ≡ by_id b c
fits_same a b c slot None h e f = absurd (cc f)
fits_same a b c slot (Some chan) h e f = let l = alike_live a b c chan h e in l.0 ∙ sym l.1

and_right : (a b : Bool) → (a && b) ≡ true → b ≡ true
and_right true b h = h
and_right false b h = absurd (cc h)

ready_if : (err : Bool) (op : AltOp) (slot : Slot) (c : ℕ) (o p u : Option Channel) (waits : List Party) → (is_nop op || (err || fits_channel slot u)) ≡ true → (fits_channel slot u ≡ true → o ≡ p) → (not err && can_go_on op c o waits) ≡ (not err && can_go_on op c p waits)
ready_if true op slot c o p u waits h same = refl
ready_if false Snd slot c o p u waits h same = ap (λ x. can_go_on Snd c x waits) (same h)
ready_if false Rcv slot c o p u waits h same = ap (λ x. can_go_on Rcv c x waits) (same h)
ready_if false Nop slot c None None u waits h same = refl
ready_if false Nop slot c None (Some y) u waits h same = refl
ready_if false Nop slot c (Some x) None u waits h same = refl
ready_if false Nop slot c (Some x) (Some y) u waits h same = refl

entry_ready : (a b : List Channel) (waits : List Party) → AreAlike a b → (e : AltEntry) → fits_entry a e ≡ true → is_ready a waits e ≡ is_ready b waits e
entry_ready a b waits h e f =
    ready_if e.err e.op e.slot e.chan (by_id a e.chan) (by_id b e.chan) (unfreed (by_id a e.chan)) waits (and_right (goes_with e.op e.slot) _ f) (fits_same a b e.chan e.slot (unfreed (by_id a e.chan)) h refl)

numbers_alike : (p q : AltEntry → Bool) (i : ℕ) (e : AltEntry) (ns ms : List ℕ) → p e ≡ q e → ns ≡ ms → cond (p e) (i ∷ ns) ns ≡ cond (q e) (i ∷ ms) ms
numbers_alike p q i e ns ms h t = rw (h, t) refl

all_head : {A : Type 0} (p : A → Bool) (x : A) (xs : List A) → list_all p (x ∷ xs) ≡ true → p x ≡ true
all_head p x xs h = search (rules, tests)

all_tail : {A : Type 0} (p : A → Bool) (x : A) (xs : List A) → list_all p (x ∷ xs) ≡ true → list_all p xs ≡ true
all_tail p x xs h = and_right (p x) (list_all p xs) h

ready_from : (a b : List Channel) (waits : List Party) → AreAlike a b → (entries : List AltEntry) (i : ℕ) → list_all (fits_entry a) entries ≡ true → numbers_of (is_ready a waits) i entries ≡ numbers_of (is_ready b waits) i entries
ready_from a b waits h [] i f = refl
ready_from a b waits h (e ∷ es) i f =
    numbers_alike (is_ready a waits) (is_ready b waits) i e _ _ (entry_ready a b waits h e (all_head (fits_entry a) e es f)) (ready_from a b waits h es (suc i) (all_tail (fits_entry a) e es f))

all_fit : (a : List Channel) (entries : List AltEntry) → fits a entries ≡ true → list_all (fits_entry a) entries ≡ true
all_fit a entries h = and_right (nat_le (length entries) MOST_ENTRIES) _ h

-- the same entries are ready
pub alike_ready : (a b : List Channel) (waits : List Party) (entries : List AltEntry) → AreAlike a b → fits a entries ≡ true → ready_entries a waits entries ≡ ready_entries b waits entries
alike_ready a b waits entries h f = ready_from a b waits h entries 0 (all_fit a entries f)

-- k is the number, counted on from i, of an entry that passes
pub record IsNumber (p : AltEntry → Bool) (entries : List AltEntry) (i k : ℕ) : Type 0 where
  pub at : ℕ
  pub entry : AltEntry
  pub is : k ≡ i + at
  pub stands : slice_get entries at ≡ Some entry
  pub passes : p entry ≡ true

number_next : (p : AltEntry → Bool) (e : AltEntry) (es : List AltEntry) (i k : ℕ) → IsNumber p es (suc i) k → IsNumber p (e ∷ es) i k
number_next p e es i k n = record { at = suc n.at; entry = n.entry; is = (let s = n.is in omega arith); stands = n.stands; passes = n.passes }

number_if : (b : Bool) (p : AltEntry → Bool) (e : AltEntry) (es : List AltEntry) (i n : ℕ) → p e ≡ b → n < length (cond b (i ∷ numbers_of p (suc i) es) (numbers_of p (suc i) es)) → ((m : ℕ) → m < length (numbers_of p (suc i) es) → IsNumber p es (suc i) (get_or (numbers_of p (suc i) es) m 0)) → IsNumber p (e ∷ es) i (get_or (cond b (i ∷ numbers_of p (suc i) es) (numbers_of p (suc i) es)) n 0)
number_if true p e es i zero h lt more = record { at = 0; entry = e; is = omega arith; stands = refl; passes = h }
number_if true p e es i (suc n) h lt more = number_next p e es i _ (more n (omega arith))
number_if false p e es i n h lt more = number_next p e es i _ (more n lt)

pub numbers_pass : (p : AltEntry → Bool) → (entries : List AltEntry) (i n : ℕ) → n < length (numbers_of p i entries) → IsNumber p entries i (get_or (numbers_of p i entries) n 0)
numbers_pass p [] i n lt = absurd (omega arith)
numbers_pass p (e ∷ es) i n lt = number_if (p e) p e es i n refl lt (numbers_pass p es (suc i))

-- two deals that leave channels that are alike, and agree in all else
pub record DealsAlike (d e : Deal) : Type 0 where
  pub answer : d.answer ≡ e.answer
  pub woken : d.woken ≡ e.woken
  pub moved : d.moved ≡ e.moved
  pub chans : AreAlike d.chans e.chans

deals_if : (b : Bool) (d e f g : Deal) → DealsAlike d f → DealsAlike e g → DealsAlike (cond b d e) (cond b f g)
deals_if true d e f g h k = h
deals_if false d e f g h k = k

failed_alike : (me : Party) (i : ℕ) (a b : List Channel) → AreAlike a b → DealsAlike (failed me i a) (failed me i b)
failed_alike me i a b h = record { answer = refl; woken = refl; moved = refl; chans = h }

hand_alike : (me : Party) (i : ℕ) (bytes : List ℕ) (c : ℕ) (a b : List Channel) (o : Option Party) → AreAlike a b → DealsAlike (hand_over me i bytes c a o) (hand_over me i bytes c b o)
hand_alike me i bytes c a b None h = failed_alike me i a b h
hand_alike me i bytes c a b (Some w) h = record { answer = refl; woken = refl; moved = refl; chans = h }

pass_alike : (me : Party) (i c : ℕ) (a b : List Channel) (o : Option Party) (elements : List Element) → AreAlike a b → DealsAlike (pass_on me i c a o elements) (pass_on me i c b o elements)
pass_alike me i c a b None elements h = record { answer = refl; woken = refl; moved = refl; chans = alike_refill a b c elements h }
pass_alike me i c a b (Some w) [] h = failed_alike me i a b h
pass_alike me i c a b (Some w) (x ∷ rest) h = record { answer = refl; woken = refl; moved = refl; chans = alike_refill a b c rest h }

take_alike : (me : Party) (i : ℕ) (slot : Slot) (c elsize : ℕ) (a b : List Channel) (o : Option Party) → AreAlike a b → DealsAlike (take_over me i slot c elsize a o) (take_over me i slot c elsize b o)
take_alike me i slot c elsize a b None h = failed_alike me i a b h
take_alike me i slot c elsize a b (Some w) h = record { answer = refl; woken = refl; moved = refl; chans = h }

receive_alike : (me : Party) (i : ℕ) (slot : Slot) (c : ℕ) (a b : List Channel) (waits : List Party) (chan : Channel) (elements : List Element) → AreAlike a b → DealsAlike (receive_from me i slot c a waits chan elements) (receive_from me i slot c b waits chan elements)
receive_alike me i slot c a b waits chan [] h =
    deals_if chan.closed _ _ _ _ (failed_alike me i a b h) (take_alike me i slot c chan.elsize a b (find (sends_on c) waits) h)
receive_alike me i slot c a b waits chan (x ∷ rest) h =
    record { answer = refl; woken = refl; moved = refl; chans = alike_refill a b c (refilled c chan.elsize rest (find (sends_on c) waits)) h }

op_alike : (me : Party) (i : ℕ) (op : AltOp) (slot : Slot) (c : ℕ) (a b : List Channel) (waits : List Party) (o : Option Channel) → AreAlike a b → DealsAlike (commit_op me i op slot c a waits o) (commit_op me i op slot c b waits o)
op_alike me i op slot c a b waits None h = failed_alike me i a b h
op_alike me i Snd slot c a b waits (Some chan) h =
    deals_if chan.closed _ _ _ _ (failed_alike me i a b h) (deals_if (is_unbuffered chan) _ _ _ _ (hand_alike me i (sent_bytes chan.elsize slot) c a b (find (receives_on c) waits) h) (pass_alike me i c a b (find (receives_on c) waits) (chan.elements ++ element me.at (sent_bytes chan.elsize slot) ∷ []) h))
op_alike me i Rcv slot c a b waits (Some chan) h = receive_alike me i slot c a b waits chan chan.elements h
op_alike me i Nop slot c a b waits (Some chan) h = failed_alike me i a b h

all_at : {A : Type 0} (p : A → Bool) → (xs : List A) (i : ℕ) (x : A) → list_all p xs ≡ true → slice_get xs i ≡ Some x → p x ≡ true
all_at p [] i x h e = absurd (cc e)
all_at {A} p (y ∷ ys) zero x h e = let s : y ≡ x = cc in rw (← s) (all_head p y ys h)
all_at p (y ∷ ys) (suc i) x h e = all_at p ys i x (all_tail p y ys h) e

no_op : (err : Bool) (c : ℕ) (o : Option Channel) (waits : List Party) → (not err && can_go_on Nop c o waits) ≡ true → ⊥
no_op true c o waits h = absurd (cc h)
no_op false c None waits h = absurd (cc h)
no_op false c (Some x) waits h = absurd (cc h)

-- an entry that is ready names a channel that may be named
used_if : (err : Bool) (op : AltOp) (slot : Slot) (c : ℕ) (o u : Option Channel) (waits : List Party) → (is_nop op || (err || fits_channel slot u)) ≡ true → (not err && can_go_on op c o waits) ≡ true → fits_channel slot u ≡ true
used_if true op slot c o u waits h r = absurd (cc r)
used_if false Snd slot c o u waits h r = h
used_if false Rcv slot c o u waits h r = h
used_if false Nop slot c o u waits h r = absurd (no_op false c o waits r)

entry_alike : (me : Party) (i : ℕ) (a b : List Channel) (waits : List Party) (e : AltEntry) → AreAlike a b → fits_entry a e ≡ true → is_ready a waits e ≡ true → DealsAlike (commit_entry me i a waits (Some e)) (commit_entry me i b waits (Some e))
entry_alike me i a b waits e h f r =
    let used = used_if e.err e.op e.slot e.chan (by_id a e.chan) (unfreed (by_id a e.chan)) waits (and_right (goes_with e.op e.slot) _ f) r in
    let same = fits_same a b e.chan e.slot (unfreed (by_id a e.chan)) h refl used in
    rw same (op_alike me i e.op e.slot e.chan a b waits (by_id b e.chan) h)

-- a ready entry that goes on comes to the same
pub alike_commit : (me : Party) (i : ℕ) (a b : List Channel) (waits : List Party) → AreAlike a b → fits a me.entries ≡ true → IsNumber (is_ready a waits) me.entries 0 i → DealsAlike (commit me i a waits) (commit me i b waits)
alike_commit me i a b waits h f n =
    let at : n.at ≡ i = let s = n.is in omega arith in
    let stands : slice_get me.entries i ≡ Some n.entry = ap (slice_get me.entries) (sym at) ∙ n.stands in
    rw stands (entry_alike me i a b waits n.entry h (all_at (fits_entry a) me.entries n.at n.entry (all_fit a me.entries f) n.stands) n.passes)
