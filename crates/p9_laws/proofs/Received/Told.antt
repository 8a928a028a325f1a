-- What an answer that a party is told owes: what it is told received moves to it by the entry that is told, and what it is
-- told sent is of the entry that is told, and has left its channel or is among that channel's elements.
use Rattle.std.proofs.Common.{◌≡◌, ℕ, Bool, true, false, cond, List, [], ◌∷◌, Option, Some, None, refl, sym, subst, ap, ◌∙◌}
use Rattle.std.specs.Prelude.{All, slice_get}
use Rattle.std.proofs.lemmas.List.Elements.{All-nil, All-cons}
use Rattle.p9_word.specs.declared.alt.AltEntry.{AltEntry}
use Rattle.p9_word.specs.declared.answer.Answer.{Answer}
use Rattle.p9_manual.specs.declared.state.Channel.{Channel}
use Rattle.p9_manual.specs.declared.state.Party.{Party}
use Rattle.p9_manual.specs.State.{Move, by_id}
use Rattle.p9_manual.specs.AltEntries.{receives_from, receives_on, sends_to, sends_on, first_number}
use Rattle.p9_manual.specs.Told.{sent_bytes, kept_bytes, sent_answer, got_answer, failed_answer, sender_bytes, sender_answer, receiver_answer}
use Rattle.p9_laws.specs.Senders.{SendsBytes}
use Rattle.p9_laws.specs.Receipts.{Receipt, received_by}
use Rattle.p9_laws.specs.ToldSent.{sent_number}
use Rattle.p9_laws.proofs.Moves.Senders.{first_entry}
use Rattle.p9_laws.proofs.Received.Grows.{IsThere}

-- the number by which an answer tells entry i: only an alt's answer has it
abbrev pub told_number : Bool → ℕ → ℕ
told_number single i = cond single 0 i

-- a call with the answers of send and recv has one entry
abbrev pub IsAlone : Party → Type 0
IsAlone w = w.single ≡ true → (i : ℕ) (e : AltEntry) → slice_get w.entries i ≡ Some e → i ≡ 0

pub received-failed : (t : ℕ) (b : Bool) (i : ℕ) → received_by t (failed_answer b i) ≡ []
received-failed t true i = refl
received-failed t false i = refl

pub received-sent : (t : ℕ) (b : Bool) (i : ℕ) → received_by t (sent_answer b i) ≡ []
received-sent t true i = refl
received-sent t false i = refl

pub received-got : (t : ℕ) (b : Bool) (i from : ℕ) (m : List ℕ) → received_by t (got_answer b i from m) ≡ record { to = t; number = told_number b i; from = from; kept = m } ∷ []
received-got t true i from m = refl
received-got t false i from m = refl

number-failed : (b : Bool) (i : ℕ) → sent_number (failed_answer b i) ≡ None
number-failed true i = refl
number-failed false i = refl

number-got : (b : Bool) (i from : ℕ) (m : List ℕ) → sent_number (got_answer b i from m) ≡ None
number-got true i from m = refl
number-got false i from m = refl

number-sent : (b : Bool) (i : ℕ) → sent_number (sent_answer b i) ≡ Some (told_number b i)
number-sent true i = refl
number-sent false i = refl

number_is : (b : Bool) (i : ℕ) → (b ≡ true → i ≡ 0) → told_number b i ≡ i
number_is true i h = sym (h refl)
number_is false i h = refl

-- a receipt is of one of these moves, by the entry that is told
pub record IsGot (entries : List AltEntry) (mv : List Move) (r : Receipt) : Type 0 where
  pub index : ℕ
  pub move : Move
  pub entry : AltEntry
  pub is_move : slice_get mv index ≡ Some move
  pub is_entry : slice_get entries r.number ≡ Some entry
  pub receives : receives_from move.chan entry ≡ true
  pub to : move.to ≡ r.to
  pub from : move.from ≡ r.from
  pub kept : r.kept ≡ kept_bytes entry.slot move.bytes

-- entry n of a party sends a value that has left its channel, or is among that channel's elements
pub record IsGiven (w : Party) (n : ℕ) (mv : List Move) (chans : List Channel) : Type 0 where
  pub c : ℕ
  pub bytes : List ℕ
  pub chan : Channel
  pub entry : AltEntry
  pub is_entry : slice_get w.entries n ≡ Some entry
  pub is_chan : by_id chans c ≡ Some chan
  pub sends : SendsBytes c chan.elsize bytes entry
  pub held : IsThere c w.at bytes mv chans

pub record IsTold (w : Party) (a : Answer) (mv : List Move) (chans : List Channel) : Type 0 where
  pub receipts : All (IsGot w.entries mv) (received_by w.tid a)
  pub sent : (n : ℕ) → sent_number a ≡ Some n → IsGiven w n mv chans

nothing : (entries : List AltEntry) (mv : List Move) (rs : List Receipt) → rs ≡ [] → All (IsGot entries mv) rs
nothing entries mv rs e = subst (All (IsGot entries mv)) (sym e) (All-nil (IsGot entries mv))

pub told_failed : (w : Party) (i : ℕ) (mv : List Move) (chans : List Channel) → IsTold w (failed_answer w.single i) mv chans
told_failed w i mv chans =
    record {
      receipts = nothing w.entries mv _ (received-failed w.tid w.single i);
      sent = λ n s. let k = number-failed w.single i in cc;
    }

given_at : (w : Party) (i n : ℕ) (mv : List Move) (chans : List Channel) (o : Option ℕ) → o ≡ Some i → o ≡ Some n → IsGiven w i mv chans → IsGiven w n mv chans
given_at w i n mv chans o e f g = let same : i ≡ n = cc in subst (λ (x : ℕ). IsGiven w x mv chans) same g

-- a party whose value is sent by its entry i
pub told_sent : (w : Party) (i : ℕ) (mv : List Move) (chans : List Channel) → IsAlone w → IsGiven w i mv chans → IsTold w (sent_answer w.single i) mv chans
told_sent w i mv chans alone g =
    let number : told_number w.single i ≡ i = number_is w.single i (λ e. alone e i g.entry g.is_entry) in
    record {
      receipts = nothing w.entries mv _ (received-sent w.tid w.single i);
      sent = λ n s. given_at w i n mv chans (sent_number (sent_answer w.single i)) (number-sent w.single i ∙ ap (λ x. Some x) number) s g;
    }

-- a party that receives by its entry i
pub told_got : (w : Party) (i : ℕ) (e : AltEntry) (m : Move) (chans : List Channel) → IsAlone w → slice_get w.entries i ≡ Some e → receives_from m.chan e ≡ true → m.to ≡ w.tid → IsTold w (got_answer w.single i m.from (kept_bytes e.slot m.bytes)) (m ∷ []) chans
told_got w i e m chans alone there receives to =
    let number : told_number w.single i ≡ i = number_is w.single i (λ s. alone s i e there) in
    let r : Receipt = record { to = w.tid; number = told_number w.single i; from = m.from; kept = kept_bytes e.slot m.bytes } in
    let got : IsGot w.entries (m ∷ []) r = record { index = 0; move = m; entry = e; is_move = refl; is_entry = rw number there; receives = receives; to = to; from = refl; kept = refl } in
    record {
      receipts = subst (All (IsGot w.entries (m ∷ []))) (sym (received-got w.tid w.single i m.from (kept_bytes e.slot m.bytes))) (All-cons (IsGot w.entries (m ∷ [])) r [] got (All-nil (IsGot w.entries (m ∷ []))));
      sent = λ n s. let k = number-got w.single i m.from (kept_bytes e.slot m.bytes) in cc;
    }

-- a thread that waits to receive takes by its first entry that does
pub told_receiver : (w : Party) (c : ℕ) (m : Move) (chans : List Channel) → IsAlone w → receives_on c w ≡ true → m.chan ≡ c → m.to ≡ w.tid → IsTold w (receiver_answer c m.from m.bytes w) (m ∷ []) chans
told_receiver w c m chans alone receives on to =
    let f = first_entry (receives_from c) w.entries receives in
    rw (f.number, f.slot) (told_got w f.index f.entry m chans alone f.there (rw on f.passes) to)

-- a thread that waits to send gives by its first entry that does
pub told_sender : (w : Party) (c : ℕ) (mv : List Move) (chans : List Channel) (chan : Channel) → IsAlone w → sends_on c w ≡ true → by_id chans c ≡ Some chan → IsThere c w.at (sender_bytes c chan.elsize w) mv chans → IsTold w (sender_answer c w) mv chans
told_sender w c mv chans chan alone sends at held =
    let f = first_entry (sends_to c) w.entries sends in
    told_sent w (first_number (sends_to c) w.entries) mv chans alone
    (record {
      c = c;
      bytes = sender_bytes c chan.elsize w;
      chan = chan;
      entry = f.entry;
      is_entry = rw (f.number) (f.there);
      is_chan = at;
      sends = (f.passes, ap (sent_bytes chan.elsize) (sym f.slot));
      held = held;
    })
