-- Nobody waits to send on a closed channel.
use Rattle.std.proofs.Common.{◌≡◌, ℕ, suc, ◌+◌, ◌≤◌, Bool, true, false, not, cond, List, [], ◌∷◌, ◌++◌, length, refl, sym, ap, ◌∙◌, arith}
use Rattle.std.proofs.lemmas.Bool.{eqb-true, and_parts}
use Rattle.std.proofs.lemmas.List.Elements.{All-push}
use Rattle.std.specs.Prelude.{Option, Some, None, ◌||◌, ◌&&◌, ◌==◌, if◌then◌else◌}
use Rattle.std.specs.List.{find, list_any}
use Rattle.p9_word.specs.declared.alt.AltEntry.{AltEntry}
use Rattle.p9_word.specs.declared.alt.AltOp.{AltOp}
use Rattle.p9_word.specs.declared.alt.AltOp.TheVariants.{Snd, Rcv, Nop}
use Rattle.p9_word.specs.declared.answer.Answer.{Answer}
use Rattle.p9_word.specs.declared.limits.TheConstants.{MOST_ENTRIES}
use Rattle.p9_manual.specs.declared.state.Channel.{Channel}
use Rattle.p9_manual.specs.declared.state.Party.{Party}
use Rattle.p9_word.specs.declared.alt.Ending.{Ending}
use Rattle.p9_word.specs.declared.alt.Ending.TheVariants.{End, NoBlk}
use Rattle.p9_manual.specs.Alt.{parties_without, unready}
use Rattle.p9_manual.specs.AltEntries.{is_snd, sends_to, sends_on}
use Rattle.p9_manual.specs.ReadyEntries.{can_go_on, is_ready, numbers_of, ready_entries}
use Rattle.p9_manual.specs.Standing.{times}
use Rattle.p9_manual.specs.State.{by_id}
use Rattle.p9_chan.specs.Channels.{is_closed_in}
use Rattle.p9_alt.specs.Exchange.{waits_after}
use Rattle.p9_alt.specs.Kept.{IsQueue}
use Rattle.p9_alt.proofs.Waits.{is_of, times-filter}

none_by : {A : Type 0} (b : Bool) (x : A) (o : Option A) (n : ℕ) → cond b 1 0 + n ≡ 0 → (n ≡ 0 → o ≡ None) → (if b then Some x else o) ≡ None
none_by true x o n e k = absurd (omega arith)
none_by false x o n e k = k (omega arith)

pub find_by_times : {A : Type 0} (p : A → Bool) (ws : List A) → times p ws ≡ 0 → find p ws ≡ None
find_by_times p [] e = refl
find_by_times p (w ∷ ws) e = none_by (p w) w (find p ws) (times p ws) e (find_by_times p ws)

-- fewer wait
pub times-without : (f : Party → Bool) (r : Option (ℕ × Answer)) (waits : List Party) → times f (parties_without r waits) ≤ times f waits
times-without f None waits = omega arith
times-without f (Some w) waits = times-filter f (λ u. not (u.tid == w.0)) waits

pub times-push : {A : Type 0} (f : A → Bool) (xs : List A) (x : A) → times f (xs ++ x ∷ []) ≡ times f xs + cond (f x) 1 0
times-push f [] x = omega arith
times-push f (y ∷ xs) x = let h = times-push f xs x in omega arith

send_by : (op : AltOp) (c : ℕ) (o : Option Channel) (waits : List Party) → is_snd op ≡ true → is_closed_in o ≡ true → can_go_on op c o waits ≡ true
send_by Snd c None waits is shut = cc
send_by Snd c (Some chan) waits is shut = rw shut refl
send_by Rcv c o waits is shut = cc
send_by Nop c o waits is shut = cc

send_ready : (chans : List Channel) (waits : List Party) (c : ℕ) (e : AltEntry) → sends_to c e ≡ true → is_closed_in (by_id chans c) ≡ true → is_ready chans waits e ≡ true
send_ready chans waits c e is shut =
    let p = and_parts (not e.err) (is_snd e.op && e.chan == c) is in
    let q = and_parts (is_snd e.op) (e.chan == c) p.1 in
    let same = eqb-true e.chan c q.1 in
    let at : is_closed_in (by_id chans e.chan) ≡ true = ap (λ (k : ℕ). is_closed_in (by_id chans k)) same ∙ shut in
    rw p.0 (send_by e.op e.chan (by_id chans e.chan) waits q.0 at)

unsent_by : (b s : Bool) (i : ℕ) (r : List ℕ) (a : Bool) → (s ≡ true → b ≡ true) → length (if b then i ∷ r else r) ≡ 0 → (length r ≡ 0 → a ≡ false) → (s || a) ≡ false
unsent_by true s i r a k e h = absurd (omega arith)
unsent_by false true i r a k e h = cc (k refl)
unsent_by false false i r a k e h = h e

-- where no entry is ready, none sends on a closed channel
none_sends : (chans : List Channel) (waits : List Party) (c : ℕ) (i : ℕ) (es : List AltEntry) → is_closed_in (by_id chans c) ≡ true → length (numbers_of (is_ready chans waits) i es) ≡ 0 → list_any (sends_to c) es ≡ false
none_sends chans waits c i [] shut none = refl
none_sends chans waits c i (e ∷ es) shut none =
    unsent_by (is_ready chans waits e) (sends_to c e) i (numbers_of (is_ready chans waits) (suc i) es) (list_any (sends_to c) es) (λ s. send_ready chans waits c e s shut) none (none_sends chans waits c (suc i) es shut)

-- one more waits, of whose entries none is ready
pub unsent_push : (chans : List Channel) (waits : List Party) (me : Party) → ((c : ℕ) → is_closed_in (by_id chans c) ≡ true → times (sends_on c) waits ≡ 0) → length (ready_entries chans waits me.entries) ≡ 0 → (c : ℕ) → is_closed_in (by_id chans c) ≡ true → times (sends_on c) (waits ++ me ∷ []) ≡ 0
unsent_push chans waits me none unready c shut =
    let a = times-push (sends_on c) waits me in
    let b = none c shut in
    let off : sends_on c me ≡ false = none_sends chans waits c 0 me.entries shut unready in
    let e : ◌≡◌ {A = ℕ} (cond (sends_on c me) 1 0) 0 = rw off refl in
    omega arith

one_more : (b : Bool) (n : ℕ) → n ≤ 1 → (b ≡ true → n ≡ 0) → n + cond b 1 0 ≤ 1
one_more true n le k = let h = k refl in omega arith
one_more false n le k = omega arith

-- one more waits, which didn't
pub queue-push : (waits : List Party) (me : Party) → IsQueue waits → length me.entries ≤ MOST_ENTRIES → times (λ w. w.tid == me.tid) waits ≡ 0 → IsQueue (waits ++ me ∷ [])
queue-push waits me q few idle = record {
  few = All-push (λ w. length w.entries ≤ MOST_ENTRIES) waits me q.few few;
  apart = λ t.
      let a = times-push (is_of t) waits me in
      let h = one_more (is_of t me) (times (is_of t) waits) (q.apart t) (λ e. ap (λ (k : ℕ). times (is_of k) waits) (sym (eqb-true me.tid t e)) ∙ idle) in
      omega arith;
}

-- no entry is ready: the thread waits, or its list doesn't block
pub unsent_unready : (ending : Ending) (chans : List Channel) (waits waits_new : List Party) (me : Party) → ((c : ℕ) → is_closed_in (by_id chans c) ≡ true → times (sends_on c) waits ≡ 0) → length (ready_entries chans waits me.entries) ≡ 0 → waits_new ≡ waits_after (unready ending) me waits → (c : ℕ) → is_closed_in (by_id chans c) ≡ true → times (sends_on c) waits_new ≡ 0
unsent_unready NoBlk chans waits waits_new me none off e c shut = ap (times (sends_on c)) e ∙ none c shut
unsent_unready End chans waits waits_new me none off e c shut = ap (times (sends_on c)) e ∙ unsent_push chans waits me none off c shut
