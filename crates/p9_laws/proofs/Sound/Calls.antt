-- The calls in which threads wait, against the calls that the ioprocs have.
use Rattle.std.proofs.Common.{◌≡◌, ◌≢◌, inl, inr, ℕ, suc, ◌+◌, ◌-◌, ◌≤◌, Bool, true, false, not, cond, eqb, List, [], ◌∷◌, ◌++◌, map, Option, Some, None, refl, ap, sym, subst, ◌∙◌, arith, rules, tests, append-nil}
use Rattle.std.specs.Prelude.{option_map}
use Rattle.std.specs.List.{filter}
use Rattle.std.proofs.lemmas.Bool.{cases_eq}
use Rattle.std.proofs.lemmas.List.Elements.{filter-append}
use Rattle.std.proofs.lemmas.List.Concat.{flat_map-append}
use Rattle.p9_word.specs.declared.request.Request.{Request}
use Rattle.p9_word.specs.declared.request.Request.TheVariants.{Io as IoRequest}
use Rattle.p9_word.specs.declared.request.IoReq.TheVariants.{IoRun}
use Rattle.p9_word.specs.declared.io_call.IoCall.{IoCall}
use Rattle.p9_manual.specs.declared.state.Place.TheVariants.{Waiting}
use Rattle.p9_manual.specs.declared.state.Thread.{Thread}
use Rattle.p9_manual.specs.declared.state.Waiter.{Waiter}
use Rattle.p9_manual.specs.declared.state.Ioproc.{Ioproc}
use Rattle.p9_manual.specs.declared.state.Ioproc.TheVariants.{Unmade, Idle, Posted, Begun, Closed}
use Rattle.p9_manual.specs.Effects.{message_length}
use Rattle.p9_manual.specs.Ends.{Gone, let_go}
use Rattle.p9_manual.specs.Offers.{parties}
use Rattle.p9_manual.specs.State.{by_id, changed, waits_without}
use Rattle.p9_manual.specs.Standing.{StandOnce, times, place_of}
use Rattle.p9_manual.specs.Sound.{CallsMatch, call_in, call_at, waiting_calls, call_of, message_at}
use Rattle.p9_laws.proofs.Sound.Counts.{filter_none, times-append}
use Rattle.p9_laws.proofs.Sound.Places.{by_id-changed_same, by_id-changed_other, by_id-map}
use Rattle.p9_laws.proofs.Sound.Parties.{is_tid, party_calls}
use Rattle.p9_laws.proofs.Sound.Stand.{eqb_same, eqb_other, waits_once}

-- one more wait
calls_push : (k : ℕ) (waits : List Waiter) (w : Waiter) → waiting_calls k (waits ++ w ∷ []) ≡ waiting_calls k waits ++ call_at k w
calls_push k waits w = flat_map-append (call_at k) waits (w ∷ []) ∙ ap (λ cs. waiting_calls k waits ++ cs) (append-nil (call_at k w))

-- the call isn't for one of those who end
abbrev is_not_for : Gone → ℕ × IoCall → Bool
is_not_for ends c = not (ends c.0)

abbrev is_for : ℕ → ℕ × IoCall → Bool
is_for t c = eqb c.0 t

one_off : (ends : Gone) (u : ℕ) (call : IoCall) (b c : Bool) → ends u ≡ b → filter (is_not_for ends) (cond c ((u, call) ∷ []) []) ≡ cond b [] (cond c ((u, call) ∷ []) [])
one_off ends u call true true h = rw h refl
one_off ends u call false true h = rw h refl
one_off ends u call true false h = refl
one_off ends u call false false h = refl

either_way : {A : Type 0} (b : Bool) (x : A) → x ≡ cond b x x
either_way true x = refl
either_way false x = refl

call_off : (k : ℕ) (ends : Gone) (u : ℕ) (r : Request) (b : Bool) → ends u ≡ b → filter (is_not_for ends) (call_in k u r) ≡ cond b [] (call_in k u r)
call_off k ends u (IoRequest (IoRun j call)) b h = one_off ends u call b (eqb j k) h
call_off k ends u r b h = either_way b []

off_step : (k : ℕ) (ends : Gone) (b : Bool) (w : Waiter) (fs ws : List Waiter) → ends w.tid ≡ b → waiting_calls k fs ≡ filter (is_not_for ends) (waiting_calls k ws) → waiting_calls k (cond (not b) (w ∷ fs) fs) ≡ filter (is_not_for ends) (call_at k w ++ waiting_calls k ws)
off_step k ends true w fs ws h e = rw (filter-append (is_not_for ends) (call_at k w) (waiting_calls k ws), call_off k ends w.tid w.request true h) e
off_step k ends false w fs ws h e = rw (filter-append (is_not_for ends) (call_at k w) (waiting_calls k ws), call_off k ends w.tid w.request false h) (ap (λ cs. call_at k w ++ cs) e)

-- without the waits of some threads their calls are gone
calls_off : (k : ℕ) (ends : Gone) → (waits : List Waiter) → waiting_calls k (filter (λ w. not (ends w.tid)) waits) ≡ filter (is_not_for ends) (waiting_calls k waits)
calls_off k ends [] = refl
calls_off k ends (w ∷ ws) = off_step k ends (ends w.tid) w (filter (λ x. not (ends x.tid)) ws) ws refl (calls_off k ends ws)

-- and so without those of one
calls_without : (k t : ℕ) (waits : List Waiter) → waiting_calls k (waits_without t waits) ≡ filter (λ c. not (is_for t c)) (waiting_calls k waits)
calls_without k t waits = calls_off k (λ u. eqb u t) waits

apart_step : (t u : ℕ) (call : IoCall) (b c : Bool) → (b ≡ true → c ≡ true → ⊥) → times (is_for t) (cond b ((u, call) ∷ []) []) + times (is_for t) (cond c ((u, call) ∷ []) []) ≤ cond (eqb u t) 1 0
apart_step t u call true true h = absurd (h refl refl)
apart_step t u call true false h = omega arith
apart_step t u call false true h = omega arith
apart_step t u call false false h = omega arith

not_both : (i j k : ℕ) → j ≢ k → eqb i j ≡ true → eqb i k ≡ true → ⊥
not_both i j k ne a b = search (rules, tests)

apart_at : (j k t u : ℕ) (r : Request) → j ≢ k → times (is_for t) (call_in j u r) + times (is_for t) (call_in k u r) ≤ cond (eqb u t) 1 0
apart_at j k t u (IoRequest (IoRun i call)) ne = apart_step t u call (eqb i j) (eqb i k) (not_both i j k ne)
apart_at j k t u r ne = omega arith

-- a thread waits as often as in calls at two ioprocs together
calls_apart : (j k t : ℕ) → j ≢ k → (waits : List Waiter) → times (is_for t) (waiting_calls j waits) + times (is_for t) (waiting_calls k waits) ≤ times (λ w. eqb w.tid t) waits
calls_apart j k t ne [] = omega arith
calls_apart j k t ne (w ∷ ws) =
    let a = times-append (is_for t) (call_at j w) (waiting_calls j ws) in
    let b = times-append (is_for t) (call_at k w) (waiting_calls k ws) in
    let here = apart_at j k t w.tid w.request ne in
    let rest = calls_apart j k t ne ws in
    omega (arith, a, b, here, rest)

-- the calls stay the same
pub same_calls : (ioprocs : List Ioproc) (waits others : List Waiter) → ((k : ℕ) → waiting_calls k others ≡ waiting_calls k waits) → CallsMatch ioprocs waits → CallsMatch ioprocs others
same_calls ioprocs waits others same match' = record { calls = λ k. same k ∙ match'.calls k; messages = match'.messages }

-- without the waits of a thread that waits in no call
pub without_match : (ioprocs : List Ioproc) (waits : List Waiter) (t : ℕ) → times (λ w. eqb w.tid t) waits ≤ times (is_tid t) (parties waits) → CallsMatch ioprocs waits → CallsMatch ioprocs (waits_without t waits)
without_match ioprocs waits t h match' = same_calls ioprocs waits (waits_without t waits) (λ k. party_calls k t waits h) match'

-- without the waits of a thread that has no call
pub uncalled_match : (ioprocs : List Ioproc) (waits : List Waiter) (t : ℕ) → ((k : ℕ) → times (is_for t) (waiting_calls k waits) ≡ 0) → CallsMatch ioprocs waits → CallsMatch ioprocs (waits_without t waits)
uncalled_match ioprocs waits t none match' =
    same_calls ioprocs waits (waits_without t waits) (λ k. calls_without k t waits ∙ filter_none (is_for t) (waiting_calls k waits) (none k)) match'

-- one more wait that is in no call
pub pushed_match : (ioprocs : List Ioproc) (waits : List Waiter) (w : Waiter) → ((k : ℕ) → call_at k w ≡ []) → CallsMatch ioprocs waits → CallsMatch ioprocs (waits ++ w ∷ [])
pushed_match ioprocs waits w none match' =
    same_calls ioprocs waits (waits ++ w ∷ []) (λ k. calls_push k waits w ∙ ap (λ cs. waiting_calls k waits ++ cs) (none k) ∙ append-nil (waiting_calls k waits)) match'

bounded : (a b c d : ℕ) → a ≡ b → b ≤ c → d ≡ c → d ≤ 4294967295 → a ≤ 4294967295
bounded a b c d e f g h = omega arith

-- an ioproc that has the same call for the same thread as before
pub kept_match : (ioprocs : List Ioproc) (waits : List Waiter) (k : ℕ) (old io : Ioproc) → by_id ioprocs k ≡ Some old → call_of (Some io) ≡ call_of (Some old) → message_at (Some io) ≤ message_at (Some old) → CallsMatch ioprocs waits → CallsMatch (changed (λ _. io) ioprocs (k - 1)) waits
kept_match ioprocs waits k old io e same short match' =
    record {
      calls = λ j. elim (cases_eq j k) [
        | inl here ↦ match'.calls j ∙ ap (λ x. call_of (by_id ioprocs x)) here ∙ ap call_of e ∙ sym same ∙ sym (ap call_of (by_id-changed_same (λ _. io) ioprocs k old e)) ∙ sym (ap (λ x. call_of (by_id (changed (λ _. io) ioprocs (k - 1)) x)) here)
        | inr ne ↦ match'.calls j ∙ sym (ap call_of (by_id-changed_other (λ _. io) ioprocs k j old e ne))
      ];
      messages = λ j. elim (cases_eq j k) [
        | inl here ↦
            let a = ap (λ x. message_at (by_id (changed (λ _. io) ioprocs (k - 1)) x)) here ∙ ap message_at (by_id-changed_same (λ _. io) ioprocs k old e) in
            let b = ap message_at e in
            let m = match'.messages k in
            bounded _ _ _ _ a short b m
        | inr ne ↦ subst (λ (n : ℕ). n ≤ 4294967295) (sym (ap message_at (by_id-changed_other (λ _. io) ioprocs k j old e ne))) (match'.messages j)
      ];
    }

-- a call is posted at an idle ioproc, and its thread waits in it
pub posted_match : (ioprocs : List Ioproc) (waits : List Waiter) (t k at : ℕ) (call : IoCall) → by_id ioprocs k ≡ Some Idle → message_length call ≤ 4294967295 → CallsMatch ioprocs waits → CallsMatch (changed (λ _. Posted t call) ioprocs (k - 1)) (waits ++ record { tid = t; request = IoRequest (IoRun k call); at = at } ∷ [])
posted_match ioprocs waits t k at call e short match' =
    record {
      calls = λ j. calls_push j waits (record { tid = t; request = IoRequest (IoRun k call); at = at }) ∙ elim (cases_eq j k) [
        | inl here ↦ posted_here j here
        | inr ne ↦ posted_elsewhere j ne
      ];
      messages = λ j. elim (cases_eq j k) [
        | inl here ↦ subst (λ (n : ℕ). n ≤ 4294967295) (sym (ap message_at (at_k j here))) short
        | inr ne ↦ subst (λ (n : ℕ). n ≤ 4294967295) (sym (ap message_at (by_id-changed_other (λ _. Posted t call) ioprocs k j Idle e ne))) (match'.messages j)
      ];
    }
  where
    at_k : (j : ℕ) → j ≡ k → by_id (changed (λ _. Posted t call) ioprocs (k - 1)) j ≡ Some (Posted t call)
    at_k j here = ap (λ x. by_id (changed (λ _. Posted t call) ioprocs (k - 1)) x) here ∙ by_id-changed_same (λ _. Posted t call) ioprocs k Idle e

    first : (b : Bool) → b ≡ true → cond {A = List (ℕ × IoCall)} b ((t, call) ∷ []) [] ≡ (t, call) ∷ []
    first b h = rw h refl

    later : (b : Bool) → b ≡ false → cond {A = List (ℕ × IoCall)} b ((t, call) ∷ []) [] ≡ []
    later b h = rw h refl

    posted_here : (j : ℕ) → j ≡ k → waiting_calls j waits ++ call_in j t (IoRequest (IoRun k call)) ≡ call_of (by_id (changed (λ _. Posted t call) ioprocs (k - 1)) j)
    posted_here j here =
        let none : waiting_calls j waits ≡ [] = match'.calls j ∙ ap (λ x. call_of (by_id ioprocs x)) here ∙ ap call_of e in
        let same : eqb k j ≡ true = ap (λ x. eqb k x) here ∙ eqb_same k in
        ap (λ cs. cs ++ call_in j t (IoRequest (IoRun k call))) none ∙ first (eqb k j) same ∙ sym (ap call_of (at_k j here))

    posted_elsewhere : (j : ℕ) → j ≢ k → waiting_calls j waits ++ call_in j t (IoRequest (IoRun k call)) ≡ call_of (by_id (changed (λ _. Posted t call) ioprocs (k - 1)) j)
    posted_elsewhere j ne =
        ap (λ cs. waiting_calls j waits ++ cs) (later (eqb k j) (eqb_other k j ne)) ∙ append-nil (waiting_calls j waits) ∙ match'.calls j ∙ sym (ap call_of (by_id-changed_other (λ _. Posted t call) ioprocs k j Idle e ne))

-- the thread that an ioproc has a call for waits
pub called_waits : (threads : List Thread) (line : List ℕ) (waits : List Waiter) (ioprocs : List Ioproc) (t k : ℕ) (call : IoCall) → call_of (by_id ioprocs k) ≡ (t, call) ∷ [] → StandOnce threads line waits → CallsMatch ioprocs waits → (place_of threads t ≡ Waiting) × (times (λ w. eqb w.tid t) waits ≡ 1)
called_waits threads line waits ioprocs t k call e stand match' = waits_once threads line waits t stand (in_call k call (match'.calls k ∙ e))
  where
    in_call : (k : ℕ) (call : IoCall) → waiting_calls k waits ≡ (t, call) ∷ [] → 1 ≤ times (λ w. eqb w.tid t) waits
    in_call k call h =
        let one = ap (times (is_for t)) h in
        let b = ap (λ x. cond {A = ℕ} x 1 0) (eqb_same t) in
        let sum = calls_apart (suc k) k t (λ same. absurd (omega arith)) waits in
        omega (arith, one, b, sum)

-- how often a call is for t, by what the call is
for_one : (t : ℕ) (call : IoCall) → times (is_for t) ((t, call) ∷ []) ≡ 1
for_one t call = rw (eqb_same t) refl

-- an ioproc that had a call for t has none for anybody: the wait of t is taken out
pub freed_match : (threads : List Thread) (line : List ℕ) (waits : List Waiter) (ioprocs : List Ioproc) (t k : ℕ) (call : IoCall) (old io : Ioproc) → by_id ioprocs k ≡ Some old → call_of (Some old) ≡ (t, call) ∷ [] → call_of (Some io) ≡ [] → message_at (Some io) ≤ message_at (Some old) → StandOnce threads line waits → CallsMatch ioprocs waits → CallsMatch (changed (λ _. io) ioprocs (k - 1)) (waits_without t waits)
freed_match threads line waits ioprocs t k call old io e had none short stand match' =
    record {
      calls = λ j. calls_without j t waits ∙ elim (cases_eq j k) [
        | inl here ↦ freed_here j here
        | inr ne ↦ freed_elsewhere j ne
      ];
      messages = λ j. elim (cases_eq j k) [
        | inl here ↦
            let a = ap message_at (at_k j here) in
            let b = ap message_at e in
            let m = match'.messages k in
            bounded _ _ _ _ a short b m
        | inr ne ↦ subst (λ (n : ℕ). n ≤ 4294967295) (sym (ap message_at (by_id-changed_other (λ _. io) ioprocs k j old e ne))) (match'.messages j)
      ];
    }
  where
    at_k : (j : ℕ) → j ≡ k → by_id (changed (λ _. io) ioprocs (k - 1)) j ≡ Some io
    at_k j here = ap (λ x. by_id (changed (λ _. io) ioprocs (k - 1)) x) here ∙ by_id-changed_same (λ _. io) ioprocs k old e

    its_call : waiting_calls k waits ≡ (t, call) ∷ []
    its_call = match'.calls k ∙ ap call_of e ∙ had

    gone : filter (λ c. not (is_for t c)) ((t, call) ∷ []) ≡ []
    gone = rw (eqb_same t) refl

    freed_here : (j : ℕ) → j ≡ k → filter (λ c. not (is_for t c)) (waiting_calls j waits) ≡ call_of (by_id (changed (λ _. io) ioprocs (k - 1)) j)
    freed_here j here = ap (λ x. filter (λ c. not (is_for t c)) (waiting_calls x waits)) here ∙ ap (filter (λ c. not (is_for t c))) its_call ∙ gone ∙ sym none ∙ sym (ap call_of (at_k j here))

    none_else : (j : ℕ) → j ≢ k → times (is_for t) (waiting_calls j waits) ≡ 0
    none_else j ne =
        let sum = calls_apart j k t ne waits in
        let one = ap (times (is_for t)) its_call ∙ for_one t call in
        let once = (called_waits threads line waits ioprocs t k call (ap call_of e ∙ had) stand match').1 in
        omega (arith, sum, one, once)

    freed_elsewhere : (j : ℕ) → j ≢ k → filter (λ c. not (is_for t c)) (waiting_calls j waits) ≡ call_of (by_id (changed (λ _. io) ioprocs (k - 1)) j)
    freed_elsewhere j ne =
        filter_none (is_for t) (waiting_calls j waits) (none_else j ne) ∙ match'.calls j ∙ sym (ap call_of (by_id-changed_other (λ _. io) ioprocs k j old e ne))

posted_let_go : (ends : Gone) (u : ℕ) (call : IoCall) (b : Bool) → ends u ≡ b → call_of (Some (cond b Idle (Posted u call))) ≡ filter (is_not_for ends) ((u, call) ∷ [])
posted_let_go ends u call true h = rw h refl
posted_let_go ends u call false h = rw h refl

begun_let_go : (ends : Gone) (u : ℕ) (call : IoCall) (b : Bool) → ends u ≡ b → call_of (Some (Begun (cond b None (Some u)) call)) ≡ filter (is_not_for ends) ((u, call) ∷ [])
begun_let_go ends u call true h = rw h refl
begun_let_go ends u call false h = rw h refl

-- the call of an ioproc without those who end
call_let_go : (ends : Gone) (o : Option Ioproc) → call_of (option_map (let_go ends) o) ≡ filter (is_not_for ends) (call_of o)
call_let_go ends None = refl
call_let_go ends (Some Unmade) = refl
call_let_go ends (Some Idle) = refl
call_let_go ends (Some (Posted u call)) = posted_let_go ends u call (ends u) refl
call_let_go ends (Some (Begun None call)) = refl
call_let_go ends (Some (Begun (Some u) call)) = begun_let_go ends u call (ends u) refl
call_let_go ends (Some Closed) = refl

message_posted : (u : ℕ) (call : IoCall) (b : Bool) → message_at (Some (cond b Idle (Posted u call))) ≤ message_length call
message_posted u call true = omega arith
message_posted u call false = omega arith

message_let_go : (ends : Gone) (o : Option Ioproc) → message_at (option_map (let_go ends) o) ≤ message_at o
message_let_go ends None = omega arith
message_let_go ends (Some Unmade) = omega arith
message_let_go ends (Some Idle) = omega arith
message_let_go ends (Some (Posted u call)) = message_posted u call (ends u)
message_let_go ends (Some (Begun for call)) = omega arith
message_let_go ends (Some Closed) = omega arith

-- some threads have ended
pub ended_match : (ends : Gone) (ioprocs : List Ioproc) (waits : List Waiter) → CallsMatch ioprocs waits → CallsMatch (map (let_go ends) ioprocs) (filter (λ w. not (ends w.tid)) waits)
ended_match ends ioprocs waits match' =
    record {
      calls = λ k. calls_off k ends waits ∙ ap (filter (is_not_for ends)) (match'.calls k) ∙ sym (call_let_go ends (by_id ioprocs k)) ∙ sym (ap call_of (by_id-map (let_go ends) ioprocs k));
      messages = λ k.
          let a = ap message_at (by_id-map (let_go ends) ioprocs k) in
          let b = message_let_go ends (by_id ioprocs k) in
          let m = match'.messages k in
          bounded _ _ _ _ a b refl m;
    }
