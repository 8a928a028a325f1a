-- A thread can't go on where its entries fit and none of them is ready.
use Rattle.std.proofs.Common.{◌≡◌, inl, inr, ℕ, true, false, ◌&&◌, ◌||◌, eqb, ltb, List, length, Some, ap, ◌∙◌, rules, tests}
use Rattle.std.specs.List.{list_any, list_all}
use Rattle.std.proofs.lemmas.Bool.{and_cases, or_parts, or_from, or_right}
use Rattle.p9_manual.specs.declared.state.Channel.{Channel}
use Rattle.p9_manual.specs.declared.state.Waiter.{Waiter}
use Rattle.p9_manual.specs.declared.state.Party.{Party}
use Rattle.p9_manual.specs.Offers.{parties}
use Rattle.p9_manual.specs.AltEntries.{sends_on, receives_on}
use Rattle.p9_manual.specs.ReadyEntries.{has_room, has_element, is_unbuffered, can_send, can_receive, is_ready, fits_entry}
use Rattle.p9_manual.specs.State.{by_id}
use Rattle.p9_manual.specs.Standing.{times}
use Rattle.p9_manual.specs.Sound.{WaitRightly, takes_sends, takes_receives}
use Rattle.p9_laws.proofs.Sound.Counts.{times_none}
use Rattle.p9_laws.proofs.Sound.Waits.{CannotGoOn}
use Rattle.p9_laws.proofs.Sound.Ready.{sends_wait, receives_wait}

full_has_element : (n cap : ℕ) → ltb n cap ≡ false → eqb cap 0 ≡ false → ltb 0 n ≡ true
full_has_element n cap h k = search (rules, tests)

empty_has_room : (n cap : ℕ) → ltb 0 n ≡ false → eqb cap 0 ≡ false → ltb n cap ≡ true
empty_has_room n cap h k = search (rules, tests)

-- where no send goes on nobody waits to receive
send_stopped : (chans : List Channel) (waits : List Waiter) (c : ℕ) (chan : Channel) → WaitRightly chans waits → by_id chans c ≡ Some chan → can_send c chan (parties waits) ≡ false → (takes_sends (by_id chans c) ≡ false) × (times (receives_on c) (parties waits) ≡ 0)
send_stopped chans waits c chan right e h =
    let parts = or_parts chan.closed (has_room chan || (is_unbuffered chan && list_any (receives_on c) (parties waits))) h in
    let more = or_parts (has_room chan) (is_unbuffered chan && list_any (receives_on c) (parties waits)) parts.1 in (
      ap takes_sends e ∙ or_from chan.closed (has_room chan) parts.0 more.0,
      elim (and_cases (is_unbuffered chan) (list_any (receives_on c) (parties waits)) more.1) [
        | inl buffered ↦ right.receives c (ap takes_receives e ∙ or_right chan.closed (has_element chan) (full_has_element (length chan.elements) chan.cap more.0 buffered))
        | inr none ↦ times_none (receives_on c) (parties waits) none
      ],
    )

-- where no receive goes on nobody waits to send
receive_stopped : (chans : List Channel) (waits : List Waiter) (c : ℕ) (chan : Channel) → WaitRightly chans waits → by_id chans c ≡ Some chan → can_receive c chan (parties waits) ≡ false → (takes_receives (by_id chans c) ≡ false) × (times (sends_on c) (parties waits) ≡ 0)
receive_stopped chans waits c chan right e h =
    let parts = or_parts (has_element chan) (chan.closed || (is_unbuffered chan && list_any (sends_on c) (parties waits))) h in
    let more = or_parts chan.closed (is_unbuffered chan && list_any (sends_on c) (parties waits)) parts.1 in (
      ap takes_receives e ∙ or_from chan.closed (has_element chan) more.0 parts.0,
      elim (and_cases (is_unbuffered chan) (list_any (sends_on c) (parties waits)) more.1) [
        | inl buffered ↦ right.sends c (ap takes_sends e ∙ or_right chan.closed (has_room chan) (empty_has_room (length chan.elements) chan.cap parts.0 buffered))
        | inr none ↦ times_none (sends_on c) (parties waits) none
      ],
    )

pub stopped : (chans : List Channel) (waits : List Waiter) (me : Party) → WaitRightly chans waits → list_all (fits_entry chans) me.entries ≡ true → list_any (is_ready chans (parties waits)) me.entries ≡ false → CannotGoOn chans (parties waits) me
stopped chans waits me right f r =
    record {
      sends = λ c s. let w = sends_wait chans (parties waits) c me.entries f r s in send_stopped chans waits c w.0 right w.1 w.2;
      receives = λ c s. let w = receives_wait chans (parties waits) c me.entries f r s in receive_stopped chans waits c w.0 right w.1 w.2;
    }
