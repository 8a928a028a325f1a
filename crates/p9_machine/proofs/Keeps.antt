-- A machine keeps what it keeps over an event.
use Rattle.std.proofs.Common.{◌≡◌, ◌≤◌, length, Option, None, sym, ap, subst, ◌∙◌}
use Rattle.p9_word.specs.Filled.{Filled}
use Rattle.p9_word.specs.declared.setup.Setup.{Setup}
use Rattle.p9_word.specs.declared.trail.Entry.{Entry}
use Rattle.p9_word.specs.declared.trail.Event.{Event}
use Rattle.p9_word.specs.declared.trail.Reply.{Reply}
use Rattle.p9_word.specs.declared.trail.Seat.{Seat}
use Rattle.p9_manual.specs.History.{state_after, IsLegal, with_entry}
use Rattle.p9_manual.specs.State.{State}
use Rattle.p9_manual.specs.Step.{step}
use Rattle.p9_machine.specs.declared.board.Board.{Board}
use Rattle.p9_machine.specs.declared.machine.Machine.TheInside.{Inside}
use Rattle.p9_machine.specs.declared.reserve.Reserved.{Reserved}
use Rattle.p9_machine.specs.Board.{Stands, Does, calls_of}
use Rattle.p9_machine.specs.Kept.{IsKept}
use Rattle.p9_machine.proofs.Laws.{goes_on}

-- the state where a machine is
abbrev pub now_of : Inside → State
now_of m = state_after m.board.setup m.trail.entries.items

-- after an event
pub kept_on : (m : Inside) (b : Board) (es : Filled Entry) (none : Option Reserved) (seat : Seat) (event : Event) (r : Reply) → none ≡ None → IsKept m → b.setup ≡ m.board.setup → Does (step m.board.setup seat event (now_of m)) r b → es.items ≡ with_entry m.trail.entries.items seat event r → calls_of b ≤ es.spare → IsKept (record m { board = b; trail = record m.trail { entries = es }; reserved = none })
kept_on m b es none seat event r ne k same does items spare =
    let counted : (now_of m).position ≡ length m.trail.entries.items = k.board.position ∙ k.counted in
    let on = goes_on m.board.setup m.trail.entries.items es.items seat event r k.legal counted does.reply_is items in
    let stands : Stands b (state_after m.board.setup es.items) = subst (λ (s : State). Stands b s) on.state_is does.stands in
    record {
      valid = rw same k.valid;
      board = subst (λ (S : Setup). Stands b (state_after S es.items)) (sym same) stands;
      legal = subst (λ (S : Setup). IsLegal S es.items) (sym same) on.legal;
      counted = sym does.stands.position ∙ on.counted;
      procs = k.procs ∙ ap (λ (S : Setup). S.procs) (sym same);
      start = k.start ∙ ap (λ (S : Setup). S.start) (sym same);
      spare = spare;
      memory = rw ne tt;
    }
