-- After each legal history of a valid setup the line has exactly the ready threads, which stand in procs that are open.
use Rattle.std.proofs.Common.{◌≡◌, ℕ, eqb, List, Option, Some, None, sym, arith}
use Rattle.std.specs.List.{list_any}
use Rattle.std.proofs.lemmas.Bool.{true_from_ne_false}
use Rattle.p9_word.specs.declared.setup.Setup.{Setup}
use Rattle.p9_word.specs.declared.trail.Entry.{Entry}
use Rattle.p9_manual.specs.declared.state.Place.{Place}
use Rattle.p9_manual.specs.declared.state.Place.TheVariants.{Running, New, Ready, Waiting, Ended}
use Rattle.p9_manual.specs.declared.state.Thread.{Thread}
use Rattle.p9_manual.specs.State.{by_id}
use Rattle.p9_manual.specs.Places.{is_ready}
use Rattle.p9_manual.specs.History.{state_after}
use Rattle.p9_laws.specs.StuckReplies.{is_ready_thread, LinedAfter, StuckExactly, LegalMoves}
use Rattle.p9_laws.proofs.Tallies.{tally, tally_none, none_tally}
use Rattle.p9_laws.proofs.Standing.{place_in, times_in_line}
use Rattle.p9_laws.proofs.RunMembers.{proc_at}
use Rattle.p9_laws.proofs.RunHistory.{kept_after}
use Rattle.p9_laws.proofs.Sound.Histories.{state_sound}
use Rattle.p9_laws.proofs.StuckLaws.{stuck_cause, stuck_told}
use Rattle.p9_laws.proofs.MoveLaws.{unstuck_moves}

ready_at : (pl : Place) (t : ℕ) (line : List ℕ) → tally (λ u. eqb u t) line ≡ times_in_line pl → is_ready pl ≡ list_any (λ u. eqb u t) line
ready_at New t line e = sym (true_from_ne_false _ (λ none. let z = tally_none (λ u. eqb u t) line none in omega (arith, e, z)))
ready_at (Ready a) t line e = sym (true_from_ne_false _ (λ none. let z = tally_none (λ u. eqb u t) line none in omega (arith, e, z)))
ready_at Running t line e = sym (none_tally (λ u. eqb u t) line e)
ready_at Waiting t line e = sym (none_tally (λ u. eqb u t) line e)
ready_at Ended t line e = sym (none_tally (λ u. eqb u t) line e)

ready_in : (o : Option Thread) (t : ℕ) (line : List ℕ) → tally (λ u. eqb u t) line ≡ times_in_line (place_in o) → is_ready_thread o ≡ list_any (λ u. eqb u t) line
ready_in None t line e = sym (none_tally (λ u. eqb u t) line e)
ready_in (Some thread) t line e = ready_at thread.place t line e

pub lined_after : (setup : Setup) (H : List Entry) → LinedAfter setup H
lined_after setup H valid legal =
    let kept = kept_after setup H legal in
    let members = kept.members valid in
    record {
      ready = λ t. ready_in (by_id (state_after setup H).threads t) t (state_after setup H).line (kept.upright.in_line t);
      opened = members.opened;
      procs = λ t thread at. proc_at (state_after setup H).opened (state_after setup H).threads t thread members.procs at;
      notes = (state_sound setup H valid).notes;
    }

pub stuck_exactly : (setup : Setup) (H : List Entry) → StuckExactly setup H
stuck_exactly setup H p valid legal =
    (stuck_cause setup (state_after setup H) p, stuck_told setup (state_after setup H) (lined_after setup H valid legal) p)

pub legal_moves : (setup : Setup) (H : List Entry) → LegalMoves setup H
legal_moves setup H valid legal = unstuck_moves setup (state_after setup H) (lined_after setup H valid legal)
