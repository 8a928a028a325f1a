-- An alt keeps a sound state sound, whatever becomes of it.
use Rattle.std.proofs.Common.{◌≡◌, ℕ, Bool, true, false, cond, List, [], ◌∷◌, length, Option, Some, None, refl, ap, arith}
use Rattle.std.specs.Prelude.{All, ◌%◌, nat_le}
use Rattle.std.specs.List.{list_any, list_all}
use Rattle.std.specs.Option.{is_some}
use Rattle.std.proofs.lemmas.Bool.{and_parts}
use Rattle.std.proofs.lemmas.List.Elements.{All-head, All-get_or}
use Rattle.p9_word.specs.declared.alt.AltEntry.{AltEntry}
use Rattle.p9_word.specs.declared.alt.Ending.{Ending}
use Rattle.p9_word.specs.declared.alt.Ending.TheVariants.{End, NoBlk}
use Rattle.p9_word.specs.declared.answer.Answer.{Answer}
use Rattle.p9_word.specs.declared.answer.Answer.TheVariants.{Closed, NoBlock}
use Rattle.p9_word.specs.declared.request.Request.TheVariants.{Chan as ChanRequest}
use Rattle.p9_word.specs.declared.request.ChanReq.{ChanReq}
use Rattle.p9_word.specs.declared.setup.Setup.{Setup}
use Rattle.p9_word.specs.declared.limits.TheConstants.{MOST_ENTRIES}
use Rattle.p9_manual.specs.declared.state.Place.TheVariants.{Waiting}
use Rattle.p9_manual.specs.declared.state.Channel.{Channel}
use Rattle.p9_manual.specs.declared.state.Waiter.{Waiter}
use Rattle.p9_manual.specs.declared.state.Party.{Party}
use Rattle.p9_manual.specs.Offers.{Alternation, alternation, party, party_with, parties}
use Rattle.p9_manual.specs.ReadyEntries.{is_ready, ready_entries, fits_entry, fits}
use Rattle.p9_manual.specs.Commit.{commit}
use Rattle.p9_manual.specs.Alt.{Verdict, AllClosed, Commits, NoneReady, MustWait, is_closed_list, chosen, unready, verdict_on, verdict_of, with_woken, decided, with_draw, alt}
use Rattle.p9_manual.specs.State.{State, done}
use Rattle.p9_manual.specs.Sound.{IsSound, WaitRightly, IsWithin}
use Rattle.p9_laws.proofs.Sound.InTurn.{aside_in_turn}
use Rattle.p9_laws.proofs.Sound.Waits.{more_rightly}
use Rattle.p9_laws.proofs.Sound.Calls.{pushed_match}
use Rattle.p9_laws.proofs.Sound.Outcomes.{IsFine, RunsIn, so_far, if_fine, bad_fine, done_fine, waiting_fine, wait_of, moved_fine}
use Rattle.p9_laws.proofs.Sound.Woken.{with_ready, woken_sound, woken_runs}
use Rattle.p9_laws.proofs.Sound.Ready.{HasPassing, ready_numbers, no_numbers}
use Rattle.p9_laws.proofs.Sound.Stopped.{stopped}
use Rattle.p9_laws.proofs.Sound.Deals.{IsRightDeal, WokenWaits, left_by, commit_right}

-- what a verdict owes: a deal is right, and who must wait has no ready entry
abbrev pub IsRightVerdict : List Channel → List Waiter → Party → Verdict → Type 0
IsRightVerdict chans waits me AllClosed = Unit {0}
IsRightVerdict chans waits me (Commits d) = IsRightDeal waits d
IsRightVerdict chans waits me NoneReady = Unit {0}
IsRightVerdict chans waits me MustWait = list_any (is_ready chans (parties waits)) me.entries ≡ false

if_verdict : (chans : List Channel) (waits : List Waiter) (me : Party) (b : Bool) (v w : Verdict) → IsRightVerdict chans waits me v → IsRightVerdict chans waits me w → IsRightVerdict chans waits me (cond b v w)
if_verdict chans waits me true v w f g = f
if_verdict chans waits me false v w f g = g

unready_right : (chans : List Channel) (waits : List Waiter) (me : Party) (ending : Ending) → list_any (is_ready chans (parties waits)) me.entries ≡ false → IsRightVerdict chans waits me (unready ending)
unready_right chans waits me NoBlk h = tt
unready_right chans waits me End h = h

numbered_right : (me : Party) (i : ℕ) (chans : List Channel) (waits : List Waiter) → HasPassing (is_ready chans (parties waits)) me.entries i → WaitRightly chans waits → All IsWithin chans → IsRightVerdict chans waits me (Commits (commit me i chans (parties waits)))
numbered_right me i chans waits found right within = commit_right me i chans waits found.0 found.1 found.2 right within

verdict_on_right : (draw : ℕ) (me : Party) (ending : Ending) (chans : List Channel) (waits : List Waiter) (ns : List ℕ) → All (HasPassing (is_ready chans (parties waits)) me.entries) ns → (ns ≡ [] → list_any (is_ready chans (parties waits)) me.entries ≡ false) → WaitRightly chans waits → All IsWithin chans → IsRightVerdict chans waits me (verdict_on draw me ending chans (parties waits) ns)
verdict_on_right draw me ending chans waits [] passes none right within = unready_right chans waits me ending (none refl)
verdict_on_right draw me ending chans waits (i ∷ []) passes none right within =
    numbered_right me i chans waits (All-head (HasPassing (is_ready chans (parties waits)) me.entries) i [] passes) right within
verdict_on_right draw me ending chans waits (i ∷ j ∷ more) passes none right within =
    numbered_right me (chosen draw (i ∷ j ∷ more)) chans waits
    (All-get_or (HasPassing (is_ready chans (parties waits)) me.entries) (i ∷ j ∷ more) (draw % length (i ∷ j ∷ more)) 0 (omega arith) passes)
    right within

-- the verdict on an alt in a sound state
pub verdict_right : (setup : Setup) (t : ℕ) (a : Alternation) (s : State) → IsSound setup s → IsRightVerdict s.chans s.waits (party t s.position a) (verdict_of setup t a s)
verdict_right setup t a s sound =
    if_verdict s.chans s.waits (party t s.position a) (is_closed_list a.entries) AllClosed _ tt
    (verdict_on_right _ (party t s.position a) a.ending s.chans s.waits (ready_entries s.chans (parties s.waits) a.entries) (ready_numbers s.chans (parties s.waits) a.entries)
    (no_numbers (is_ready s.chans (parties s.waits)) 0 a.entries) sound.waits_right sound.within)

-- the state with these channels
abbrev pub with_chans : List Channel → State → State
with_chans chans s = record s { chans = chans }

pub with_chans_sound : (setup : Setup) (s : State) (chans : List Channel) → WaitRightly chans s.waits → All IsWithin chans → IsSound setup s → IsSound setup (with_chans chans s)
with_chans_sound setup s chans right within sound =
    record {
      stand = sound.stand;
      members = sound.members;
      opened = sound.opened;
      waits_right = right;
      within = within;
      in_turn = sound.in_turn;
      order = sound.order;
      calls = sound.calls;
      notes = sound.notes;
    }

drawn_sound : (setup : Setup) (entries : List AltEntry) (s : State) → IsSound setup s → IsSound setup (with_draw entries s)
drawn_sound setup entries s sound =
    record {
      stand = sound.stand;
      members = sound.members;
      opened = sound.opened;
      waits_right = sound.waits_right;
      within = sound.within;
      in_turn = sound.in_turn;
      order = sound.order;
      calls = sound.calls;
      notes = sound.notes;
    }

dealt_fine : (setup : Setup) (t : ℕ) (answer : Answer) (o : Option (ℕ × Answer)) (chans : List Channel) (s : State) → WokenWaits o s.waits → WaitRightly chans (left_by o s.waits) → All IsWithin chans → IsSound setup s → RunsIn s t → IsFine setup s.position (done t answer (with_woken o (with_chans chans s)))
dealt_fine setup t answer None chans s waits right within sound runs = done_fine setup (with_chans chans s) t answer (with_chans_sound setup s chans right within sound) runs
dealt_fine setup t answer (Some w) chans s waits right within sound runs =
    done_fine setup (with_chans chans (with_ready w.0 w.1 s)) t answer
    (with_chans_sound setup (with_ready w.0 w.1 s) chans right within (woken_sound setup s w.0 w.1 waits sound))
    (woken_runs setup s w.0 w.1 t waits sound runs)

decided_fine : (setup : Setup) (t : ℕ) (r : ChanReq) (a : Alternation) (s : State) (v : Verdict) → alternation r ≡ Some a → list_all (fits_entry s.chans) a.entries ≡ true → IsRightVerdict s.chans s.waits (party t s.position a) v → IsSound setup s → RunsIn s t → IsFine setup s.position (decided t (ChanRequest r) s v)
decided_fine setup t r a s AllClosed e f h sound runs = done_fine setup s t Closed sound runs
decided_fine setup t r a s (Commits d) e f h sound runs =
    moved_fine setup s.position _ d.moved (dealt_fine setup t d.answer d.woken d.chans s h.woken h.right h.within sound runs)
decided_fine setup t r a s NoneReady e f h sound runs = done_fine setup s t NoBlock sound runs
decided_fine setup t r a s MustWait e f h sound runs =
    waiting_fine setup s t (ChanRequest r) (so_far setup s sound) runs
    (more_rightly s.chans s.waits (wait_of t (ChanRequest r) s) (party t s.position a) (ap (party_with t s.position) e) (ap is_some e)
    (stopped s.chans s.waits (party t s.position a) sound.waits_right f h) sound.waits_right)
    (pushed_match s.ioprocs s.waits (wait_of t (ChanRequest r) s) (λ k. refl) sound.calls)
    (aside_in_turn s.threads s.holds s.waits (wait_of t (ChanRequest r) s) t Waiting refl refl sound.in_turn)

pub alt_fine : (setup : Setup) (t : ℕ) (r : ChanReq) (a : Alternation) (s : State) → alternation r ≡ Some a → IsSound setup s → RunsIn s t → IsFine setup s.position (alt setup t (ChanRequest r) a s)
alt_fine setup t r a s e sound runs =
    if_fine setup s.position (fits s.chans a.entries) _ _
    (λ f. decided_fine setup t r a (with_draw a.entries s) (verdict_of setup t a s) e
    (and_parts (nat_le (length a.entries) MOST_ENTRIES) (list_all (fits_entry s.chans) a.entries) f).1
    (verdict_right setup t a s sound) (drawn_sound setup a.entries s sound) runs)
    (λ _. bad_fine setup s sound)
