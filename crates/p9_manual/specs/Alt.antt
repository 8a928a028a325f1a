-- What becomes of an alt. alt in thread(2).
use Rattle.std.specs.Prelude.{ℕ, ◌+◌, ◌%◌, ◌==◌, ◌&&◌, ◌||◌, Bool, not, List, [], ◌∷◌, Option, Some, None, if◌then◌else◌, nat_lt, length, slice_index}
use Rattle.std.specs.List.{filter, list_any, list_all}
use Rattle.p9_word.specs.declared.alt.AltEntry.{AltEntry}
use Rattle.p9_word.specs.declared.alt.Ending.{Ending}
use Rattle.p9_word.specs.declared.alt.Ending.TheVariants.{End, NoBlk}
use Rattle.p9_word.specs.declared.answer.Answer.{Answer}
use Rattle.p9_word.specs.declared.answer.Answer.TheVariants.{Closed, NoBlock}
use Rattle.p9_word.specs.declared.request.Request.{Request}
use Rattle.p9_word.specs.declared.setup.Setup.{Setup}
use Rattle.p9_manual.specs.declared.state.Channel.{Channel}
use Rattle.p9_manual.specs.declared.state.Party.{Party}
use Rattle.p9_manual.specs.Offers.{Alternation, party, parties}
use Rattle.p9_manual.specs.AltEntries.{is_nop}
use Rattle.p9_manual.specs.ReadyEntries.{ready_entries, fits}
use Rattle.p9_manual.specs.Commit.{Deal, commit}
use Rattle.p9_manual.specs.Draws.{draw_after}
use Rattle.p9_manual.specs.State.{State, Outcome, bad, done, waiting, wake}

-- what becomes of an alt: all its entries are closed; one of them goes on; it doesn't block; or the caller waits
pub data Verdict : Type 0 where
  AllClosed : Verdict
  Commits : Deal → Verdict
  NoneReady : Verdict
  MustWait : Verdict

-- an entry isn't a no-op, and all that aren't have err set
abbrev pub is_closed_list : List AltEntry → Bool
is_closed_list entries = list_any (λ e. not (is_nop e.op)) entries && list_all (λ e. is_nop e.op || e.err) entries

-- of two or more ready entries the one that the draw says, by its remainder; of one, that one
abbrev pub chosen : ℕ → List ℕ → ℕ
chosen draw ready = slice_index ready (draw % length ready)

-- no entry is ready
abbrev pub unready : Ending → Verdict
unready NoBlk = NoneReady
unready End = MustWait

-- with these entries ready: none, one, or more
abbrev pub verdict_on : ℕ → Party → Ending → List Channel → List Party → List ℕ → Verdict
verdict_on draw me ending chans waits [] = unready ending
verdict_on draw me ending chans waits (i ∷ []) = Commits (commit me i chans waits)
verdict_on draw me ending chans waits (i ∷ j ∷ more) = Commits (commit me (chosen draw (i ∷ j ∷ more)) chans waits)

-- the verdict on an alt of me, with this draw for a choice
abbrev pub verdict : ℕ → Party → Ending → List Channel → List Party → Verdict
verdict draw me ending chans waits =
    if is_closed_list me.entries then AllClosed
    else verdict_on draw me ending chans waits (ready_entries chans waits me.entries)

-- a draw is made where there is a choice
abbrev pub needs_draw : List Channel → List Party → List AltEntry → Bool
needs_draw chans waits entries = not (is_closed_list entries) && nat_lt 1 (length (ready_entries chans waits entries))

-- the threads that wait on, where one is woken
abbrev pub parties_without : Option (ℕ × Answer) → List Party → List Party
parties_without None waits = waits
parties_without (Some w) waits = filter (λ u. not (u.tid == w.0)) waits

-- who is woken leaves the waits with all its entries, and is ready with its answer
abbrev pub with_woken : Option (ℕ × Answer) → State → State
with_woken None s = s
with_woken (Some w) s = wake w.0 w.1 s

-- an entry went on: who is woken is ready before the caller, and what moved is told
abbrev pub dealt : ℕ → Deal → State → Outcome
dealt t d s = record (done t d.answer (with_woken d.woken (record s { chans = d.chans }))) { moved = d.moved }

-- what the verdict on an alt of thread t comes to
abbrev pub decided : ℕ → Request → State → Verdict → Outcome
decided t request s AllClosed = done t Closed s
decided t request s (Commits d) = dealt t d s
decided t request s NoneReady = done t NoBlock s
decided t request s MustWait = waiting t request s

-- the state once the draw is made, where one is
abbrev pub with_draw : List AltEntry → State → State
with_draw entries s = record s { draws = if needs_draw s.chans (parties s.waits) entries then s.draws + 1 else s.draws }

-- the verdict on an alt of thread t in a state
abbrev pub verdict_of : Setup → ℕ → Alternation → State → Verdict
verdict_of setup t a s =
    verdict (draw_after setup.start s.draws) (party t s.position a) a.ending s.chans (parties s.waits)

-- an alt of thread t, asked for by this request
abbrev pub alt : Setup → ℕ → Request → Alternation → State → Outcome
alt setup t request a s =
    if fits s.chans a.entries then decided t request (with_draw a.entries s) (verdict_of setup t a s) else bad s
