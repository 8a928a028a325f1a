-- How threads end on the board.
use Rattle.std.proofs.Common.{◌≡◌, ℕ, true, List, Option, Some, None, refl, ◌∙◌}
use Rattle.p9_word.specs.declared.request.ThreadReq.TheVariants as ask
use Rattle.p9_word.specs.declared.setup.Setup.{Setup}
use Rattle.p9_word.specs.declared.trail.Reply.TheVariants.{Ended as EndedReply, Died}
use Rattle.p9_manual.specs.declared.state.Thread.{Thread}
use Rattle.p9_manual.specs.Ends.{ended, proc_ended, all_ended}
use Rattle.p9_manual.specs.Sound.{IsSound}
use Rattle.p9_manual.specs.State.{State, by_id, replied}
use Rattle.p9_manual.specs.Threads.{asked, asked_by, thread_call}
use Rattle.p9_alt.specs.Exchange.{Exchange}
use Rattle.p9_ends.specs.Parts.{StandFor, Ends, EndsAlone}
use Rattle.p9_io.specs.Desks.{Desks}
use Rattle.p9_lock.specs.Locking.{Locking}
use Rattle.p9_note.specs.ProcNotes.{ProcNotes}
use Rattle.p9_sched.specs.Schedule.{Schedule}
use Rattle.p9_sched.specs.Turns.{place_of}
use Rattle.p9_sched.specs.declared.turns.Place.TheVariants as place
use Rattle.p9_machine.specs.declared.board.Board.{Board}
use Rattle.p9_machine.specs.Board.{Stands, Gives}

-- the parts of a board in which threads stand
parts_stand : (board : Board) (s : State) → Stands board s → StandFor board.setup board.sched board.alts board.locks board.io board.notes s
parts_stand board s st = record { threads = st.sched; alts = st.alts; locks = st.locks; io = st.io; notes = st.notes }

-- a board with other such parts, which stand for a state of which the rest reads the same as before
with_parts : (board : Board) (sched : Schedule) (alts : Exchange) (locks : Locking) (io : Desks) (notes : List ProcNotes) (s n : State) → n.draws ≡ s.draws → n.position ≡ s.position → n.over ≡ s.over → StandFor board.setup sched alts locks io notes n → Stands board s → Stands (record board { sched = sched; alts = alts; locks = locks; io = io; notes = notes }) n
with_parts board sched alts locks io notes s n draws position over h st = record {
  sched = h.threads;
  alts = h.alts;
  locks = h.locks;
  io = h.io;
  notes = h.notes;
  draws = rw draws st.draws;
  position = position ∙ st.position;
  over = over ∙ st.over;
}

-- the caller has ended
pub thread_ended : (board : Board) (sched : Schedule) (io : Desks) (notes : List ProcNotes) (t : ℕ) (s : State) → EndsAlone (ended t) board.sched board.io board.notes sched io notes → Stands board s → IsSound board.setup s → Gives s (replied EndedReply (ended t s)) EndedReply (record board { sched = sched; io = io; notes = notes })
thread_ended board sched io notes t s ends st sound = record {
  reply_is = refl;
  stands = with_parts board sched board.alts board.locks io notes s (ended t s) refl refl refl (ends.stands board.setup board.alts board.locks s (parts_stand board s st) sound) st;
}

-- all threads of a proc have
pub proc_died : (board : Board) (sched : Schedule) (alts : Exchange) (locks : Locking) (io : Desks) (notes : List ProcNotes) (p : ℕ) (note : List ℕ) (s : State) → Ends (proc_ended p) board.sched board.alts board.locks board.io board.notes sched alts locks io notes → Stands board s → IsSound board.setup s → Gives s (replied (Died note) (proc_ended p s)) (Died note) (record board { sched = sched; alts = alts; locks = locks; io = io; notes = notes })
proc_died board sched alts locks io notes p note s ends st sound = record {
  reply_is = refl;
  stands = with_parts board sched alts locks io notes s (proc_ended p s) refl refl refl (ends.stands board.setup s (parts_stand board s st) sound) st;
}

-- all threads have, and the run is at its end
pub run_ended : (board : Board) (sched : Schedule) (alts : Exchange) (locks : Locking) (io : Desks) (notes : List ProcNotes) (s : State) → Ends all_ended board.sched board.alts board.locks board.io board.notes sched alts locks io notes → Stands board s → IsSound board.setup s → Gives s (replied EndedReply (all_ended s)) EndedReply (record board { sched = sched; alts = alts; locks = locks; io = io; notes = notes; over = true })
run_ended board sched alts locks io notes s ends st sound =
    let h = ends.stands board.setup s (parts_stand board s st) sound in
    record {
      reply_is = refl;
      stands = record {
        sched = h.threads;
        alts = h.alts;
        locks = h.locks;
        io = h.io;
        notes = h.notes;
        draws = st.draws;
        position = st.position;
        over = refl;
      };
    }

exits_by : (setup : Setup) (t : ℕ) (text : List ℕ) (s : State) (o : Option Thread) → place_of o ≡ place.Running → asked_by setup t (ask.ThreadExits text) s o ≡ replied EndedReply (ended t s)
unfolding asked
exits_by setup t text s None h = absurd (cc h)
exits_by setup t text s (Some caller) h = refl

-- what threadexits and threadexitsall come to
pub exits : (setup : Setup) (t : ℕ) (text : List ℕ) (s : State) → place_of (by_id s.threads t) ≡ place.Running → thread_call setup t (ask.ThreadExits text) s ≡ replied EndedReply (ended t s)
unfolding thread_call
exits setup t text s runs = exits_by setup t text s (by_id s.threads t) runs

exits_all_by : (setup : Setup) (t : ℕ) (text : List ℕ) (s : State) (o : Option Thread) → place_of o ≡ place.Running → asked_by setup t (ask.ThreadExitsAll text) s o ≡ replied EndedReply (all_ended s)
unfolding asked
exits_all_by setup t text s None h = absurd (cc h)
exits_all_by setup t text s (Some caller) h = refl

pub exits_all : (setup : Setup) (t : ℕ) (text : List ℕ) (s : State) → place_of (by_id s.threads t) ≡ place.Running → thread_call setup t (ask.ThreadExitsAll text) s ≡ replied EndedReply (all_ended s)
unfolding thread_call
exits_all setup t text s runs = exits_all_by setup t text s (by_id s.threads t) runs
