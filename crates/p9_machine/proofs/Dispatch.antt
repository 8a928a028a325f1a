-- What each group of requests serves, the board gives: one lemma for each group, and one for each part, which stays where nothing
-- of it changes. And what an event leaves.
use Rattle.std.proofs.Common.{◌≡◌, ℕ, ◌+◌, Bool, true, false, cond, List, [], ◌∷◌, ◌++◌, length, map, refl, ap, sym, subst, ◌∙◌, length-append, Some, None}
use Rattle.p9_word.specs.declared.setup.Setup.{Setup}
use Rattle.p9_word.specs.declared.trail.Entry.{Entry}
use Rattle.p9_word.specs.declared.trail.Event.{Event}
use Rattle.p9_word.specs.declared.trail.Reply.{Reply}
use Rattle.p9_word.specs.declared.trail.Seat.{Seat}
use Rattle.p9_manual.specs.History.{with_entry}
use Rattle.p9_manual.specs.LockWaits.{lock_waiters}
use Rattle.p9_manual.specs.Ends.{ended}
use Rattle.p9_manual.specs.NoteCalls.{noted}
use Rattle.p9_manual.specs.Offers.{parties}
use Rattle.p9_manual.specs.State.{State, Outcome, Proc as ProcPlace, same, by_id, replied}
use Rattle.p9_manual.specs.Step.{makes_entry, outcome, step, settled, served, called, is_doomed}
use Rattle.p9_chan.specs.Channels.{emptied_chan}
use Rattle.p9_alt.specs.Exchange.{Exchange}
use Rattle.p9_alt.specs.For.{AltsFor}
use Rattle.p9_lock.specs.Locking.{Locking}
use Rattle.p9_lock.specs.Stands.{LocksFor}
use Rattle.p9_io.specs.Desks.{Desks}
use Rattle.p9_io.specs.Stands.{IoFor}
use Rattle.p9_note.specs.For.{NotesFor}
use Rattle.p9_note.specs.ProcNotes.{ProcNotes}
use Rattle.p9_sched.specs.Schedule.{Schedule}
use Rattle.p9_sched.specs.Stands.{SchedFor}
use Rattle.p9_machine.specs.declared.board.Board.{Board}
use Rattle.p9_machine.specs.Board.{Stands, HasPlaces, Gives, Does, left}
use Rattle.rand_pcg.specs.Lcg.{Lcg}
use Rattle.p9_word.specs.declared.io_call.Effect.{Effect}
use Rattle.p9_word.specs.declared.request.Request.{Request}
use Rattle.p9_word.specs.declared.trail.Event.TheVariants.{Call, Next, IoTake, IoDid}
use Rattle.p9_word.specs.declared.trail.Reply.TheVariants.{Stray, Ended as EndedReply}
use Rattle.p9_word.specs.declared.trail.Seat.TheVariants.{Proc, Io as IoSeat}
use Rattle.p9_manual.specs.Ioprocs.{io_event}
use Rattle.p9_manual.specs.Next.{next_event}
use Rattle.p9_manual.specs.Places.{runs_there}
use Rattle.p9_lock_calls.specs.Serves.{Serves as LockServes}
use Rattle.p9_io_calls.specs.Serves.{Serves as IoServes}
use Rattle.p9_thread_calls.specs.Serves.{Serves as ThreadServes}
use Rattle.p9_signal_calls.specs.Serves.{Serves as SignalServes}
use Rattle.p9_chan_calls.specs.Serves.{Serves as ChanServes}
use Rattle.p9_machine.specs.Reserved.{IsStray}
use Rattle.p9_machine.specs.Shown.{is_told}
use Rattle.p9_machine.proofs.OutOfAlts.{locks_kept}

pub sched_stays : (places : ℕ) (x : Schedule) (s n : State) → n.threads ≡ s.threads → n.line ≡ s.line → map (λ (p : ProcPlace). p.word) n.procs ≡ map (λ (p : ProcPlace). p.word) s.procs → n.opened ≡ s.opened → lock_waiters n.waits ≡ lock_waiters s.waits → SchedFor places x s → SchedFor places x n
sched_stays places x s n et el ep eo ew h =
    record {
      threads = et ∙ h.threads;
      lines = rw el h.lines;
      words = ep ∙ h.words;
      opened = eo ∙ h.opened;
      count = h.count;
      held = record { held = λ p from to. rw (et, ew) (h.held.held p from to) };
    }

pub alts_stay : (x : Exchange) (s n : State) → parties n.waits ≡ parties s.waits → n.chans ≡ s.chans → AltsFor x s → AltsFor x n
alts_stay x s n ew ec h = record { waits = h.waits ∙ sym ew; chans = h.chans ∙ ap (map emptied_chan) (sym ec) }

pub locks_stay : (rendezes : List ℕ) (x : Locking) (s n : State) → n.holds ≡ s.holds → lock_waiters n.waits ≡ lock_waiters s.waits → LocksFor rendezes x s → LocksFor rendezes x n
locks_stay rendezes x s n e ew h = record { holds = e ∙ h.holds; waits = ew ∙ h.waits; on = h.on }

pub io_stays : (x : Desks) (s n : State) → n.ioprocs ≡ s.ioprocs → IoFor x s → IoFor x n
io_stays x s n e h = record { ioprocs = e ∙ h.ioprocs; copies = h.copies }

pub notes_stay : (places : ℕ) (x : List ProcNotes) (s n : State) → map noted n.procs ≡ map noted s.procs → NotesFor places x s → NotesFor places x n
notes_stay places x s n e h = record { procs = e ∙ h.procs; count = h.count }

-- there are notes for each proc place
pub stands_places : (board : Board) (s : State) → Stands board s → HasPlaces board
stands_places board s h = h.notes.count ∙ sym h.sched.count

-- another position of the next entry
pub with_position : (board : Board) (s : State) (n m : ℕ) → m ≡ n → Stands board s → Stands (record board { position = n }) (record s { position = m })
with_position board s n m e h = record {
  sched = sched_stays board.setup.places board.sched s _ refl refl refl refl refl h.sched;
  alts = alts_stay board.alts s _ refl refl h.alts;
  locks = locks_stay board.setup.rendezes board.locks s _ refl refl h.locks;
  io = io_stays board.io s _ refl h.io;
  notes = notes_stay board.setup.places board.notes s _ refl h.notes;
  draws = h.draws;
  position = e;
  over = h.over;
}

-- a schedule that stands for a state of which the other parts read the same as before
pub with_sched : (board : Board) (sched : Schedule) (s n : State) → n ≡ record s { threads = n.threads; line = n.line; procs = n.procs; opened = n.opened } → map noted n.procs ≡ map noted s.procs → SchedFor board.setup.places sched n → Stands board s → Stands (record board { sched = sched }) n
with_sched board sched s n same noted_same h st = record {
  sched = h;
  alts = alts_stay board.alts s n (ap (λ (x : State). parties x.waits) same) (ap (λ (x : State). x.chans) same) st.alts;
  locks = locks_stay board.setup.rendezes board.locks s n (ap (λ (x : State). x.holds) same) (ap (λ (x : State). lock_waiters x.waits) same) st.locks;
  io = io_stays board.io s n (ap (λ (x : State). x.ioprocs) same) st.io;
  notes = notes_stay board.setup.places board.notes s n noted_same st.notes;
  draws = rw (ap (λ (x : State). x.draws) same) st.draws;
  position = ap (λ (x : State). x.position) same ∙ st.position;
  over = ap (λ (x : State). x.over) same ∙ st.over;
}

-- threads and ioprocs that stand for a state in which the same threads wait in alts and at locks, and the other parts read the
-- same as before
pub with_sched_io : (board : Board) (sched : Schedule) (io : Desks) (s n : State) → n ≡ record s { threads = n.threads; line = n.line; waits = n.waits; ioprocs = n.ioprocs } → parties n.waits ≡ parties s.waits → lock_waiters n.waits ≡ lock_waiters s.waits → SchedFor board.setup.places sched n → IoFor io n → Stands board s → Stands (record board { sched = sched; io = io }) n
with_sched_io board sched io s n same waits locks h i st = record {
  sched = h;
  alts = alts_stay board.alts s n waits (ap (λ (x : State). x.chans) same) st.alts;
  locks = locks_stay board.setup.rendezes board.locks s n (ap (λ (x : State). x.holds) same) locks st.locks;
  io = i;
  notes = notes_stay board.setup.places board.notes s n (ap (λ (x : State). map noted x.procs) same) st.notes;
  draws = rw (ap (λ (x : State). x.draws) same) st.draws;
  position = ap (λ (x : State). x.position) same ∙ st.position;
  over = ap (λ (x : State). x.over) same ∙ st.over;
}

-- a reply that makes no entry changes nothing
pub unmoved : (board : Board) (s : State) (r : Reply) → makes_entry r ≡ false → Stands board s → Gives s (same r s) r board
unmoved board s r quiet h = record { reply_is = refl; stands = rw quiet h }

-- one that makes an entry leaves the state of the outcome
pub moved : (board : Board) (s : State) (o : Outcome) (r : Reply) → r ≡ o.reply → makes_entry r ≡ true → Stands board o.state → Gives s o r board
moved board s o r e makes h = record { reply_is = e; stands = rw makes h }

-- outcomes that are the same give the same
pub gives_by : (board : Board) (s : State) (o p : Outcome) (r : Reply) → o ≡ p → Gives s p r board → Gives s o r board
gives_by board s o p r e h = subst (λ (q : Outcome). Gives s q r board) (sym e) h

counts_by : (b : Bool) (mid : Board) (s n : State) (old : List Entry) (e : Entry) → s.position ≡ length old → Stands mid (left b s n) → Stands (record mid { position = length (cond b (old ++ e ∷ []) old) }) (settled b s n)
counts_by true mid s n old e counted h = with_position mid n _ (s.position + 1) (rw (counted, length-append) refl) h
counts_by false mid s n old e counted h = with_position mid s (length old) s.position counted h

-- the entry is counted
pub counts : (setup : Setup) (seat : Seat) (event : Event) (mid : Board) (s : State) (r : Reply) (old : List Entry) (m : ℕ) → s.position ≡ length old → m ≡ length (with_entry old seat event r) → Gives s (outcome setup seat event s) r mid → Does (step setup seat event s) r (record mid { position = m })
unfolding step
counts setup seat event mid s r old m counted e g =
    let o = outcome setup seat event s in
    let x : Entry = record { seat = seat; event = event; reply = r } in
    let at : Stands (record mid { position = length (with_entry old seat event r) }) (settled (makes_entry r) s o.state) = counts_by (makes_entry r) mid s o.state old x counted g.stands in
    let there : Stands (record mid { position = m }) (settled (makes_entry r) s o.state) = subst (λ (k : ℕ). Stands (record mid { position = k }) (settled (makes_entry r) s o.state)) (sym e) at in
    record { reply_is = g.reply_is; stands = subst (λ (q : Reply). Stands (record mid { position = m }) (settled (makes_entry q) s o.state)) g.reply_is there }

-- the requests on threads
pub threads_served : (board : Board) (s : State) (o : Outcome) (r : Reply) (sched : Schedule) → ThreadServes board.setup.places s o r sched → Stands board s → Gives s o r (record board { sched = sched })
threads_served board s o r sched v st = moved (record board { sched = sched }) s o r v.reply_is v.entry (with_sched board sched s o.state v.others v.notes v.stands st)

-- the requests to interrupt or kill threads, and those on notes
pub signals_served : (board : Board) (s : State) (o : Outcome) (r : Reply) (sched : Schedule) (alts : Exchange) (locks : Locking) (notes : List ProcNotes) → SignalServes board.setup s o r sched alts locks notes → Stands board s → Gives s o r (record board { sched = sched; alts = alts; locks = locks; notes = notes })
signals_served board s o r sched alts locks notes v st =
    let e = v.leaves in
    moved (record board { sched = sched; alts = alts; locks = locks; notes = notes }) s o r v.reply_is v.entry (record {
      sched = v.stands.threads;
      alts = v.stands.alts;
      locks = v.stands.locks;
      io = io_stays board.io s o.state (ap (λ (x : State). x.ioprocs) e) st.io;
      notes = v.stands.notes;
      draws = rw (ap (λ (x : State). x.draws) e) st.draws;
      position = ap (λ (x : State). x.position) e ∙ st.position;
      over = ap (λ (x : State). x.over) e ∙ st.over;
    })

-- the requests on channels
pub chans_served : (board : Board) (s : State) (o : Outcome) (r : Reply) (sched : Schedule) (alts : Exchange) (generator : Lcg) → ChanServes board.setup s o r sched alts generator → Stands board s → Gives s o r (record board { sched = sched; alts = alts; generator = generator })
chans_served board s o r sched alts generator v st =
    let e = v.leaves.same in
    moved (record board { sched = sched; alts = alts; generator = generator }) s o r v.reply_is v.entry (record {
      sched = v.parts.threads;
      alts = v.parts.channels;
      locks = locks_stay board.setup.rendezes board.locks s o.state (ap (λ (x : State). x.holds) e) (locks_kept o.state.waits s.waits v.leaves.calls) st.locks;
      io = io_stays board.io s o.state (ap (λ (x : State). x.ioprocs) e) st.io;
      notes = notes_stay board.setup.places board.notes s o.state (ap (λ (x : State). map noted x.procs) e) st.notes;
      draws = v.parts.drawn;
      position = ap (λ (x : State). x.position) e ∙ st.position;
      over = ap (λ (x : State). x.over) e ∙ st.over;
    })

-- the requests on locks
pub locks_served : (board : Board) (s : State) (o : Outcome) (r : Reply) (sched : Schedule) (locks : Locking) → LockServes board.setup s o r sched locks → Stands board s → Gives s o r (record board { sched = sched; locks = locks })
locks_served board s o r sched locks v st =
    let e = v.leaves.same in
    moved (record board { sched = sched; locks = locks }) s o r v.reply_is v.entry (record {
      sched = v.threads;
      alts = alts_stay board.alts s o.state v.leaves.alts (ap (λ (x : State). x.chans) e) st.alts;
      locks = v.locked;
      io = io_stays board.io s o.state (ap (λ (x : State). x.ioprocs) e) st.io;
      notes = notes_stay board.setup.places board.notes s o.state (ap (λ (x : State). map noted x.procs) e) st.notes;
      draws = rw (ap (λ (x : State). x.draws) e) st.draws;
      position = ap (λ (x : State). x.position) e ∙ st.position;
      over = ap (λ (x : State). x.over) e ∙ st.over;
    })

-- the requests on ioprocs, and what ioprocs do
io_stands : (board : Board) (s : State) (o : Outcome) (r : Reply) (sched : Schedule) (io : Desks) → IoServes board.setup s o r sched io → Stands board s → Stands (record board { sched = sched; io = io }) o.state
io_stands board s o r sched io v st = with_sched_io board sched io s o.state v.others v.alts v.locks v.threads v.ioprocs st

pub io_served : (board : Board) (s : State) (o : Outcome) (r : Reply) (sched : Schedule) (io : Desks) → makes_entry r ≡ true → IoServes board.setup s o r sched io → Stands board s → Gives s o r (record board { sched = sched; io = io })
io_served board s o r sched io makes v st = moved (record board { sched = sched; io = io }) s o r v.reply_is makes (io_stands board s o r sched io v st)

did_by : (b : Bool) (board : Board) (s : State) (o : Outcome) (r : Reply) (sched : Schedule) (io : Desks) → (b ≡ false → (sched ≡ board.sched) × (io ≡ board.io)) → IoServes board.setup s o r sched io → Stands board s → Stands (record board { sched = sched; io = io }) (left b s o.state)
did_by true board s o r sched io none v st = io_stands board s o r sched io v st
did_by false board s o r sched io none v st =
    let x = none refl in
    rw (x.0, x.1) st

pub io_did : (board : Board) (s : State) (o : Outcome) (r : Reply) (sched : Schedule) (io : Desks) → (makes_entry r ≡ false → (sched ≡ board.sched) × (io ≡ board.io)) → IoServes board.setup s o r sched io → Stands board s → Gives s o r (record board { sched = sched; io = io })
io_did board s o r sched io none v st = record { reply_is = v.reply_is; stands = did_by (makes_entry r) board s o r sched io none v st }

-- a request is served where its thread runs in the proc that tells it, unless the thread ends instead
pub called_strays : (setup : Setup) (p t : ℕ) (request : Request) (s : State) → runs_there p (by_id s.threads t) ≡ false → called setup p t request s ≡ same Stray s
unfolding called
called_strays setup p t request s e = rw e refl

pub called_ends : (setup : Setup) (p t : ℕ) (request : Request) (s : State) → runs_there p (by_id s.threads t) ≡ true → is_doomed t request s ≡ true → called setup p t request s ≡ replied EndedReply (ended t s)
unfolding called
called_ends setup p t request s e d = rw (e, d) refl

pub called_serves : (setup : Setup) (p t : ℕ) (request : Request) (s : State) → runs_there p (by_id s.threads t) ≡ true → is_doomed t request s ≡ false → called setup p t request s ≡ served setup t request s
unfolding called
called_serves setup p t request s e d = rw (e, d) refl

-- what an event comes to
pub call_is : (setup : Setup) (p t : ℕ) (request : Request) (s : State) → outcome setup (Proc p) (Call t request) s ≡ called setup p t request s
unfolding outcome
call_is setup p t request s = refl

pub next_is : (setup : Setup) (p : ℕ) (s : State) → outcome setup (Proc p) Next s ≡ next_event setup p s
unfolding outcome
next_is setup p s = refl

pub take_is : (setup : Setup) (k : ℕ) (s : State) → outcome setup (IoSeat k) IoTake s ≡ io_event k s None
unfolding outcome
take_is setup k s = refl

pub did_is : (setup : Setup) (k : ℕ) (effect : Effect) (s : State) → outcome setup (IoSeat k) (IoDid effect) s ≡ io_event k s (Some effect)
unfolding outcome
did_is setup k effect s = refl

pub tells_nothing : (setup : Setup) (p : ℕ) (effect : Effect) (s : State) → outcome setup (Proc p) (IoDid effect) s ≡ same Stray s
unfolding outcome
tells_nothing setup p effect s = refl

pub strays : (setup : Setup) (seat : Seat) (event : Event) (s : State) → IsStray seat event → is_told event ≡ false → outcome setup seat event s ≡ same Stray s
unfolding outcome
strays setup (Proc p) (Call t request) s h q = absurd h
strays setup (Proc p) Next s h q = absurd h
strays setup (Proc p) IoTake s h q = refl
strays setup (Proc p) (IoDid effect) s h q = refl
strays setup (IoSeat k) (Call t request) s h q = refl
strays setup (IoSeat k) Next s h q = refl
strays setup (IoSeat k) IoTake s h q = absurd h
strays setup (IoSeat k) (IoDid effect) s h q = absurd (cc q)
