-- What the parts stand for where threads end.
use Rattle.std.proofs.Common.{◌≡◌, ◌≢◌, ℕ, zero, suc, ◌+◌, ◌-◌, ◌≤◌, Bool, true, false, not, cond, eqb, List, [], ◌∷◌, map, length, Option, Some, None, refl, sym, ap, ◌∙◌, arith, tests, rules, subst}
use Rattle.std.specs.Prelude.{◌&&◌, ◌==◌, slice_get, nat_lt}
use Rattle.std.specs.List.{filter, list_any}
use Rattle.p9_manual.specs.declared.state.Place.{Place as Stand}
use Rattle.p9_manual.specs.declared.state.Place.TheVariants.{Running, New, Ready, Waiting, Ended}
use Rattle.p9_manual.specs.declared.state.Thread.{Thread}
use Rattle.p9_manual.specs.Ends.{all_ended, at_end, dies_out, ended, ended_where, off_waits, proc_ended, quieted, with_no_note}
use Rattle.p9_manual.specs.LockWaits.{lock_waiters}
use Rattle.p9_manual.specs.NoteCalls.{noted, with_proc}
use Rattle.p9_manual.specs.Offers.{parties}
use Rattle.p9_manual.specs.Places.{is_of, lives_in}
use Rattle.p9_manual.specs.Standing.{StandOnce, times, place_in}
use Rattle.p9_manual.specs.State.{Proc, State, by_id, changed, each_from, placed}
use Rattle.p9_alt.specs.Exchange.{Exchange}
use Rattle.p9_alt.specs.For.{Tracks as AltTracks}
use Rattle.p9_io.specs.Desks.{Desks}
use Rattle.p9_io.specs.Stands.{Tracks as IoTracks}
use Rattle.p9_lock.specs.Locking.{Locking}
use Rattle.p9_lock.specs.Stands.{Tracks as LockTracks}
use Rattle.p9_note.specs.For.{NotesFor, Tracks as NoteTracks, bare}
use Rattle.p9_note.specs.ProcNotes.{ProcNotes}
use Rattle.p9_sched.specs.Schedule.{IsPlace, Schedule, ended_in, without, proc_of, ended as sched_ended, proc_ended as sched_proc_ended, all_ended as sched_all_ended}
use Rattle.p9_sched.specs.Stands.{Tracks as SchedTracks, TracksStanding}
use Rattle.p9_sched.specs.Turns.{place_of, place_at}
use Rattle.p9_sched.specs.declared.turns.Place.TheVariants as place
use Rattle.p9_ends.specs.Parts.{Ends, EndsAlone, living_quiet, quiet_if}
use Rattle.p9_ends.proofs.Quiet.{any_times, changed_by_nothing, changed_length, each_same, none_lives, none_quiet, quiet_more, of_others, of_proc, one_dies, one_lived, one_other, quiet_all}

drop_none : {A : Type 0} (b : Bool) (x : A) (n : ℕ) (xs ys : List A) → cond b 1 0 + n ≡ 0 → (n ≡ 0 → xs ≡ ys) → cond (not b) (x ∷ xs) xs ≡ x ∷ ys
drop_none true x n xs ys h more = absurd (omega arith)
drop_none false x n xs ys h more = ap (λ zs. x ∷ zs) (more (omega arith))

-- a test that never passes leaves out nothing
none_out : {A : Type 0} (p : A → Bool) (xs : List A) → times p xs ≡ 0 → filter (λ x. not (p x)) xs ≡ xs
none_out p [] h = refl
none_out p (x ∷ xs) h = drop_none (p x) x (times p xs) (filter (λ y. not (p y)) xs) xs h (none_out p xs)

runs_place : (pl : Stand) → place_at pl ≡ place.Running → pl ≡ Running
runs_place Running h = refl
runs_place New h = absurd (cc h)
runs_place (Ready a) h = absurd (cc h)
runs_place Waiting h = absurd (cc h)
runs_place Ended h = absurd (cc h)

stands_running : (o : Option Thread) → place_of o ≡ place.Running → place_in o ≡ Running
stands_running None h = absurd (cc h)
stands_running (Some thread) h = runs_place thread.place h

-- a thread that runs doesn't wait
no_wait : (t : ℕ) (s : State) → place_of (by_id s.threads t) ≡ place.Running → StandOnce s.threads s.line s.waits → filter (λ w. not (w.tid == t)) s.waits ≡ s.waits
no_wait t s runs stand = none_out (λ w. w.tid == t) s.waits (stand.in_waits t ∙ (rw (stands_running _ runs) refl))

and_not : (a b : Bool) → b ≡ a → (a && not b) ≡ false
and_not true b e = rw e refl
and_not false b e = refl

and_live : (a b : Bool) → b ≡ false → (a && not b) ≡ a
and_live true b e = rw e refl
and_live false b e = refl

not_not : (b : Bool) → not (not b) ≡ b
not_not true = refl
not_not false = refl

slice_is : (ts : List Thread) (t : ℕ) (thread : Thread) → by_id ts t ≡ Some thread → slice_get ts (t - 1) ≡ Some thread
slice_is ts zero thread e = absurd (cc e)
slice_is ts (suc t) thread e = let b : nat_lt 0 (suc t) ≡ true = search (rules, tests) in rw b at e

running_lives : (thread : Thread) → place_at thread.place ≡ place.Running → lives_in thread.proc_no thread ≡ true
running_lives thread h =
    let same = runs_place thread.place h in
    let own : eqb thread.proc_no thread.proc_no ≡ true = search (rules, tests) in
    rw (own, same) refl

-- at most the proc of a thread that ran dies out with it
caller_dies : (t p : ℕ) (before : List Thread) (thread : Thread) (procs : List Proc) → by_id before t ≡ Some thread → place_at thread.place ≡ place.Running → p ≡ thread.proc_no → 1 ≤ p → each_from (quieted before (placed t Ended before)) 1 procs ≡ changed (quiet_if (eqb (times (lives_in p) (placed t Ended before)) 0)) procs (p - 1)
caller_dies t p before thread procs e runs own one =
    let after = placed t Ended before in
    let at = slice_is before t thread e in
    let others = λ (q : ℕ) (ne : q ≢ p). and_not (list_any (lives_in q) before) (list_any (lives_in q) after) (one_other q (t - 1) before thread at (λ e'. ne (e' ∙ sym own))) in
    let lived : lives_in p thread ≡ true = ap (λ q. lives_in q thread) own ∙ running_lives thread runs in
    let some = one_lived p (t - 1) before thread at lived in
    let dies : dies_out before after p ≡ eqb (times (lives_in p) after) 0 =
    ap (λ b. b && not (list_any (lives_in p) after)) some ∙ (ap not (any_times (lives_in p) after) ∙ not_not (eqb (times (lives_in p) after) 0)) in
    one_dies (dies_out before after) 1 (p - 1) p procs (omega arith) others ∙ ap (λ b. changed (quiet_if b) procs (p - 1)) dies

-- at most a proc dies out with all its threads
proc_dies : (p : ℕ) (before : List Thread) (procs : List Proc) → 1 ≤ p → each_from (quieted before (map (ended_in p) before)) 1 procs ≡ changed (quiet_if (list_any (lives_in p) before)) procs (p - 1)
proc_dies p before procs one =
    let after = map (ended_in p) before in
    let others = λ (q : ℕ) (ne : q ≢ p). and_not (list_any (lives_in q) before) (list_any (lives_in q) after) (of_others p q before ne) in
    let dies : dies_out before after p ≡ list_any (lives_in p) before = and_live (list_any (lives_in p) before) (list_any (lives_in p) after) (of_proc p before) in
    one_dies (dies_out before after) 1 (p - 1) p procs (omega arith) others ∙ ap (λ b. changed (quiet_if b) procs (p - 1)) dies

-- each proc where a thread lives dies out with all threads
all_die : (before : List Thread) (procs : List Proc) → each_from (quieted before (map at_end before)) 1 procs ≡ each_from (λ p. quiet_if (list_any (lives_in p) before)) 1 procs
all_die before procs =
    each_same (dies_out before (map at_end before)) (λ p. list_any (lives_in p) before) 1 procs
    (λ p. and_live (list_any (lives_in p) before) (list_any (lives_in p) (map at_end before)) (none_lives p before))

-- notes that stand for one state stand for another with the same procs
same_procs : (places : ℕ) (notes : List ProcNotes) (s u : State) → u.procs ≡ s.procs → NotesFor places notes s → NotesFor places notes u
same_procs places notes s u e n = record { procs = ap (map noted) e ∙ n.procs; count = n.count }

-- the notes of one that doesn't die out stay
stay : (p : ℕ) (notes : List ProcNotes) → NoteTracks (with_proc (quiet_if false) p) notes notes
stay p notes places s n = same_procs places notes s (with_proc (quiet_if false) p s) (changed_by_nothing s.procs (p - 1)) n

-- or they are removed
pub cleared_if : (b : Bool) (p : ℕ) (old new : List ProcNotes) → b ≡ true → NoteTracks (with_proc with_no_note p) old new → NoteTracks (with_proc (quiet_if b) p) old new
cleared_if true p old new e h = h
cleared_if false p old new e h = absurd (cc e)

pub stay_if : (b : Bool) (p : ℕ) (old : List ProcNotes) → b ≡ false → NoteTracks (with_proc (quiet_if b) p) old old
stay_if true p old e = absurd (cc e)
stay_if false p old e = stay p old

-- a thread that ends leaves the places as they are
pub place_stays : (t p : ℕ) (old new : Schedule) → new ≡ sched_ended t old → IsPlace p old → IsPlace p new
place_stays t p old new e h =
    let len : length new.lines ≡ length old.lines = ap (λ (x : Schedule). length x.lines) e ∙ changed_length (without t) old.lines (proc_of (by_id old.threads t) - 1) in
    record { from = h.from; to = omega (arith, h.to) }

quieted_same : (a b c d : List Thread) (procs : List Proc) → a ≡ b → c ≡ d → each_from (quieted a c) 1 procs ≡ each_from (quieted b d) 1 procs
quieted_same a b c d procs e f = ap (λ ts. each_from (quieted ts c) 1 procs) e ∙ ap (λ ts. each_from (quieted b ts) 1 procs) f

caller_procs : (t p : ℕ) (o : Option Thread) (before : List Thread) (procs : List Proc) → by_id before t ≡ o → place_of o ≡ place.Running → p ≡ proc_of o → 1 ≤ p → each_from (quieted before (placed t Ended before)) 1 procs ≡ changed (quiet_if (eqb (times (lives_in p) (placed t Ended before)) 0)) procs (p - 1)
caller_procs t p None before procs e runs own one = absurd (cc runs)
caller_procs t p (Some thread) before procs e runs own one = caller_dies t p before thread procs e runs own one

-- the caller has ended
pub caller_ends : (t p : ℕ) (sched sched' : Schedule) (io io' : Desks) (notes notes' : List ProcNotes) → place_of (by_id sched.threads t) ≡ place.Running → p ≡ proc_of (by_id sched.threads t) → 1 ≤ p → sched' ≡ sched_ended t sched → TracksStanding (ended t) sched sched' → IoTracks (ended_where (λ u. u == t)) io io' → NoteTracks (with_proc (quiet_if (eqb (times (lives_in p) sched'.threads) 0)) p) notes notes' → EndsAlone (ended t) sched io notes sched' io' notes'
caller_ends t p sched sched' io io' notes notes' runs own one is threads ios nts = record {
  stands = λ setup alts locks s st sound.
      let runs' : place_of (by_id s.threads t) ≡ place.Running = ap (λ ts. place_of (by_id ts t)) st.threads.threads ∙ runs in
      let same = no_wait t s runs' sound.stand in
      let after = threads setup.places s sound.stand st.threads in
      let is' : sched'.threads ≡ placed t Ended sched.threads = ap (λ (x : Schedule). x.threads) is in
      let procs : (ended t s).procs ≡ changed (quiet_if (eqb (times (lives_in p) sched'.threads) 0)) s.procs (p - 1) =
      quieted_same s.threads sched.threads (ended t s).threads (placed t Ended sched.threads) s.procs st.threads.threads (after.threads ∙ is')
      ∙ (caller_procs t p (by_id sched.threads t) sched.threads s.procs refl runs own one ∙ ap (λ ts. changed (quiet_if (eqb (times (lives_in p) ts) 0)) s.procs (p - 1)) (sym is')) in
      record {
        threads = after;
        alts = record { waits = st.alts.waits ∙ ap parties (sym same); chans = st.alts.chans };
        locks = record { holds = st.locks.holds; waits = ap lock_waiters same ∙ st.locks.waits; on = st.locks.on };
        io = ios s st.io;
        notes = same_procs setup.places notes' (with_proc (quiet_if (eqb (times (lives_in p) sched'.threads) 0)) p s) (ended t s) procs (nts setup.places s st.notes);
      };
}

-- all threads of proc p have ended
pub proc_ends : (p n : ℕ) (sched sched' : Schedule) (alts alts' : Exchange) (locks locks' : Locking) (io io' : Desks) (notes notes' : List ProcNotes) → 1 ≤ p → n ≡ times (lives_in p) sched.threads → sched' ≡ sched_proc_ended p sched → TracksStanding (proc_ended p) sched sched' → AltTracks (off_waits (λ t. is_of p (by_id sched.threads t))) alts alts' → LockTracks (off_waits (λ t. is_of p (by_id sched.threads t))) locks locks' → IoTracks (ended_where (λ t. is_of p (by_id sched.threads t))) io io' → NoteTracks (with_proc (quiet_if (not (eqb n 0))) p) notes notes' → Ends (proc_ended p) sched alts locks io notes sched' alts' locks' io' notes'
proc_ends p n sched sched' alts alts' locks locks' io io' notes notes' one count is threads als lks ios nts = record {
  stands = λ setup s st sound.
      let back = sym st.threads.threads in
      let after = threads setup.places s sound.stand st.threads in
      let is' : sched'.threads ≡ map (ended_in p) sched.threads = ap (λ (x : Schedule). x.threads) is in
      let some : list_any (lives_in p) sched.threads ≡ not (eqb n 0) = any_times (lives_in p) sched.threads ∙ ap (λ m. not (eqb m 0)) (sym count) in
      let procs : (proc_ended p s).procs ≡ changed (quiet_if (not (eqb n 0))) s.procs (p - 1) =
      quieted_same s.threads sched.threads (proc_ended p s).threads (map (ended_in p) sched.threads) s.procs st.threads.threads (after.threads ∙ is')
      ∙ (proc_dies p sched.threads s.procs one ∙ ap (λ b. changed (quiet_if b) s.procs (p - 1)) some) in
      let a = subst (λ ts. AltTracks (off_waits (λ t. is_of p (by_id ts t))) alts alts') back als s st.alts in
      let l = subst (λ ts. LockTracks (off_waits (λ t. is_of p (by_id ts t))) locks locks') back lks setup.rendezes s st.locks in
      let i = subst (λ ts. IoTracks (ended_where (λ t. is_of p (by_id ts t))) io io') back ios s st.io in
      record {
        threads = after;
        alts = record { waits = a.waits; chans = a.chans };
        locks = record { holds = l.holds; waits = l.waits; on = l.on };
        io = record { ioprocs = i.ioprocs; copies = i.copies };
        notes = same_procs setup.places notes' (with_proc (quiet_if (not (eqb n 0))) p s) (proc_ended p s) procs (nts setup.places s st.notes);
      };
}

map_length : {A B : Type 0} (f : A → B) (xs : List A) → length (map f xs) ≡ length xs
map_length f [] = refl
map_length f (x ∷ xs) = ap suc (map_length f xs)

-- all threads have ended
pub all_end : (sched sched' : Schedule) (alts alts' : Exchange) (locks locks' : Locking) (io io' : Desks) (notes notes' : List ProcNotes) → length notes ≡ length sched.lines → sched' ≡ sched_all_ended sched → SchedTracks all_ended sched sched' → AltTracks (off_waits (λ t. true)) alts alts' → LockTracks (off_waits (λ t. true)) locks locks' → IoTracks (ended_where (λ t. true)) io io' → NoteTracks (living_quiet sched.threads (length sched.lines)) notes notes' → Ends all_ended sched alts locks io notes sched' alts' locks' io' notes'
all_end sched sched' alts alts' locks locks' io io' notes notes' places is threads als lks ios nts = record {
  stands = λ setup s st sound.
      let after = threads setup.places s st.threads in
      let is' : sched'.threads ≡ map at_end sched.threads = ap (λ (x : Schedule). x.threads) is in
      let count : length s.procs ≡ length notes = sym (map_length noted s.procs) ∙ (ap length st.notes.procs ∙ map_length bare notes) in
      let lives = λ (p : ℕ). list_any (lives_in p) sched.threads in
      let procs : (all_ended s).procs ≡ (living_quiet sched.threads (length sched.lines) s).procs =
      quieted_same s.threads sched.threads (all_ended s).threads (map at_end sched.threads) s.procs st.threads.threads (after.threads ∙ is')
      ∙ (all_die sched.threads s.procs ∙ sym (quiet_all lives 1 (length sched.lines) s.procs (omega arith))) in
      let a = als s st.alts in
      let l = lks setup.rendezes s st.locks in
      let i = ios s st.io in
      record {
        threads = after;
        alts = record { waits = a.waits; chans = a.chans };
        locks = record { holds = l.holds; waits = l.waits; on = l.on };
        io = record { ioprocs = i.ioprocs; copies = i.copies };
        notes = same_procs setup.places notes' (living_quiet sched.threads (length sched.lines) s) (all_ended s) procs (nts setup.places s st.notes);
      };
}

-- no proc is looked at
pub living_none : (ts : List Thread) (notes : List ProcNotes) → NoteTracks (living_quiet ts 0) notes notes
living_none ts notes places s n = same_procs places notes s (living_quiet ts 0 s) (none_quiet (λ p. list_any (lives_in p) ts) 1 0 s.procs refl) n

-- one proc more is looked at
pub living_more : (ts : List Thread) (i n p : ℕ) (first old new : List ProcNotes) → p ≡ i + 1 → n ≡ times (lives_in p) ts → NoteTracks (with_proc (quiet_if (not (eqb n 0))) p) old new → NoteTracks (living_quiet ts i) first old → NoteTracks (living_quiet ts (i + 1)) first new
living_more ts i n p first old new at count one before places s h =
    let lives = λ (q : ℕ). list_any (lives_in q) ts in
    let some : lives p ≡ not (eqb n 0) = any_times (lives_in p) ts ∙ ap (λ m. not (eqb m 0)) (sym count) in
    let next : i + 1 ≡ suc i = omega arith in
    let index : i ≡ p - 1 = omega arith in
    let e : (living_quiet ts (i + 1) s).procs ≡ (with_proc (quiet_if (not (eqb n 0))) p (living_quiet ts i s)).procs =
    ap (λ k. (living_quiet ts k s).procs) next
    ∙ (quiet_more lives 1 i p s.procs (omega arith)
    ∙ (ap (λ b. changed (quiet_if b) (living_quiet ts i s).procs i) some ∙ ap (changed (quiet_if (not (eqb n 0))) (living_quiet ts i s).procs) index)) in
    same_procs places new (with_proc (quiet_if (not (eqb n 0))) p (living_quiet ts i s)) (living_quiet ts (i + 1) s) e (one places (living_quiet ts i s) (before places s h))
