-- What threadnotify comes to.
use Rattle.std.proofs.Common.{◌≡◌, ℕ, zero, suc, ◌-◌, Bool, true, false, cond, List, [], ◌∷◌, map, Option, Some, None, refl, ap, sym, subst, ◌∙◌, arith}
use Rattle.std.specs.Prelude.{option_map, slice_get, nat_lt}
use Rattle.std.specs.Option.{is_some}
use Rattle.std.specs.List.{AllByRecursion}
use Rattle.std.proofs.lemmas.List.Elements.{recursion_from_All}
use Rattle.std.proofs.lemmas.Option.{slice_get-map}
use Rattle.p9_word.specs.declared.answer.Answer.TheVariants.{Bad, Number}
use Rattle.p9_word.specs.declared.setup.Setup.{Setup}
use Rattle.p9_word.specs.declared.trail.Reply.TheVariants.{Now}
use Rattle.p9_manual.specs.declared.state.Thread.{Thread}
use Rattle.p9_manual.specs.NoteCalls.{handlers_set, noted, notify, notify_in, with_handlers, with_proc}
use Rattle.p9_manual.specs.Notes.{is_no_note, notified}
use Rattle.p9_manual.specs.Sound.{IsThreadIn}
use Rattle.p9_manual.specs.State.{Proc, State, bad, by_id, changed}
use Rattle.p9_alt.specs.Exchange.{Exchange}
use Rattle.p9_lock.specs.Locking.{Locking}
use Rattle.p9_note.specs.For.{NotesFor, Tracks, bare}
use Rattle.p9_note.specs.ProcNotes.{IsPlace as IsNotePlace, ProcNotes, is_done, notes_in, notes_of}
use Rattle.p9_sched.specs.Schedule.{IsMade, Schedule, proc_of}
use Rattle.p9_sched.specs.Turns.{place_of}
use Rattle.p9_sched.specs.declared.turns.Place.TheVariants as place
use Rattle.p9_signal_calls.specs.Affects.{PartsFor}
use Rattle.p9_signal_calls.specs.Serves.{Serves, ServesAll, StandFor, Stands}
use Rattle.p9_signal_calls.proofs.Lists.{by_id_some, by_id_suc, by_id_within}
use Rattle.p9_signal_calls.proofs.Serving.{parts_of, same_bad}

words_kept : (f : Proc → Proc) → ((x : Proc) → (f x).word ≡ x.word) → (procs : List Proc) (i : ℕ) → map (λ x. x.word) (changed f procs i) ≡ map (λ x. x.word) procs
words_kept f h [] i = refl
words_kept f h (x ∷ xs) zero = ap (λ n. n ∷ map (λ (y : Proc). y.word) xs) (h x)
words_kept f h (x ∷ xs) (suc i) = ap (λ ns. x.word ∷ ns) (words_kept f h xs i)

-- the threads, the alts and the locks stand also where the notes of a proc changed
pub parts_aside : (f : Proc → Proc) (p : ℕ) (setup : Setup) (sched : Schedule) (alts : Exchange) (locks : Locking) (s : State) → ((x : Proc) → (f x).word ≡ x.word) → PartsFor setup sched alts locks s → PartsFor setup sched alts locks (with_proc f p s)
parts_aside f p setup sched alts locks s same h =
    record {
      threads = record {
        threads = h.threads.threads;
        lines = h.threads.lines;
        words = words_kept f same s.procs (p - 1) ∙ h.threads.words;
        opened = h.threads.opened;
        count = h.threads.count;
        held = record { held = h.threads.held.held };
      };
      alts = record { waits = h.alts.waits; chans = h.alts.chans };
      locks = record { holds = h.locks.holds; waits = h.locks.waits; on = h.locks.on };
    }

pub all_of : (setup : Setup) (sched : Schedule) (alts : Exchange) (locks : Locking) (notes : List ProcNotes) (s : State) → PartsFor setup sched alts locks s → NotesFor setup.places notes s → StandFor setup sched alts locks notes s
all_of setup sched alts locks notes s h k = record { threads = h.threads; alts = h.alts; locks = h.locks; notes = k }

refused_by : (on : Bool) (id : ℕ) (prefix : List ℕ) (s : State) (o : Option Thread) → is_no_note prefix ≡ true → notify on id prefix s o ≡ bad s
refused_by on id prefix s None e = refl
refused_by on id prefix s (Some caller) e = rw e refl

-- a prefix that is too long
pub notify_refused : (t : ℕ) (on : Bool) (id : ℕ) (prefix : List ℕ) (sched : Schedule) (alts : Exchange) (locks : Locking) (notes : List ProcNotes) → is_no_note prefix ≡ true → ServesAll (λ s. notify on id prefix s (by_id s.threads t)) sched alts locks notes (Now Bad) sched alts locks notes
notify_refused t on id prefix sched alts locks notes e = record {
  serves = λ setup s h sound. rw (refused_by on id prefix s (by_id s.threads t) e) (same_bad setup sched alts locks notes s h);
}

set_in : (p : ℕ) (setup : Setup) (sched : Schedule) (alts : Exchange) (locks : Locking) (notes : List ProcNotes) (s : State) (o : Option (List (ℕ × List ℕ))) → PartsFor setup sched alts locks s → NotesFor setup.places notes (handlers_set p o s).state → Serves setup s (handlers_set p o s) (Now (Number (cond (is_some o) 1 0))) sched alts locks notes
set_in p setup sched alts locks notes s None h k = record { reply_is = refl; stands = all_of setup sched alts locks notes s h k; leaves = refl; entry = refl }
set_in p setup sched alts locks notes s (Some handlers) h k =
    record {
      reply_is = refl;
      stands = all_of setup sched alts locks notes (with_proc (with_handlers handlers) p s) (parts_aside (with_handlers handlers) p setup sched alts locks s (λ x. refl) h) k;
      leaves = refl;
      entry = refl;
    }

by_id_map : {A B : Type 0} (f : A → B) (xs : List A) (k : ℕ) → by_id (map f xs) k ≡ option_map f (by_id xs k)
by_id_map f xs k = map_step f (nat_lt 0 k) (slice_get xs (k - 1)) (slice_get (map f xs) (k - 1)) (slice_get-map f xs (k - 1))
  where
    map_step : {A B : Type 0} (f : A → B) (b : Bool) (o : Option A) (r : Option B) → r ≡ option_map f o → cond b r None ≡ option_map f (cond b o None)
    map_step f true o r h = h
    map_step f false o r h = refl

done_for : (on : Bool) (id : ℕ) (prefix : List ℕ) (o : Option Proc) (x : Option ProcNotes) → option_map noted o ≡ option_map bare x → (proc : Proc) → o ≡ Some proc → is_done on id prefix (notes_in x) ≡ is_some (notified on id prefix proc.handlers)
done_for on id prefix o None e proc f = cc
done_for on id prefix o (Some x) e proc f =
    let same : Some (noted proc) ≡ Some (bare x) = rw f at e in
    let pair : noted proc ≡ bare x = cc in
    ap (λ (y : List (ℕ × List ℕ) × List (List ℕ)). is_some (notified on id prefix y.0)) (sym pair)

has_proc : (o : Option Proc) (x : Option ProcNotes) → option_map noted o ≡ option_map bare x → (y : ProcNotes) → x ≡ Some y → (proc : Proc) × (o ≡ Some proc)
has_proc None x e y f = let g = rw f at e in absurd (cc g)
has_proc (Some proc) x e y f = (proc, refl)

proc_is : (o : Option Thread) (x : Thread) → o ≡ Some x → proc_of o ≡ x.proc_no
proc_is o x e = rw e refl

-- handlers of the proc of a thread that is there
pub notify_serves : (t : ℕ) (on : Bool) (id : ℕ) (prefix : List ℕ) (done : Bool) (sched : Schedule) (alts : Exchange) (locks : Locking) (notes new_notes : List ProcNotes) → is_no_note prefix ≡ false → IsMade t sched → IsNotePlace (proc_of (by_id sched.threads t)) notes → done ≡ is_done on id prefix (notes_of (proc_of (by_id sched.threads t)) notes) → Tracks (λ s. (notify_in (proc_of (by_id sched.threads t)) on id prefix s (by_id s.procs (proc_of (by_id sched.threads t)))).state) notes new_notes → ServesAll (λ s. notify on id prefix s (by_id s.threads t)) sched alts locks notes (Now (Number (cond done 1 0))) sched alts locks new_notes
notify_serves t on id prefix done sched alts locks notes new_notes fits made place told tracks = record {
  serves = λ setup s h sound.
      let p : ℕ = proc_of (by_id sched.threads t) in
      let caller = by_id_some sched.threads t made.from made.to in
      let here : by_id s.threads t ≡ Some caller.0 = ap (λ (ts : List Thread). by_id ts t) h.threads.threads ∙ caller.1 in
      let at : p ≡ caller.0.proc_no = proc_is (by_id sched.threads t) caller.0 caller.1 in
      let both : option_map noted (by_id s.procs p) ≡ option_map bare (by_id notes p) = sym (by_id_map noted s.procs p) ∙ (ap (λ xs. by_id xs p) h.notes.procs ∙ by_id_map bare notes p) in
      let kept = by_id_some notes p place.from place.to in
      let proc = has_proc (by_id s.procs p) (by_id notes p) both kept.0 kept.1 in
      let is : done ≡ is_some (notified on id prefix proc.0.handlers) = told ∙ done_for on id prefix (by_id s.procs p) (by_id notes p) both proc.0 proc.1 in
      let outcome : notify on id prefix s (by_id s.threads t) ≡ handlers_set p (notified on id prefix proc.0.handlers) s = notify_is t on id prefix p s caller.0 proc.0 here fits at proc.1 in
      let stands : NotesFor setup.places new_notes (handlers_set p (notified on id prefix proc.0.handlers) s).state = rw proc.1 at (tracks setup.places s h.notes) in
      rw (outcome, is) (set_in p setup sched alts locks new_notes s (notified on id prefix proc.0.handlers) (parts_of setup sched alts locks notes s h) stands);
}
  where
    notify_is : (t : ℕ) (on : Bool) (id : ℕ) (prefix : List ℕ) (p : ℕ) (s : State) (caller : Thread) (proc : Proc) → by_id s.threads t ≡ Some caller → is_no_note prefix ≡ false → p ≡ caller.proc_no → by_id s.procs p ≡ Some proc → notify on id prefix s (by_id s.threads t) ≡ handlers_set p (notified on id prefix proc.handlers) s
    notify_is t on id prefix p s caller proc here fits at there =
        let found : by_id s.procs caller.proc_no ≡ Some proc = rw (← at) there in
        rw (here, fits, found, at) refl

running_some : (o : Option Thread) → place_of o ≡ place.Running → (x : Thread) × (o ≡ Some x)
running_some None e = absurd (cc e)
running_some (Some x) e = (x, refl)

-- a thread that runs was made
pub runs_made : (t : ℕ) (sched : Schedule) → place_of (by_id sched.threads t) ≡ place.Running → IsMade t sched
runs_made t sched e =
    let found = running_some (by_id sched.threads t) e in
    let within = by_id_within sched.threads t found.0 found.1 in
    record { from = within.0; to = within.1 }

member_in : (opened programs : ℕ) (xs : List Thread) (i : ℕ) (x : Thread) → AllByRecursion (IsThreadIn opened programs) xs → slice_get xs i ≡ Some x → IsThreadIn opened programs x
member_in opened programs [] i x h e = absurd (cc e)
member_in opened programs (y ∷ ys) zero x h e = let same : y ≡ x = cc in subst (λ (z : Thread). IsThreadIn opened programs z) same h.0
member_in opened programs (y ∷ ys) (suc i) x h e = member_in opened programs ys i x h.1 e

member_id : (opened programs : ℕ) (xs : List Thread) (k : ℕ) (x : Thread) → AllByRecursion (IsThreadIn opened programs) xs → by_id xs k ≡ Some x → IsThreadIn opened programs x
member_id opened programs xs zero x h e = absurd (cc e)
member_id opened programs xs (suc i) x h e = member_in opened programs xs i x h (sym (by_id_suc xs i) ∙ e)

-- its proc has notes
pub caller_place : (t : ℕ) (sched : Schedule) (alts : Exchange) (locks : Locking) (notes : List ProcNotes) → Stands sched alts locks notes → place_of (by_id sched.threads t) ≡ place.Running → IsNotePlace (proc_of (by_id sched.threads t)) notes
caller_place t sched alts locks notes k e =
    let h = k.2.0 in
    let sound = k.2.1 in
    let found = running_some (by_id sched.threads t) e in
    let here : by_id k.1.threads t ≡ Some found.0 = ap (λ (ts : List Thread). by_id ts t) h.threads.threads ∙ found.1 in
    let at = member_id k.1.opened k.0.programs k.1.threads t found.0 (recursion_from_All (IsThreadIn k.1.opened k.0.programs) k.1.threads sound.members) here in
    let is = proc_is (by_id sched.threads t) found.0 found.1 in
    let from = at.proc_no.from in
    let to = at.proc_no.to in
    let places = sound.opened in
    let count = h.notes.count in
    record { from = omega (arith, is, from); to = omega (arith, is, to, places, count) }
