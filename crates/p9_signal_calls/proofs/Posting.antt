-- What postnote comes to.
use Rattle.std.proofs.Common.{◌≡◌, ℕ, zero, suc, ◌≤◌, Bool, true, false, cond, ◌&&◌, ◌||◌, eqb, List, [], ◌∷◌, ◌++◌, length, map, Option, Some, None, refl, ap, sym, ◌∙◌, arith, rules, tests}
use Rattle.std.specs.Prelude.{option_map, nat_le, nat_lt}
use Rattle.std.specs.List.{find, list_any, AllByRecursion}
use Rattle.std.proofs.lemmas.List.Elements.{recursion_from_All}
use Rattle.p9_word.specs.declared.answer.Answer.TheVariants.{Bad, Done}
use Rattle.p9_word.specs.declared.setup.Setup.{Setup}
use Rattle.p9_word.specs.declared.trail.Reply.TheVariants.{Now}
use Rattle.p9_manual.specs.declared.locks.LockWait.{LockWait}
use Rattle.p9_manual.specs.declared.locks.LockWait.TheVariants as wait
use Rattle.p9_manual.specs.declared.locks.LockWaiter.{LockWaiter}
use Rattle.p9_manual.specs.declared.state.Thread.{Thread}
use Rattle.p9_manual.specs.declared.state.Waiter.{Waiter}
use Rattle.p9_manual.specs.Held.{holds_in, is_held as state_is_held}
use Rattle.p9_manual.specs.Interrupt.{interrupt, is_meeting}
use Rattle.p9_manual.specs.LockWaits.{holds_proc, lock_wait_of, lock_waiter, lock_waiters}
use Rattle.p9_manual.specs.NoteCalls.{interrupted, is_alive, meets_in, noted, post, with_note, with_posted, with_proc}
use Rattle.p9_manual.specs.Notes.{is_no_note}
use Rattle.p9_manual.specs.Places.{is_of, lives_in}
use Rattle.p9_manual.specs.Sound.{IsSound, IsThreadIn}
use Rattle.p9_manual.specs.State.{Proc, State, bad, by_id, now}
use Rattle.p9_alt.specs.Exchange.{Exchange}
use Rattle.p9_lock.specs.Locking.{Locking}
use Rattle.p9_lock.specs.Meetings.{is_tag, meeting_of, meets_among}
use Rattle.p9_note.specs.For.{NotesFor, Tracks}
use Rattle.p9_note.specs.ProcNotes.{IsPlace as IsNotePlace, ProcNotes}
use Rattle.p9_sched.specs.Holding.{is_held}
use Rattle.p9_sched.specs.Schedule.{IsMade, IsPlace, Schedule}
use Rattle.p9_sched.specs.Stands.{SchedFor}
use Rattle.p9_signal_calls.specs.Affects.{Does, WakesMeeting, is_alive_in}
use Rattle.p9_signal_calls.specs.Serves.{ServesAll, Stands}
use Rattle.p9_signal_calls.proofs.Interrupting.{tag_of}
use Rattle.p9_signal_calls.proofs.Lists.{by_id_within}
use Rattle.p9_signal_calls.proofs.Noting.{all_of, parts_aside}
use Rattle.p9_signal_calls.proofs.Serving.{parts_of, same_bad, sound_fit}
use Rattle.p9_signal_calls.proofs.Standing.{Rests, interrupt_rests, rests}

-- the thread of proc p that waits in a rendezvous, by what the locks say of who waits
meeting_step : (q : ℕ → Bool) (t : ℕ) (o : Option (LockWait × ℕ)) (b : Bool) (x : Option ℕ) (ls : List LockWaiter) → q t ≡ b → x ≡ meeting_of q ls → cond (is_meeting o && b) (Some t) x ≡ meeting_of q (lock_waiter t o ++ ls)
meeting_step q t None b x ls e h = h
meeting_step q t (Some (what, value)) b x ls e h = rw (tag_of what value, e) (by_test (is_tag what && b) t what value x ls h)
  where
    by_test : (c : Bool) (t : ℕ) (what : LockWait) (value : ℕ) (x : Option ℕ) (ls : List LockWaiter) → x ≡ meeting_of q ls → cond c (Some t) x ≡ option_map (λ w. w.tid) (cond c (Some (record { tid = t; what = what; value = value })) (find (meets_among q) ls))
    by_test true t what value x ls h = refl
    by_test false t what value x ls h = h

tid_found : (c : Bool) (w : Waiter) (o : Option Waiter) → option_map (λ x. x.tid) (cond c (Some w) o) ≡ cond c (Some w.tid) (option_map (λ x. x.tid) o)
tid_found true w o = refl
tid_found false w o = refl

met_in : (p : ℕ) (threads : List Thread) → (waits : List Waiter) → option_map (λ w. w.tid) (find (meets_in p threads) waits) ≡ meeting_of (λ t. is_of p (by_id threads t)) (lock_waiters waits)
met_in p threads [] = refl
met_in p threads (w ∷ ws) =
    tid_found (meets_in p threads w) w (find (meets_in p threads) ws)
    ∙ meeting_step (λ t. is_of p (by_id threads t)) w.tid (lock_wait_of w.request) (is_of p (by_id threads w.tid)) (option_map (λ x. x.tid) (find (meets_in p threads) ws)) (lock_waiters ws) refl (met_in p threads ws)

none_step : (what : LockWait) (b : Bool) (w : LockWaiter) (rest : Bool) (o : Option LockWaiter) → ((holds_proc what && b) || rest) ≡ false → (rest ≡ false → option_map (λ x. x.tid) o ≡ None) → option_map (λ x. x.tid) (cond (is_tag what && b) (Some w) o) ≡ None
none_step (wait.Tag tag) true w rest o h k = absurd (cc h)
none_step (wait.Tag tag) false w rest o h k = k h
none_step (wait.Lock s j) b w rest o h k = k (right_false (holds_proc (wait.Lock s j) && b) rest h)
  where
    right_false : (a b : Bool) → (a || b) ≡ false → b ≡ false
    right_false true b h = absurd (cc h)
    right_false false b h = h
none_step (wait.Sleep r) b w rest o h k = k h

-- in a proc that isn't held none does
none_met : (p : ℕ) (threads : List Thread) → (ws : List LockWaiter) → list_any (holds_in threads p) ws ≡ false → meeting_of (λ t. is_of p (by_id threads t)) ws ≡ None
none_met p threads [] h = refl
none_met p threads (w ∷ ws) h =
    none_step w.what (is_of p (by_id threads w.tid)) w (list_any (holds_in threads p) ws) (find (meets_among (λ t. is_of p (by_id threads t))) ws) h (none_met p threads ws)

met_by : (b : Bool) (p : ℕ) (sched : Schedule) (locks : Locking) (places : ℕ) (s : State) (o : Option ℕ) → is_held p sched ≡ b → SchedFor places sched s → lock_waiters s.waits ≡ locks.waits → IsPlace p sched → (is_held p sched ≡ true → o ≡ meeting_of (λ t. is_of p (by_id sched.threads t)) locks.waits) → (is_held p sched ≡ false → o ≡ None) → option_map (λ w. w.tid) (find (meets_in p s.threads) s.waits) ≡ o
met_by true p sched locks places s o e h waits place found none =
    met_in p s.threads s.waits
    ∙ (ap (meeting_of (λ t. is_of p (by_id s.threads t))) waits
    ∙ (ap (λ (ts : List Thread). meeting_of (λ t. is_of p (by_id ts t)) locks.waits) h.threads ∙ sym (found e)))
met_by false p sched locks places s o e h waits place found none =
    let free : state_is_held p s ≡ false = sym (h.held.held p place.from place.to) ∙ e in
    met_in p s.threads s.waits ∙ (none_met p s.threads (lock_waiters s.waits) free ∙ sym (none e))

-- it is the one that is found in the state
pub met_is : (p : ℕ) (sched : Schedule) (locks : Locking) (places : ℕ) (s : State) (o : Option ℕ) → SchedFor places sched s → lock_waiters s.waits ≡ locks.waits → IsPlace p sched → (is_held p sched ≡ true → o ≡ meeting_of (λ t. is_of p (by_id sched.threads t)) locks.waits) → (is_held p sched ≡ false → o ≡ None) → option_map (λ w. w.tid) (find (meets_in p s.threads) s.waits) ≡ o
met_is p sched locks places s o h waits place found none = met_by (is_held p sched) p sched locks places s o refl h waits place found none

passes_step : (q : ℕ → Bool) (b c : Bool) (w : LockWaiter) (o : Option LockWaiter) (t : ℕ) → q w.tid ≡ c → option_map (λ x. x.tid) (cond (b && c) (Some w) o) ≡ Some t → (option_map (λ x. x.tid) o ≡ Some t → q t ≡ true) → q t ≡ true
passes_step q true true w o t e h k = let same : w.tid ≡ t = cc in rw (← same) e
passes_step q true false w o t e h k = k h
passes_step q false c w o t e h k = k h

meeting_passes : (q : ℕ → Bool) → (ws : List LockWaiter) (t : ℕ) → meeting_of q ws ≡ Some t → q t ≡ true
meeting_passes q [] t e = absurd (cc e)
meeting_passes q (w ∷ ws) t e = passes_step q (is_tag w.what) (q w.tid) w (find (meets_among q) ws) t refl e (meeting_passes q ws t)

is_made : (p : ℕ) (o : Option Thread) → is_of p o ≡ true → (x : Thread) × (o ≡ Some x)
is_made p None e = absurd (cc e)
is_made p (Some x) e = (x, refl)

made_by : (b : Bool) (p t : ℕ) (sched : Schedule) (ws : List LockWaiter) → is_held p sched ≡ b → (is_held p sched ≡ true → Some t ≡ meeting_of (λ u. is_of p (by_id sched.threads u)) ws) → (is_held p sched ≡ false → Some t ≡ None) → IsMade t sched
made_by true p t sched ws e found none =
    let passes = meeting_passes (λ u. is_of p (by_id sched.threads u)) ws t (sym (found e)) in
    let thread = is_made p (by_id sched.threads t) passes in
    let within = by_id_within sched.threads t thread.0 thread.1 in
    record { from = within.0; to = within.1 }
made_by false p t sched ws e found none = absurd (let f = none e in cc f)

-- it was made
pub met_made : (p t : ℕ) (sched : Schedule) (ws : List LockWaiter) → (is_held p sched ≡ true → Some t ≡ meeting_of (λ u. is_of p (by_id sched.threads u)) ws) → (is_held p sched ≡ false → Some t ≡ None) → IsMade t sched
met_made p t sched ws found none = made_by (is_held p sched) p t sched ws refl found none

interrupts_none : (o : Option Waiter) (s : State) → option_map (λ w. w.tid) o ≡ None → interrupted o s ≡ s
interrupts_none None s e = refl
interrupts_none (Some w) s e = absurd (cc e)

interrupts_one : (o : Option Waiter) (t : ℕ) (s : State) → option_map (λ w. w.tid) o ≡ Some t → interrupted o s ≡ (interrupt t s).state
interrupts_one None t s e = absurd (cc e)
interrupts_one (Some w) t s e = let same : w.tid ≡ t = cc in rw same refl

-- where no thread of proc p waits in a rendezvous, none is interrupted
pub wakes_none : (p : ℕ) (sched : Schedule) (alts : Exchange) (locks : Locking) → IsPlace p sched → (is_held p sched ≡ true → None ≡ meeting_of (λ t. is_of p (by_id sched.threads t)) locks.waits) → WakesMeeting p sched alts locks sched alts locks
wakes_none p sched alts locks place found = λ setup s parts fit.
    let e : option_map (λ (w : Waiter). w.tid) (find (meets_in p s.threads) s.waits) ≡ None = met_is p sched locks setup.places s None parts.threads parts.locks.waits place found (λ h. refl) in
    rw (interrupts_none (find (meets_in p s.threads) s.waits) s e) parts

-- and the one that does is
pub wakes_one : (p t n : ℕ) (sched new_sched : Schedule) (alts new_alts : Exchange) (locks new_locks : Locking) → IsPlace p sched → (is_held p sched ≡ true → Some t ≡ meeting_of (λ u. is_of p (by_id sched.threads u)) locks.waits) → (is_held p sched ≡ false → Some t ≡ None) → Does (interrupt t) sched alts locks n new_sched new_alts new_locks → WakesMeeting p sched alts locks new_sched new_alts new_locks
wakes_one p t n sched new_sched alts new_alts locks new_locks place found none does = λ setup s parts fit.
    let e : option_map (λ (w : Waiter). w.tid) (find (meets_in p s.threads) s.waits) ≡ Some t = met_is p sched locks setup.places s (Some t) parts.threads parts.locks.waits place found none in
    rw (interrupts_one (find (meets_in p s.threads) s.waits) t s e) (does setup s parts fit).parts

nobody_at : (x : Thread) (xs : List Thread) (opened programs : ℕ) → IsThreadIn opened programs x → list_any (lives_in 0) xs ≡ false → list_any (lives_in 0) (x ∷ xs) ≡ false
nobody_at x xs opened programs h k = let ne : eqb x.proc_no 0 ≡ false = above_none x.proc_no h.proc_no.from in rw (ne, k) refl
  where
    above_none : (n : ℕ) → 1 ≤ n → eqb n 0 ≡ false
    above_none n h = search (rules, tests)

nobody_in : (opened programs : ℕ) → (threads : List Thread) → AllByRecursion (IsThreadIn opened programs) threads → list_any (lives_in 0) threads ≡ false
nobody_in opened programs [] h = refl
nobody_in opened programs (x ∷ xs) h = nobody_at x xs opened programs h.0 (nobody_in opened programs xs h.1)

alive_at : (p : ℕ) (setup : Setup) (sched : Schedule) (s : State) → SchedFor setup.places sched s → IsSound setup s → is_alive p s ≡ is_alive_in p sched
alive_at zero setup sched s h sound =
    rw (nobody_in s.opened setup.programs s.threads (recursion_from_All (IsThreadIn s.opened setup.programs) s.threads sound.members)) (and_none (nat_le 0 s.opened))
  where
    and_none : (b : Bool) → (b && false) ≡ false
    and_none true = refl
    and_none false = refl
alive_at (suc k) setup sched s h sound =
    let first : nat_lt 0 (suc k) ≡ true = search (rules, tests) in
    rw (first, h.threads, h.opened) refl

-- whether a proc is open and lives, by the schedule
pub alive_is : (p : ℕ) (setup : Setup) (sched : Schedule) (s : State) → SchedFor setup.places sched s → IsSound setup s → is_alive p s ≡ is_alive_in p sched
alive_is p setup sched s h sound = alive_at p setup sched s h sound

-- no more procs are open than there are places
pub opened_within : (sched : Schedule) (alts : Exchange) (locks : Locking) (notes : List ProcNotes) → Stands sched alts locks notes → sched.opened ≤ length sched.lines
opened_within sched alts locks notes h =
    let threads = h.2.0.threads in
    let a = threads.opened in
    let b = threads.count in
    let c = h.2.1.opened in
    omega (arith, a, b, c)

-- a proc that lives has its place
pub alive_place : (p : ℕ) (sched : Schedule) → is_alive_in p sched ≡ true → sched.opened ≤ length sched.lines → IsPlace p sched
alive_place p sched e le = by_tests (nat_lt 0 p) (nat_le p sched.opened) (list_any (lives_in p) sched.threads) refl refl e
  where
    lower : (p : ℕ) → nat_lt 0 p ≡ true → 1 ≤ p
    lower p e = search (rules, tests)

    upper : (p n : ℕ) → nat_le p n ≡ true → p ≤ n
    upper p n e = search (rules, tests)

    by_tests : (a b c : Bool) → nat_lt 0 p ≡ a → nat_le p sched.opened ≡ b → (a && (b && c)) ≡ true → IsPlace p sched
    by_tests true true c f g h = let from = lower p f in let to = upper p sched.opened g in record { from = from; to = omega (arith, to, le) }
    by_tests true false c f g h = absurd (cc h)
    by_tests false b c f g h = absurd (cc h)

-- also among the notes
pub note_place : (p : ℕ) (sched : Schedule) (alts : Exchange) (locks : Locking) (notes : List ProcNotes) → Stands sched alts locks notes → IsPlace p sched → IsNotePlace p notes
note_place p sched alts locks notes h place =
    let a = h.2.0.notes.count in
    let b = h.2.0.threads.count in
    let to = place.to in
    record { from = place.from; to = omega (arith, a, b, to) }

post_long : (p : ℕ) (note : List ℕ) (s : State) → is_no_note note ≡ true → post p note s ≡ bad s
post_long p note s e = rw e refl

post_dead : (p : ℕ) (note : List ℕ) (s : State) (b : Bool) → is_no_note note ≡ b → is_alive p s ≡ false → post p note s ≡ bad s
post_dead p note s true e f = rw e refl
post_dead p note s false e f = rw (e, f) refl

-- a note that is too long
pub post_refused : (p : ℕ) (note : List ℕ) (sched : Schedule) (alts : Exchange) (locks : Locking) (notes : List ProcNotes) → is_no_note note ≡ true → ServesAll (post p note) sched alts locks notes (Now Bad) sched alts locks notes
post_refused p note sched alts locks notes e = record { serves = λ setup s h sound. rw (post_long p note s e) (same_bad setup sched alts locks notes s h) }

-- one to a proc where nobody lives
pub post_unread : (p : ℕ) (note : List ℕ) (sched : Schedule) (alts : Exchange) (locks : Locking) (notes : List ProcNotes) → is_alive_in p sched ≡ false → ServesAll (post p note) sched alts locks notes (Now Bad) sched alts locks notes
post_unread p note sched alts locks notes e = record {
  serves = λ setup s h sound. rw (post_dead p note s (is_no_note note) refl (alive_is p setup sched s h.threads sound ∙ e)) (same_bad setup sched alts locks notes s h);
}

interrupted_rests : (o : Option Waiter) (s : State) → Rests s (interrupted o s)
interrupted_rests None s = rests s
interrupted_rests (Some w) s = interrupt_rests w.tid s

posted_is : (p : ℕ) (note : List ℕ) (s : State) → is_no_note note ≡ false → is_alive p s ≡ true → post p note s ≡ now Done (with_posted p note s)
posted_is p note s e f = rw (e, f) refl

-- a note is posted
pub post_serves : (p : ℕ) (note : List ℕ) (sched new_sched : Schedule) (alts new_alts : Exchange) (locks new_locks : Locking) (notes new_notes : List ProcNotes) → is_no_note note ≡ false → is_alive_in p sched ≡ true → Tracks (with_proc (with_note note) p) notes new_notes → WakesMeeting p sched alts locks new_sched new_alts new_locks → ServesAll (post p note) sched alts locks notes (Now Done) new_sched new_alts new_locks new_notes
post_serves p note sched new_sched alts new_alts locks new_locks notes new_notes short alive tracks wakes = record {
  serves = λ setup s h sound.
      let m : State = with_proc (with_note note) p s in
      let n : State = with_posted p note s in
      let fit = sound_fit setup s sound in
      let parts = wakes setup m (parts_aside (with_note note) p setup sched alts locks s (λ x. refl) (parts_of setup sched alts locks notes s h)) (record { stand = fit.stand; kinds = fit.kinds; held = fit.held }) in
      let kept : Rests m n = interrupted_rests (find (meets_in p s.threads) s.waits) m in
      let k : NotesFor setup.places new_notes m = tracks setup.places s h.notes in
      let procs : n.procs ≡ m.procs = ap (λ (x : State). x.procs) kept.same in
      rw (posted_is p note s short (alive_is p setup sched s h.threads sound ∙ alive)) (record {
        reply_is = refl;
        stands = all_of setup new_sched new_alts new_locks new_notes n parts (record { procs = ap (map noted) procs ∙ k.procs; count = k.count });
        leaves = kept.same ∙ ap (λ (xs : List Proc). record s { threads = n.threads; line = n.line; waits = n.waits; procs = xs }) (sym procs);
        entry = refl;
      });
}
