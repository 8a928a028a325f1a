-- Threads, line and waits after a thread was put somewhere.
use Rattle.std.proofs.Common.{◌≡◌, ◌≢◌, inl, inr, ℕ, ◌+◌, ◌-◌, ◌≤◌, Bool, true, false, not, cond, eqb, List, [], ◌∷◌, ◌++◌, Option, Some, None, refl, ap, sym, subst, ◌∙◌, arith, rules, tests}
use Rattle.std.specs.Prelude.{All, option_map}
use Rattle.std.specs.List.{filter, list_any}
use Rattle.std.proofs.lemmas.Bool.{cases_eq}
use Rattle.std.proofs.lemmas.List.Elements.{recursion_from_All}
use Rattle.p9_word.specs.declared.answer.Answer.{Answer}
use Rattle.p9_manual.specs.declared.state.Place.{Place}
use Rattle.p9_manual.specs.declared.state.Place.TheVariants.{Running, New, Ready, Waiting, Ended}
use Rattle.p9_manual.specs.declared.state.Thread.{Thread}
use Rattle.p9_manual.specs.declared.state.Waiter.{Waiter}
use Rattle.p9_manual.specs.Ends.{Gone, ended_if}
use Rattle.p9_manual.specs.LockWaits.{lined}
use Rattle.p9_manual.specs.Places.{runs_in, is_of, is_running}
use Rattle.p9_manual.specs.State.{by_id, each_from, pick, placed, at_place, waits_without}
use Rattle.p9_manual.specs.Standing.{StandOnce, times, place_in, place_of, times_in_line, times_in_waits}
use Rattle.p9_manual.specs.Sound.{IsThreadIn}
use Rattle.p9_laws.proofs.EndedWhere.{by_id-each_from, place-ended_if}
use Rattle.p9_laws.proofs.Sound.Counts.{times-push, times_pick, times_none, times_left, pick_passes, cleared, all_kept, All-changed, held_at}
use Rattle.p9_laws.proofs.Sound.Places.{IsMade, made_from_place, place_of-placed_same, place_of-placed_other, get_from_by_id}
use Rattle.p9_laws.proofs.Sound.Running.{runs-changed, runs-ended, runs-started, runs-started_elsewhere}

pub eqb_same : (t : ℕ) → eqb t t ≡ true
eqb_same t = search (rules, tests)

pub eqb_other : (t u : ℕ) → u ≢ t → eqb t u ≡ false
eqb_other t u ne = search (rules, tests)

pub eqb_equal : (t u : ℕ) → eqb t u ≡ true → t ≡ u
eqb_equal t u h = search (rules, tests)

-- no more run where t was put where it doesn't
at_rest : (threads : List Thread) (line : List ℕ) (waits : List Waiter) (t : ℕ) (pl : Place) → StandOnce threads line waits → is_running pl ≡ false → (p : ℕ) → times (runs_in p) (placed t pl threads) ≤ 1
at_rest threads line waits t pl stand rest p =
    let k = runs-changed p pl threads (t - 1) rest in let one = stand.one_runs p in omega (arith, k, one)

-- the lists after t was put somewhere
moved : (threads : List Thread) (line more_line : List ℕ) (waits more_waits : List Waiter) (t : ℕ) (pl : Place) → StandOnce threads line waits → IsMade t threads → ((p : ℕ) → times (runs_in p) (placed t pl threads) ≤ 1) → ((u : ℕ) → u ≢ t → times (λ x. eqb x u) more_line ≡ times (λ x. eqb x u) line) → ((u : ℕ) → u ≢ t → times (λ w. eqb w.tid u) more_waits ≡ times (λ w. eqb w.tid u) waits) → times (λ x. eqb x t) more_line ≡ times_in_line pl → times (λ w. eqb w.tid t) more_waits ≡ times_in_waits pl → StandOnce (placed t pl threads) more_line more_waits
moved threads line more_line waits more_waits t pl stand made ones lines waitings here_line here_waits =
    record {
      in_line = λ u. elim (cases_eq u t) [
        | inl e ↦ rw (e, place_of-placed_same threads t pl made) here_line
        | inr ne ↦ rw (lines u ne, place_of-placed_other threads t u pl made ne) (stand.in_line u)
      ];
      in_waits = λ u. elim (cases_eq u t) [
        | inl e ↦ rw (e, place_of-placed_same threads t pl made) here_waits
        | inr ne ↦ rw (waitings u ne, place_of-placed_other threads t u pl made ne) (stand.in_waits u)
      ];
      one_runs = ones;
    }

made_running : (threads : List Thread) (t : ℕ) → place_of threads t ≡ Running → IsMade t threads
made_running threads t runs = made_from_place threads t (λ e. cc)

made_waiting : (threads : List Thread) (t : ℕ) → place_of threads t ≡ Waiting → IsMade t threads
made_waiting threads t waits = made_from_place threads t (λ e. cc)

-- t, which ran, is ready
pub readied_stands : (threads : List Thread) (line : List ℕ) (waits : List Waiter) (t : ℕ) (a : Answer) → StandOnce threads line waits → place_of threads t ≡ Running → StandOnce (placed t (Ready a) threads) (line ++ t ∷ []) waits
readied_stands threads line waits t a stand runs =
    let none = stand.in_line t ∙ ap times_in_line runs in
    moved threads line (line ++ t ∷ []) waits waits t (Ready a) stand (made_running threads t runs) (at_rest threads line waits t (Ready a) stand refl)
    (λ u ne. rw (times-push (λ x. eqb x u) false line t (eqb_other t u ne)) (omega arith))
    (λ u ne. refl)
    (rw (times-push (λ x. eqb x t) true line t (eqb_same t), none) refl)
    (stand.in_waits t ∙ ap times_in_waits runs)

-- t, which ran, waits
pub waiting_stands : (threads : List Thread) (line : List ℕ) (waits : List Waiter) (w : Waiter) → StandOnce threads line waits → place_of threads w.tid ≡ Running → StandOnce (placed w.tid Waiting threads) line (waits ++ w ∷ [])
waiting_stands threads line waits w stand runs =
    let none = stand.in_waits w.tid ∙ ap times_in_waits runs in
    moved threads line line waits (waits ++ w ∷ []) w.tid Waiting stand (made_running threads w.tid runs) (at_rest threads line waits w.tid Waiting stand refl)
    (λ u ne. refl)
    (λ u ne. rw (times-push (λ x. eqb x.tid u) false waits w (eqb_other w.tid u ne)) (omega arith))
    (stand.in_line w.tid ∙ ap times_in_line runs)
    (rw (times-push (λ x. eqb x.tid w.tid) true waits w (eqb_same w.tid), none) refl)

line_off : (b : Bool) (pl : Place) → cond b 0 (times_in_line pl) ≡ times_in_line (cond b Ended pl)
line_off true pl = refl
line_off false pl = refl

waits_off : (b : Bool) (pl : Place) → cond b 0 (times_in_waits pl) ≡ times_in_waits (cond b Ended pl)
waits_off true pl = refl
waits_off false pl = refl

-- where a thread is when some have ended
place_of-ended : (ends : Gone) (threads : List Thread) (t : ℕ) → place_of (each_from (ended_if ends) 1 threads) t ≡ cond (ends t) Ended (place_of threads t)
place_of-ended ends threads t = ap place_in (by_id-each_from (ended_if ends) threads t) ∙ at_end (by_id threads t)
  where
    no_place : (b : Bool) → Ended ≡ cond b Ended Ended
    no_place true = refl
    no_place false = refl

    at_end : (o : Option Thread) → place_in (option_map (ended_if ends t) o) ≡ cond (ends t) Ended (place_in o)
    at_end None = no_place (ends t)
    at_end (Some x) = place-ended_if ends t x

-- some threads have ended
pub ended_stands : (ends : Gone) (threads : List Thread) (line : List ℕ) (waits : List Waiter) → StandOnce threads line waits → StandOnce (each_from (ended_if ends) 1 threads) (filter (λ u. not (ends u)) line) (filter (λ w. not (ends w.tid)) waits)
ended_stands ends threads line waits stand =
    record {
      in_line = λ t.
          times_left (λ u. eqb u t) ends (ends t) (λ u h. ap ends (eqb_equal u t h)) line ∙ ap (λ n. cond {A = ℕ} (ends t) 0 n) (stand.in_line t)
          ∙ line_off (ends t) (place_of threads t) ∙ ap times_in_line (sym (place_of-ended ends threads t));
      in_waits = λ t.
          times_left (λ w. eqb w.tid t) (λ w. ends w.tid) (ends t) (λ w h. ap ends (eqb_equal w.tid t h)) waits ∙ ap (λ n. cond {A = ℕ} (ends t) 0 n) (stand.in_waits t)
          ∙ waits_off (ends t) (place_of threads t) ∙ ap times_in_waits (sym (place_of-ended ends threads t));
      one_runs = λ p. let fewer = runs-ended ends p 1 threads in let one = stand.one_runs p in omega (arith, fewer, one);
    }

-- one more in the line, first or last
pub times_lined : (q : ℕ → Bool) (held : Bool) (t : ℕ) (line : List ℕ) → times q (lined held t line) ≡ times q line + cond (q t) 1 0
times_lined q true t line = omega arith
times_lined q false t line = times-push q (q t) line t refl

-- t, whose waits are taken out, is ready
pub woken_stands : (threads : List Thread) (line : List ℕ) (waits others : List Waiter) (t : ℕ) (a : Answer) (held : Bool) → StandOnce threads line waits → place_of threads t ≡ Waiting → times (λ w. eqb w.tid t) others ≡ 0 → ((u : ℕ) → u ≢ t → times (λ w. eqb w.tid u) others ≡ times (λ w. eqb w.tid u) waits) → StandOnce (placed t (Ready a) threads) (lined held t line) others
woken_stands threads line waits others t a held stand here gone rest =
    let none = stand.in_line t ∙ ap times_in_line here in
    moved threads line (lined held t line) waits others t (Ready a) stand (made_waiting threads t here) (at_rest threads line waits t (Ready a) stand refl)
    (λ u ne. rw (times_lined (λ x. eqb x u) held t line, eqb_other t u ne) (omega arith))
    rest
    (rw (times_lined (λ x. eqb x t) held t line, eqb_same t, none) refl)
    gone

-- a thread that waits, by its only wait
pub waits_once : (threads : List Thread) (line : List ℕ) (waits : List Waiter) (t : ℕ) → StandOnce threads line waits → 1 ≤ times (λ w. eqb w.tid t) waits → (place_of threads t ≡ Waiting) × (times (λ w. eqb w.tid t) waits ≡ 1)
waits_once threads line waits t stand some = by_place (place_of threads t) (times (λ w. eqb w.tid t) waits) some (stand.in_waits t)
  where
    by_place : (pl : Place) (n : ℕ) → 1 ≤ n → n ≡ times_in_waits pl → (pl ≡ Waiting) × (n ≡ 1)
    by_place Waiting n h e = (refl, e)
    by_place New n h e = absurd (omega arith)
    by_place (Ready a) n h e = absurd (omega arith)
    by_place Running n h e = absurd (omega arith)
    by_place Ended n h e = absurd (omega arith)

-- t, which waits, is ready, and all its waits are taken out
pub answered_stands : (threads : List Thread) (line : List ℕ) (waits : List Waiter) (t : ℕ) (a : Answer) (held : Bool) → StandOnce threads line waits → place_of threads t ≡ Waiting → StandOnce (placed t (Ready a) threads) (lined held t line) (waits_without t waits)
answered_stands threads line waits t a held stand here =
    woken_stands threads line waits (waits_without t waits) t a held stand here (cleared (λ w. eqb w.tid t) waits)
    (λ u ne. all_kept (λ w. eqb w.tid u) (λ w. eqb w.tid t) (λ w e. let f = eqb_equal w.tid t e in rw (ap (λ x. eqb x u) f) (eqb_other t u ne)) waits)

-- a thread that runs runs on when another one, which waits, is woken
pub others_run : (threads : List Thread) (t u : ℕ) (a : Answer) → place_of threads t ≡ Waiting → place_of threads u ≡ Running → place_of (placed t (Ready a) threads) u ≡ Running
others_run threads t u a here runs =
    place_of-placed_other threads t u (Ready a) (made_waiting threads t here) (λ same. let r = subst (λ (x : ℕ). place_of threads x ≡ Running) same runs in cc (r, here)) ∙ runs

line_place : (pl : Place) (n : ℕ) → 1 + n ≡ times_in_line pl → (pl ≢ Ended) × (n ≡ 0) × (times_in_waits pl ≡ 0)
line_place Waiting n h = absurd (omega arith)
line_place New n h = (λ e. cc, omega arith, refl)
line_place (Ready a) n h = (λ e. cc, omega arith, refl)
line_place Running n h = absurd (omega arith)
line_place Ended n h = absurd (omega arith)

count_first : {A : Type 0} (q : A → Bool) (xs : List A) (y : A) (rest : List A) → q y ≡ true → times q xs ≡ cond (q y) 1 0 + times q rest → times q xs ≡ 1 + times q rest
count_first q xs y rest t h = rw t at h

pub picked_counts : (threads : List Thread) (line : List ℕ) (waits : List Waiter) (p : ℕ → Bool) (t : ℕ) (rest : List ℕ) → StandOnce threads line waits → pick p line ≡ Some (t, rest) → 1 + times (λ u. eqb u t) rest ≡ times_in_line (place_of threads t)
picked_counts threads line waits p t rest stand e =
    let k = count_first (λ u. eqb u t) line t rest (eqb_same t) (times_pick p (λ u. eqb u t) line t rest e) in
    sym k ∙ stand.in_line t

-- at most one runs in each proc where t of proc p was made to run, and none did there
ones_started : (threads : List Thread) (line : List ℕ) (waits : List Waiter) (p t : ℕ) (thread : Thread) → StandOnce threads line waits → list_any (runs_in p) threads ≡ false → by_id threads t ≡ Some thread → eqb thread.proc_no p ≡ true → (r : ℕ) → times (runs_in r) (placed t Running threads) ≤ 1
ones_started threads line waits p t thread stand none at of r = elim (cases_eq r p) [
  | inl e ↦ let k = runs-started r threads (t - 1) in
      let z = times_none (runs_in r) threads (rw e none) in omega (arith, k, z)
  | inr ne ↦ let k = runs-started_elsewhere r threads (t - 1) thread (get_from_by_id threads t thread at) (differs thread.proc_no p r of ne) in
      let one = stand.one_runs r in omega (arith, k, one)
]
  where
    differs : (a b c : ℕ) → eqb a b ≡ true → c ≢ b → eqb a c ≡ false
    differs a b c h ne = search (rules, tests)

-- a thread that is there is in the proc that it is one of
pub of_proc : (p : ℕ) (o : Option Thread) (thread : Thread) → o ≡ Some thread → is_of p o ≡ true → eqb thread.proc_no p ≡ true
of_proc p o thread e h = rw e at h

-- the first ready thread of proc p, where none runs, runs
pub turn_stands : (threads : List Thread) (line : List ℕ) (waits : List Waiter) (p t : ℕ) (rest : List ℕ) → StandOnce threads line waits → list_any (runs_in p) threads ≡ false → pick (λ u. is_of p (by_id threads u)) line ≡ Some (t, rest) → StandOnce (placed t Running threads) rest waits
turn_stands threads line waits p t rest stand none e =
    let here = line_place (place_of threads t) (times (λ u. eqb u t) rest) (picked_counts threads line waits (λ u. is_of p (by_id threads u)) t rest stand e) in
    let made = made_from_place threads t here.0 in
    let passes = pick_passes (λ u. is_of p (by_id threads u)) line t rest e in
    moved threads line rest waits waits t Running stand made (ones_started threads line waits p t made.0 stand none made.1 (of_proc p (by_id threads t) made.0 made.1 passes))
    (λ u ne. let k = times_pick (λ u. is_of p (by_id threads u)) (λ x. eqb x u) line t rest e in let z = rw (eqb_other t u ne) at k in omega (arith, z))
    (λ u ne. refl)
    here.1
    (stand.in_waits t ∙ here.2)

-- each thread is in its proc and has its program, wherever it was put
pub members_placed : (opened programs t : ℕ) (pl : Place) (threads : List Thread) → All (IsThreadIn opened programs) threads → All (IsThreadIn opened programs) (placed t pl threads)
members_placed opened programs t pl threads h =
    All-changed (IsThreadIn opened programs) (at_place pl) (λ x m. record { proc_no = m.proc_no; program = m.program }) threads (t - 1) h

-- what holds of all threads holds of the one with this id
pub member_at : (opened programs : ℕ) (threads : List Thread) (t : ℕ) (thread : Thread) → All (IsThreadIn opened programs) threads → by_id threads t ≡ Some thread → IsThreadIn opened programs thread
member_at opened programs threads t thread h e =
    held_at (IsThreadIn opened programs) threads (t - 1) thread (recursion_from_All (IsThreadIn opened programs) threads h) (get_from_by_id threads t thread e)
