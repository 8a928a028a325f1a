-- What each request of a thread that runs to interrupt or kill threads, or on notes, does to the threads.
use Rattle.std.proofs.Common.{◌≡◌, ℕ, zero, suc, ◌+◌, ◌-◌, ◌≤◌, Bool, true, false, not, cond, ◌&&◌, ◌||◌, eqb, List, [], ◌∷◌, Option, Some, refl, ap, sym, ◌∙◌, inl, inr, arith}
use Rattle.std.specs.Prelude.{slice_get}
use Rattle.std.specs.List.{list_any}
use Rattle.std.proofs.lemmas.Bool.{and_parts, cases_eq}
use Rattle.p9_word.specs.declared.answer.Answer.TheVariants.{Interrupted}
use Rattle.p9_word.specs.declared.request.Request.{Request}
use Rattle.p9_word.specs.declared.request.Request.TheVariants.{Thread as ThreadRequest, Signal as SignalRequest, Chan as ChanRequest, Lock as LockRequest, Io as IoRequest}
use Rattle.p9_manual.specs.declared.state.Thread.{Thread}
use Rattle.p9_manual.specs.declared.state.Waiter.{Waiter}
use Rattle.p9_manual.specs.Interrupt.{can_interrupt, doomed, is_interruptible, marked, with_mark}
use Rattle.p9_manual.specs.NoteCalls.{with_proc}
use Rattle.p9_manual.specs.Places.{lives, runs_there}
use Rattle.p9_manual.specs.State.{State, Proc, by_id, changed, wake}
use Rattle.p9_laws.proofs.Asked.{LeavesStanding}
use Rattle.p9_laws.proofs.AskedSignals.{Signalled, Unchanged, Wakes, Marks}
use Rattle.p9_laws.proofs.Tallies.{tally, tally-changed_there, tally-le}
use Rattle.p9_laws.proofs.Standing.{IsUp, place_of, place_in, times_waiting, times_in_line, by_id-suc}
use Rattle.p9_laws.proofs.RunMoves.{IsUpright, IsFading, IsSteady, RunsIn, asks_io, is_unborn, other_id, same_id}
use Rattle.p9_laws.proofs.RunWoken.{AllWait, is_other_wait_of, waking}

-- what it keeps to wake and mark threads, for a thread t that runs
pub record IsSignalling (t : ℕ) (s m : State) : Type 0 where
  pub up : (u : ℕ) → IsUp (place_of m.threads u) → IsUp (place_of s.threads u)
  pub unborn : (u : ℕ) → is_unborn (by_id m.threads u) ≡ true → is_unborn (by_id s.threads u) ≡ true
  pub tallies : (q : Thread → Bool) → IsFading q → IsSteady q → tally q m.threads ≤ tally q s.threads
  pub upright : IsUpright m
  pub place : place_of m.threads t ≡ place_of s.threads t
  pub stays : (p : ℕ) → runs_there p (by_id m.threads t) ≡ runs_there p (by_id s.threads t)
  pub ioprocs : m.ioprocs ≡ s.ioprocs
  pub over : m.over ≡ s.over
  pub opened : m.opened ≡ s.opened

unsignalled : (t : ℕ) (s : State) → IsUpright s → IsSignalling t s s
unsignalled t s upright =
    record {
      up = λ u h. h;
      unborn = λ u h. h;
      tallies = λ q fading steady. omega arith;
      upright = upright;
      place = refl;
      stays = λ p. refl;
      ioprocs = refl;
      over = refl;
      opened = refl;
    }

signalled_on : (t : ℕ) (a b c : State) → IsSignalling t a b → IsSignalling t b c → IsSignalling t a c
signalled_on t a b c f g =
    record {
      up = λ u h. f.up u (g.up u h);
      unborn = λ u h. f.unborn u (g.unborn u h);
      tallies = λ q fading steady. let k = f.tallies q fading steady in let l = g.tallies q fading steady in omega (arith, k, l);
      upright = g.upright;
      place = g.place ∙ f.place;
      stays = λ p. g.stays p ∙ f.stays p;
      ioprocs = g.ioprocs ∙ f.ioprocs;
      over = g.over ∙ f.over;
      opened = g.opened ∙ f.opened;
    }

-- no wait for an ioproc ends where its thread is interrupted
other_wait : (r : Request) → can_interrupt r ≡ true → not (asks_io r) ≡ true
other_wait (IoRequest r) h = cc
other_wait (ThreadRequest r) h = refl
other_wait (SignalRequest r) h = refl
other_wait (ChanRequest r) h = refl
other_wait (LockRequest r) h = refl

both : (a b : Bool) → a ≡ true → b ≡ true → (a && b) ≡ true
both a b e f = rw (e, f) refl

interruptible_waits : (u : ℕ) (w : Waiter) → (eqb w.tid u && can_interrupt w.request) ≡ true → is_other_wait_of u w ≡ true
interruptible_waits u w h =
    let parts = and_parts (eqb w.tid u) (can_interrupt w.request) h in
    both (eqb w.tid u) (not (asks_io w.request)) parts.0 (other_wait w.request parts.1)

some_pass : {A : Type 0} (q : A → Bool) (xs : List A) → list_any q xs ≡ true → 1 ≤ tally q xs
some_pass q [] h = cc
some_pass q (x ∷ xs) h = some_step (q x) (list_any q xs) (tally q xs) h (some_pass q xs)
  where
    some_step : (b c : Bool) (n : ℕ) → (b || c) ≡ true → (c ≡ true → 1 ≤ n) → 1 ≤ cond b 1 0 + n
    some_step true c n h k = omega arith
    some_step false c n h k = let z = k h in omega (arith, z)

all_interruptible : (u : ℕ) (s : State) → is_interruptible u s.waits ≡ true → AllWait ((u, Interrupted) ∷ []) s
all_interruptible u s can v = elim (cases_eq v u) [
  | inl e ↦
      let some = some_pass (λ w. eqb w.tid u && can_interrupt w.request) s.waits can in
      let more = tally-le (λ w. eqb w.tid u && can_interrupt w.request) (is_other_wait_of u) (interruptible_waits u) s.waits in
      rw (e, same_id u) (omega (arith, some, more))
  | inr ne ↦ rw (other_id u v ne) (omega arith)
]

woken_signalling : (t u : ℕ) (s : State) → is_interruptible u s.waits ≡ true → IsUpright s → RunsIn s t → IsSignalling t s (wake u Interrupted s)
woken_signalling t u s can upright runs =
    let is = waking ((u, Interrupted) ∷ []) t s upright runs (all_interruptible u s can) in
    record {
      up = is.moved.up;
      unborn = is.moved.unborn;
      tallies = λ q fading steady. is.moved.fades q fading;
      upright = is.upright;
      place = ap place_in is.stays;
      stays = λ p. ap (runs_there p) is.stays;
      ioprocs = is.ioprocs;
      over = is.over;
      opened = is.opened;
    }

doomed_leaves : LeavesStanding doomed
doomed_leaves = record { place = λ x. same_place (lives x) x; proc_no = λ x. same_proc (lives x) x; program = λ x. same_program (lives x) x }
  where
    same_place : (b : Bool) (x : Thread) → (cond b (with_mark x) x).place ≡ x.place
    same_place true x = refl
    same_place false x = refl

    same_proc : (b : Bool) (x : Thread) → (cond b (with_mark x) x).proc_no ≡ x.proc_no
    same_proc true x = refl
    same_proc false x = refl

    same_program : (b : Bool) (x : Thread) → (cond b (with_mark x) x).program ≡ x.program
    same_program true x = refl
    same_program false x = refl

kept_slice : {A : Type 0} (g : Option Thread → A) (f : Thread → Thread) → ((x : Thread) → g (Some (f x)) ≡ g (Some x)) → (threads : List Thread) (i j : ℕ) → g (slice_get (changed f threads i) j) ≡ g (slice_get threads j)
kept_slice g f same [] i j = refl
kept_slice g f same (x ∷ xs) zero zero = same x
kept_slice g f same (x ∷ xs) zero (suc j) = refl
kept_slice g f same (x ∷ xs) (suc i) zero = refl
kept_slice g f same (x ∷ xs) (suc i) (suc j) = kept_slice g f same xs i j

-- what a change leaves of one thread it leaves of all
kept_id : {A : Type 0} (g : Option Thread → A) (f : Thread → Thread) → ((x : Thread) → g (Some (f x)) ≡ g (Some x)) → (threads : List Thread) (i u : ℕ) → g (by_id (changed f threads i) u) ≡ g (by_id threads u)
kept_id g f same threads i zero = refl
kept_id g f same threads i (suc j) = ap g (by_id-suc (changed f threads i) j) ∙ kept_slice g f same threads i j ∙ sym (ap g (by_id-suc threads j))

doomed_unborn : (x : Thread) → is_unborn (Some (doomed x)) ≡ is_unborn (Some x)
doomed_unborn x = rw (doomed_leaves.place x) refl

doomed_runs : (p : ℕ) (x : Thread) → runs_there p (Some (doomed x)) ≡ runs_there p (Some x)
doomed_runs p x = rw (doomed_leaves.proc_no x, doomed_leaves.place x) refl

marked_signalling : (t u : ℕ) (s : State) → IsUpright s → IsSignalling t s (marked u s)
marked_signalling t u s upright =
    let at = kept_id place_in doomed doomed_leaves.place s.threads (u - 1) in
    record {
      up = λ v h. rw (at v) at h;
      unborn = λ v h. sym (kept_id is_unborn doomed doomed_unborn s.threads (u - 1) v) ∙ h;
      tallies = λ q fading steady.
          tally-changed_there q doomed (λ x. steady x (doomed x) (doomed_leaves.proc_no x) (doomed_leaves.program x) (doomed_leaves.place x)) s.threads (u - 1);
      upright = record {
        in_line = λ v. upright.in_line v ∙ ap times_in_line (sym (at v));
        in_waits = λ v. upright.in_waits v ∙ ap times_waiting (sym (at v));
        in_calls = upright.in_calls;
        short = upright.short;
      };
      place = at t;
      stays = λ p. kept_id (runs_there p) doomed (doomed_runs p) s.threads (u - 1) t;
      ioprocs = refl;
      over = refl;
      opened = refl;
    }

pub signalling : (t : ℕ) (m s : State) → Signalled m s → IsUpright s → RunsIn s t → IsSignalling t s m
signalling t m _ Unchanged upright runs = unsignalled t m upright
signalling t m _ (Wakes u s can rest) upright runs =
    let is = woken_signalling t u s can upright runs in
    signalled_on t s (wake u Interrupted s) m is (signalling t m (wake u Interrupted s) rest is.upright (is.place ∙ runs))
signalling t m _ (Marks u s rest) upright runs =
    let is = marked_signalling t u s upright in
    signalled_on t s (marked u s) m is (signalling t m (marked u s) rest is.upright (is.place ∙ runs))

-- another note or handler is no other thread
pub aside_signalling : (t p : ℕ) (f : Proc → Proc) (s m : State) → IsSignalling t (with_proc f p s) m → IsSignalling t s m
aside_signalling t p f s m is =
    record {
      up = is.up;
      unborn = is.unborn;
      tallies = is.tallies;
      upright = is.upright;
      place = is.place;
      stays = is.stays;
      ioprocs = is.ioprocs;
      over = is.over;
      opened = is.opened;
    }
