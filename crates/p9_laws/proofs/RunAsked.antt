-- What each request of a thread that runs does, also one that makes a thread or ends all.
use Rattle.std.proofs.Common.{◌≡◌, ◌⊎◌, ℕ, ◌+◌, ◌-◌, ◌<◌, ◌≤◌, Bool, true, false, List, length, Option, Some, None, refl, ap, sym, ◌∙◌, inl, inr, arith}
use Rattle.std.proofs.lemmas.Bool.{and_parts, cases_eq}
use Rattle.p9_word.specs.Setup.{IsBetween}
use Rattle.p9_word.specs.declared.answer.Answer.{Answer}
use Rattle.p9_word.specs.declared.answer.Answer.TheVariants.{Done, Number}
use Rattle.p9_word.specs.declared.request.Request.{Request}
use Rattle.p9_word.specs.declared.request.Request.TheVariants.{Thread as ThreadRequest}
use Rattle.p9_word.specs.declared.request.ThreadReq.{ThreadReq}
use Rattle.p9_word.specs.declared.request.ThreadReq.TheVariants.{ThreadExitsAll}
use Rattle.p9_word.specs.declared.io_call.IoCall.{IoCall}
use Rattle.p9_word.specs.declared.setup.Setup.{Setup}
use Rattle.p9_word.specs.declared.trail.Reply.TheVariants.{Now, Ended as EndedReply, Stray}
use Rattle.p9_manual.specs.declared.state.Place.TheVariants.{Running, Ended}
use Rattle.p9_manual.specs.declared.state.Thread.{Thread}
use Rattle.p9_manual.specs.State.{State, Outcome, Proc, by_id, changed, now, done, replied, same}
use Rattle.p9_manual.specs.Places.{is_marked, lives, runs_there}
use Rattle.p9_manual.specs.Programs.{ends_all}
use Rattle.p9_manual.specs.Create.{fresh, with_thread}
use Rattle.p9_manual.specs.Ends.{all_ended}
use Rattle.p9_manual.specs.Threads.{thread_call, with_changed}
use Rattle.p9_manual.specs.NoteCalls.{with_note, with_proc}
use Rattle.p9_manual.specs.Relinquish.{relinquishes}
use Rattle.p9_manual.specs.Step.{called, is_doomed, served}
use Rattle.p9_laws.specs.RunReplies.{IsCallReply}
use Rattle.p9_laws.specs.IoReplies.{IsBegun}
use Rattle.p9_laws.proofs.Tallies.{tally, tally-changed}
use Rattle.p9_laws.proofs.Asked.{Does, Answers, ChangesCaller, ChangesAside, MakesThread, MakesProc, GivesWay, Ends, EndsAll, LeavesStanding, thread_call_ends_all}
use Rattle.p9_laws.proofs.AskedSignals.{DoesToSignals, Replies, Signals, SetsHandlers, Posts, signal_call_does}
use Rattle.p9_laws.proofs.Groups.{Kind, Plain, OfSignals, OfChans, OfLocks, OfIoprocs, served_kind, CallOf, Strays, Dies, Serves, call_of}
use Rattle.p9_laws.proofs.Standing.{IsUp, place_of, place_in, place_runs, times_waiting, times_in_line, get_by_id, by_id-changed_same, by_id-changed_other}
use Rattle.p9_laws.proofs.RunMoves.{IsUpright, IsFading, IsSteady, is_unborn, RunsIn}
use Rattle.p9_laws.proofs.RunCalls.{IsServed, done_served, now_served, io_call_served}
use Rattle.p9_laws.proofs.RunChans.{chan_call_served}
use Rattle.p9_laws.proofs.RunLocks.{lock_call_served}
use Rattle.p9_laws.proofs.RunCreate.{making}
use Rattle.p9_laws.proofs.RunEnds.{exits_served, all_places, ended_begun, ended_moved, ended_upright, none_lives}
use Rattle.p9_laws.proofs.RunSignals.{IsSignalling, aside_signalling, signalling}

-- where a new thread is made: in the proc of a thread that runs, or in one that is opened now; and with which program
pub record IsNewIn (setup : Setup) (s : State) (opened p program : ℕ) : Type 0 where
  pub t : ℕ
  pub caller : Thread
  pub there : by_id s.threads t ≡ Some caller
  pub runs : caller.place ≡ Running
  pub proc_no : (p ≡ caller.proc_no) ⊎ ((s.opened < p) × (p ≤ opened))
  pub own : (1 ≤ program) × (program ≤ setup.programs)

-- a test of threads that no thread passes that didn't: one that is put elsewhere, takes another name, group or word, or
-- is made
pub record IsShut (setup : Setup) (s : State) (opened : ℕ) (q : Thread → Bool) : Type 0 where
  pub fading : IsFading q
  pub kept : IsSteady q
  pub fresh : (p program arg group : ℕ) → IsNewIn setup s opened p program → q (fresh p program arg group) ≡ false

-- what a request of a thread t that runs keeps
pub record IsCalled (setup : Setup) (t : ℕ) (s : State) (o : Outcome) : Type 0 where
  pub up : (u : ℕ) → IsUp (place_of o.state.threads u) → IsUp (place_of s.threads u)
  pub unborn : (u : ℕ) → is_unborn (by_id o.state.threads u) ≡ true → is_unborn (by_id s.threads u) ≡ true
  pub tallies : (q : Thread → Bool) → IsShut setup s o.state.opened q → tally q o.state.threads ≤ tally q s.threads
  pub upright : IsUpright o.state
  pub reply : IsCallReply o.reply
  pub ends : o.reply ≡ EndedReply → place_of o.state.threads t ≡ Ended
  pub stays : (a : Answer) → o.reply ≡ Now a → (p : ℕ) → runs_there p (by_id s.threads t) ≡ true → runs_there p (by_id o.state.threads t) ≡ true
  pub begun : (k : ℕ) (call : IoCall) → IsBegun call (by_id s.ioprocs k) → IsBegun call (by_id o.state.ioprocs k)
  pub over : s.over ≡ true → o.state.over ≡ true
  pub ending : (o.state.over ≡ s.over) ⊎ (tally lives o.state.threads ≡ 0)
  pub grows : s.opened ≤ o.state.opened
  pub within : s.opened ≤ setup.places → o.state.opened ≤ setup.places

-- so does each one that makes no thread
from_served : (setup : Setup) (t : ℕ) (s : State) (o : Outcome) → IsServed t s o → IsCalled setup t s o
from_served setup t s o is =
    let same = is.opened in
    record {
      up = is.moved.up;
      unborn = is.moved.unborn;
      tallies = λ q h. is.moved.fades q h.fading;
      upright = is.upright;
      reply = is.reply;
      ends = is.ends;
      stays = λ a e p runs. rw (is.stays a e) runs;
      begun = is.begun;
      over = λ h. is.over ∙ h;
      ending = inl is.over;
      grows = omega (arith, same);
      within = λ h. omega (arith, same);
    }

kept_at : {A : Type 0} (g : Option Thread → A) (f : Thread → Thread) (threads : List Thread) (t u : ℕ) (x : Thread) → by_id threads t ≡ Some x → g (Some (f x)) ≡ g (Some x) → g (by_id (changed f threads (t - 1)) u) ≡ g (by_id threads u)
kept_at g f threads t u x at e = elim (cases_eq u t) [
  | inl same ↦ rw (same, by_id-changed_same f threads t x at, at) e
  | inr ne ↦ ap g (by_id-changed_other f threads t u x at ne)
]

-- the caller takes another name, group or word
kept_called : (setup : Setup) (t : ℕ) (s : State) (x : Thread) (f : Thread → Thread) (a : Answer) → by_id s.threads t ≡ Some x → LeavesStanding f → IsUpright s → IsCalled setup t s (now a (with_changed f t s))
kept_called setup t s x f a at leaves upright =
    record {
      up = λ u h. rw (kept_at place_in f s.threads t u x at (leaves.place x)) at h;
      unborn = λ u h. rw (kept_at is_unborn f s.threads t u x at kept_unborn) at h;
      tallies = λ q h. tally-changed q f s.threads (t - 1) x (get_by_id s.threads t x at) (h.kept x (f x) (leaves.proc_no x) (leaves.program x) (leaves.place x));
      upright = record {
        in_line = λ u. upright.in_line u ∙ ap times_in_line (sym (kept_at place_in f s.threads t u x at (leaves.place x)));
        in_waits = λ u. upright.in_waits u ∙ ap times_waiting (sym (kept_at place_in f s.threads t u x at (leaves.place x)));
        in_calls = upright.in_calls;
        short = upright.short;
      };
      reply = tt;
      ends = λ e. cc;
      stays = λ b e p runs. rw (kept_at (runs_there p) f s.threads t t x at (kept_runs p)) runs;
      begun = λ k call h. h;
      over = λ h. h;
      ending = inl refl;
      grows = omega arith;
      within = λ h. h;
    }
  where
    kept_unborn : is_unborn (Some (f x)) ≡ is_unborn (Some x)
    kept_unborn = rw (leaves.place x) refl

    kept_runs : (p : ℕ) → runs_there p (Some (f x)) ≡ runs_there p (Some x)
    kept_runs p = rw (leaves.proc_no x, leaves.place x) refl

all_called : (setup : Setup) (t : ℕ) (s : State) → IsUpright s → IsCalled setup t s (replied EndedReply (all_ended s))
all_called setup t s upright =
    let is = ended_moved (λ u. true) s.threads in
    let stands = ended_upright (λ u. true) s upright in
    record {
      up = is.up;
      unborn = is.unborn;
      tallies = λ q h. is.fades q h.fading;
      upright = record { in_line = stands.in_line; in_waits = stands.in_waits; in_calls = stands.in_calls; short = stands.short };
      reply = tt;
      ends = λ e. all_places s.threads t;
      stays = λ a e. cc;
      begun = ended_begun (λ u. true) s.ioprocs;
      over = λ h. refl;
      ending = inr (none_lives 1 s.threads);
      grows = omega arith;
      within = λ h. h;
    }

-- a thread is made in the caller's proc
made_called : (setup : Setup) (t program arg : ℕ) (s : State) (x : Thread) → by_id s.threads t ≡ Some x → x.place ≡ Running → IsUpright s → IsBetween 1 setup.programs program → IsCalled setup t s (now (Number (length s.threads + 1)) (with_thread x.proc_no program arg x.group s))
made_called setup t program arg s x at runs upright own =
    let is = making s x.proc_no program arg x.group upright in
    record {
      up = is.up;
      unborn = is.unborn;
      tallies = λ q h. is.tallies q (h.fresh x.proc_no program arg x.group (record { t = t; caller = x; there = at; runs = runs; proc_no = inl refl; own = (own.from, own.to) }));
      upright = is.upright;
      reply = tt;
      ends = λ e. cc;
      stays = λ a e p h. rw (is.stays t x at) h;
      begun = λ k call h. h;
      over = λ h. h;
      ending = inl refl;
      grows = omega arith;
      within = λ h. h;
    }

-- a thread is made in the next proc, and the caller is ready
opened_called : (setup : Setup) (t program arg : ℕ) (s : State) (x : Thread) → by_id s.threads t ≡ Some x → x.place ≡ Running → IsUpright s → IsBetween 1 setup.programs program → s.opened < setup.places → IsCalled setup t s (done t (Number (length s.threads + 1)) (with_thread (s.opened + 1) program arg x.group (record s { opened = s.opened + 1 })))
opened_called setup t program arg s x at runs upright own room =
    let is = making (record s { opened = s.opened + 1 }) (s.opened + 1) program arg x.group upright in
    let there : RunsIn (with_thread (s.opened + 1) program arg x.group (record s { opened = s.opened + 1 })) t = rw (is.stays t x at, at) runs in
    let rest = done_served (with_thread (s.opened + 1) program arg x.group (record s { opened = s.opened + 1 })) t (Number (length s.threads + 1)) is.upright there in
    record {
      up = λ u h. is.up u (rest.moved.up u h);
      unborn = λ u h. is.unborn u (rest.moved.unborn u h);
      tallies = λ q h.
          let k = rest.moved.fades q h.fading in
          let l = is.tallies q (h.fresh (s.opened + 1) program arg x.group (record { t = t; caller = x; there = at; runs = runs; proc_no = inr (omega arith, omega arith); own = (own.from, own.to) })) in
          omega (arith, k, l);
      upright = rest.upright;
      reply = tt;
      ends = λ e. cc;
      stays = λ a e. cc;
      begun = λ k call h. h;
      over = λ h. h;
      ending = inl refl;
      grows = omega arith;
      within = λ h. omega (arith, room);
    }

aside_called : (setup : Setup) (t : ℕ) (procs : List Proc) (a : Answer) (s : State) → IsUpright s → IsCalled setup t s (now a (record s { procs = procs }))
aside_called setup t procs a s upright =
    record {
      up = λ u h. h;
      unborn = λ u h. h;
      tallies = λ q h. omega arith;
      upright = record { in_line = upright.in_line; in_waits = upright.in_waits; in_calls = upright.in_calls; short = upright.short };
      reply = tt;
      ends = λ e. cc;
      stays = λ a e p h. h;
      begun = λ k call h. h;
      over = λ h. h;
      ending = inl refl;
      grows = omega arith;
      within = λ h. h;
    }

place_there : (s : State) (t : ℕ) (x : Thread) → by_id s.threads t ≡ Some x → RunsIn s t → x.place ≡ Running
place_there s t x at runs = sym (ap place_in at) ∙ runs

asked_called : (setup : Setup) (t : ℕ) (s : State) (o : Outcome) → Does setup t s o → IsUpright s → RunsIn s t → IsCalled setup t s o
asked_called setup t s _ (Answers a) upright runs = from_served setup t s _ (now_served s t a s.ioprocs upright (λ k call h. h))
asked_called setup t s _ (ChangesCaller f x a at leaves grants) upright runs = kept_called setup t s x f a at leaves upright
asked_called setup t s _ (ChangesAside procs a grants same) upright runs = aside_called setup t procs a s upright
asked_called setup t s _ (MakesThread program arg x at own) upright runs = made_called setup t program arg s x at (place_there s t x at runs) upright own
asked_called setup t s _ (MakesProc program arg x at own room) upright runs = opened_called setup t program arg s x at (place_there s t x at runs) upright own room
asked_called setup t s _ GivesWay upright runs = from_served setup t s _ (done_served s t Done upright runs)
asked_called setup t s _ Ends upright runs = from_served setup t s _ (exits_served s t upright)
asked_called setup t s _ EndsAll upright runs = all_called setup t s upright

-- an answer at once after threads are woken and marked
signalled_called : (setup : Setup) (t : ℕ) (a : Answer) (s m : State) → IsSignalling t s m → IsCalled setup t s (now a m)
signalled_called setup t a s m is =
    let opened = is.opened in
    record {
      up = is.up;
      unborn = is.unborn;
      tallies = λ q h. is.tallies q h.fading h.kept;
      upright = is.upright;
      reply = tt;
      ends = λ e. cc;
      stays = λ b e p runs. is.stays p ∙ runs;
      begun = λ k call h. rw (is.ioprocs) h;
      over = λ h. is.over ∙ h;
      ending = inl is.over;
      grows = omega (arith, opened);
      within = λ h. omega (arith, opened);
    }

signals_called : (setup : Setup) (t : ℕ) (s : State) (o : Outcome) → DoesToSignals s o → IsUpright s → RunsIn s t → IsCalled setup t s o
signals_called setup t s _ (Replies a) upright runs = from_served setup t s _ (now_served s t a s.ioprocs upright (λ k call h. h))
signals_called setup t s _ (Signals n m by) upright runs = signalled_called setup t (Number n) s m (signalling t m s by upright runs)
signals_called setup t s _ (SetsHandlers p handlers) upright runs = aside_called setup t _ (Number 1) s upright
signals_called setup t s _ (Posts p note m alive by) upright runs =
    signalled_called setup t Done s m (aside_signalling t p (with_note note) s m (signalling t m (with_proc (with_note note) p s) by upright runs))

kind_called : (setup : Setup) (t : ℕ) (s : State) (r : Request) (o : Outcome) → Kind setup t s r o → IsUpright s → RunsIn s t → IsCalled setup t s o
kind_called setup t s _ _ (Plain r o no_alt does) upright runs = asked_called setup t s o does upright runs
kind_called setup t s _ _ (OfSignals r) upright runs = signals_called setup t s _ (signal_call_does t r s) upright runs
kind_called setup t s _ _ (OfChans r) upright runs = from_served setup t s _ (chan_call_served setup t r s upright runs)
kind_called setup t s _ _ (OfLocks r) upright runs = from_served setup t s _ (lock_call_served setup t r s upright runs)
kind_called setup t s _ _ (OfIoprocs r) upright runs = from_served setup t s _ (io_call_served setup t r s upright runs)

served_called : (setup : Setup) (t : ℕ) (r : Request) (s : State) → IsUpright s → RunsIn s t → IsCalled setup t s (served setup t r s)
served_called setup t r s upright runs = kind_called setup t s r _ (served_kind setup t r s) upright runs

call_called : (setup : Setup) (p t : ℕ) (r : Request) (s : State) (o : Outcome) → CallOf setup p t r s o → IsUpright s → runs_there p (by_id s.threads t) ≡ true → IsCalled setup t s o
call_called setup p t r s _ (Strays elsewhere) upright there = absurd (cc (elsewhere, there))
call_called setup p t r s _ (Dies there doomed) upright _ = from_served setup t s _ (exits_served s t upright)
call_called setup p t r s _ (Serves there undoomed) upright _ = served_called setup t r s upright (place_runs p (by_id s.threads t) there)

-- the call of a thread that runs there
pub running_called : (setup : Setup) (p t : ℕ) (r : Request) (s : State) → IsUpright s → runs_there p (by_id s.threads t) ≡ true → IsCalled setup t s (called setup p t r s)
running_called setup p t r s upright there = call_called setup p t r s _ (call_of setup p t r s) upright there

call_elsewhere : (setup : Setup) (p t : ℕ) (r : Request) (s : State) (o : Outcome) → CallOf setup p t r s o → runs_there p (by_id s.threads t) ≡ false → o ≡ same Stray s
call_elsewhere setup p t r s _ (Strays elsewhere) e = refl
call_elsewhere setup p t r s _ (Dies there doomed) e = absurd (cc (there, e))
call_elsewhere setup p t r s _ (Serves there undoomed) e = absurd (cc (there, e))

-- and that of any other one
pub elsewhere_called : (setup : Setup) (p t : ℕ) (r : Request) (s : State) → runs_there p (by_id s.threads t) ≡ false → called setup p t r s ≡ same Stray s
elsewhere_called setup p t r s e = call_elsewhere setup p t r s _ (call_of setup p t r s) e

ended_all : (setup : Setup) (t : ℕ) (r : ThreadReq) (s : State) (o : Option Thread) → RunsIn s t → by_id s.threads t ≡ o → ends_all (ThreadRequest r) ≡ true → (u : ℕ) → IsUp (place_of (thread_call setup t r s).state.threads u) → ⊥
ended_all setup t r s None runs at all u h = cc (ap place_in at, runs)
ended_all setup t r s (Some x) runs at all u h = rw (thread_call_ends_all setup t r s x at all, all_places s.threads u) at h

-- a request that ends all threads leaves none up
served_all : (setup : Setup) (t : ℕ) (r : Request) (s : State) → RunsIn s t → ends_all r ≡ true → (u : ℕ) → IsUp (place_of (served setup t r s).state.threads u) → ⊥
unfolding served
served_all setup t (ThreadRequest r) s runs all u h = ended_all setup t r s (by_id s.threads t) runs refl all u h
served_all setup t r s runs all u h = cc

-- it doesn't let others run before it does so
all_stays : (r : Request) → ends_all r ≡ true → relinquishes r ≡ false
all_stays (ThreadRequest (ThreadExitsAll text)) all = refl
all_stays r all = cc

undoomed_all : (t : ℕ) (r : Request) (s : State) → ends_all r ≡ true → is_doomed t r s ≡ true → ⊥
undoomed_all t r s all doomed =
    let gives_way = (and_parts (is_marked (by_id s.threads t)) (relinquishes r) doomed).1 in
    cc (gives_way, all_stays r all)

call_all : (setup : Setup) (p t : ℕ) (r : Request) (s : State) (o : Outcome) → CallOf setup p t r s o → runs_there p (by_id s.threads t) ≡ true → ends_all r ≡ true → (u : ℕ) → IsUp (place_of o.state.threads u) → ⊥
call_all setup p t r s _ (Strays elsewhere) there all u h = cc (elsewhere, there)
call_all setup p t r s _ (Dies there doomed) _ all u h = undoomed_all t r s all doomed
call_all setup p t r s _ (Serves there undoomed) _ all u h = served_all setup t r s (place_runs p (by_id s.threads t) there) all u h

-- nor does its call
pub called_all : (setup : Setup) (p t : ℕ) (r : Request) (s : State) → runs_there p (by_id s.threads t) ≡ true → ends_all r ≡ true → (u : ℕ) → IsUp (place_of (called setup p t r s).state.threads u) → ⊥
called_all setup p t r s there all u h = call_all setup p t r s _ (call_of setup p t r s) there all u h
