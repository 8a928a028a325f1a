-- What each request on ioprocs of a thread that runs does, and what the requests that make no thread share.
use Rattle.std.proofs.Common.{◌≡◌, ◌≢◌, ℕ, ◌+◌, ◌-◌, Bool, true, false, cond, ◌&&◌, eqb, ltb, List, [], ◌∷◌, ◌++◌, Option, Some, None, refl, subst, inl, inr, arith}
use Rattle.std.proofs.lemmas.Bool.{cases_eq}
use Rattle.p9_word.specs.declared.answer.Answer.{Answer}
use Rattle.p9_word.specs.declared.answer.Answer.TheVariants.{Interrupted, Number}
use Rattle.p9_word.specs.declared.request.Request.{Request}
use Rattle.p9_word.specs.declared.request.Request.TheVariants.{Io as IoRequest}
use Rattle.p9_word.specs.declared.request.IoReq.{IoReq}
use Rattle.p9_word.specs.declared.request.IoReq.TheVariants.{IoProc, IoRun, IoInterrupt, CloseIoProc}
use Rattle.p9_word.specs.declared.io_call.IoCall.{IoCall}
use Rattle.p9_word.specs.declared.setup.Setup.{Setup}
use Rattle.p9_word.specs.declared.trail.Reply.TheVariants.{Now, Ended as EndedReply}
use Rattle.p9_manual.specs.declared.state.Place.TheVariants.{Ready, Running, Waiting, Ended}
use Rattle.p9_manual.specs.declared.state.Thread.{Thread}
use Rattle.p9_manual.specs.declared.state.Ioproc.{Ioproc}
use Rattle.p9_manual.specs.declared.state.Ioproc.TheVariants.{Unmade, Idle, Posted, Begun, Closed as ClosedIoproc}
use Rattle.p9_manual.specs.Effects.{message_length}
use Rattle.p9_manual.specs.State.{State, Outcome, at_place, by_id, changed, waiting, now, bad, done, wake}
use Rattle.p9_manual.specs.Ioprocs.{io_call, make, post_call, interrupt_begun, interrupt_call, close_ioproc, with_ioproc}
use Rattle.p9_laws.specs.RunReplies.{IsCallReply}
use Rattle.p9_laws.specs.IoReplies.{IsBegun}
use Rattle.p9_laws.proofs.Tallies.{tally, tally-put, tally-put_exact, tally-push}
use Rattle.p9_laws.proofs.Standing.{place_of, by_id-changed_same, by_id-changed_other, get_by_id, made_up}
use Rattle.p9_laws.proofs.RunMoves.{AreUpright, IsUpright, IsMoved, is_call_of, is_long, unmoved, placed_moved, RunsIn, runs_up, readied_upright, waiting_upright, asks_io, is_io_wait_of, wait_of, no_io_wait}
use Rattle.p9_laws.proofs.RunFreed.{IsFreed, caller_waits, disowned, freed_moved, freed_up, freed_upright, taken_back}

-- what a request of a thread t that runs is to keep, where it makes no thread
pub record IsServed (t : ℕ) (s : State) (o : Outcome) : Type 0 where
  pub moved : IsMoved s.threads o.state.threads
  pub upright : IsUpright o.state
  pub reply : IsCallReply o.reply
  pub ends : o.reply ≡ EndedReply → place_of o.state.threads t ≡ Ended
  pub stays : (a : Answer) → o.reply ≡ Now a → by_id o.state.threads t ≡ by_id s.threads t
  pub begun : (k : ℕ) (call : IoCall) → IsBegun call (by_id s.ioprocs k) → IsBegun call (by_id o.state.ioprocs k)
  pub over : o.state.over ≡ s.over
  pub opened : o.state.opened ≡ s.opened

pub done_served : (s : State) (t : ℕ) (a : Answer) → IsUpright s → RunsIn s t → IsServed t s (done t a s)
done_served s t a upright runs =
    record {
      moved = placed_moved s.threads t (Ready a) (runs_up s t runs) (λ e. cc);
      upright = readied_upright s t a upright runs;
      reply = tt;
      ends = λ e. cc;
      stays = λ a e. cc;
      begun = λ k call h. h;
      over = refl;
      opened = refl;
    }

waiting_served : (s : State) (t : ℕ) (r : Request) (ios : List Ioproc) → IsUpright s → RunsIn s t → ((u : ℕ) → tally (is_io_wait_of u) (s.waits ++ wait_of s t r ∷ []) ≡ tally (is_call_of u) ios) → tally is_long ios ≡ 0 → ((k : ℕ) (call : IoCall) → IsBegun call (by_id s.ioprocs k) → IsBegun call (by_id ios k)) → IsServed t s (waiting t r (record s { ioprocs = ios }))
waiting_served s t r ios upright runs calls short begun =
    record {
      moved = placed_moved s.threads t Waiting (runs_up s t runs) (λ e. cc);
      upright = waiting_upright s t r ios upright runs calls short;
      reply = tt;
      ends = λ e. cc;
      stays = λ a e. cc;
      begun = begun;
      over = refl;
      opened = refl;
    }

pub just_waiting : (s : State) (t : ℕ) (r : Request) → IsUpright s → RunsIn s t → asks_io r ≡ false → IsServed t s (waiting t r s)
just_waiting s t r upright runs chan =
    waiting_served s t r s.ioprocs upright runs
    (λ u. let k = tally-push (is_io_wait_of u) false s.waits (wait_of s t r) (no_io_wait u (wait_of s t r) chan) in let c = upright.in_calls u in omega (arith, k, c))
    upright.short (λ k call h. h)

-- an answer at once that moves no thread
pub now_served : (s : State) (t : ℕ) (a : Answer) (ios : List Ioproc) → AreUpright s.threads s.line s.waits ios → ((k : ℕ) (call : IoCall) → IsBegun call (by_id s.ioprocs k) → IsBegun call (by_id ios k)) → IsServed t s (now a (record s { ioprocs = ios }))
now_served s t a ios upright begun =
    record {
      moved = unmoved s.threads;
      upright = upright;
      reply = tt;
      ends = λ e. cc;
      stays = λ b e. refl;
      begun = begun;
      over = refl;
      opened = refl;
    }

pub bad_served : (s : State) (t : ℕ) → IsUpright s → IsServed t s (bad s)
bad_served s t upright = now_served s t _ s.ioprocs upright (λ k call h. h)

pub if_served : (t : ℕ) (s : State) (b : Bool) (o p : Outcome) → (b ≡ true → IsServed t s o) → (b ≡ false → IsServed t s p) → IsServed t s (cond b o p)
if_served t s true o p f g = f refl
if_served t s false o p f g = g refl

-- what is begun at an ioproc stays so where another call was put at one that has none begun
pub begun_elsewhere : (ios : List Ioproc) (k : ℕ) (old new : Ioproc) → by_id ios k ≡ Some old → ((x : Option ℕ) (call : IoCall) → old ≡ Begun x call → ⊥) → (j : ℕ) (call : IoCall) → IsBegun call (by_id ios j) → IsBegun call (by_id (changed (λ _. new) ios (k - 1)) j)
begun_elsewhere ios k old new at unbegun j call h = elim (cases_eq j k) [
  | inl e ↦ absurd (unbegun h.0 call (let b = subst (λ (x : ℕ). by_id ios x ≡ Some (Begun h.0 call)) e (h.1) in cc (b, at)))
  | inr ne ↦ rw (by_id-changed_other (λ _. new) ios k j old at ne) h
]

-- another ioproc without a caller, in place of one without a caller
pub put_upright : (s : State) (k : ℕ) (old new : Ioproc) → by_id s.ioprocs k ≡ Some old → IsUpright s → ((u : ℕ) → is_call_of u old ≡ false) → ((u : ℕ) → is_call_of u new ≡ false) → is_long new ≡ false → AreUpright s.threads s.line s.waits (changed (λ _. new) s.ioprocs (k - 1))
put_upright s k old new at upright none_old none_new short =
    record {
      in_line = upright.in_line;
      in_waits = upright.in_waits;
      in_calls = λ u. let e = rw (none_old u, none_new u) at (tally-put_exact (is_call_of u) new s.ioprocs (k - 1) old (get_by_id s.ioprocs k old at)) in let c = upright.in_calls u in omega (arith, e, c);
      short = let e = rw short at (tally-put is_long new s.ioprocs (k - 1)) in let z = upright.short in omega (arith, e, z);
    }

make_served : (t k : ℕ) (s : State) (o : Option Ioproc) → by_id s.ioprocs k ≡ o → IsUpright s → IsServed t s (make k s o)
make_served t k s (Some Unmade) at upright = now_served s t _ _ (put_upright s k Unmade Idle at upright (λ u. refl) (λ u. refl) refl) (begun_elsewhere s.ioprocs k Unmade Idle at (λ x call e. cc))
make_served t k s (Some Idle) at upright = bad_served s t upright
make_served t k s (Some (Posted u call)) at upright = bad_served s t upright
make_served t k s (Some (Begun u call)) at upright = bad_served s t upright
make_served t k s (Some ClosedIoproc) at upright = bad_served s t upright
make_served t k s None at upright = bad_served s t upright

-- a call posted at an idle ioproc, and the wait for it
posted_calls : (t k : ℕ) (call : IoCall) (s : State) → by_id s.ioprocs k ≡ Some Idle → IsUpright s → (u : ℕ) → tally (is_io_wait_of u) (s.waits ++ wait_of s t (IoRequest (IoRun k call)) ∷ []) ≡ tally (is_call_of u) (changed (λ _. Posted t call) s.ioprocs (k - 1))
posted_calls t k call s at upright u =
    let w = tally-push (is_io_wait_of u) (eqb t u && true) s.waits (wait_of s t (IoRequest (IoRun k call))) refl in
    let e = tally-put_exact (is_call_of u) (Posted t call) s.ioprocs (k - 1) Idle (get_by_id s.ioprocs k Idle at) in
    one_more (eqb t u) _ _ _ _ w e (upright.in_calls u)
  where
    one_more : (b : Bool) (a c d x : ℕ) → a ≡ c + cond (b && true) 1 0 → x + 0 ≡ d + cond b 1 0 → c ≡ d → a ≡ x
    one_more true a c d x e f g = omega (arith, e, f, g)
    one_more false a c d x e f g = omega (arith, e, f, g)

post_call_served : (t k : ℕ) (call : IoCall) (s : State) (o : Option Ioproc) → by_id s.ioprocs k ≡ o → IsUpright s → RunsIn s t → IsServed t s (post_call t k call s o)
post_call_served t k call s (Some Idle) at upright runs =
    if_served t s (ltb 4294967295 (message_length call)) _ _ (λ _. bad_served s t upright)
    (λ short. waiting_served s t _ (changed (λ _. Posted t call) s.ioprocs (k - 1)) upright runs
    (posted_calls t k call s at upright)
    (let k = rw short at (tally-put is_long (Posted t call) s.ioprocs (k - 1)) in let z = upright.short in omega (arith, k, z))
    (begun_elsewhere s.ioprocs k Idle (Posted t call) at (λ x call e. cc)))
post_call_served t k call s (Some Unmade) at upright runs = bad_served s t upright
post_call_served t k call s (Some (Posted u other)) at upright runs = bad_served s t upright
post_call_served t k call s (Some (Begun u other)) at upright runs = bad_served s t upright
post_call_served t k call s (Some ClosedIoproc) at upright runs = bad_served s t upright
post_call_served t k call s None at upright runs = bad_served s t upright

-- what is begun at an ioproc stays so where a begun call goes on for nobody
begun_disowned : (ios : List Ioproc) (k : ℕ) (t : Option ℕ) (call : IoCall) → by_id ios k ≡ Some (Begun t call) → (j : ℕ) (other : IoCall) → IsBegun other (by_id ios j) → IsBegun other (by_id (changed (λ _. Begun None call) ios (k - 1)) j)
begun_disowned ios k t call at j other h = elim (cases_eq j k) [
  | inl e ↦
      let there = subst (λ (x : ℕ). by_id ios x ≡ Some (Begun h.0 other)) e (h.1) in
      let same : other ≡ call = cc (there, at) in
      rw (e, same) (None, by_id-changed_same (λ _. Begun None call) ios k (Begun t call) at)
  | inr ne ↦ rw (by_id-changed_other (λ _. Begun None call) ios k j (Begun t call) at ne) h
]

-- the thread u that waited for the call of an ioproc is interrupted, and t runs on
freed_served : (t u k : ℕ) (old io : Ioproc) (s : State) → IsFreed u k old io s → ((j : ℕ) (call : IoCall) → IsBegun call (by_id s.ioprocs j) → IsBegun call (by_id (changed (λ _. io) s.ioprocs (k - 1)) j)) → IsUpright s → RunsIn s t → IsServed t s (now (Number 1) (wake u Interrupted (with_ioproc k io s)))
freed_served t u k old io s freed begun upright runs =
    let made = made_up s.threads u (freed_up u k old io s freed upright) in
    record {
      moved = freed_moved u k old io Interrupted s freed upright;
      upright = freed_upright u k old io Interrupted s freed upright;
      reply = tt;
      ends = λ e. cc;
      stays = λ a e. by_id-changed_other (at_place (Ready Interrupted)) s.threads u t made.0 made.1 (others s.threads (caller_waits u k old io s freed upright).0 runs);
      begun = begun;
      over = refl;
      opened = refl;
    }
  where
    others : (threads : List Thread) → place_of threads u ≡ Waiting → place_of threads t ≡ Running → t ≢ u
    others threads waits runs same = let r = subst (λ (x : ℕ). place_of threads x ≡ Running) same runs in cc (r, waits)

interrupt_begun_served : (t k : ℕ) (call : IoCall) (s : State) (o : Option ℕ) → by_id s.ioprocs k ≡ Some (Begun o call) → IsUpright s → RunsIn s t → IsServed t s (interrupt_begun k call s o)
interrupt_begun_served t k call s None at upright runs = now_served s t (Number 0) s.ioprocs upright (λ k call h. h)
interrupt_begun_served t k call s (Some u) at upright runs = freed_served t u k _ (Begun None call) s (disowned u k call s at) (begun_disowned s.ioprocs k (Some u) call at) upright runs

interrupt_call_served : (t k : ℕ) (s : State) (o : Option Ioproc) → by_id s.ioprocs k ≡ o → IsUpright s → RunsIn s t → IsServed t s (interrupt_call k s o)
interrupt_call_served t k s (Some (Posted u call)) at upright runs = freed_served t u k _ Idle s (taken_back u k call s at) (begun_elsewhere s.ioprocs k (Posted u call) Idle at (λ x call e. cc)) upright runs
interrupt_call_served t k s (Some (Begun o call)) at upright runs = interrupt_begun_served t k call s o at upright runs
interrupt_call_served t k s (Some Idle) at upright runs = now_served s t (Number 0) s.ioprocs upright (λ k call h. h)
interrupt_call_served t k s (Some Unmade) at upright runs = bad_served s t upright
interrupt_call_served t k s (Some ClosedIoproc) at upright runs = bad_served s t upright
interrupt_call_served t k s None at upright runs = bad_served s t upright

close_ioproc_served : (t k : ℕ) (s : State) (o : Option Ioproc) → by_id s.ioprocs k ≡ o → IsUpright s → IsServed t s (close_ioproc k s o)
close_ioproc_served t k s (Some Idle) at upright = now_served s t _ _ (put_upright s k Idle ClosedIoproc at upright (λ u. refl) (λ u. refl) refl) (begun_elsewhere s.ioprocs k Idle ClosedIoproc at (λ x call e. cc))
close_ioproc_served t k s (Some Unmade) at upright = bad_served s t upright
close_ioproc_served t k s (Some (Posted u call)) at upright = bad_served s t upright
close_ioproc_served t k s (Some (Begun u call)) at upright = bad_served s t upright
close_ioproc_served t k s (Some ClosedIoproc) at upright = bad_served s t upright
close_ioproc_served t k s None at upright = bad_served s t upright

pub io_call_served : (setup : Setup) (t : ℕ) (r : IoReq) (s : State) → IsUpright s → RunsIn s t → IsServed t s (io_call setup t r s)
unfolding io_call
io_call_served setup t (IoProc k) s upright runs = make_served t k s _ refl upright
io_call_served setup t (IoRun k call) s upright runs = post_call_served t k call s _ refl upright runs
io_call_served setup t (IoInterrupt k) s upright runs = interrupt_call_served t k s _ refl upright runs
io_call_served setup t (CloseIoProc k) s upright runs = close_ioproc_served t k s _ refl upright
