-- What holds of the threads, the waits and the ioprocs of each state that a legal history comes to, as far as a runner
-- of threads rests on it, and what the operations that the requests share keep of it.
use Rattle.std.proofs.Common.{◌≡◌, ◌≢◌, ℕ, ◌-◌, ◌≤◌, Bool, true, false, ◌&&◌, eqb, ltb, List, [], ◌∷◌, ◌++◌, Option, Some, None, refl, ap, sym, subst, ◌∙◌, inl, inr, arith, rules, tests}
use Rattle.std.proofs.lemmas.Bool.{cases_eq, and_parts}
use Rattle.p9_word.specs.declared.answer.Answer.{Answer}
use Rattle.p9_word.specs.declared.request.Request.{Request}
use Rattle.p9_word.specs.declared.request.Request.TheVariants.{Io as IoRequest}
use Rattle.p9_manual.specs.declared.state.Place.{Place}
use Rattle.p9_manual.specs.declared.state.Place.TheVariants.{Running, New, Ready, Waiting, Ended}
use Rattle.p9_manual.specs.declared.state.Thread.{Thread}
use Rattle.p9_manual.specs.declared.state.Waiter.{Waiter}
use Rattle.p9_manual.specs.declared.state.Ioproc.{Ioproc}
use Rattle.p9_manual.specs.declared.state.Ioproc.TheVariants.{Unmade, Idle, Posted, Begun, Closed}
use Rattle.p9_manual.specs.Effects.{message_length}
use Rattle.p9_manual.specs.State.{State, by_id, placed, at_place, waiting, readied}
use Rattle.p9_manual.specs.LockWaits.{lined}
use Rattle.p9_manual.specs.Places.{is_ended}
use Rattle.p9_laws.proofs.Tallies.{tally, tally-push, tally-changed, tally-le}
use Rattle.p9_laws.proofs.Standing.{IsUp, IsMade, place_of, place_in, times_waiting, times_in_line, made_up, get_by_id, by_id-changed_same, by_id-changed_other, place_of-placed_same, place_of-placed_other}

-- an ioproc keeps a call of thread u
abbrev pub is_call_of : ℕ → Ioproc → Bool
is_call_of u (Posted t call) = eqb t u
is_call_of u (Begun None call) = false
is_call_of u (Begun (Some t) call) = eqb t u
is_call_of u Unmade = false
is_call_of u Idle = false
is_call_of u Closed = false

-- an ioproc keeps a call with a long message
abbrev pub is_long : Ioproc → Bool
is_long (Posted t call) = ltb 4294967295 (message_length call)
is_long (Begun t call) = ltb 4294967295 (message_length call)
is_long Unmade = false
is_long Idle = false
is_long Closed = false

-- a request that an ioproc serves
abbrev pub asks_io : Request → Bool
asks_io (IoRequest r) = true
asks_io r = false

-- thread u waits for an ioproc
abbrev pub is_io_wait_of : ℕ → Waiter → Bool
is_io_wait_of u w = eqb w.tid u && asks_io w.request

-- the line holds exactly the ready threads and the waits exactly the waiting ones, each once; a thread waits for an
-- ioproc exactly where one has its call; and no call is long
pub record AreUpright (threads : List Thread) (line : List ℕ) (waits : List Waiter) (ios : List Ioproc) : Type 0 where
  pub in_line : (u : ℕ) → tally (λ x. eqb x u) line ≡ times_in_line (place_of threads u)
  pub in_waits : (u : ℕ) → tally (λ w. eqb w.tid u) waits ≡ times_waiting (place_of threads u)
  pub in_calls : (u : ℕ) → tally (is_io_wait_of u) waits ≡ tally (is_call_of u) ios
  pub short : tally is_long ios ≡ 0

abbrev pub IsUpright : State → Type 0
IsUpright s = AreUpright s.threads s.line s.waits s.ioprocs

-- a test of threads that one that hasn't ended passes wherever it is put, if it passes there
abbrev pub IsFading : (Thread → Bool) → Type 0
IsFading q = (x : Thread) (pl : Place) → is_ended x.place ≡ false → q (at_place pl x) ≡ true → q x ≡ true

-- a test of threads that looks at no more than the proc, the program and the place
abbrev pub IsSteady : (Thread → Bool) → Type 0
IsSteady q = (x y : Thread) → y.proc_no ≡ x.proc_no → y.program ≡ x.program → y.place ≡ x.place → q y ≡ true → q x ≡ true

abbrev pub is_new : Place → Bool
is_new New = true
is_new Running = false
is_new (Ready a) = false
is_new Waiting = false
is_new Ended = false

-- a thread that hasn't begun: it isn't made yet, or is new
abbrev pub is_unborn : Option Thread → Bool
is_unborn None = true
is_unborn (Some x) = is_new x.place

-- no thread is up, unborn or alive that was not
pub record IsMoved (before after : List Thread) : Type 0 where
  pub up : (u : ℕ) → IsUp (place_of after u) → IsUp (place_of before u)
  pub unborn : (u : ℕ) → is_unborn (by_id after u) ≡ true → is_unborn (by_id before u) ≡ true
  pub fades : (q : Thread → Bool) → IsFading q → tally q after ≤ tally q before

pub same_id : (t : ℕ) → eqb t t ≡ true
same_id t = search (rules, tests)

pub other_id : (t u : ℕ) → u ≢ t → eqb t u ≡ false
other_id t u ne = search (rules, tests)

pub unmoved : (threads : List Thread) → IsMoved threads threads
unmoved threads = record { up = λ u h. h; unborn = λ u h. h; fades = λ q h. omega arith }

pub moved_on : (a b c : List Thread) → IsMoved a b → IsMoved b c → IsMoved a c
moved_on a b c f g =
    record {
      up = λ u h. f.up u (g.up u h);
      unborn = λ u h. f.unborn u (g.unborn u h);
      fades = λ q h. let k = f.fades q h in let l = g.fades q h in omega (arith, k, l);
    }

alive : (pl : Place) → IsUp pl → is_ended pl ≡ false
alive Running up = refl
alive (Ready a) up = refl
alive Waiting up = refl
alive New up = absurd up
alive Ended up = absurd up

alive_at : (threads : List Thread) (t : ℕ) (thread : Thread) → by_id threads t ≡ Some thread → IsUp (place_of threads t) → is_ended thread.place ≡ false
alive_at threads t thread at up = alive thread.place (subst (λ (o : Option Thread). IsUp (place_in o)) at up)

place_new : (pl : Place) → is_new pl ≡ true → pl ≡ New
place_new New h = refl
place_new Running h = cc
place_new (Ready a) h = cc
place_new Waiting h = cc
place_new Ended h = cc

-- a thread that is up is put somewhere, but not anew
pub placed_moved : (threads : List Thread) (t : ℕ) (pl : Place) → IsUp (place_of threads t) → pl ≢ New → IsMoved threads (placed t pl threads)
placed_moved threads t pl up old =
    let made = made_up threads t up in
    record {
      up = λ u now. elim (cases_eq u t) [
        | inl e ↦ subst (λ (x : ℕ). IsUp (place_of threads x)) (sym e) up
        | inr ne ↦ rw (place_of-placed_other threads t u pl made ne) at now
      ];
      unborn = λ u now. elim (cases_eq u t) [
        | inl e ↦
            let here = subst (λ (x : ℕ). is_unborn (by_id (placed t pl threads) x) ≡ true) e now in
            absurd (old (place_new pl (rw (by_id-changed_same (at_place pl) threads t made.0 made.1) at here)))
        | inr ne ↦ rw (by_id-changed_other (at_place pl) threads t u made.0 made.1 ne) at now
      ];
      fades = λ q h. tally-changed q (at_place pl) threads (t - 1) made.0 (get_by_id threads t made.0 made.1) (h made.0 pl (alive_at threads t made.0 made.1 up));
    }

-- the parts after a thread was put somewhere
pub placed_upright : (threads : List Thread) (line more_line : List ℕ) (waits more_waits : List Waiter) (ios more_ios : List Ioproc) (t : ℕ) (pl : Place) → AreUpright threads line waits ios → IsMade t threads → ((u : ℕ) → u ≢ t → tally (λ x. eqb x u) more_line ≡ tally (λ x. eqb x u) line) → tally (λ x. eqb x t) more_line ≡ times_in_line pl → ((u : ℕ) → u ≢ t → tally (λ w. eqb w.tid u) more_waits ≡ tally (λ w. eqb w.tid u) waits) → tally (λ w. eqb w.tid t) more_waits ≡ times_waiting pl → ((u : ℕ) → tally (is_io_wait_of u) more_waits ≡ tally (is_call_of u) more_ios) → tally is_long more_ios ≡ 0 → AreUpright (placed t pl threads) more_line more_waits more_ios
placed_upright threads line more_line waits more_waits ios more_ios t pl upright made lines here_line waitings here_waits calls short =
    record {
      in_line = λ u. elim (cases_eq u t) [
        | inl e ↦ rw (e, place_of-placed_same threads t pl made) here_line
        | inr ne ↦ rw (lines u ne, place_of-placed_other threads t u pl made ne) (upright.in_line u)
      ];
      in_waits = λ u. elim (cases_eq u t) [
        | inl e ↦ rw (e, place_of-placed_same threads t pl made) here_waits
        | inr ne ↦ rw (waitings u ne, place_of-placed_other threads t u pl made ne) (upright.in_waits u)
      ];
      in_calls = calls;
      short = short;
    }

-- t runs
abbrev pub RunsIn : State → ℕ → Type 0
RunsIn s t = place_of s.threads t ≡ Running

pub runs_up : (s : State) (t : ℕ) → RunsIn s t → IsUp (place_of s.threads t)
runs_up s t runs = rw runs tt

-- a thread put last in the line
pub pushed_other : (t : ℕ) (line : List ℕ) (u : ℕ) → u ≢ t → tally (λ x. eqb x u) (line ++ t ∷ []) ≡ tally (λ x. eqb x u) line
pushed_other t line u ne = rw (tally-push (λ x. eqb x u) false line t (other_id t u ne)) (omega arith)

pub pushed_here : (t : ℕ) (line : List ℕ) → tally (λ x. eqb x t) line ≡ 0 → tally (λ x. eqb x t) (line ++ t ∷ []) ≡ 1
pushed_here t line none = rw (tally-push (λ x. eqb x t) true line t (same_id t), none) refl

-- a thread that was woken, first or last in the line
pub lined_other : (held : Bool) (t : ℕ) (line : List ℕ) (u : ℕ) → u ≢ t → tally (λ x. eqb x u) (lined held t line) ≡ tally (λ x. eqb x u) line
lined_other true t line u ne = rw (other_id t u ne) (omega arith)
lined_other false t line u ne = pushed_other t line u ne

pub lined_here : (held : Bool) (t : ℕ) (line : List ℕ) → tally (λ x. eqb x t) line ≡ 0 → tally (λ x. eqb x t) (lined held t line) ≡ 1
lined_here true t line none = rw (same_id t, none) refl
lined_here false t line none = pushed_here t line none

pub readied_upright : (s : State) (t : ℕ) (a : Answer) → IsUpright s → RunsIn s t → IsUpright (readied t a s)
readied_upright s t a upright runs =
    placed_upright s.threads s.line (s.line ++ t ∷ []) s.waits s.waits s.ioprocs s.ioprocs t (Ready a) upright (made_up s.threads t (runs_up s t runs))
    (pushed_other t s.line) (pushed_here t s.line (upright.in_line t ∙ ap times_in_line runs))
    (λ u ne. refl) (upright.in_waits t ∙ ap times_waiting runs) upright.in_calls upright.short

-- the wait of t with a request
abbrev pub wait_of : State → ℕ → Request → Waiter
wait_of s t r = record { tid = t; request = r; at = s.position }

pub waiting_upright : (s : State) (t : ℕ) (r : Request) (ios : List Ioproc) → IsUpright s → RunsIn s t → ((u : ℕ) → tally (is_io_wait_of u) (s.waits ++ wait_of s t r ∷ []) ≡ tally (is_call_of u) ios) → tally is_long ios ≡ 0 → IsUpright (waiting t r (record s { ioprocs = ios })).state
waiting_upright s t r ios upright runs calls short =
    let none = upright.in_waits t ∙ ap times_waiting runs in
    placed_upright s.threads s.line s.line s.waits (s.waits ++ wait_of s t r ∷ []) s.ioprocs ios t Waiting upright (made_up s.threads t (runs_up s t runs))
    (λ u ne. refl) (upright.in_line t ∙ ap times_in_line runs)
    (λ u ne. rw (tally-push (λ x. eqb x.tid u) false s.waits (wait_of s t r) (other_id t u ne)) (omega arith))
    (rw (tally-push (λ x. eqb x.tid t) true s.waits (wait_of s t r) (same_id t), none) refl)
    calls short

pub apart : (x t u : ℕ) → u ≢ t → eqb x u ≡ true → eqb x t ≡ false
apart x t u ne h = search (rules, tests)

pub io_wait_tid : (u : ℕ) (w : Waiter) → is_io_wait_of u w ≡ true → eqb w.tid u ≡ true
io_wait_tid u w h = (and_parts (eqb w.tid u) (asks_io w.request) h).0

-- who waits for an ioproc waits
pub io_waits : (u : ℕ) (waits : List Waiter) → tally (is_io_wait_of u) waits ≤ tally (λ w. eqb w.tid u) waits
io_waits u waits = tally-le (is_io_wait_of u) (λ w. eqb w.tid u) (io_wait_tid u) waits

not_io : (b c : Bool) → c ≡ false → (b && c) ≡ false
not_io true c h = h
not_io false c h = refl

-- t isn't one that waits for an ioproc by this wait
pub no_io_wait : (u : ℕ) (w : Waiter) → asks_io w.request ≡ false → is_io_wait_of u w ≡ false
no_io_wait u w h = not_io (eqb w.tid u) (asks_io w.request) h
