-- What it keeps to end threads: one, those of a proc, or all of them.
use Rattle.std.proofs.Common.{◌≡◌, ℕ, suc, ◌≤◌, Bool, true, false, not, cond, eqb, ltb, List, [], ◌∷◌, map, Option, Some, None, refl, ap, sym, subst, ◌∙◌, arith}
use Rattle.std.specs.Prelude.{option_map}
use Rattle.std.specs.List.{filter}
use Rattle.std.proofs.lemmas.Bool.{eqb-true}
use Rattle.p9_word.specs.declared.io_call.IoCall.{IoCall}
use Rattle.p9_word.specs.declared.trail.Reply.TheVariants.{Ended as EndedReply}
use Rattle.p9_manual.specs.declared.state.Place.{Place}
use Rattle.p9_manual.specs.declared.state.Place.TheVariants.{Running, New, Ready, Waiting, Ended}
use Rattle.p9_manual.specs.declared.state.Thread.{Thread}
use Rattle.p9_manual.specs.declared.state.Ioproc.{Ioproc}
use Rattle.p9_manual.specs.declared.state.Ioproc.TheVariants.{Unmade, Idle, Posted, Begun, Closed}
use Rattle.p9_manual.specs.Effects.{message_length}
use Rattle.p9_manual.specs.Places.{lives}
use Rattle.p9_manual.specs.State.{State, by_id, at_place, each_from, replied}
use Rattle.p9_manual.specs.Ends.{Gone, ended, ended_if, ended_where, let_go, kept_caller, at_end}
use Rattle.p9_laws.specs.IoReplies.{IsBegun}
use Rattle.p9_laws.proofs.Tallies.{tally, tally-each_from, tally-filtered_other, tally-filtered_out, tally-le, tally-map, tally-map_same}
use Rattle.p9_laws.proofs.EndedWhere.{by_id-each_from, place-ended_if}
use Rattle.p9_laws.proofs.Standing.{IsUp, place_of, place_in, times_waiting, times_in_line, by_id-map}
use Rattle.p9_laws.proofs.RunMoves.{IsUpright, IsMoved, IsFading, is_call_of, is_io_wait_of, io_wait_tid, is_long, is_new, is_unborn, same_id}
use Rattle.p9_laws.proofs.RunCalls.{IsServed}

-- where a thread stands when some have ended
pub place_ended : (ends : Gone) (threads : List Thread) (u : ℕ) → place_of (each_from (ended_if ends) 1 threads) u ≡ cond (ends u) Ended (place_of threads u)
place_ended ends threads u = ap place_in (by_id-each_from (ended_if ends) threads u) ∙ at_item (by_id threads u)
  where
    ended_still : (b : Bool) → Ended ≡ cond b Ended Ended
    ended_still true = refl
    ended_still false = refl

    at_item : (o : Option Thread) → place_in (option_map (ended_if ends u) o) ≡ cond (ends u) Ended (place_in o)
    at_item None = ended_still (ends u)
    at_item (Some x) = place-ended_if ends u x

up_if : (b : Bool) (pl : Place) → IsUp (cond b Ended pl) → IsUp pl
up_if true pl h = absurd h
up_if false pl h = h

new_if : (b : Bool) (pl : Place) → is_new (cond b Ended pl) ≡ true → is_new pl ≡ true
new_if true pl h = cc
new_if false pl h = h

unborn_if : (ends : Gone) (u : ℕ) (o : Option Thread) → is_unborn (option_map (ended_if ends u) o) ≡ true → is_unborn o ≡ true
unborn_if ends u None h = refl
unborn_if ends u (Some x) h = new_if (ends u) x.place (rw (place-ended_if ends u x) at h)

-- a test that passes a thread that has ended passes it before
faded : (q : Thread → Bool) → IsFading q → (x : Thread) (pl : Place) → x.place ≡ pl → q (at_end x) ≡ true → q x ≡ true
faded q fading x Running is h = fading x Ended (rw is refl) h
faded q fading x New is h = fading x Ended (rw is refl) h
faded q fading x (Ready a) is h = fading x Ended (rw is refl) h
faded q fading x Waiting is h = fading x Ended (rw is refl) h
faded q fading x Ended is h = subst (λ (pl : Place). q (at_place pl x) ≡ true) (sym is) h

faded_if : (q : Thread → Bool) → IsFading q → (b : Bool) (x : Thread) → q (cond b (at_end x) x) ≡ true → q x ≡ true
faded_if q fading true x h = faded q fading x x.place refl h
faded_if q fading false x h = h

pub ended_moved : (ends : Gone) (threads : List Thread) → IsMoved threads (each_from (ended_if ends) 1 threads)
ended_moved ends threads =
    record {
      up = λ u h. up_if (ends u) (place_of threads u) (subst (λ (pl : Place). IsUp pl) (place_ended ends threads u) h);
      unborn = λ u h. unborn_if ends u (by_id threads u) (rw (by_id-each_from (ended_if ends) threads u) at h);
      fades = λ q fading. tally-each_from q (ended_if ends) (λ k x h. faded_if q fading (ends k) x h) 1 threads;
    }

none_of : (n m : ℕ) → n ≤ m → m ≡ 0 → n ≡ 0
none_of n m le none = omega (arith, le, none)

-- what is asked of one thread is found of none that has ended, and of the others as before
kept_tally : {A : Type 0} (q : A → Bool) (id : A → ℕ) (ends : Gone) (u : ℕ) → ((x : A) → q x ≡ true → id x ≡ u) → (b : Bool) → ends u ≡ b → (xs : List A) → tally q (filter (λ x. not (ends (id x))) xs) ≡ cond b 0 (tally q xs)
kept_tally q id ends u of true e xs =
    none_of _ _ (tally-le q (λ x. ends (id x)) (λ x h. ap ends (of x h) ∙ e) (filter (λ x. not (ends (id x))) xs)) (tally-filtered_out (λ x. ends (id x)) xs)
kept_tally q id ends u of false e xs = tally-filtered_other (λ x. ends (id x)) q (λ x h. ap ends (of x h) ∙ e) xs

not_called : (b : Bool) → false ≡ cond b false false
not_called true = refl
not_called false = refl

ends_same : (ends : Gone) (t u : ℕ) (b : Bool) → eqb t u ≡ true → ends t ≡ b → ends u ≡ b
ends_same ends t u b same e = sym (ap ends (eqb-true t u same)) ∙ e

posted_of : (ends : Gone) (t u : ℕ) (call : IoCall) (b c : Bool) → ends t ≡ b → eqb t u ≡ c → is_call_of u (cond b Idle (Posted t call)) ≡ cond (ends u) false c
posted_of ends t u call true true e same = rw (ends_same ends t u true same e) refl
posted_of ends t u call true false e other = not_called (ends u)
posted_of ends t u call false true e same = rw (ends_same ends t u false same e) same
posted_of ends t u call false false e other = other ∙ not_called (ends u)

kept_of : (ends : Gone) (t u : ℕ) (call : IoCall) (b c : Bool) → ends t ≡ b → eqb t u ≡ c → is_call_of u (Begun (cond b None (Some t)) call) ≡ cond (ends u) false c
kept_of ends t u call true true e same = rw (ends_same ends t u true same e) refl
kept_of ends t u call true false e other = not_called (ends u)
kept_of ends t u call false true e same = rw (ends_same ends t u false same e) same
kept_of ends t u call false false e other = other ∙ not_called (ends u)

let_go_of : (ends : Gone) (u : ℕ) (io : Ioproc) → is_call_of u (let_go ends io) ≡ cond (ends u) false (is_call_of u io)
let_go_of ends u (Posted t call) = posted_of ends t u call (ends t) (eqb t u) refl refl
let_go_of ends u (Begun None call) = not_called (ends u)
let_go_of ends u (Begun (Some t) call) = kept_of ends t u call (ends t) (eqb t u) refl refl
let_go_of ends u Unmade = not_called (ends u)
let_go_of ends u Idle = not_called (ends u)
let_go_of ends u Closed = not_called (ends u)

none_map : (q : Ioproc → Bool) (f : Ioproc → Ioproc) → ((io : Ioproc) → q (f io) ≡ false) → (ios : List Ioproc) → tally q (map f ios) ≡ 0
none_map q f h [] = refl
none_map q f h (io ∷ ios) = rw (h io, none_map q f h ios) refl

-- and no ioproc has a call of a thread that has ended
calls_of : (ends : Gone) (u : ℕ) (b : Bool) → ends u ≡ b → (ios : List Ioproc) → tally (is_call_of u) (map (let_go ends) ios) ≡ cond b 0 (tally (is_call_of u) ios)
calls_of ends u true e ios = none_map (is_call_of u) (let_go ends) (λ io. let_go_of ends u io ∙ ap (λ b. cond b false (is_call_of u io)) e) ios
calls_of ends u false e ios = tally-map_same (is_call_of u) (let_go ends) (λ io. let_go_of ends u io ∙ ap (λ b. cond b false (is_call_of u io)) e) ios

long_posted : (b : Bool) (x : ℕ) (call : IoCall) → is_long (cond b Idle (Posted x call)) ≡ true → ltb 4294967295 (message_length call) ≡ true
long_posted true x call h = cc
long_posted false x call h = h

let_go_long : (ends : Gone) (io : Ioproc) → is_long (let_go ends io) ≡ true → is_long io ≡ true
let_go_long ends (Posted x call) h = long_posted (ends x) x call h
let_go_long ends (Begun x call) h = h
let_go_long ends Unmade h = h
let_go_long ends Idle h = h
let_go_long ends Closed h = h

line_if : (b : Bool) (pl : Place) → times_in_line (cond b Ended pl) ≡ cond b 0 (times_in_line pl)
line_if true pl = refl
line_if false pl = refl

waits_if : (b : Bool) (pl : Place) → times_waiting (cond b Ended pl) ≡ cond b 0 (times_waiting pl)
waits_if true pl = refl
waits_if false pl = refl

pub ended_upright : (ends : Gone) (s : State) → IsUpright s → IsUpright (ended_where ends s)
ended_upright ends s upright =
    record {
      in_line = λ u.
          kept_tally (λ x. eqb x u) (λ x. x) ends u (λ x h. eqb-true x u h) (ends u) refl s.line ∙ ap (cond (ends u) 0) (upright.in_line u)
          ∙ sym (ap times_in_line (place_ended ends s.threads u) ∙ line_if (ends u) (place_of s.threads u));
      in_waits = λ u.
          kept_tally (λ w. eqb w.tid u) (λ w. w.tid) ends u (λ w h. eqb-true w.tid u h) (ends u) refl s.waits ∙ ap (cond (ends u) 0) (upright.in_waits u)
          ∙ sym (ap times_waiting (place_ended ends s.threads u) ∙ waits_if (ends u) (place_of s.threads u));
      in_calls = λ u.
          kept_tally (is_io_wait_of u) (λ w. w.tid) ends u (λ w h. eqb-true w.tid u (io_wait_tid u w h)) (ends u) refl s.waits ∙ ap (cond (ends u) 0) (upright.in_calls u)
          ∙ sym (calls_of ends u (ends u) refl s.ioprocs);
      short = none_of _ _ (tally-map is_long (let_go ends) (let_go_long ends) s.ioprocs) upright.short;
    }

-- a begun call goes on, maybe for nobody
pub ended_begun : (ends : Gone) (ios : List Ioproc) (k : ℕ) (call : IoCall) → IsBegun call (by_id ios k) → IsBegun call (by_id (map (let_go ends) ios) k)
ended_begun ends ios k call h = rw (by_id-map (let_go ends) ios k (Begun h.0 call) (h.1)) (kept_caller ends h.0, refl)

-- the thread that ends has ended
ended_there : (t : ℕ) (threads : List Thread) → place_of (each_from (ended_if (λ u. eqb u t)) 1 threads) t ≡ Ended
ended_there t threads = place_ended (λ u. eqb u t) threads t ∙ ap (λ b. cond b Ended (place_of threads t)) (same_id t)

pub exits_served : (s : State) (t : ℕ) → IsUpright s → IsServed t s (replied EndedReply (ended t s))
exits_served s t upright =
    record {
      moved = ended_moved (λ u. eqb u t) s.threads;
      upright = ended_upright (λ u. eqb u t) s upright;
      reply = tt;
      ends = λ e. ended_there t s.threads;
      stays = λ a e. cc;
      begun = ended_begun (λ u. eqb u t) s.ioprocs;
      over = refl;
      opened = refl;
    }

-- each thread has ended
pub all_places : (threads : List Thread) (u : ℕ) → place_of (each_from (ended_if (λ t. true)) 1 threads) u ≡ Ended
all_places threads u = place_ended (λ t. true) threads u

-- none of them lives
pub none_lives : (n : ℕ) (threads : List Thread) → tally lives (each_from (ended_if (λ t. true)) n threads) ≡ 0
none_lives n [] = refl
none_lives n (x ∷ xs) = omega (arith, none_lives (suc n) xs)
