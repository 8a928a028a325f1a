-- A lane keeps what it keeps over each move.
use Rattle.std.proofs.Common.{◌≡◌, ◌≢◌, ℕ, ◌+◌, ◌-◌, ◌<◌, ◌⊎◌, inl, inr, Bool, true, false, not, List, [], ◌∷◌, ◌++◌, length, map, drop, Option, Some, None, refl, sym, ap, subst, ◌∙◌, arith}
use Rattle.std.proofs.lemmas.List.{length_push}
use Rattle.std.proofs.lemmas.Bool.{eq-eqb, eqb-true, ne_eqb}
use Rattle.std.specs.Prelude.{◌==◌, ◌&&◌, option_map, if◌then◌else◌}
use Rattle.p9_word.specs.declared.answer.Answer.{Answer}
use Rattle.p9_manual.specs.declared.state.Place.{Place}
use Rattle.p9_manual.specs.declared.state.Place.TheVariants.{Running, New, Ready, Waiting, Ended}
use Rattle.p9_manual.specs.declared.state.Thread.{Thread}
use Rattle.p9_manual.specs.Ends.{at_end}
use Rattle.p9_manual.specs.Places.{is_running, is_ready, is_ended, lives_in, runs_in, runs_there}
use Rattle.p9_manual.specs.Standing.{times}
use Rattle.p9_manual.specs.State.{by_id, changed, at_place, placed}
use Rattle.p9_sched.specs.Kept.{IsLane, is_at, ready_there}
use Rattle.p9_sched.specs.Lined.{Lined, left_by, joined, queued, queued_first, stopped, left, cleared, started}
use Rattle.p9_sched.specs.Schedule.{ended_in, without}
use Rattle.p9_sched.specs.Table.{one_if}
use Rattle.p9_sched.specs.Turns.{is_ready_in}
use Rattle.p9_sched.proofs.Counts.{times-changed, times-push, times-le, times-lt, times-none, times-map_same, length-without, times-without_same, times-without_other}
use Rattle.p9_sched.proofs.Lists.{at_or_not, id_at, id_of, by_id-past, by_id-push_new, by_id-push_other, by_id-map, by_id-changed_same, by_id-changed_other, same_test}

own : (n m : ℕ) (b : Bool) → n ≡ m → (n == m && b) ≡ b
own n m b e = rw (eq-eqb n m e) refl

never : (b c : Bool) → c ≡ false → (b && c) ≡ false
never true c e = e
never false c e = refl

foreign : (n m : ℕ) (b : Bool) → n ≢ m → (n == m && b) ≡ false
foreign n m b ne = rw (ne_eqb n m ne) refl

-- the tests of a lane see the same in both threads
pub record IsSame (p : ℕ) (x y : Thread) : Type 0 where
  pub lives : lives_in p y ≡ lives_in p x
  pub runs : runs_in p y ≡ runs_in p x
  pub ready : is_ready_in p y ≡ is_ready_in p x

times_same : (f : Thread → Bool) (g : Thread → Thread) (threads : List Thread) (t : ℕ) (x : Thread) → by_id threads t ≡ Some x → f (g x) ≡ f x → times f (changed g threads (t - 1)) ≡ times f threads
times_same f g threads t x at e =
    let h = times-changed f g threads (t - 1) x (id_at threads t x at) in
    let same : one_if (f (g x)) ≡ one_if (f x) = ap one_if e in
    omega arith

-- a change that the tests of a lane don't see
pub same_lane : (p : ℕ) (threads : List Thread) (more : Bool) (l : Lined) (t : ℕ) (x : Thread) (g : Thread → Thread) → by_id threads t ≡ Some x → IsSame p x (g x) → IsLane p threads more l → IsLane p (changed g threads (t - 1)) more l
same_lane p threads more l t x g at same k =
    record {
      living = k.living ∙ sym (times_same (lives_in p) g threads t x at same.lives);
      running = λ u. k.running u ∙ sym (same_test (runs_there p) g threads t x u at same.runs (at_or_not t u));
      ready = k.ready ∙ sym (times_same (is_ready_in p) g threads t x at same.ready);
      line = λ u. k.line u ∙ ap one_if (sym (same_test (ready_there p) g threads t x u at same.ready (at_or_not t u)));
      room = k.room;
    }

-- a thread of another proc
pub same_foreign : (p : ℕ) (x : Thread) (place : Place) → x.proc_no ≢ p → IsSame p x (at_place place x)
same_foreign p x place ne =
    record {
      lives = foreign x.proc_no p (not (is_ended place)) ne ∙ sym (foreign x.proc_no p (not (is_ended x.place)) ne);
      runs = foreign x.proc_no p (is_running place) ne ∙ sym (foreign x.proc_no p (is_running x.place) ne);
      ready = foreign x.proc_no p (is_ready place) ne ∙ sym (foreign x.proc_no p (is_ready x.place) ne);
    }

gone_if : (b : Bool) (t v : ℕ) → (v == t) ≡ b → is_at (if b then None else Some v) t ≡ false
gone_if true t v e = refl
gone_if false t v e = e

-- t doesn't run once it was taken away
at_gone : (t : ℕ) (r : Option ℕ) → is_at (left_by t r) t ≡ false
at_gone t None = refl
at_gone t (Some v) = gone_if (v == t) t v refl

other_if : (b : Bool) (t u v : ℕ) → (v == t) ≡ b → u ≢ t → is_at (if b then None else Some v) u ≡ (v == u)
other_if true t u v e ne = sym (ne_eqb v u (λ f. ne (sym f ∙ eqb-true v t e)))
other_if false t u v e ne = refl

at_other : (t u : ℕ) (r : Option ℕ) → u ≢ t → is_at (left_by t r) u ≡ is_at r u
at_other t u None ne = refl
at_other t u (Some v) ne = other_if (v == t) t u v refl ne

-- thread t at its new place
pub put_there : (threads : List Thread) (t : ℕ) (x : Thread) (place : Place) → by_id threads t ≡ Some x → by_id (placed t place threads) t ≡ Some (at_place place x)
put_there threads t x place at =
    let id = id_of threads t x at in
    by_id-changed_same (at_place place) threads t id.from ∙ ap (option_map (at_place place)) at

-- another thread stays where it was
put_other : (threads : List Thread) (t u : ℕ) (x : Thread) (place : Place) → by_id threads t ≡ Some x → u ≢ t → by_id (placed t place threads) u ≡ by_id threads u
put_other threads t u x place at ne =
    let id = id_of threads t x at in
    by_id-changed_other (at_place place) threads t u id.from ne

left_by_case : (p : ℕ) (threads : List Thread) (t u : ℕ) (x : Thread) (place : Place) (r : Option ℕ) → by_id threads t ≡ Some x → is_running place ≡ false → ((v : ℕ) → is_at r v ≡ runs_there p (by_id threads v)) → (u ≡ t) ⊎ (u ≢ t) → is_at (left_by t r) u ≡ runs_there p (by_id (placed t place threads) u)
left_by_case p threads t u x place r at off k (inl e) =
    rw (e, put_there threads t x place at, at_gone t r) (sym (never (x.proc_no == p) (is_running place) off))
left_by_case p threads t u x place r at off k (inr ne) =
    at_other t u r ne ∙ (k u ∙ ap (runs_there p) (sym (put_other threads t u x place at ne)))

-- who runs, once t is at a place where it doesn't
left_running : (p : ℕ) (threads : List Thread) (t u : ℕ) (x : Thread) (place : Place) (r : Option ℕ) → by_id threads t ≡ Some x → is_running place ≡ false → ((v : ℕ) → is_at r v ≡ runs_there p (by_id threads v)) → is_at (left_by t r) u ≡ runs_there p (by_id (placed t place threads) u)
left_running p threads t u x place r at off k = left_by_case p threads t u x place r at off k (at_or_not t u)

lives_alike : (p : ℕ) (x : Thread) (place : Place) → x.proc_no ≡ p → is_ended x.place ≡ false → is_ended place ≡ false → lives_in p (at_place place x) ≡ lives_in p x
lives_alike p x place e old new =
    own x.proc_no p (not (is_ended place)) e ∙ (ap not new ∙ (ap not (sym old) ∙ sym (own x.proc_no p (not (is_ended x.place)) e)))

queued_line : (p : ℕ) (threads : List Thread) (more : Bool) (l : Lined) (t u : ℕ) (x : Thread) (a : Answer) → by_id threads t ≡ Some x → x.proc_no ≡ p → is_ready x.place ≡ false → IsLane p threads more l → (u ≡ t) ⊎ (u ≢ t) → times (λ v. v == u) (l.line ++ t ∷ []) ≡ one_if (ready_there p (by_id (placed t (Ready a) threads) u))
queued_line p threads more l t u x a at e off k (inl same) =
    let old = k.line t ∙ (ap (λ o. one_if (ready_there p o)) at ∙ ap one_if (own x.proc_no p (is_ready x.place) e ∙ off)) in
    let new = ap (λ o. one_if (ready_there p o)) (put_there threads t x (Ready a) at) ∙ ap one_if (own x.proc_no p true e) in
    let mine = ap one_if (eq-eqb t t refl) in
    rw (same, new, times-push (λ v. v == t) l.line t, old, mine) refl
queued_line p threads more l t u x a at e off k (inr ne) =
    let apart : t ≢ u = λ f. ne (sym f) in
    let mine = ap one_if (ne_eqb t u apart) in
    rw (put_other threads t u x (Ready a) at ne, times-push (λ v. v == u) l.line t, k.line u, mine) (omega arith)

-- t, which ran or waited, stands last in the line
pub queued_lane : (p : ℕ) (threads : List Thread) (more : Bool) (l : Lined) (t : ℕ) (x : Thread) (a : Answer) → by_id threads t ≡ Some x → x.proc_no ≡ p → is_ready x.place ≡ false → is_ended x.place ≡ false → IsLane p threads more l → IsLane p (placed t (Ready a) threads) more (queued t l)
queued_lane p threads more l t x a at e off old k =
    let h = times-changed (is_ready_in p) (at_place (Ready a)) threads (t - 1) x (id_at threads t x at) in
    let was = ap one_if (own x.proc_no p (is_ready x.place) e ∙ off) in
    let is = ap one_if (own x.proc_no p true e) in
    let n = length_push l.line t in
    let before = k.ready in
    record {
      living = k.living ∙ sym (times_same (lives_in p) (at_place (Ready a)) threads t x at (lives_alike p x (Ready a) e old refl));
      running = λ u. left_running p threads t u x (Ready a) l.running at refl k.running;
      ready = omega arith;
      line = λ u. queued_line p threads more l t u x a at e off k (at_or_not t u);
      room = k.room;
    }

first_line : (p : ℕ) (threads : List Thread) (more : Bool) (l : Lined) (t u : ℕ) (x : Thread) (a : Answer) → by_id threads t ≡ Some x → x.proc_no ≡ p → is_ready x.place ≡ false → IsLane p threads more l → (u ≡ t) ⊎ (u ≢ t) → times (λ v. v == u) (t ∷ l.line) ≡ one_if (ready_there p (by_id (placed t (Ready a) threads) u))
first_line p threads more l t u x a at e off k d =
    let last = times-push (λ v. v == u) l.line t in
    let line = queued_line p threads more l t u x a at e off k d in
    omega arith

-- t, which ran or waited, stands first in the line
pub first_lane : (p : ℕ) (threads : List Thread) (more : Bool) (l : Lined) (t : ℕ) (x : Thread) (a : Answer) → by_id threads t ≡ Some x → x.proc_no ≡ p → is_ready x.place ≡ false → is_ended x.place ≡ false → IsLane p threads more l → IsLane p (placed t (Ready a) threads) more (queued_first t l)
first_lane p threads more l t x a at e off old k =
    let q = queued_lane p threads more l t x a at e off old k in
    let n = length_push l.line t in
    let ready = q.ready in
    record {
      living = q.living;
      running = q.running;
      ready = omega arith;
      line = λ u. first_line p threads more l t u x a at e off k (at_or_not t u);
      room = q.room;
    }

waiting_line : (p : ℕ) (threads : List Thread) (t u : ℕ) (x : Thread) → by_id threads t ≡ Some x → x.proc_no ≡ p → is_ready x.place ≡ false → (u ≡ t) ⊎ (u ≢ t) → ready_there p (by_id (placed t Waiting threads) u) ≡ ready_there p (by_id threads u)
waiting_line p threads t u x at e off d =
    same_test (ready_there p) (at_place Waiting) threads t x u at (own x.proc_no p false e ∙ (sym off ∙ sym (own x.proc_no p (is_ready x.place) e))) d

-- t, which ran, waits
pub stopped_lane : (p : ℕ) (threads : List Thread) (more : Bool) (l : Lined) (t : ℕ) (x : Thread) → by_id threads t ≡ Some x → x.proc_no ≡ p → is_ready x.place ≡ false → is_ended x.place ≡ false → IsLane p threads more l → IsLane p (placed t Waiting threads) more (stopped t l)
stopped_lane p threads more l t x at e off old k =
    record {
      living = k.living ∙ sym (times_same (lives_in p) (at_place Waiting) threads t x at (lives_alike p x Waiting e old refl));
      running = λ u. left_running p threads t u x Waiting l.running at refl k.running;
      ready = k.ready ∙ sym (times_same (is_ready_in p) (at_place Waiting) threads t x at (own x.proc_no p false e ∙ (sym off ∙ sym (own x.proc_no p (is_ready x.place) e))));
      line = λ u. k.line u ∙ ap one_if (sym (waiting_line p threads t u x at e off (at_or_not t u)));
      room = k.room;
    }

left_line : (p : ℕ) (threads : List Thread) (more : Bool) (l : Lined) (t u : ℕ) (x : Thread) → by_id threads t ≡ Some x → x.proc_no ≡ p → IsLane p threads more l → (u ≡ t) ⊎ (u ≢ t) → times (λ v. v == u) (without t l.line) ≡ one_if (ready_there p (by_id (placed t Ended threads) u))
left_line p threads more l t u x at e k (inl same) =
    rw (same, put_there threads t x Ended at, own x.proc_no p false e) (times-without_same t l.line)
left_line p threads more l t u x at e k (inr ne) =
    rw (put_other threads t u x Ended at ne) (times-without_other t u l.line ne ∙ k.line u)

-- t has ended
pub left_lane : (p : ℕ) (threads : List Thread) (more : Bool) (l : Lined) (t : ℕ) (x : Thread) → by_id threads t ≡ Some x → x.proc_no ≡ p → is_ended x.place ≡ false → IsLane p threads more l → IsLane p (placed t Ended threads) more (left t l)
left_lane p threads more l t x at e old k =
    let lived = times-changed (lives_in p) (at_place Ended) threads (t - 1) x (id_at threads t x at) in
    let alive = ap one_if (own x.proc_no p (not (is_ended x.place)) e ∙ ap not old) in
    let dead = ap one_if (own x.proc_no p false e) in
    let stood = times-changed (is_ready_in p) (at_place Ended) threads (t - 1) x (id_at threads t x at) in
    let mine = k.line t ∙ ap (λ o. one_if (ready_there p o)) at in
    let shorter = length-without t l.line in
    let before = k.ready in
    let count = k.living in
    let room = k.room in
    record {
      living = omega arith;
      running = λ u. left_running p threads t u x Ended l.running at refl k.running;
      ready = omega arith;
      line = λ u. left_line p threads more l t u x at e k (at_or_not t u);
      room = omega arith;
    }

fresh_thread : (threads : List Thread) (t : ℕ) → t ≡ length threads + 1 → by_id threads t ≡ None
fresh_thread threads t e = by_id-past threads t (omega arith)

joined_running : (p q : ℕ) (threads : List Thread) (t u : ℕ) (x : Thread) (r : Option ℕ) → t ≡ length threads + 1 → is_running x.place ≡ false → ((v : ℕ) → is_at r v ≡ runs_there q (by_id threads v)) → (u ≡ t) ⊎ (u ≢ t) → is_at r u ≡ runs_there q (by_id (threads ++ x ∷ []) u)
joined_running p q threads t u x r next off k (inl same) =
    let old = k t ∙ ap (runs_there q) (fresh_thread threads t next) in
    rw (same, by_id-push_new threads x t next, old) (sym (never (x.proc_no == q) (is_running x.place) off))
joined_running p q threads t u x r next off k (inr ne) =
    let far : u ≢ length threads + 1 = λ f. ne (f ∙ sym next) in
    k u ∙ ap (runs_there q) (sym (by_id-push_other threads x u far))

joined_line : (p : ℕ) (threads : List Thread) (more : Bool) (l : Lined) (t u : ℕ) (x : Thread) → t ≡ length threads + 1 → x.proc_no ≡ p → is_ready x.place ≡ true → IsLane p threads more l → (u ≡ t) ⊎ (u ≢ t) → times (λ v. v == u) (l.line ++ t ∷ []) ≡ one_if (ready_there p (by_id (threads ++ x ∷ []) u))
joined_line p threads more l t u x next e on k (inl same) =
    let old = k.line t ∙ ap (λ o. one_if (ready_there p o)) (fresh_thread threads t next) in
    let new = ap (λ o. one_if (ready_there p o)) (by_id-push_new threads x t next) ∙ ap one_if (own x.proc_no p (is_ready x.place) e ∙ on) in
    let mine = ap one_if (eq-eqb t t refl) in
    rw (same, new, times-push (λ v. v == t) l.line t, old, mine) refl
joined_line p threads more l t u x next e on k (inr ne) =
    let apart : t ≢ u = λ f. ne (sym f) in
    let far : u ≢ length threads + 1 = λ f. ne (f ∙ sym next) in
    let mine = ap one_if (ne_eqb t u apart) in
    rw (by_id-push_other threads x u far, times-push (λ v. v == u) l.line t, k.line u, mine) (omega arith)

-- t is new
pub joined_lane : (p : ℕ) (threads : List Thread) (l : Lined) (t : ℕ) (x : Thread) → t ≡ length threads + 1 → x.proc_no ≡ p → x.place ≡ New → IsLane p threads true l → IsLane p (threads ++ x ∷ []) false (joined t l)
joined_lane p threads l t x next e new k =
    let lived = times-push (lives_in p) threads x in
    let alive = ap one_if (own x.proc_no p (not (is_ended x.place)) e ∙ ap (λ pl. not (is_ended pl)) new) in
    let stood = times-push (is_ready_in p) threads x in
    let mine = ap one_if (own x.proc_no p (is_ready x.place) e ∙ ap is_ready new) in
    let longer = length_push l.line t in
    let before = k.ready in
    let count = k.living in
    let room = k.room in
    record {
      living = omega arith;
      running = λ u. joined_running p p threads t u x l.running next (ap is_running new) k.running (at_or_not t u);
      ready = omega arith;
      line = λ u. joined_line p threads true l t u x next e (ap is_ready new) k (at_or_not t u);
      room = omega arith;
    }

beside_line : (q : ℕ) (threads : List Thread) (more : Bool) (l : Lined) (t u : ℕ) (x : Thread) → t ≡ length threads + 1 → x.proc_no ≢ q → IsLane q threads more l → (u ≡ t) ⊎ (u ≢ t) → times (λ v. v == u) l.line ≡ one_if (ready_there q (by_id (threads ++ x ∷ []) u))
beside_line q threads more l t u x next ne k (inl same) =
    let old = k.line t ∙ ap (λ o. one_if (ready_there q o)) (fresh_thread threads t next) in
    rw (same, by_id-push_new threads x t next, old) (sym (ap one_if (foreign x.proc_no q (is_ready x.place) ne)))
beside_line q threads more l t u x next ne k (inr other) =
    let far : u ≢ length threads + 1 = λ f. other (f ∙ sym next) in
    k.line u ∙ ap (λ o. one_if (ready_there q o)) (sym (by_id-push_other threads x u far))

-- a new thread of another proc
pub beside_lane : (q : ℕ) (threads : List Thread) (l : Lined) (t : ℕ) (x : Thread) → t ≡ length threads + 1 → x.proc_no ≢ q → x.place ≡ New → IsLane q threads true l → IsLane q (threads ++ x ∷ []) false l
beside_lane q threads l t x next ne new k =
    let lived = times-push (lives_in q) threads x in
    let alive = ap one_if (foreign x.proc_no q (not (is_ended x.place)) ne) in
    let stood = times-push (is_ready_in q) threads x in
    let mine = ap one_if (foreign x.proc_no q (is_ready x.place) ne) in
    let before = k.ready in
    let count = k.living in
    let room = k.room in
    record {
      living = omega arith;
      running = λ u. joined_running q q threads t u x l.running next (ap is_running new) k.running (at_or_not t u);
      ready = omega arith;
      line = λ u. beside_line q threads true l t u x next ne k (at_or_not t u);
      room = omega arith;
    }

started_running : (p : ℕ) (threads : List Thread) (t u : ℕ) (x : Thread) → by_id threads t ≡ Some x → x.proc_no ≡ p → ((v : ℕ) → runs_there p (by_id threads v) ≡ false) → (u ≡ t) ⊎ (u ≢ t) → (t == u) ≡ runs_there p (by_id (placed t Running threads) u)
started_running p threads t u x at e idle (inl same) =
    rw (same, put_there threads t x Running at, eq-eqb t t refl) (sym (own x.proc_no p true e))
started_running p threads t u x at e idle (inr ne) =
    ne_eqb t u (λ f. ne (sym f)) ∙ sym (ap (runs_there p) (put_other threads t u x Running at ne) ∙ idle u)

started_line : (p : ℕ) (threads : List Thread) (more : Bool) (l : Lined) (rest : List ℕ) (t u : ℕ) (x : Thread) → by_id threads t ≡ Some x → x.proc_no ≡ p → is_ready x.place ≡ true → l.line ≡ t ∷ rest → IsLane p threads more l → (u ≡ t) ⊎ (u ≢ t) → times (λ v. v == u) rest ≡ one_if (ready_there p (by_id (placed t Running threads) u))
started_line p threads more l rest t u x at e on first k (inl same) =
    let all = ap (times (λ v. v == t)) first in
    let mine = ap one_if (eq-eqb t t refl) in
    let old = k.line t ∙ (ap (λ o. one_if (ready_there p o)) at ∙ ap one_if (own x.proc_no p (is_ready x.place) e ∙ on)) in
    rw (same, put_there threads t x Running at, own x.proc_no p false e) (omega arith)
started_line p threads more l rest t u x at e on first k (inr ne) =
    let all = ap (times (λ v. v == u)) first in
    let mine = ap one_if (ne_eqb t u (λ f. ne (sym f))) in
    let old = k.line u in
    rw (put_other threads t u x Running at ne) (omega arith)

-- t, the first in the line, runs
pub started_lane : (p : ℕ) (threads : List Thread) (more : Bool) (l : Lined) (rest : List ℕ) (t : ℕ) (x : Thread) → by_id threads t ≡ Some x → x.proc_no ≡ p → is_ready x.place ≡ true → is_ended x.place ≡ false → l.line ≡ t ∷ rest → ((v : ℕ) → runs_there p (by_id threads v) ≡ false) → IsLane p threads more l → IsLane p (placed t Running threads) more (started (Some t) l)
started_lane p threads more l rest t x at e on old first idle k =
    let stood = times-changed (is_ready_in p) (at_place Running) threads (t - 1) x (id_at threads t x at) in
    let was = ap one_if (own x.proc_no p (is_ready x.place) e ∙ on) in
    let is = ap one_if (own x.proc_no p false e) in
    let long = ap length first in
    let before = k.ready in
    let all : drop 1 l.line ≡ rest = ap (drop 1) first in
    record {
      living = k.living ∙ sym (times_same (lives_in p) (at_place Running) threads t x at (lives_alike p x Running e old refl));
      running = λ u. started_running p threads t u x at e idle (at_or_not t u);
      ready = rw all (omega arith);
      line = λ u. rw all (started_line p threads more l rest t u x at e on first k (at_or_not t u));
      room = k.room;
    }

ended_there : (p : ℕ) (o : Option Thread) → runs_there p (option_map at_end o) ≡ false
ended_there p None = refl
ended_there p (Some x) = never (x.proc_no == p) false refl

ended_ready : (p : ℕ) (o : Option Thread) → ready_there p (option_map at_end o) ≡ false
ended_ready p None = refl
ended_ready p (Some x) = never (x.proc_no == p) false refl

-- no thread lives any more
pub cleared_lane : (p : ℕ) (threads : List Thread) (more : Bool) (l : Lined) → IsLane p threads more l → IsLane p (map at_end threads) more (cleared l)
cleared_lane p threads more l k =
    let room = k.room in
    record {
      living = sym (times-none (lives_in p) at_end (λ x. never (x.proc_no == p) false refl) threads);
      running = λ u. sym (ap (runs_there p) (by_id-map at_end threads u) ∙ ended_there p (by_id threads u));
      ready = sym (times-none (is_ready_in p) at_end (λ x. never (x.proc_no == p) false refl) threads);
      line = λ u. sym (ap (λ o. one_if (ready_there p o)) (by_id-map at_end threads u) ∙ ap one_if (ended_ready p (by_id threads u)));
      room = omega arith;
    }

ended_mine : (p : ℕ) (x : Thread) → x.proc_no ≡ p → ended_in p x ≡ at_end x
ended_mine p x e = rw (eq-eqb x.proc_no p e) refl

ended_other : (p : ℕ) (x : Thread) → x.proc_no ≢ p → ended_in p x ≡ x
ended_other p x ne = rw (ne_eqb x.proc_no p ne) refl

-- a test that sees only living threads of the proc passes none once they have ended
gone_by : (f : Thread → Bool) (p : ℕ) (x : Thread) → f (at_end x) ≡ false → (x.proc_no ≢ p → f x ≡ false) → (x.proc_no ≡ p) ⊎ (x.proc_no ≢ p) → f (ended_in p x) ≡ false
gone_by f p x end other (inl e) = ap f (ended_mine p x e) ∙ end
gone_by f p x end other (inr ne) = ap f (ended_other p x ne) ∙ other ne

gone_lives : (p : ℕ) (x : Thread) → lives_in p (ended_in p x) ≡ false
gone_lives p x = gone_by (lives_in p) p x (never (x.proc_no == p) false refl) (foreign x.proc_no p (not (is_ended x.place))) (at_or_not p x.proc_no)

gone_runs : (p : ℕ) (x : Thread) → runs_in p (ended_in p x) ≡ false
gone_runs p x = gone_by (runs_in p) p x (never (x.proc_no == p) false refl) (foreign x.proc_no p (is_running x.place)) (at_or_not p x.proc_no)

gone_ready : (p : ℕ) (x : Thread) → is_ready_in p (ended_in p x) ≡ false
gone_ready p x = gone_by (is_ready_in p) p x (never (x.proc_no == p) false refl) (foreign x.proc_no p (is_ready x.place)) (at_or_not p x.proc_no)

none_runs : (p : ℕ) (o : Option Thread) → runs_there p (option_map (ended_in p) o) ≡ false
none_runs p None = refl
none_runs p (Some x) = gone_runs p x

none_ready : (p : ℕ) (o : Option Thread) → ready_there p (option_map (ended_in p) o) ≡ false
none_ready p None = refl
none_ready p (Some x) = gone_ready p x

-- no thread of the proc lives any more
pub cleared_proc : (p : ℕ) (threads : List Thread) (more : Bool) (l : Lined) → IsLane p threads more l → IsLane p (map (ended_in p) threads) more (cleared l)
cleared_proc p threads more l k =
    let room = k.room in
    record {
      living = sym (times-none (lives_in p) (ended_in p) (gone_lives p) threads);
      running = λ u. sym (ap (runs_there p) (by_id-map (ended_in p) threads u) ∙ none_runs p (by_id threads u));
      ready = sym (times-none (is_ready_in p) (ended_in p) (gone_ready p) threads);
      line = λ u. sym (ap (λ o. one_if (ready_there p o)) (by_id-map (ended_in p) threads u) ∙ ap one_if (none_ready p (by_id threads u)));
      room = omega arith;
    }

kept_by : (p q : ℕ) (x : Thread) → q ≢ p → (x.proc_no ≡ p) ⊎ (x.proc_no ≢ p) → IsSame q x (ended_in p x)
kept_by p q x far (inl e) =
    let apart : x.proc_no ≢ q = λ f. far (sym f ∙ e) in
    subst (λ y. IsSame q x y) (sym (ended_mine p x e)) (same_foreign q x Ended apart)
kept_by p q x far (inr ne) = subst (λ y. IsSame q x y) (sym (ended_other p x ne)) (record { lives = refl; runs = refl; ready = refl })

kept : (p q : ℕ) (x : Thread) → q ≢ p → IsSame q x (ended_in p x)
kept p q x far = kept_by p q x far (at_or_not p x.proc_no)

runs_kept : (p q : ℕ) (o : Option Thread) → q ≢ p → runs_there q (option_map (ended_in p) o) ≡ runs_there q o
runs_kept p q None far = refl
runs_kept p q (Some x) far = (kept p q x far).runs

ready_kept : (p q : ℕ) (o : Option Thread) → q ≢ p → ready_there q (option_map (ended_in p) o) ≡ ready_there q o
ready_kept p q None far = refl
ready_kept p q (Some x) far = (kept p q x far).ready

-- the lane of another proc
pub beside_ended : (p q : ℕ) (threads : List Thread) (more : Bool) (l : Lined) → q ≢ p → IsLane q threads more l → IsLane q (map (ended_in p) threads) more l
beside_ended p q threads more l far k =
    record {
      living = k.living ∙ sym (times-map_same (lives_in q) (ended_in p) (λ x. (kept p q x far).lives) threads);
      running = λ u. k.running u ∙ sym (ap (runs_there q) (by_id-map (ended_in p) threads u) ∙ runs_kept p q (by_id threads u) far);
      ready = k.ready ∙ sym (times-map_same (is_ready_in q) (ended_in p) (λ x. (kept p q x far).ready) threads);
      line = λ u. k.line u ∙ ap one_if (sym (ap (ready_there q) (by_id-map (ended_in p) threads u) ∙ ready_kept p q (by_id threads u) far));
      room = k.room;
    }

ready_lives_at : (b : Bool) (pl : Place) → (b && is_ready pl) ≡ true → (b && not (is_ended pl)) ≡ true
ready_lives_at false pl e = cc
ready_lives_at true New e = refl
ready_lives_at true (Ready a) e = refl
ready_lives_at true Running e = cc
ready_lives_at true Waiting e = cc
ready_lives_at true Ended e = cc

-- the line has room for a thread that lives and doesn't stand in it
pub room_away : (p : ℕ) (threads : List Thread) (more : Bool) (t : ℕ) (x : Thread) → by_id threads t ≡ Some x → x.proc_no ≡ p → is_ready x.place ≡ false → is_ended x.place ≡ false → (l : Lined) → IsLane p threads more l → length l.line < l.room
room_away p threads more t x at e off old l k =
    let n = times-lt (is_ready_in p) (lives_in p) (λ y. ready_lives_at (y.proc_no == p) y.place) threads (t - 1) x (id_at threads t x at) (own x.proc_no p (is_ready x.place) e ∙ off) (own x.proc_no p (not (is_ended x.place)) e ∙ ap not old) in
    let ready = k.ready in
    let living = k.living in
    let room = k.room in
    omega arith

-- the line has room for a new thread, once that was taken
pub room_more : (p : ℕ) (threads : List Thread) (l : Lined) → IsLane p threads true l → length l.line < l.room
room_more p threads l k =
    let n = times-le (is_ready_in p) (lives_in p) (λ y. ready_lives_at (y.proc_no == p) y.place) threads in
    let ready = k.ready in
    let living = k.living in
    let room = k.room in
    omega arith
