-- Threads and lanes stay sound over each move.
use Rattle.std.proofs.Common.{◌≡◌, ◌≢◌, ℕ, zero, suc, ◌+◌, ◌-◌, ◌<◌, ◌≤◌, ◌⊎◌, inl, inr, Bool, true, false, List, [], ◌∷◌, ◌++◌, length, map, replicate, Option, Some, None, IfSome, Result, Ok, Err, OnOk, OnErr, refl, sym, ap, subst, ◌∙◌, arith}
use Rattle.std.proofs.lemmas.List.{length-map, length_push}
use Rattle.std.proofs.lemmas.Bool.{eq-eqb}
use Rattle.std.specs.Prelude.{◌==◌, ◌&&◌, option_map, slice_get}
use Rattle.p9_word.specs.declared.limits.TheConstants.{MOST_THREADS}
use Rattle.p9_manual.specs.declared.state.Place.{Place}
use Rattle.p9_manual.specs.declared.state.Place.TheVariants.{Running, New, Ready, Waiting, Ended}
use Rattle.p9_manual.specs.declared.state.Thread.{Thread}
use Rattle.p9_manual.specs.Ends.{at_end}
use Rattle.p9_manual.specs.Places.{is_running, is_ready, is_ended, lives_in, runs_there}
use Rattle.p9_manual.specs.State.{by_id, changed, at_place, placed}
use Rattle.p9_sched.specs.Kept.{IsLane, IsSound, is_at, ready_there}
use Rattle.p9_sched.specs.Lined.{Lined, bare, no_lane, room_at, HasSpare, RunsOffLine, holding, joined, cleared, worded}
use Rattle.p9_sched.specs.Rooms.{all_rooms}
use Rattle.p9_sched.specs.Schedule.{ended_in}
use Rattle.p9_sched.specs.Stored.{Stored, HasId}
use Rattle.p9_sched.specs.Table.{one_if}
use Rattle.p9_sched.proofs.Keeping.{IsSame, same_lane, same_foreign, joined_lane, beside_lane, cleared_lane, cleared_proc, beside_ended, room_away, room_more}
use Rattle.p9_sched.proofs.Counts.{times-le_length}
use Rattle.p9_sched.proofs.Lists.{at_or_not, id_at, id_of, by_id-past, length-changed, by_id-changed_same, by_id-changed_other, by_id-push_new, by_id-push_other, by_id-map}

if_map : {A : Type 0} (o : Option A) (f : A → A) (P Q : A → Type 0) → IfSome o P → ((x : A) → P x → Q (f x)) → IfSome (option_map f o) Q
if_map None f P Q h k = tt
if_map (Some x) f P Q h k = k x h

pub if_imp : {A : Type 0} (o : Option A) (P Q : A → Type 0) → IfSome o P → ((x : A) → P x → Q x) → IfSome o Q
if_imp None P Q h k = tt
if_imp (Some x) P Q h k = k x h

if_map_at : {A : Type 0} (o : Option A) (f : A → A) (P Q : A → Type 0) → IfSome o P → ((x : A) → o ≡ Some x → P x → Q (f x)) → IfSome (option_map f o) Q
if_map_at None f P Q h k = tt
if_map_at (Some x) f P Q h k = k x refl h

pub if_at : {A : Type 0} (o : Option A) (P Q : A → Type 0) → IfSome o P → ((x : A) → o ≡ Some x → P x → Q x) → IfSome o Q
if_at None P Q h k = tt
if_at (Some x) P Q h k = k x refl h

-- what is known of each is known of one
pub one_of : {A : Type 0} (o : Option A) (P : A → Type 0) (x : A) → o ≡ Some x → IfSome o P → P x
one_of o P x e h = subst (λ q. IfSome q P) e h

-- an id in a list that is as long
pub same_id : {A B : Type 0} (id : ℕ) (xs : List A) (ys : List B) → length ys ≡ length xs → HasId id xs → HasId id ys
same_id id xs ys e h = let from = h.from in let to = h.to in record { from = from; to = omega arith }

-- a change of one thread and of the lane of its proc
moved_procs : (threads : List Thread) (ls ms : List Lined) (t u : ℕ) (x : Thread) (place : Place) → length ms ≡ length ls → ((v : ℕ) → IfSome (by_id threads v) (λ y. HasId y.proc_no ls)) → by_id threads t ≡ Some x → (u ≡ t) ⊎ (u ≢ t) → IfSome (by_id (placed t place threads) u) (λ y. HasId y.proc_no ms)
moved_procs threads ls ms t u x place long k at (inl e) =
    let id = id_of threads t x at in
    rw (e, by_id-changed_same (at_place place) threads t id.from, at) (same_id x.proc_no ls ms long (one_of (by_id threads t) (λ y. HasId y.proc_no ls) x at (k t)))
moved_procs threads ls ms t u x place long k at (inr ne) =
    let id = id_of threads t x at in
    rw (by_id-changed_other (at_place place) threads t u id.from ne) (if_imp (by_id threads u) (λ y. HasId y.proc_no ls) (λ y. HasId y.proc_no ms) (k u) (λ y. same_id y.proc_no ls ms long))

moved_lanes : (threads : List Thread) (ls : List Lined) (more : Bool) (t p q : ℕ) (x : Thread) (place : Place) (f : Lined → Lined) → 1 ≤ p → x.proc_no ≡ p → ((r : ℕ) → IfSome (by_id ls r) (IsLane r threads more)) → by_id threads t ≡ Some x → ((l : Lined) → by_id ls p ≡ Some l → IsLane p threads more l → IsLane p (placed t place threads) more (f l)) → (q ≡ p) ⊎ (q ≢ p) → IfSome (by_id (changed f ls (p - 1)) q) (IsLane q (placed t place threads) more)
moved_lanes threads ls more t p q x place f one mine k at keeps (inl e) =
    rw (e, by_id-changed_same f ls p one) (if_map_at (by_id ls p) f (IsLane p threads more) (IsLane p (placed t place threads) more) (k p) keeps)
moved_lanes threads ls more t p q x place f one mine k at keeps (inr ne) =
    let far : x.proc_no ≢ q = λ g. ne (sym g ∙ mine) in
    rw (by_id-changed_other f ls p q one ne) (if_imp (by_id ls q) (IsLane q threads more) (IsLane q (placed t place threads) more) (k q) (λ l. same_lane q threads more l t x (at_place place) at (same_foreign q x place far)))

-- thread t of proc p goes to another place, and its lane keeps what it keeps
pub moved : (threads : List Thread) (ls : List Lined) (more : Bool) (t p : ℕ) (x : Thread) (place : Place) (f : Lined → Lined) → by_id threads t ≡ Some x → x.proc_no ≡ p → ((l : Lined) → by_id ls p ≡ Some l → IsLane p threads more l → IsLane p (placed t place threads) more (f l)) → IsSound threads ls more → IsSound (placed t place threads) (changed f ls (p - 1)) more
moved threads ls more t p x place f at mine keeps s =
    let id : HasId x.proc_no ls = one_of (by_id threads t) (λ y. HasId y.proc_no ls) x at (s.procs t) in
    let one : 1 ≤ p = subst (λ n. 1 ≤ n) mine id.from in
    record {
      few = rw (length-changed (at_place place) threads (t - 1)) s.few;
      procs = λ u. moved_procs threads ls (changed f ls (p - 1)) t u x place (length-changed f ls (p - 1)) s.procs at (at_or_not t u);
      each = λ q. moved_lanes threads ls more t p q x place f one mine s.each at keeps (at_or_not p q);
    }

valued_procs : (threads : List Thread) (ls : List Lined) (t u : ℕ) (x : Thread) (g : Thread → Thread) → ((v : ℕ) → IfSome (by_id threads v) (λ y. HasId y.proc_no ls)) → by_id threads t ≡ Some x → (g x).proc_no ≡ x.proc_no → (u ≡ t) ⊎ (u ≢ t) → IfSome (by_id (changed g threads (t - 1)) u) (λ y. HasId y.proc_no ls)
valued_procs threads ls t u x g k at same (inl e) =
    let id = id_of threads t x at in
    let mine = one_of (by_id threads t) (λ y. HasId y.proc_no ls) x at (k t) in
    rw (e, by_id-changed_same g threads t id.from, at) (subst (λ n. HasId n ls) (sym same) mine)
valued_procs threads ls t u x g k at same (inr ne) =
    let id = id_of threads t x at in
    rw (by_id-changed_other g threads t u id.from ne) (k u)

-- a value of thread t that no lane sees
pub valued : (threads : List Thread) (ls : List Lined) (more : Bool) (t : ℕ) (x : Thread) (g : Thread → Thread) → by_id threads t ≡ Some x → (g x).proc_no ≡ x.proc_no → ((q : ℕ) → IsSame q x (g x)) → IsSound threads ls more → IsSound (changed g threads (t - 1)) ls more
valued threads ls more t x g at same alike s =
    record {
      few = rw (length-changed g threads (t - 1)) s.few;
      procs = λ u. valued_procs threads ls t u x g s.procs at same (at_or_not t u);
      each = λ q. if_imp (by_id ls q) (IsLane q threads more) (IsLane q (changed g threads (t - 1)) more) (s.each q) (λ l. same_lane q threads more l t x g at (alike q));
    }

made_procs : (threads : List Thread) (ls ms : List Lined) (u : ℕ) (x : Thread) → length ms ≡ length ls → ((v : ℕ) → IfSome (by_id threads v) (λ y. HasId y.proc_no ls)) → HasId x.proc_no ls → (u ≡ length threads + 1) ⊎ (u ≢ length threads + 1) → IfSome (by_id (threads ++ x ∷ []) u) (λ y. HasId y.proc_no ms)
made_procs threads ls ms u x long k id (inl e) =
    rw (by_id-push_new threads x u e) (same_id x.proc_no ls ms long id)
made_procs threads ls ms u x long k id (inr ne) =
    rw (by_id-push_other threads x u ne) (if_imp (by_id threads u) (λ y. HasId y.proc_no ls) (λ y. HasId y.proc_no ms) (k u) (λ y. same_id y.proc_no ls ms long))

made_lanes : (threads : List Thread) (ls : List Lined) (t q : ℕ) (x : Thread) → t ≡ length threads + 1 → x.place ≡ New → 1 ≤ x.proc_no → ((r : ℕ) → IfSome (by_id ls r) (IsLane r threads true)) → (q ≡ x.proc_no) ⊎ (q ≢ x.proc_no) → IfSome (by_id (changed (joined t) ls (x.proc_no - 1)) q) (IsLane q (threads ++ x ∷ []) false)
made_lanes threads ls t q x next new one k (inl e) =
    rw (e, by_id-changed_same (joined t) ls x.proc_no one) (if_map (by_id ls x.proc_no) (joined t) (IsLane x.proc_no threads true) (IsLane x.proc_no (threads ++ x ∷ []) false) (k x.proc_no) (λ l. joined_lane x.proc_no threads l t x next refl new))
made_lanes threads ls t q x next new one k (inr ne) =
    let far : x.proc_no ≢ q = λ g. ne (sym g) in
    rw (by_id-changed_other (joined t) ls x.proc_no q one ne) (if_imp (by_id ls q) (IsLane q threads true) (IsLane q (threads ++ x ∷ []) false) (k q) (λ l. beside_lane q threads l t x next far new))

-- a new thread x with the id t
pub made : (threads : List Thread) (ls : List Lined) (t : ℕ) (x : Thread) → t ≡ length threads + 1 → x.place ≡ New → HasId x.proc_no ls → length threads < MOST_THREADS → IsSound threads ls true → IsSound (threads ++ x ∷ []) (changed (joined t) ls (x.proc_no - 1)) false
made threads ls t x next new id few s =
    let long = length_push threads x in
    record {
      few = omega arith;
      procs = λ u. made_procs threads ls (changed (joined t) ls (x.proc_no - 1)) u x (length-changed (joined t) ls (x.proc_no - 1)) s.procs id (at_or_not (length threads + 1) u);
      each = λ q. made_lanes threads ls t q x next new id.from s.each (at_or_not x.proc_no q);
    }

-- all threads have ended
pub ended_all : (threads : List Thread) (ls : List Lined) (more : Bool) → IsSound threads ls more → IsSound (map at_end threads) (map cleared ls) more
ended_all threads ls more s =
    let n = length-map threads at_end in
    let few = s.few in
    record {
      few = omega arith;
      procs = λ u. rw (by_id-map at_end threads u) (if_map (by_id threads u) at_end (λ y. HasId y.proc_no ls) (λ y. HasId y.proc_no (map cleared ls)) (s.procs u) (λ y. same_id y.proc_no ls (map cleared ls) (length-map ls cleared)));
      each = λ q. rw (by_id-map cleared ls q) (if_map (by_id ls q) cleared (IsLane q threads more) (IsLane q (map at_end threads) more) (s.each q) (cleared_lane q threads more));
    }

kept_proc : (p : ℕ) (x : Thread) (b : Bool) → (x.proc_no == p) ≡ b → (ended_in p x).proc_no ≡ x.proc_no
kept_proc p x true e = rw e refl
kept_proc p x false e = rw e refl

ended_lanes : (threads : List Thread) (ls : List Lined) (more : Bool) (p q : ℕ) → 1 ≤ p → ((r : ℕ) → IfSome (by_id ls r) (IsLane r threads more)) → (q ≡ p) ⊎ (q ≢ p) → IfSome (by_id (changed cleared ls (p - 1)) q) (IsLane q (map (ended_in p) threads) more)
ended_lanes threads ls more p q one k (inl e) =
    rw (e, by_id-changed_same cleared ls p one) (if_map (by_id ls p) cleared (IsLane p threads more) (IsLane p (map (ended_in p) threads) more) (k p) (cleared_proc p threads more))
ended_lanes threads ls more p q one k (inr ne) =
    rw (by_id-changed_other cleared ls p q one ne) (if_imp (by_id ls q) (IsLane q threads more) (IsLane q (map (ended_in p) threads) more) (k q) (λ l. beside_ended p q threads more l ne))

-- all threads of a proc have ended
pub ended_proc : (threads : List Thread) (ls : List Lined) (more : Bool) (p : ℕ) → 1 ≤ p → IsSound threads ls more → IsSound (map (ended_in p) threads) (changed cleared ls (p - 1)) more
ended_proc threads ls more p one s =
    let n = length-map threads (ended_in p) in
    let few = s.few in
    let long = length-changed cleared ls (p - 1) in
    record {
      few = omega arith;
      procs = λ u. rw (by_id-map (ended_in p) threads u) (if_map (by_id threads u) (ended_in p) (λ y. HasId y.proc_no ls) (λ y. HasId y.proc_no (changed cleared ls (p - 1))) (s.procs u) (λ y id. subst (λ n. HasId n (changed cleared ls (p - 1))) (sym (kept_proc p y (y.proc_no == p) refl)) (same_id y.proc_no ls (changed cleared ls (p - 1)) long id)));
      each = λ q. ended_lanes threads ls more p q one s.each (at_or_not p q);
    }

worded_lane : (p w : ℕ) (threads : List Thread) (more : Bool) (l : Lined) → IsLane p threads more l → IsLane p threads more (worded w l)
worded_lane p w threads more l k =
    record { living = k.living; running = k.running; ready = k.ready; line = k.line; room = k.room }

worded_lanes : (threads : List Thread) (ls : List Lined) (more : Bool) (p q w : ℕ) → 1 ≤ p → ((r : ℕ) → IfSome (by_id ls r) (IsLane r threads more)) → (q ≡ p) ⊎ (q ≢ p) → IfSome (by_id (changed (worded w) ls (p - 1)) q) (IsLane q threads more)
worded_lanes threads ls more p q w one k (inl e) =
    rw (e, by_id-changed_same (worded w) ls p one) (if_map (by_id ls p) (worded w) (IsLane p threads more) (IsLane p threads more) (k p) (worded_lane p w threads more))
worded_lanes threads ls more p q w one k (inr ne) = rw (by_id-changed_other (worded w) ls p q one ne) (k q)

-- another word of a proc
pub reworded : (threads : List Thread) (ls : List Lined) (more : Bool) (p w : ℕ) → 1 ≤ p → IsSound threads ls more → IsSound threads (changed (worded w) ls (p - 1)) more
reworded threads ls more p w one s =
    record {
      few = s.few;
      procs = λ u. if_imp (by_id threads u) (λ y. HasId y.proc_no ls) (λ y. HasId y.proc_no (changed (worded w) ls (p - 1))) (s.procs u) (λ y. same_id y.proc_no ls (changed (worded w) ls (p - 1)) (length-changed (worded w) ls (p - 1)));
      each = λ q. worded_lanes threads ls more p q w one s.each (at_or_not p q);
    }

held_lane : (p : ℕ) (held : Bool) (threads : List Thread) (more : Bool) (l : Lined) → IsLane p threads more l → IsLane p threads more (holding held l)
held_lane p held threads more l k =
    record { living = k.living; running = k.running; ready = k.ready; line = k.line; room = k.room }

held_lanes : (threads : List Thread) (ls : List Lined) (more : Bool) (p q : ℕ) (held : Bool) → 1 ≤ p → ((r : ℕ) → IfSome (by_id ls r) (IsLane r threads more)) → (q ≡ p) ⊎ (q ≢ p) → IfSome (by_id (changed (holding held) ls (p - 1)) q) (IsLane q threads more)
held_lanes threads ls more p q held one k (inl e) =
    rw (e, by_id-changed_same (holding held) ls p one) (if_map (by_id ls p) (holding held) (IsLane p threads more) (IsLane p threads more) (k p) (held_lane p held threads more))
held_lanes threads ls more p q held one k (inr ne) = rw (by_id-changed_other (holding held) ls p q one ne) (k q)

-- a proc that is held or released
pub held_sound : (threads : List Thread) (ls : List Lined) (more : Bool) (p : ℕ) (held : Bool) → 1 ≤ p → IsSound threads ls more → IsSound threads (changed (holding held) ls (p - 1)) more
held_sound threads ls more p held one s =
    record {
      few = s.few;
      procs = λ u. if_imp (by_id threads u) (λ y. HasId y.proc_no ls) (λ y. HasId y.proc_no (changed (holding held) ls (p - 1))) (s.procs u) (λ y. same_id y.proc_no ls (changed (holding held) ls (p - 1)) (length-changed (holding held) ls (p - 1)));
      each = λ q. held_lanes threads ls more p q held one s.each (at_or_not p q);
    }

-- the same lane with more room
roomier : (p : ℕ) (threads : List Thread) (more then : Bool) (l m : Lined) → bare m ≡ bare l → m.living + one_if then ≤ m.room → IsLane p threads more l → IsLane p threads then m
roomier p threads more then l m e room k =
    let living = ap (λ (n : Lined). n.living) e in
    let running = ap (λ (n : Lined). n.running) e in
    let line = ap (λ (n : Lined). n.line) e in
    record {
      living = living ∙ k.living;
      running = λ u. rw running (k.running u);
      ready = rw line k.ready;
      line = λ u. rw line (k.line u);
      room = room;
    }

same_bare : (ls ms : List Lined) (p : ℕ) → map bare ms ≡ map bare ls → option_map bare (by_id ms p) ≡ option_map bare (by_id ls p)
same_bare ls ms p e = sym (by_id-map bare ms p) ∙ (ap (λ ns. by_id ns p) e ∙ by_id-map bare ls p)

kept_if : (p : ℕ) (threads : List Thread) (more : Bool) (o q : Option Lined) → option_map bare q ≡ option_map bare o → room_at o ≤ room_at q → IfSome o (IsLane p threads more) → IfSome q (IsLane p threads more)
kept_if p threads more o None e le k = tt
kept_if p threads more None (Some m) e le k = cc
kept_if p threads more (Some l) (Some m) e le k =
    let same : bare m ≡ bare l = cc in
    let living = ap (λ (n : Lined). n.living) same in
    let room = k.room in
    roomier p threads more more l m same (omega arith) k

spare_if : (p : ℕ) (threads : List Thread) (more : Bool) (o q : Option Lined) → option_map bare q ≡ option_map bare o → IfSome q HasSpare → IfSome o (IsLane p threads more) → IfSome q (IsLane p threads true)
spare_if p threads more o None e h k = tt
spare_if p threads more None (Some m) e h k = cc
spare_if p threads more (Some l) (Some m) e h k =
    let same : bare m ≡ bare l = cc in
    roomier p threads more true l m same (omega arith) k

same_length : (ls ms : List Lined) → map bare ms ≡ map bare ls → length ms ≡ length ls
same_length ls ms e =
    let n = length-map ls bare in
    let m = length-map ms bare in
    let same = ap length e in
    omega arith

roomy_procs : (threads : List Thread) (ls ms : List Lined) → map bare ms ≡ map bare ls → ((v : ℕ) → IfSome (by_id threads v) (λ y. HasId y.proc_no ls)) → (u : ℕ) → IfSome (by_id threads u) (λ y. HasId y.proc_no ms)
roomy_procs threads ls ms e k u =
    if_imp (by_id threads u) (λ y. HasId y.proc_no ls) (λ y. HasId y.proc_no ms) (k u) (λ y. same_id y.proc_no ls ms (same_length ls ms e))

-- the lines may have more room than they need
pub roomy : (threads : List Thread) (ls ms : List Lined) (more : Bool) → map bare ms ≡ map bare ls → ((p : ℕ) → room_at (by_id ls p) ≤ room_at (by_id ms p)) → IsSound threads ls more → IsSound threads ms more
roomy threads ls ms more e le s =
    record {
      few = s.few;
      procs = roomy_procs threads ls ms e s.procs;
      each = λ p. kept_if p threads more (by_id ls p) (by_id ms p) (same_bare ls ms p e) (le p) (s.each p);
    }

-- each line has room for one more thread
pub spared : (threads : List Thread) (ls ms : List Lined) (more : Bool) → map bare ms ≡ map bare ls → ((p : ℕ) → IfSome (by_id ms p) HasSpare) → IsSound threads ls more → IsSound threads ms true
spared threads ls ms more e spare s =
    record {
      few = s.few;
      procs = roomy_procs threads ls ms e s.procs;
      each = λ p. spare_if p threads more (by_id ls p) (by_id ms p) (same_bare ls ms p e) (spare p) (s.each p);
    }

-- the proc of a thread is a place
pub proc_is : (threads : List Thread) (ls : List Lined) (more : Bool) (t p : ℕ) (x : Thread) → by_id threads t ≡ Some x → x.proc_no ≡ p → IsSound threads ls more → HasId p ls
proc_is threads ls more t p x at mine s =
    subst (λ n. HasId n ls) mine (one_of (by_id threads t) (λ y. HasId y.proc_no ls) x at (s.procs t))

-- a line has room for each thread that lives and doesn't stand in it
pub room_for : (threads : List Thread) (ls : List Lined) (more : Bool) (t p : ℕ) (x : Thread) → by_id threads t ≡ Some x → x.proc_no ≡ p → is_ready x.place ≡ false → is_ended x.place ≡ false → IsSound threads ls more → IfSome (by_id ls p) (λ l. length l.line < l.room)
room_for threads ls more t p x at mine off old s =
    if_imp (by_id ls p) (IsLane p threads more) (λ l. length l.line < l.room) (s.each p) (room_away p threads more t x at mine off old)

-- a line has room for a new thread, once that was taken
pub room_new : (threads : List Thread) (ls : List Lined) (p : ℕ) → IsSound threads ls true → IfSome (by_id ls p) (λ l. length l.line < l.room)
room_new threads ls p s =
    if_imp (by_id ls p) (IsLane p threads true) (λ l. length l.line < l.room) (s.each p) (room_more p threads)

ran_off : (b : Bool) (place : Place) → (b && is_running place) ≡ true → (b && is_ready place) ≡ false
ran_off false place e = refl
ran_off true Running e = refl
ran_off true New e = cc
ran_off true (Ready a) e = cc
ran_off true Waiting e = cc
ran_off true Ended e = cc

-- a thread that runs isn't ready
off_if : (p : ℕ) (o : Option Thread) → runs_there p o ≡ true → ready_there p o ≡ false
off_if p None e = refl
off_if p (Some x) e = ran_off (x.proc_no == p) x.place e

lane_off : (p : ℕ) (threads : List Thread) (more : Bool) (t : ℕ) (l : Lined) → IsLane p threads more l → RunsOffLine t l
lane_off p threads more t l k at =
    let runs = sym (k.running t) ∙ (ap (λ o. is_at o t) at ∙ eq-eqb t t refl) in
    k.line t ∙ ap one_if (off_if p (by_id threads t) runs)

-- a thread that runs stands in no line
pub line_off : (threads : List Thread) (ls : List Lined) (more : Bool) (t p : ℕ) → IsSound threads ls more → IfSome (by_id ls p) (RunsOffLine t)
line_off threads ls more t p s =
    if_imp (by_id ls p) (IsLane p threads more) (RunsOffLine t) (s.each p) (lane_off p threads more t)

-- few threads live in a proc
pub few_live : (threads : List Thread) (ls : List Lined) (more : Bool) (p : ℕ) → length threads < MOST_THREADS → IsSound threads ls more → IfSome (by_id ls p) (λ l. l.living < MOST_THREADS)
few_live threads ls more p few s =
    if_imp (by_id ls p) (IsLane p threads more) (λ l. l.living < MOST_THREADS) (s.each p) (λ l k. let n = times-le_length (lives_in p) threads in let m = k.living in omega arith)

-- no thread was made
nil_by : {A : Type 0} (t : ℕ) → (t ≡ 0) ⊎ (t ≢ 0) → by_id {A = A} [] t ≡ None
nil_by t (inl e) = rw e refl
nil_by t (inr ne) = by_id-past [] t (omega arith)

nil_id : {A : Type 0} (t : ℕ) → by_id {A = A} [] t ≡ None
nil_id t = nil_by t (at_or_not 0 t)

first_lane : (p : ℕ) (l : Lined) → bare l ≡ no_lane → IsLane p [] false l
first_lane p l e =
    let living = ap (λ (n : Lined). n.living) e in
    let running = ap (λ (n : Lined). n.running) e in
    let line = ap (λ (n : Lined). n.line) e in
    record {
      living = living;
      running = λ u. rw (running, nil_id {A = Thread} u) refl;
      ready = rw line refl;
      line = λ u. rw (line, nil_id {A = Thread} u) refl;
      room = omega arith;
    }

first_if : (p : ℕ) (o : Option Lined) → ((y : Lined) → option_map bare o ≡ Some y → y ≡ no_lane) → IfSome o (IsLane p [] false)
first_if p None h = tt
first_if p (Some l) h = first_lane p l (h (bare l) refl)

replicated : {A : Type 0} (n i : ℕ) (x y : A) → slice_get (replicate n x) i ≡ Some y → y ≡ x
replicated zero i x y e = cc
replicated (suc n) zero x y e = cc
replicated (suc n) (suc i) x y e = replicated n i x y e

-- no thread was made yet
pub first_sound : (ls : List Lined) (places : ℕ) → map bare ls ≡ replicate places no_lane → IsSound [] ls false
first_sound ls places e =
    record {
      few = omega arith;
      procs = λ u. rw (nil_id {A = Thread} u) tt;
      each = λ p. first_if p (by_id ls p) (λ y at. replicated places (p - 1) no_lane y (id_at (replicate places no_lane) p y (ap (λ ns. by_id ns p) (sym e) ∙ (by_id-map bare ls p ∙ at))));
    }

-- what a reserve says, whether it went through
pub reserve_sound : {T E : Type 0} (r : Result T E) (old new : Stored) (ls ms : List Lined) → OnOk r (new ≡ record old { rooms = all_rooms }) → OnErr r (new ≡ old) → map bare ms ≡ map bare ls → ((p : ℕ) → room_at (by_id ls p) ≤ room_at (by_id ms p)) → ((p : ℕ) → IfSome (by_id ms p) HasSpare) → IsSound old.threads ls old.rooms.thread → IsSound new.threads ms new.rooms.thread
reserve_sound (Ok x) old new ls ms ok err e more spare s = rw ok (spared old.threads ls ms old.rooms.thread e spare s)
reserve_sound (Err x) old new ls ms ok err e more spare s = rw err (roomy old.threads ls ms old.rooms.thread e more s)
