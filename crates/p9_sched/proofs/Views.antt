-- What callers see after a move.
use Rattle.std.proofs.Common.{◌≡◌, ◌≢◌, ◌⊎◌, inl, inr, ℕ, zero, suc, ◌+◌, ◌-◌, Bool, false, List, [], ◌∷◌, ◌++◌, length, map, replicate, arith, Option, Some, None, Result, Ok, Err, OnOk, OnErr, true, refl, sym, ap, subst, ◌∙◌}
use Rattle.std.proofs.lemmas.List.{length-map}
use Rattle.std.specs.Prelude.{option_map, slice_get}
use Rattle.p9_word.specs.declared.answer.Answer.{Answer}
use Rattle.p9_manual.specs.declared.state.Place.{Place}
use Rattle.p9_manual.specs.declared.state.Place.TheVariants.{Running, New, Ready, Waiting, Ended}
use Rattle.p9_manual.specs.declared.state.Thread.{Thread}
use Rattle.p9_manual.specs.Create.{fresh}
use Rattle.p9_manual.specs.Ends.{at_end}
use Rattle.p9_manual.specs.Places.{is_ready}
use Rattle.p9_manual.specs.State.{by_id, changed, at_place}
use Rattle.p9_sched.specs.declared.row.Row.{Row}
use Rattle.p9_sched.specs.declared.turns.Place.TheVariants as place
use Rattle.p9_sched.specs.declared.turns.Ready.{Ready as Turn}
use Rattle.p9_sched.specs.declared.turns.Ready.TheVariants.{New as First, Old}
use Rattle.p9_sched.specs.declared.sched.Sched.TheInside.{Inside}
use Rattle.p9_sched.specs.Kept.{IsSound, shown}
use Rattle.p9_sched.specs.Lined.{Lined, line_at, bare, no_lane, holding, joined, cleared, worded}
use Rattle.p9_sched.specs.Holding.{held_in, is_held, with_held}
use Rattle.p9_sched.specs.Rooms.{Rooms, no_rooms, all_rooms}
use Rattle.p9_sched.specs.Schedule.{Schedule, begun, begin_schedule, IsMade, IsPlace, proc_of, line_in, line_of, with_last, with_new, emptied, ended_in, proc_ended, all_ended, with_proc_word}
use Rattle.p9_sched.specs.Stored.{Stored, HasId, row_of}
use Rattle.p9_sched.specs.Turns.{place_of, answer_at, answer_of, first_answer, answer_next, ready_at, ready_of, turn_of, next_in}
use Rattle.p9_sched.proofs.Asks.{IsAway, IsAlive, away, alive}
use Rattle.p9_sched.proofs.Lists.{map-changed, map-changed_same, map-map, by_id-map}
use Rattle.p9_sched.proofs.Sound.{proc_is}

-- the row of a thread has what the thread has
pub row_is : (o : Option Thread) (x : Thread) (row : Row) → o ≡ Some x → option_map row_of o ≡ Some row → row_of x ≡ row
row_is o x row at e =
    let same : Some (row_of x) ≡ Some row = ap (option_map row_of) (sym at) ∙ e in
    cc

pub row_proc : (o : Option Thread) (x : Thread) (row : Row) → o ≡ Some x → option_map row_of o ≡ Some row → x.proc_no ≡ row.proc_no
row_proc o x row at e = ap (λ (s : Row). s.proc_no) (row_is o x row at e)

pub seen_proc : (s : Inside) (v : Schedule) (t p : ℕ) (x : Thread) → shown s ≡ v → by_id s.table.threads t ≡ Some x → x.proc_no ≡ p → proc_of (by_id v.threads t) ≡ p
seen_proc s v t p x e at mine =
    subst (λ (w : Schedule). proc_of (by_id w.threads t) ≡ p) e (ap proc_of at ∙ mine)

-- what is known of a thread, as the table has it
pub away_here : (s : Inside) (v : Schedule) (t : ℕ) → shown s ≡ v → (place_of (by_id v.threads t) ≡ place.Running) ⊎ (place_of (by_id v.threads t) ≡ place.Waiting) → IsAway (by_id s.table.threads t)
away_here s v t e h = subst (λ (w : Schedule). IsAway (by_id w.threads t)) (sym e) (away (by_id v.threads t) h)

pub alive_here : (s : Inside) (v : Schedule) (t : ℕ) → shown s ≡ v → place_of (by_id v.threads t) ≢ place.Ended → IsAlive (by_id s.table.threads t)
alive_here s v t e h = subst (λ (w : Schedule). IsAlive (by_id w.threads t)) (sym e) (alive (by_id v.threads t) h)

-- the threads by f, and the lane of proc p by g
abbrev pub after : Inside → (List Thread → List Thread) → (Lined → Lined) → ℕ → Schedule
after s f g p =
    record {
      threads = f s.table.threads;
      lines = map (λ l. l.line) (changed g s.lanes (p - 1));
      words = map (λ l. l.word) (changed g s.lanes (p - 1));
      holds = map (λ l. l.held) (changed g s.lanes (p - 1));
      opened = s.opened;
      rooms = s.table.rooms;
    }

pub moved_view : (s : Inside) (v : Schedule) (f : List Thread → List Thread) (g : Lined → Lined) (h : List ℕ → List ℕ) (p : ℕ) → shown s ≡ v → ((l : Lined) → (g l).line ≡ h l.line) → ((l : Lined) → (g l).word ≡ l.word) → ((l : Lined) → (g l).held ≡ l.held) → after s f g p ≡ record v { threads = f v.threads; lines = changed h v.lines (p - 1) }
moved_view s v f g h p e line word held =
    subst (λ (w : Schedule). after s f g p ≡ record w { threads = f w.threads; lines = changed h w.lines (p - 1) }) e (rw (map-changed (λ (l : Lined). l.line) g h line s.lanes (p - 1), map-changed_same (λ (l : Lined). l.word) g word s.lanes (p - 1), map-changed_same (λ (l : Lined). l.held) g held s.lanes (p - 1)) refl)

-- a move that leaves the lines as they are
pub stayed_view : (s : Inside) (v : Schedule) (f : List Thread → List Thread) (g : Lined → Lined) (p : ℕ) → shown s ≡ v → ((l : Lined) → (g l).line ≡ l.line) → ((l : Lined) → (g l).word ≡ l.word) → ((l : Lined) → (g l).held ≡ l.held) → after s f g p ≡ record v { threads = f v.threads }
stayed_view s v f g p e line word held =
    subst (λ (w : Schedule). after s f g p ≡ record w { threads = f w.threads }) e (rw (map-changed_same (λ (l : Lined). l.line) g line s.lanes (p - 1), map-changed_same (λ (l : Lined). l.word) g word s.lanes (p - 1), map-changed_same (λ (l : Lined). l.held) g held s.lanes (p - 1)) refl)

line_by : (o : Option Lined) → line_in (option_map (λ l. l.line) o) ≡ line_at o
line_by None = refl
line_by (Some l) = refl

-- the line of a proc is that of its lane
pub seen_line : (s : Inside) (v : Schedule) (p : ℕ) → shown s ≡ v → line_of p v ≡ line_at (by_id s.lanes p)
seen_line s v p e =
    ap (λ (w : Schedule). line_of p w) (sym e) ∙ (ap line_in (by_id-map (λ (l : Lined). l.line) s.lanes p) ∙ line_by (by_id s.lanes p))

-- a thread that was made, as the table has it
pub made_id : (s : Inside) (v : Schedule) (t : ℕ) → shown s ≡ v → IsMade t v → HasId t s.table.threads
made_id s v t e m =
    let from = m.from in
    let to = m.to in
    let long : length s.table.threads ≡ length v.threads = ap (λ (w : Schedule). length w.threads) e in
    record { from = from; to = omega arith }

-- a proc place, as the lanes have it
pub place_id : (s : Inside) (v : Schedule) (p : ℕ) → shown s ≡ v → IsPlace p v → HasId p s.lanes
place_id s v p e m =
    let from = m.from in
    let to = m.to in
    let long : length (map (λ (l : Lined). l.line) s.lanes) ≡ length v.lines = ap (λ (w : Schedule). length w.lines) e in
    let same = length-map s.lanes (λ (l : Lined). l.line) in
    record { from = from; to = omega arith }

-- the proc of a thread is a proc place
pub seen_place : (s : Inside) (v : Schedule) (t : ℕ) (x : Thread) → shown s ≡ v → by_id s.table.threads t ≡ Some x → IsSound s.table.threads s.lanes s.table.rooms.thread → IsPlace (proc_of (by_id v.threads t)) v
seen_place s v t x e at k =
    let id = proc_is s.table.threads s.lanes s.table.rooms.thread t x.proc_no x at refl k in
    let from = id.from in
    let to = id.to in
    let same = length-map s.lanes (λ (l : Lined). l.line) in
    let here : IsPlace x.proc_no (shown s) = record { from = from; to = omega arith } in
    subst (λ (w : Schedule). IsPlace (proc_of (by_id w.threads t)) w) e (rw at here)

pub worded_view : (s : Inside) (v : Schedule) (p w : ℕ) → shown s ≡ v → after s (λ ts. ts) (worded w) p ≡ with_proc_word p w v
worded_view s v p w e =
    subst (λ (u : Schedule). after s (λ ts. ts) (worded w) p ≡ with_proc_word p w u) e (rw (map-changed_same (λ (l : Lined). l.line) (worded w) (λ l. refl) s.lanes (p - 1), map-changed (λ (l : Lined). l.word) (worded w) (λ _. w) (λ l. refl) s.lanes (p - 1), map-changed_same (λ (l : Lined). l.held) (worded w) (λ l. refl) s.lanes (p - 1)) refl)

-- a proc that is held or released
pub holding_view : (s : Inside) (v : Schedule) (p : ℕ) (held : Bool) → shown s ≡ v → after s (λ ts. ts) (holding held) p ≡ with_held p held v
holding_view s v p held e =
    subst (λ (u : Schedule). after s (λ ts. ts) (holding held) p ≡ with_held p held u) e (rw (map-changed_same (λ (l : Lined). l.line) (holding held) (λ l. refl) s.lanes (p - 1), map-changed_same (λ (l : Lined). l.word) (holding held) (λ l. refl) s.lanes (p - 1), map-changed (λ (l : Lined). l.held) (holding held) (λ _. held) (λ l. refl) s.lanes (p - 1)) refl)

-- whether a proc is held, as its lane has it
pub seen_held : (s : Inside) (v : Schedule) (p : ℕ) (b : Bool) → shown s ≡ v → option_map (λ (l : Lined). l.held) (by_id s.lanes p) ≡ Some b → is_held p v ≡ b
seen_held s v p b e at =
    ap (λ (w : Schedule). is_held p w) (sym e) ∙ (ap held_in (by_id-map (λ (l : Lined). l.held) s.lanes p) ∙ ap held_in at)

-- each proc place is held or not
pub seen_holds : (s : Inside) (v : Schedule) → shown s ≡ v → length v.holds ≡ length v.lines
seen_holds s v e =
    subst (λ (w : Schedule). length w.holds ≡ length w.lines) e (length-map s.lanes (λ (l : Lined). l.held) ∙ sym (length-map s.lanes (λ (l : Lined). l.line)))

abbrev ended_shown : Inside → Schedule
ended_shown s =
    record {
      threads = map at_end s.table.threads;
      lines = map (λ l. l.line) (map cleared s.lanes);
      words = map (λ l. l.word) (map cleared s.lanes);
      holds = map (λ l. l.held) (map cleared s.lanes);
      opened = s.opened;
      rooms = s.table.rooms;
    }

pub ended_view : (s : Inside) (v : Schedule) → shown s ≡ v → ended_shown s ≡ all_ended v
ended_view s v e =
    let lines : map (λ (l : Lined). l.line) (map cleared s.lanes) ≡ map emptied (map (λ (l : Lined). l.line) s.lanes) = map-map (λ (l : Lined). l.line) cleared s.lanes ∙ sym (map-map emptied (λ (l : Lined). l.line) s.lanes) in
    let words : map (λ (l : Lined). l.word) (map cleared s.lanes) ≡ map (λ (l : Lined). l.word) s.lanes = map-map (λ (l : Lined). l.word) cleared s.lanes in
    let holds : map (λ (l : Lined). l.held) (map cleared s.lanes) ≡ map (λ _. false) (map (λ (l : Lined). l.held) s.lanes) = map-map (λ (l : Lined). l.held) cleared s.lanes ∙ sym (map-map (λ (_ : Bool). false) (λ (l : Lined). l.held) s.lanes) in
    subst (λ (u : Schedule). ended_shown s ≡ all_ended u) e (rw (lines, words, holds) refl)

-- all threads of a proc have ended, and it was released
pub proc_ended_view : (s : Inside) (v : Schedule) (p : ℕ) → shown s ≡ v → after s (map (ended_in p)) cleared p ≡ proc_ended p v
proc_ended_view s v p e =
    subst (λ (u : Schedule). after s (map (ended_in p)) cleared p ≡ proc_ended p u) e (rw (map-changed (λ (l : Lined). l.line) cleared (λ _. []) (λ l. refl) s.lanes (p - 1), map-changed_same (λ (l : Lined). l.word) cleared (λ l. refl) s.lanes (p - 1), map-changed (λ (l : Lined). l.held) cleared (λ _. false) (λ l. refl) s.lanes (p - 1)) refl)

abbrev made_shown : Inside → ℕ → ℕ → ℕ → ℕ → ℕ → Schedule
made_shown s p program arg group t =
    record {
      threads = s.table.threads ++ fresh p program arg group ∷ [];
      lines = map (λ l. l.line) (changed (joined t) s.lanes (p - 1));
      words = map (λ l. l.word) (changed (joined t) s.lanes (p - 1));
      holds = map (λ l. l.held) (changed (joined t) s.lanes (p - 1));
      opened = s.opened;
      rooms = record s.table.rooms { thread = false };
    }

pub made_view : (s : Inside) (v : Schedule) (p program arg group t : ℕ) → shown s ≡ v → t ≡ length s.table.threads + 1 → made_shown s p program arg group t ≡ with_new p program arg group v
made_view s v p program arg group t e next =
    subst (λ (u : Schedule). made_shown s p program arg group t ≡ with_new p program arg group u) e (rw (next, map-changed (λ (l : Lined). l.line) (joined (length s.table.threads + 1)) (with_last (length s.table.threads + 1)) (λ l. refl) s.lanes (p - 1), map-changed_same (λ (l : Lined). l.word) (joined (length s.table.threads + 1)) (λ l. refl) s.lanes (p - 1), map-changed_same (λ (l : Lined). l.held) (joined (length s.table.threads + 1)) (λ l. refl) s.lanes (p - 1)) refl)

bare_lines : (ls ms : List Lined) → map bare ms ≡ map bare ls → map (λ (l : Lined). l.line) ms ≡ map (λ (l : Lined). l.line) ls
bare_lines ls ms e =
    sym (map-map (λ (l : Lined). l.line) bare ms) ∙ (ap (map (λ (l : Lined). l.line)) e ∙ map-map (λ (l : Lined). l.line) bare ls)

bare_words : (ls ms : List Lined) → map bare ms ≡ map bare ls → map (λ (l : Lined). l.word) ms ≡ map (λ (l : Lined). l.word) ls
bare_words ls ms e =
    sym (map-map (λ (l : Lined). l.word) bare ms) ∙ (ap (map (λ (l : Lined). l.word)) e ∙ map-map (λ (l : Lined). l.word) bare ls)

bare_holds : (ls ms : List Lined) → map bare ms ≡ map bare ls → map (λ (l : Lined). l.held) ms ≡ map (λ (l : Lined). l.held) ls
bare_holds ls ms e =
    sym (map-map (λ (l : Lined). l.held) bare ms) ∙ (ap (map (λ (l : Lined). l.held)) e ∙ map-map (λ (l : Lined). l.held) bare ls)

abbrev roomy_shown : Inside → List Lined → Rooms → Schedule
roomy_shown s ms rooms =
    record {
      threads = s.table.threads;
      lines = map (λ l. l.line) ms;
      words = map (λ l. l.word) ms;
      holds = map (λ l. l.held) ms;
      opened = s.opened;
      rooms = rooms;
    }

-- the room of a line isn't seen
pub roomy_view : (s : Inside) (v : Schedule) (ms : List Lined) (rooms : Rooms) → shown s ≡ v → map bare ms ≡ map bare s.lanes → roomy_shown s ms rooms ≡ record v { rooms = rooms }
roomy_view s v ms rooms e same =
    subst (λ (u : Schedule). roomy_shown s ms rooms ≡ record u { rooms = rooms }) e (rw (bare_lines s.lanes ms same, bare_words s.lanes ms same, bare_holds s.lanes ms same) refl)

map_replicate : {A B : Type 0} (f : A → B) → (n : ℕ) (x : A) → map f (replicate n x) ≡ replicate n (f x)
map_replicate f zero x = refl
map_replicate f (suc n) x = ap (λ ys. f x ∷ ys) (map_replicate f n x)

abbrev first_shown : List Lined → ℕ → Schedule
first_shown ls opened =
    record { threads = []; lines = map (λ l. l.line) ls; words = map (λ l. l.word) ls; holds = map (λ l. l.held) ls; opened = opened; rooms = no_rooms }

pub first_view : (ls : List Lined) (places opened : ℕ) → map bare ls ≡ replicate places no_lane → first_shown ls opened ≡ begin_schedule places opened
first_view ls places opened e =
    let lines : map (λ (l : Lined). l.line) ls ≡ replicate places [] = sym (map-map (λ (l : Lined). l.line) bare ls) ∙ (ap (map (λ (l : Lined). l.line)) e ∙ map_replicate (λ (l : Lined). l.line) places no_lane) in
    let words : map (λ (l : Lined). l.word) ls ≡ replicate places 0 = sym (map-map (λ (l : Lined). l.word) bare ls) ∙ (ap (map (λ (l : Lined). l.word)) e ∙ map_replicate (λ (l : Lined). l.word) places no_lane) in
    let holds : map (λ (l : Lined). l.held) ls ≡ replicate places false = sym (map-map (λ (l : Lined). l.held) bare ls) ∙ (ap (map (λ (l : Lined). l.held)) e ∙ map_replicate (λ (l : Lined). l.held) places no_lane) in
    rw (lines, words, holds) refl

pub on_err : {T E : Type 0} (r : Result T E) (P : Type 0) → P → OnErr r P
on_err (Ok x) P h = tt
on_err (Err e) P h = h

abbrev reserved_shown : Stored → List Lined → ℕ → Schedule
reserved_shown t ms opened =
    record { threads = t.threads; lines = map (λ l. l.line) ms; words = map (λ l. l.word) ms; holds = map (λ l. l.held) ms; opened = opened; rooms = t.rooms }

pub reserved_ok : {T E : Type 0} (r : Result T E) (s : Inside) (v : Schedule) (new : Stored) (ms : List Lined) → OnOk r (new ≡ record s.table { rooms = all_rooms }) → shown s ≡ v → map bare ms ≡ map bare s.lanes → OnOk r (reserved_shown new ms s.opened ≡ record v { rooms = all_rooms })
reserved_ok (Ok x) s v new ms ok e same = rw ok (roomy_view s v ms all_rooms e same)
reserved_ok (Err x) s v new ms ok e same = tt

-- the same rooms, as callers see them
pub roomy_same : (s : Inside) (v : Schedule) (ms : List Lined) → shown s ≡ v → map bare ms ≡ map bare s.lanes → roomy_shown s ms s.table.rooms ≡ v
roomy_same s v ms e same = roomy_view s v ms s.table.rooms e same ∙ ap (λ (q : Rooms). record v { rooms = q }) (ap (λ (w : Schedule). w.rooms) e)

pub reserved_err : {T E : Type 0} (r : Result T E) (s : Inside) (v : Schedule) (new : Stored) (ms : List Lined) → OnErr r (new ≡ s.table) → shown s ≡ v → map bare ms ≡ map bare s.lanes → OnErr r (reserved_shown new ms s.opened ≡ v)
reserved_err (Ok x) s v new ms err e same = tt
reserved_err (Err x) s v new ms err e same = rw err (roomy_same s v ms e same)

-- the answer that the first thread in a line goes on with
pub answer_seen : (s : Inside) (v : Schedule) (p t : ℕ) (x : Thread) (rest : List ℕ) → shown s ≡ v → line_at (by_id s.lanes p) ≡ t ∷ rest → by_id s.table.threads t ≡ Some x → is_held p v ≡ false → answer_next p v ≡ answer_at x.place
answer_seen s v p t x rest e line at free =
    let here : by_id v.threads t ≡ Some x = subst (λ (w : Schedule). by_id w.threads t ≡ Some x) e at in
    rw free (ap (first_answer v) (seen_line s v p e ∙ line) ∙ ap answer_of here)

pub no_answer : (pl : Place) → ((a : Answer) → pl ≡ Ready a → ⊥) → answer_at pl ≡ None
no_answer Running h = refl
no_answer New h = refl
no_answer (Ready a) h = absurd (h a refl)
no_answer Waiting h = refl
no_answer Ended h = refl

-- the turn of the first thread in a line
pub turn_seen : (s : Inside) (v : Schedule) (p t : ℕ) (x : Thread) (rest : List ℕ) → shown s ≡ v → line_at (by_id s.lanes p) ≡ t ∷ rest → by_id s.table.threads t ≡ Some x → is_held p v ≡ false → next_in p v ≡ (ready_at t x.program x.arg x.place, begun p t v)
turn_seen s v p t x rest e line at free =
    let here : by_id v.threads t ≡ Some x = subst (λ (w : Schedule). by_id w.threads t ≡ Some x) e at in
    rw free (ap (turn_of p v) (seen_line s v p e ∙ line) ∙ ap (λ o. (ready_of t o, begun p t v)) here)

pub new_place : (pl : Place) → is_ready pl ≡ true → ((a : Answer) → pl ≡ Ready a → ⊥) → pl ≡ New
new_place New e h = refl
new_place (Ready a) e h = absurd (h a refl)
new_place Running e h = cc
new_place Waiting e h = cc
new_place Ended e h = cc

pub empty_line : (line : List ℕ) → slice_get line 0 ≡ None → line ≡ []
empty_line [] e = refl
empty_line (t ∷ line) e = cc

pub place_was : (o : Option Thread) (x : Thread) (pl : Place) → o ≡ Some x → option_map (λ (y : Thread). y.place) o ≡ Some pl → x.place ≡ pl
place_was o x pl at e =
    let same : Some x.place ≡ Some pl = ap (option_map (λ (y : Thread). y.place)) (sym at) ∙ e in
    cc

-- one that has an answer goes on with it
pub old_turn : (t : ℕ) (x : Thread) (a : Answer) (r : Option Turn) → x.place ≡ Ready a → r ≡ Some (Old t a) → r ≡ ready_at t x.program x.arg x.place
old_turn t x a r place is = is ∙ sym (ap (ready_at t x.program x.arg) place)

-- a new one begins
pub new_turn : (t : ℕ) (x : Thread) (row : Row) (r : Option Turn) → x.place ≡ New → row_of (at_place Running x) ≡ row → r ≡ Some (First t row.program row.arg) → r ≡ ready_at t x.program x.arg x.place
new_turn t x row r place same is =
    let program : row.program ≡ x.program = ap (λ (s : Row). s.program) (sym same) in
    let arg : row.arg ≡ x.arg = ap (λ (s : Row). s.arg) (sym same) in
    is ∙ (rw (program, arg) refl ∙ sym (ap (ready_at t x.program x.arg) place))

-- a line with a thread in a proc that isn't held
pub not_none : (held : Bool) (line rest : List ℕ) (t : ℕ) → (held ≡ true) ⊎ (line ≡ []) → held ≡ false → line ≡ t ∷ rest → ⊥
not_none held line rest t (inl on) free some = cc (on, free)
not_none held line rest t (inr nil) free some = cc (nil, some)
