use Rattle.std.proofs.Common.{◌≡◌, ◌∙◌, ◌-◌, false, [], None, Some, drop, inr, refl, sym, ap, subst}
use Rattle.std.specs.List.{list_any}
use Rattle.p9_manual.specs.declared.state.Place.TheVariants.{Running}
use Rattle.p9_manual.specs.Places.{runs_in}
use Rattle.p9_manual.specs.State.{by_id, at_place, placed}
use Rattle.p9_sched.specs.Lined.{line_at, started}
use Rattle.p9_sched.specs.Schedule.{Schedule, line_of}
use Rattle.p9_sched.specs.Stored.{Stored}
use Rattle.p9_sched.specs.Turns.{ready_at}
use Rattle.p9_sched.proofs.Keeping.{put_there, started_lane}
use Rattle.p9_sched.proofs.Lists.{id_of, changed_none, length-changed}
use Rattle.p9_sched.proofs.Nexts.{next_thread, idle_there}
use Rattle.p9_sched.proofs.Sound.{moved, same_id}
use Rattle.p9_sched.proofs.Views.{seen_line, empty_line, row_is, place_was, old_turn, new_turn, turn_seen, moved_view, new_place, seen_held, not_none}
use Rattle.p9_sched.proofs.Tracks.{tracks_turn}
use Rattle.p9_sched.proofs.sched.Sched.next_of.Goals as goal
use Rattle.p9_sched.proofs.sched.Sched.next_of.Goals.{in-Ready, in_default}

pub invariant_of-self : goal.invariant_of-self
invariant_of-self c =
    let e = c.in_err-t.ensures in
    let same : c.start.new.self ≡ c.self.inside.lanes = e.lanes ∙ changed_none (started None) (λ l. refl) c.self.inside.lanes (c.args.p - 1) in
    rw same c.self.invariant

pub returns-in_err-t-clause-turn : goal.returns-in_err-t-clause-turn
returns-in_err-t-clause-turn c =
    let e = c.in_err-t.ensures in
    let same : c.start.new.self ≡ c.self.inside.lanes = e.lanes ∙ changed_none (started None) (λ l. refl) c.self.inside.lanes (c.args.p - 1) in
    let nil : line_of c.args.p c.args.self.now ≡ [] = seen_line c.self.inside c.args.self.now c.args.p c.self.view_is ∙ empty_line (line_at (by_id c.self.inside.lanes c.args.p)) (sym e.first) in
    let free = seen_held c.self.inside c.args.self.now c.args.p false c.self.view_is c.if-is_held.ensures in
    rw (nil, c.from_residual.ensures, same, free) (ap (λ (w : Schedule). (None, w)) c.self.view_is)

pub returns-in_err-t-clause-none : goal.returns-in_err-t-clause-none
returns-in_err-t-clause-none c =
    let e = c.in_err-t.ensures in
    let nil : line_of c.args.p c.args.self.now ≡ [] = seen_line c.self.inside c.args.self.now c.args.p c.self.view_is ∙ empty_line (line_at (by_id c.self.inside.lanes c.args.p)) (sym e.first) in
    (λ _. inr nil, λ _. c.from_residual.ensures)

pub replace-requires : goal.replace-requires
replace-requires c =
    let e = c.in_ok-t.ensures in
    let n = next_thread c.args.p c.self.inside.table.threads c.self.inside.lanes c.self.inside.table.rooms.thread c.in_ok-t.t (sym e.first) c.self.invariant in
    id_of c.self.inside.table.threads c.in_ok-t.t n.thread n.there

pub row-row-requires : goal.row-row-requires
row-row-requires c =
    let e = c.in_ok-t.ensures in
    let n = next_thread c.args.p c.self.inside.table.threads c.self.inside.lanes c.self.inside.table.rooms.thread c.in_ok-t.t (sym e.first) c.self.invariant in
    let id = id_of c.self.inside.table.threads c.in_ok-t.t n.thread n.there in
    rw c.replace.ensures.table (same_id c.in_ok-t.t c.self.inside.table.threads (placed c.in_ok-t.t Running c.self.inside.table.threads) (length-changed (at_place Running) c.self.inside.table.threads (c.in_ok-t.t - 1)) id)

pub invariant_of-self-2 : goal.invariant_of-self-2
invariant_of-self-2 c =
    let e = c.in_ok-t.ensures in
    let t = c.in_ok-t.t in
    let p = c.args.p in
    let threads = c.self.inside.table.threads in
    let more = c.self.inside.table.rooms.thread in
    let n = next_thread p threads c.self.inside.lanes more t (sym e.first) c.self.invariant in
    let idle : list_any (runs_in c.args.p) c.self.inside.table.threads ≡ false = subst (λ (v : Schedule). list_any (runs_in c.args.p) v.threads ≡ false) (sym c.self.view_is) c.requires.idle in
    rw (c.replace.ensures.table, e.lanes) (moved threads c.self.inside.lanes more t p n.thread Running (started (Some t)) n.there n.mine (λ l at. started_lane p threads more l n.rest t n.thread n.there n.mine n.on n.alive (ap line_at (sym at) ∙ n.line_is) (idle_there p threads idle)) c.self.invariant)

pub returns-clause-turn : goal.returns-clause-turn
returns-clause-turn c =
    let e = c.in_ok-t.ensures in
    let t = c.in_ok-t.t in
    let n = next_thread c.args.p c.self.inside.table.threads c.self.inside.lanes c.self.inside.table.rooms.thread t (sym e.first) c.self.invariant in
    let x = n.thread in
    let was = place_was (by_id c.self.inside.table.threads t) x c.replace.result n.there c.replace.ensures.was in
    let there = ap (λ (s : Stored). by_id s.threads t) c.replace.ensures.table ∙ put_there c.self.inside.table.threads t x Running n.there in
    let result : c.match-replace.result ≡ ready_at t x.program x.arg x.place = elim c.match-replace.branch [ in-Ready w ↦ old_turn t x w.in-Ready.answer c.match-replace.result (was ∙ w.in-Ready.is) w.result-is | in_default w ↦ new_turn t x w.row-row.result.now c.match-replace.result (new_place x.place n.on (λ a h. w.in_default.not-Ready a (sym was ∙ h))) (row_is (by_id c.replace.new.self.threads t) (at_place Running x) w.row-row.result.now there w.row-row.ensures) w.result-is ] in
    rw (result, c.replace.ensures.table, e.lanes, turn_seen c.self.inside c.args.self.now c.args.p t x n.rest c.self.view_is n.line_is n.there (seen_held c.self.inside c.args.self.now c.args.p false c.self.view_is c.if-is_held.ensures)) (ap (λ (v : Schedule). (ready_at t x.program x.arg x.place, v)) (moved_view c.self.inside c.args.self.now (placed t Running) (started (Some t)) (drop 1) c.args.p c.self.view_is (λ l. refl) (λ l. refl) (λ l. refl)))

pub returns-clause-none : goal.returns-clause-none
returns-clause-none c =
    let e = c.in_ok-t.ensures in
    let n = next_thread c.args.p c.self.inside.table.threads c.self.inside.lanes c.self.inside.table.rooms.thread c.in_ok-t.t (sym e.first) c.self.invariant in
    let free = seen_held c.self.inside c.args.self.now c.args.p false c.self.view_is c.if-is_held.ensures in
    let line = seen_line c.self.inside c.args.self.now c.args.p c.self.view_is ∙ n.line_is in (
      λ h. elim c.match-replace.branch [ in-Ready w ↦ (let off : ⊥ = cc (h, w.result-is) in absurd off) | in_default w ↦ (let off : ⊥ = cc (h, w.result-is) in absurd off) ],
      λ h. let off : ⊥ = not_none _ _ n.rest _ h free line in absurd off,
    )

pub returns-in_err-t-clause-stands : goal.returns-in_err-t-clause-stands
returns-in_err-t-clause-stands c = tracks_turn c.args.p _ c.args.self.now _ (returns-in_err-t-clause-turn c) c.requires.place

pub returns-clause-stands : goal.returns-clause-stands
returns-clause-stands c = tracks_turn c.args.p _ c.args.self.now _ (returns-clause-turn c) c.requires.place
