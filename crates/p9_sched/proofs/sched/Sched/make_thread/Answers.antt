use Rattle.std.proofs.Common.{◌≡◌, ◌∙◌, ◌+◌, ◌<◌, length, true, refl, ap, subst, arith}
use Rattle.p9_word.specs.declared.limits.TheConstants.{MOST_THREADS}
use Rattle.p9_manual.specs.Create.{fresh}
use Rattle.p9_sched.specs.Kept.{IsSound}
use Rattle.p9_sched.specs.Schedule.{Schedule}
use Rattle.p9_sched.proofs.Sound.{made, room_new, few_live}
use Rattle.p9_sched.proofs.Views.{place_id, made_view}
use Rattle.p9_sched.proofs.Tracks.{tracks_made}
use Rattle.p9_sched.proofs.sched.Sched.make_thread.Goals as goal

pub join-requires-clause-room : goal.join-requires-clause-room
join-requires-clause-room c =
    let on : c.self.inside.table.rooms.thread ≡ true = ap (λ (v : Schedule). v.rooms.thread) c.self.view_is ∙ c.requires.room in
    let sound : IsSound c.self.inside.table.threads c.self.inside.lanes true = rw (← on) c.self.invariant in
    room_new c.self.inside.table.threads c.self.inside.lanes c.args.p sound

pub join-requires-clause-few : goal.join-requires-clause-few
join-requires-clause-few c =
    few_live c.self.inside.table.threads c.self.inside.lanes c.self.inside.table.rooms.thread c.args.p (omega arith) c.self.invariant

pub invariant_of-self : goal.invariant_of-self
invariant_of-self c =
    let on : c.self.inside.table.rooms.thread ≡ true = ap (λ (v : Schedule). v.rooms.thread) c.self.view_is ∙ c.requires.room in
    let sound : IsSound c.self.inside.table.threads c.self.inside.lanes true = rw (← on) c.self.invariant in
    let id = place_id c.self.inside c.args.self.now c.args.p c.self.view_is c.requires.place in
    rw (c.add-t.ensures.table, c.join.ensures) (made c.self.inside.table.threads c.self.inside.lanes c.add-t.result (fresh c.args.p c.args.program c.args.arg c.args.group) c.add-t.ensures.id refl id (omega arith) sound)

pub returns-clause-made : goal.returns-clause-made
returns-clause-made c =
    let few : length c.self.inside.table.threads < MOST_THREADS = omega arith in
    let view = made_view c.self.inside c.args.self.now c.args.p c.args.program c.args.arg c.args.group c.add-t.result c.self.view_is c.add-t.ensures.id in
    record { few = subst (λ (v : Schedule). length v.threads < MOST_THREADS) c.self.view_is few; id = subst (λ (v : Schedule). c.add-t.result ≡ length v.threads + 1) c.self.view_is c.add-t.ensures.id; made = rw (c.add-t.ensures.table, c.join.ensures) view }

pub returns-clause-stands : goal.returns-clause-stands
returns-clause-stands c = tracks_made c.args.p c.args.program c.args.arg c.args.group c.args.self.now _ (returns-clause-made c).made c.requires.place
