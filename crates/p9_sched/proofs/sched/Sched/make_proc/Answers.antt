use Rattle.std.proofs.Common.{◌≡◌, ◌∙◌, ◌+◌, ◌<◌, length, ap, sym, arith}
use Rattle.std.proofs.lemmas.List.{length-map}
use Rattle.p9_sched.specs.Lined.{Lined}
use Rattle.p9_sched.specs.Schedule.{Schedule}
use Rattle.p9_sched.proofs.Tracks.{tracks_new_proc}
use Rattle.p9_sched.proofs.sched.Sched.make_proc.Goals as goal

pub returns-clause-stands : goal.returns-clause-stands
returns-clause-stands c =
    let opened : c.self.inside.opened ≡ c.args.self.now.opened = ap (λ (v : Schedule). v.opened) c.self.view_is in
    let long : length c.self.inside.lanes ≡ length c.args.self.now.lines = sym (length-map c.self.inside.lanes (λ (l : Lined). l.line)) ∙ ap (λ (v : Schedule). length v.lines) c.self.view_is in
    let then : c.make_thread.inside.opened ≡ c.args.self.now.opened = ap (λ (v : Schedule). v.opened) c.make_thread.view_is in
    let left : c.make_thread.inside.opened < length c.args.self.now.lines = omega arith in
    let made = c.in_ok-t.ensures.made.made in
    tracks_new_proc c.args.program c.args.arg c.args.group c.make_thread.inside.opened c.args.self.now _ _ then made (ap (λ (v : Schedule). record v { opened = v.opened + 1 }) c.self-2.view_is) left
