use Rattle.std.proofs.Common.{List, subst}
use Rattle.p9_word.specs.declared.trail.Entry.{Entry}
use Rattle.p9_manual.specs.Sound.{IsSound}
use Rattle.p9_manual.specs.History.{state_after}
use Rattle.p9_machine.specs.Kept.{shown}
use Rattle.p9_machine.proofs.Halting.{reply_runs}
use Rattle.p9_machine.proofs.Keeps.{kept_on, now_of}
use Rattle.p9_machine.proofs.machine.Machine.enter.Goals as goal

pub invariant_of-self : goal.invariant_of-self
invariant_of-self c =
    let m = c.self.inside in
    let sound = subst (λ (es : List Entry). IsSound m.board.setup (state_after m.board.setup es)) c.as_slice.ensures c.states_are_sound.ensures in
    kept_on m c.enter.new.board c.enter.new.entries c.enter.new.kept c.args.seat c.args.event c.enter.result c.enter.ensures.none c.self.invariant c.enter.ensures.follows.setup (c.enter.ensures.does (now_of m) c.self.invariant.board sound) c.enter.ensures.entries c.enter.ensures.spare

pub returns-clause-reply : goal.returns-clause-reply
returns-clause-reply c =
    let m = c.self.inside in
    let sound = subst (λ (es : List Entry). IsSound m.board.setup (state_after m.board.setup es)) c.as_slice.ensures c.states_are_sound.ensures in
    reply_runs (shown m) c.args.self.now c.args.seat c.args.event c.enter.result c.self.view_is c.requires.running (c.enter.ensures.does (now_of m) c.self.invariant.board sound).reply_is
