use Rattle.std.proofs.Common.{List, subst}
use Rattle.p9_word.specs.declared.trail.Entry.{Entry}
use Rattle.p9_word.specs.declared.trail.Event.TheVariants.{IoDid}
use Rattle.p9_manual.specs.Sound.{IsSound}
use Rattle.p9_manual.specs.History.{state_after}
use Rattle.p9_machine.specs.Kept.{shown}
use Rattle.p9_machine.proofs.Halting.{reply_told}
use Rattle.p9_machine.proofs.Keeps.{kept_on, now_of}
use Rattle.p9_machine.proofs.machine.Machine.did.Goals as goal

pub invariant_of-self : goal.invariant_of-self
invariant_of-self c =
    let m = c.self.inside in
    let sound = subst (λ (es : List Entry). IsSound m.board.setup (state_after m.board.setup es)) c.as_slice.ensures c.states_are_sound.ensures in
    kept_on m c.record.new.board c.record.new.entries c.let_go.new.kept c.args.seat (IoDid c.in-IoDid.effect) c.record.result c.let_go.ensures c.self.invariant c.record.ensures.follows.setup (c.record.ensures.does (now_of m) c.self.invariant.board sound) c.record.ensures.entries c.record.ensures.spare

pub returns-clause-reply : goal.returns-clause-reply
returns-clause-reply c =
    let m = c.self.inside in
    let sound = subst (λ (es : List Entry). IsSound m.board.setup (state_after m.board.setup es)) c.as_slice.ensures c.states_are_sound.ensures in
    rw c.in-IoDid.is (reply_told (shown m) c.args.self.now c.args.seat c.in-IoDid.effect c.record.result c.self.view_is (c.record.ensures.does (now_of m) c.self.invariant.board sound).reply_is)
