use Rattle.std.proofs.Common.{◌≡◌, refl}
use Rattle.p9_word.specs.declared.trail.Reply.TheVariants.{Stray}
use Rattle.p9_manual.specs.State.{by_id}
use Rattle.p9_sched.specs.Turns.{answer_next}
use Rattle.p9_machine.specs.Copies.{IsOfPosted, IsOfTurn, oldest_note}
use Rattle.p9_machine.specs.Reserved.{request_of, message_for}
use Rattle.p9_machine.proofs.Dispatch.{unmoved, gives_by, call_is, next_is, take_is, strays}
use Rattle.p9_machine.proofs.Told.{told_next, told_take}
use Rattle.p9_machine.proofs.step.outcome.Goals as goal

pub returns-in-Call-clause-gives : goal.returns-in-Call-clause-gives
returns-in-Call-clause-gives c = λ s st sound.
    rw c.in-Call.is (gives_by _ s _ _ _ (call_is c.args.board.now.setup c.in-Call.p c.in-Call.t (request_of c.in-Call.asked) s) (c.called.ensures.gives s st sound))

pub returns-in-Next-clause-gives : goal.returns-in-Next-clause-gives
returns-in-Next-clause-gives c = λ s st sound.
    rw c.in-Next.is (gives_by _ s _ _ _ (next_is c.args.board.now.setup c.in-Next.p s) (c.next_event.ensures.gives s st sound))

pub returns-in-Take-clause-gives : goal.returns-in-Take-clause-gives
returns-in-Take-clause-gives c = λ s st sound.
    rw c.in-Take.is (gives_by _ s _ _ _ (take_is c.args.board.now.setup c.in-Take.k s) (c.take_call.ensures.gives s st sound))

pub returns-in-Other-clause-gives : goal.returns-in-Other-clause-gives
returns-in-Other-clause-gives c = λ s st sound.
    let memory = rw c.in-Other.is at c.requires.memory in
    let quiet = rw c.in-Other.is at c.requires.quiet in
    rw c.in-Other.is (gives_by _ s _ _ Stray (strays c.args.board.now.setup _ _ s memory quiet) (unmoved c.args.board.now s Stray refl st))

pub returns-in-Call-clause-told : goal.returns-in-Call-clause-told
returns-in-Call-clause-told c = λ m h.
    let is : m ≡ message_for c.in-Call.asked = rw c.in-Call.is at h in
    rw is c.called.ensures.told

pub returns-in-Next-clause-told : goal.returns-in-Next-clause-told
returns-in-Next-clause-told c = λ m h.
    let b = c.requires.board in
    let is : IsOfTurn (oldest_note c.in-Next.p c.args.board.now.notes) (answer_next c.in-Next.p c.args.board.now.sched) m = rw c.in-Next.is at h in
    told_next c.args.board.now b.0 c.in-Next.p c.next_event.result m b.1.0 (c.next_event.ensures.gives b.0 b.1.0 b.1.1).reply_is is

pub returns-in-Take-clause-told : goal.returns-in-Take-clause-told
returns-in-Take-clause-told c = λ m h.
    let b = c.requires.board in
    let is : IsOfPosted (by_id c.args.board.now.io.ioprocs c.in-Take.k) m = rw c.in-Take.is at h in
    told_take c.args.board.now b.0 c.in-Take.k c.take_call.result m b.1.0 (c.take_call.ensures.gives b.0 b.1.0 b.1.1).reply_is is
