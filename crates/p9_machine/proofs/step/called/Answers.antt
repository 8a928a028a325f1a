use Rattle.std.proofs.Common.{refl, sym}
use Rattle.p9_word.specs.declared.trail.Reply.TheVariants.{Stray}
use Rattle.p9_machine.specs.Reserved.{request_of}
use Rattle.p9_machine.proofs.Dispatch.{unmoved, gives_by, called_ends, called_strays, called_serves, stands_places}
use Rattle.p9_machine.proofs.Turning.{made_of}
use Rattle.p9_machine.proofs.step.called.Goals as goal

pub returns-then-not-runs_there-clause-gives : goal.returns-then-not-runs_there-clause-gives
returns-then-not-runs_there-clause-gives c = λ s st sound.
    gives_by _ s _ _ Stray (called_strays c.args.board.now.setup c.args.p c.args.t (request_of c.args.asked.now) s (rw st.sched.threads (sym c.if-not-runs_there.ensures))) (unmoved c.args.board.now s Stray refl st)

pub is_doomed-requires : goal.is_doomed-requires
is_doomed-requires c = made_of c.args.p c.args.t c.args.board.now.sched (sym c.if-not-runs_there.ensures)

pub exit_thread-requires-clause-places : goal.exit_thread-requires-clause-places
exit_thread-requires-clause-places c =
    let b = c.requires.board in
    stands_places c.args.board.now b.0 b.1.0

pub returns-then-is_doomed-clause-gives : goal.returns-then-is_doomed-clause-gives
returns-then-is_doomed-clause-gives c = λ s st sound.
    gives_by _ s _ _ _ (called_ends c.args.board.now.setup c.args.p c.args.t (request_of c.args.asked.now) s (rw st.sched.threads (sym c.if-not-runs_there.ensures)) (rw st.sched.threads (sym c.if-is_doomed.ensures))) (c.exit_thread.ensures.gives s st sound)

pub returns-clause-gives : goal.returns-clause-gives
returns-clause-gives c = λ s st sound.
    gives_by _ s _ _ _ (called_serves c.args.board.now.setup c.args.p c.args.t (request_of c.args.asked.now) s (rw st.sched.threads (sym c.if-not-runs_there.ensures)) (rw st.sched.threads (sym c.if-is_doomed.ensures))) (c.served.ensures.gives s st sound)
