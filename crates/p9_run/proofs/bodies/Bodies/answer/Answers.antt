use Rattle.p9_run.proofs.Turns.{answered}
use Rattle.p9_run.proofs.bodies.Bodies.answer.Goals as goal

pub returns : goal.returns
returns g c =
    let said = c.in_ok-request.ensures in
    λ asks history turn.
    answered asks _ _ history _ _ _ _ _ _ _ _ _ (record { plan_is = said.plan; request_is = said.request; stands_on = said.stands }) c.in_ok-put.ensures c.in_ok-put-2.ensures turn
