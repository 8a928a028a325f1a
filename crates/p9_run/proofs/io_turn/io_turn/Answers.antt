use Rattle.p9_run.proofs.Services.{touches_only, serves_on}
use Rattle.p9_run.proofs.io_turn.io_turn.Goals as goal

pub did-requires : goal.did-requires
did-requires g c =
    let took = rw c.in-Some.is at c.in_ok-call.ensures.call in
    record { call = c.in-Some.call; begun = took.begun; fits = g.met.D.Device.fits _ _ _ _ c.serve-effect.ensures }

pub returns-clause-only : goal.returns-clause-only
returns-clause-only g c =
    let took = rw c.in-Some.is at c.in_ok-call.ensures.call in
    rw (c.did.ensures.entries, took.entries) (touches_only _ _ _ _)

pub returns-clause-serves : goal.returns-clause-serves
returns-clause-serves g c =
    let took = rw c.in-Some.is at c.in_ok-call.ensures.call in
    λ first before. rw (c.did.ensures.entries, took.entries) (serves_on _ c.services_lead_on.ensures _ _ _ _ _ _ _ before c.serve-effect.ensures)
