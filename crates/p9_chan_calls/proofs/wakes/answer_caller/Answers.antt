use Rattle.std.proofs.Common.{refl, sym}
use Rattle.p9_word.specs.declared.request.Request.TheVariants.{Chan as ChanRequest}
use Rattle.p9_word.specs.declared.request.ChanReq.TheVariants as ask
use Rattle.p9_manual.specs.State.{waiting}
use Rattle.p9_chan_calls.proofs.InLocks.{held_stays, locks_push}
use Rattle.p9_chan_calls.proofs.wakes.answer_caller.Goals as goal

pub returns-in-Waits : goal.returns-in-Waits
returns-in-Waits c = rw c.in-Waits.is (λ places s h.
    let request = ChanRequest (ask.ChanFree 0) in
    let k = c.wait.ensures.stands request (λ t at. refl) places s h in
    held_stays places c.wait.new.self (waiting c.args.t request s).state s.waits (sym (locks_push s.waits (record { tid = c.args.t; request = request; at = s.position }) refl)) k)
