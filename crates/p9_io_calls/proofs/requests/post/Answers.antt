use Rattle.std.proofs.Common.{◌≡◌, Some, false, refl, rules, tests}
use Rattle.std.specs.Prelude.{nat_lt}
use Rattle.p9_word.specs.declared.request.Request.TheVariants.{Io as IoRequest}
use Rattle.p9_word.specs.declared.request.IoReq.TheVariants.{IoRun}
use Rattle.p9_manual.specs.declared.state.Ioproc.TheVariants.{Idle, Posted}
use Rattle.p9_manual.specs.Effects.{message_length}
use Rattle.p9_manual.specs.Ioprocs.{with_ioproc}
use Rattle.p9_manual.specs.State.{by_id}
use Rattle.p9_io_calls.proofs.Answered.{serves_posted, sched_io}
use Rattle.p9_io_calls.proofs.requests.post.Goals as goal

pub returns-else-message_len-gt4294967295-clause-served : goal.returns-else-message_len-gt4294967295-clause-served
returns-else-message_len-gt4294967295-clause-served c = λ setup s h.
    let found : by_id s.ioprocs c.args.k ≡ Some Idle = cc (c.in-Some-Idle.ensures, c.in-Some-Idle.field-0-is, h.ioprocs.ioprocs) in
    let short : nat_lt 4294967295 (message_length c.args.call) ≡ false = search (rules, tests) in
    let n = with_ioproc c.args.k (Posted c.args.t c.args.call) s in
    serves_posted setup s c.args.t c.args.k c.args.call c.wait.new.self c.post.new.self found short
    (c.wait.ensures.stands (IoRequest (IoRun c.args.k c.args.call)) (λ t at. refl) setup.places n (sched_io _ _ s _ h.threads))
    (c.post.ensures.stands s h.ioprocs)
