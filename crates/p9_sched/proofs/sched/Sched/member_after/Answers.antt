use Rattle.std.proofs.Common.{MatchOption, subst}
use Rattle.p9_sched.specs.Members.{NextMember, NoMember}
use Rattle.p9_sched.specs.Schedule.{Schedule}
use Rattle.p9_sched.proofs.sched.Sched.member_after.Goals as goal

pub member_after-requires : goal.member_after-requires
member_after-requires c = c.self.invariant.few

pub returns : goal.returns
returns c =
    subst (λ (v : Schedule). MatchOption c.member_after.result (NoMember c.args.group c.args.t v.threads) (NextMember c.args.group c.args.t v.threads)) c.self.view_is c.member_after.ensures
