use Rattle.std.proofs.Common.{◌∙◌, sym, arith}
use Rattle.p9_sched.proofs.Members.{none_more, none_at_all}
use Rattle.p9_sched.proofs.Seen.{seen_length}
use Rattle.p9_sched.proofs.table.Table.member_after.Goals as goal

pub overflow_cast-made : goal.overflow_cast-made
overflow_cast-made c =
    let n = seen_length c.self.inside c.args.self.now c.self.view_is in
    omega (arith, c.requires, c.self.inside.rows.ok.0)

pub loop-u-init : goal.loop-u-init
loop-u-init c = λ v above le. absurd (omega arith)

pub is_member-requires : goal.is_member-requires
is_member-requires c =
    let n = seen_length c.self.inside c.args.self.now c.self.view_is in
    record { from = omega arith; to = omega (arith, c.self.inside.rows.ok.0) }

pub returns-then-is_member : goal.returns-then-is_member
returns-then-is_member c =
    record {
      after = omega arith;
      member = sym c.is_member.ensures ∙ c.if-is_member.true;
      least = λ v above lt. c.loop-u.invariant v above (omega arith);
    }

pub loop-u-preserved : goal.loop-u-preserved
loop-u-preserved c =
    none_more c.args.group c.args.t c.args.self.now.threads c.loop-u.u c.loop-u.invariant (sym c.is_member.ensures ∙ c.if-is_member.false)

pub returns : goal.returns
returns c =
    let n = seen_length c.self.inside c.args.self.now c.self.view_is in
    none_at_all c.args.group c.args.t c.args.self.now.threads c.loop-u.u c.loop-u.invariant (omega (arith, c.self.inside.rows.ok.0))
