use Rattle.p9_sched.proofs.Members.{NoneTo}
use Rattle.p9_sched.proofs.table.Table.member_after.Given as goal

-- none up to here is one
abbrev pub invariant-loop-u : goal.invariant-loop-u
invariant-loop-u l = NoneTo l.group l.t l.self.threads l.u
