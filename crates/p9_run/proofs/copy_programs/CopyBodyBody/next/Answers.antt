use Rattle.p9_run.proofs.copy_programs.CopyBodyBody.next.Goals as goal

pub returns-in-Read-clause-plan : goal.returns-in-Read-clause-plan
returns-in-Read-clause-plan c = rw c.in-Read.is c.next.ensures.plan

pub returns-in-Read-clause-request : goal.returns-in-Read-clause-request
returns-in-Read-clause-request c = rw c.in-Read.is c.next.ensures.request

pub returns-in-Write-clause-plan : goal.returns-in-Write-clause-plan
returns-in-Write-clause-plan c = rw c.in-Write.is c.next-in-Write.ensures.plan

pub returns-in-Write-clause-request : goal.returns-in-Write-clause-request
returns-in-Write-clause-request c = rw c.in-Write.is c.next-in-Write.ensures.request
