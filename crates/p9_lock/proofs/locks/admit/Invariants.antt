use Rattle.std.proofs.Common.{◌≡◌, ◌+◌, ◌++◌, length, None, IsSome}
use Rattle.p9_manual.specs.Claims.{rw_hold}
use Rattle.p9_manual.specs.Queues.{readers_in, readers_left}
use Rattle.p9_manual.specs.State.{by_id}
use Rattle.p9_lock.proofs.Held.{read_by}
use Rattle.p9_lock.proofs.locks.admit.Given as goal

-- with the readers that are still to come, all is as it will be
abbrev pub invariant-loop-t : goal.invariant-loop-t
invariant-loop-t l = record {
  there : IsSome (by_id l.rwlocks.rwlocks l.k);
  unwritten : (rw_hold (by_id l.rwlocks.rwlocks l.k)).writer ≡ None;
  rwlocks : read_by l.k (readers_in l.k l.waits.waits) l.rwlocks.rwlocks ≡ read_by l.k (readers_in l.k l.fn.waits.waits) l.fn.rwlocks.rwlocks;
  left : readers_left l.k l.waits.waits ≡ readers_left l.k l.fn.waits.waits;
  room : l.waits.room ≡ l.fn.waits.room;
  memory : l.rwlocks.spare + length l.fn.waits.waits ≡ l.fn.rwlocks.spare + length l.waits.waits;
  woken : l.woken.items ++ readers_in l.k l.waits.waits ≡ l.fn.woken.items ++ readers_in l.k l.fn.waits.waits;
  spare : l.woken.spare + length (readers_in l.k l.fn.waits.waits) ≡ l.fn.woken.spare + length (readers_in l.k l.waits.waits);
}

abbrev pub decreases-loop-t : goal.decreases-loop-t
decreases-loop-t l = length l.waits.waits
