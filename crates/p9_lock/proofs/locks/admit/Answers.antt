use Rattle.std.proofs.Common.{◌+◌, ◌++◌, List, ℕ, length, refl, sym, ap, ◌∙◌, arith, append_assoc}
use Rattle.p9_lock.proofs.Held.{read_by, unwritten, one_more, all_in, held_there, held_writer, readers_few}
use Rattle.p9_lock.proofs.locks.admit.Goals as goal

pub loop-t-init : goal.loop-t-init
loop-t-init c =
    let xs = c.args.rwlocks.now.rwlocks in
    record {
      there = rw c.set_writer.ensures.rwlocks (held_there c.args.k _ xs c.requires.there);
      unwritten = rw c.set_writer.ensures.rwlocks (held_writer c.args.k _ xs c.requires.there);
      rwlocks = rw c.set_writer.ensures.rwlocks (unwritten c.args.k _ xs c.requires.there);
      left = refl;
      room = refl;
      memory = ap (λ (n : ℕ). n + length c.args.waits.now.waits) c.set_writer.ensures.spare;
      woken = refl;
      spare = refl;
    }

pub push-requires : goal.push-requires
push-requires c =
    let few = readers_few c.args.k c.args.waits.now.waits in
    let more = ap length c.in-Some.ensures.reader in
    let spare = c.loop-t.invariant.spare in
    let room = c.requires.room in
    omega arith

pub loop-t-preserved : goal.loop-t-preserved
loop-t-preserved c =
    let xs = c.loop-t.rwlocks.rwlocks in
    let inv = c.loop-t.invariant in
    let more = ap length c.in-Some.ensures.reader in
    record {
      there = rw c.add_reader.ensures.rwlocks (held_there c.args.k _ xs inv.there);
      unwritten = rw c.add_reader.ensures.rwlocks (held_writer c.args.k _ xs inv.there ∙ inv.unwritten);
      rwlocks = rw c.add_reader.ensures.rwlocks (one_more c.args.k c.in-Some.t _ xs inv.there) ∙ ap (λ (ts : List ℕ). read_by c.args.k ts xs) (sym c.in-Some.ensures.reader) ∙ inv.rwlocks;
      left = c.in-Some.ensures.left ∙ inv.left;
      room = c.in-Some.ensures.room ∙ inv.room;
      memory = (let a = c.add_reader.ensures.spare in let b = c.in-Some.ensures.less in let m = inv.memory in omega arith);
      woken = rw (c.push.ensures.items, append_assoc) (ap (λ (ts : List ℕ). c.loop-t.woken.items ++ ts) (sym c.in-Some.ensures.reader) ∙ inv.woken);
      spare = (let a = c.push.ensures.spare in let m = inv.spare in omega arith);
    }

pub returns-clause-rwlocks : goal.returns-clause-rwlocks
returns-clause-rwlocks c =
    let xs = c.loop-t.rwlocks.rwlocks in
    let inv = c.loop-t.invariant in
    all_in c.args.k xs inv.there inv.unwritten ∙ (ap (λ (ts : List ℕ). read_by c.args.k ts xs) (sym c.in_default.ensures.done) ∙ inv.rwlocks)
