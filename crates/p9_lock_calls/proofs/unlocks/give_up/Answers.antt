use Rattle.std.proofs.Common.{◌≡◌, List, ℕ, ◌++◌, ap, sym, subst, ◌∙◌}
use Rattle.p9_manual.specs.Unlocks.{release}
use Rattle.p9_lock_calls.specs.declared.memory.Spare.{Spare}
use Rattle.p9_lock_calls.specs.Granted.{AreWaiting, TracksGranted}
use Rattle.p9_lock_calls.specs.Spares.{HasRoom}
use Rattle.p9_lock_calls.proofs.Granting.{no_give, gave, grant_tracks, granted_wait, are_waiting}
use Rattle.p9_lock_calls.proofs.unlocks.give_up.Goals as goal

pub returns-then-not-has_lock-clause-serves : goal.returns-then-not-has_lock-clause-serves
returns-then-not-has_lock-clause-serves c = no_give c.args.s c.args.t c.args.k c.args.sched.now c.args.locks.now (sym c.has_lock.ensures ∙ c.if-not-has_lock.true)

pub wake_all-requires : goal.wake_all-requires
wake_all-requires c =
    let ts : List ℕ = (release c.args.s c.args.t c.args.k c.args.locks.now.holds c.args.locks.now.waits).granted in
    let empty = (subst (λ (x : Spare). HasRoom x c.args.locks.now) c.in-Woken.is c.requires.room).0 in
    let is : c.as_slice.result.now ≡ ts = c.as_slice.ensures ∙ (c.release.ensures.woken ∙ ap (λ (us : List ℕ). us ++ ts) empty) in
    subst (AreWaiting c.args.sched.now.threads) (sym is) (are_waiting c.args.sched.now c.args.locks.now ts c.requires.parts (granted_wait c.args.s c.args.t c.args.k c.args.locks.now.holds c.args.locks.now.waits))

pub returns-clause-serves : goal.returns-clause-serves
returns-clause-serves c =
    let ts : List ℕ = (release c.args.s c.args.t c.args.k c.args.locks.now.holds c.args.locks.now.waits).granted in
    let empty = (subst (λ (x : Spare). HasRoom x c.args.locks.now) c.in-Woken.is c.requires.room).0 in
    let is : c.as_slice.result.now ≡ ts = c.as_slice.ensures ∙ (c.release.ensures.woken ∙ ap (λ (us : List ℕ). us ++ ts) empty) in
    gave c.args.s c.args.t c.args.k c.args.sched.now c.wake_all.new.sched c.args.locks.now c.release.new.locks (sym c.has_lock.ensures ∙ c.if-not-has_lock.false) c.release.ensures.after (grant_tracks c.args.s c.args.t c.args.k c.args.sched.now c.wake_all.new.sched c.args.locks.now c.requires.sort (subst (λ (us : List ℕ). TracksGranted us c.args.sched.now c.wake_all.new.sched) is c.wake_all.ensures.woken))
