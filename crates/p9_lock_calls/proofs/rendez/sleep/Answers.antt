use Rattle.std.proofs.Common.{◌≡◌, List, ℕ, ◌++◌, ap, sym, subst, ◌∙◌}
use Rattle.p9_word.specs.declared.request.LockReq.TheVariants as ask
use Rattle.p9_word.specs.declared.request.Request.TheVariants.{Lock as LockRequest}
use Rattle.p9_manual.specs.declared.locks.Sort.TheVariants as sort
use Rattle.p9_manual.specs.Claims.{has_lock}
use Rattle.p9_manual.specs.Unlocks.{release}
use Rattle.p9_lock.specs.Locking.{qlock_of}
use Rattle.p9_lock_calls.specs.declared.memory.Spare.{Spare}
use Rattle.p9_lock_calls.specs.Granted.{AreWaiting, TracksGranted}
use Rattle.p9_lock_calls.specs.Spares.{HasRoom}
use Rattle.p9_lock_calls.proofs.Callers.{idle}
use Rattle.p9_lock_calls.proofs.Granting.{granted_wait, are_waiting}
use Rattle.p9_lock_calls.proofs.Sleeping.{no_sleep, slept_is, sleep_beside}
use Rattle.p9_lock_calls.proofs.rendez.sleep.Goals as goal

pub returns-then-not-has_lock-clause-serves : goal.returns-then-not-has_lock-clause-serves
returns-then-not-has_lock-clause-serves c =
    no_sleep c.args.t c.args.r c.args.sched.now c.args.locks.now (ap (λ (q : ℕ). has_lock sort.QLock c.args.t q c.args.locks.now.holds) (sym c.qlock_of.ensures) ∙ (sym c.has_lock.ensures ∙ c.if-not-has_lock.true))

pub rsleep-requires-clause-holds : goal.rsleep-requires-clause-holds
rsleep-requires-clause-holds c =
    ap (λ (q : ℕ). has_lock sort.QLock c.args.t q c.args.locks.now.holds) (sym c.qlock_of.ensures) ∙ (sym c.has_lock.ensures ∙ c.if-not-has_lock.false)

pub rsleep-requires-clause-idle : goal.rsleep-requires-clause-idle
rsleep-requires-clause-idle c = idle c.args.sched.now c.args.locks.now c.args.t c.requires.parts c.requires.runs

pub wake_all-requires : goal.wake_all-requires
wake_all-requires c =
    let q = qlock_of c.args.r c.args.locks.now in
    let ts : List ℕ = (release sort.QLock c.args.t q c.args.locks.now.holds c.args.locks.now.waits).granted in
    let empty = (subst (λ (x : Spare). HasRoom x c.args.locks.now) c.in-Woken.is c.requires.spare).0 in
    let is : c.as_slice.result.now ≡ ts = c.as_slice.ensures ∙ (c.rsleep.ensures.woken ∙ ap (λ (us : List ℕ). us ++ ts) empty) in
    subst (AreWaiting c.args.sched.now.threads) (sym is) (are_waiting c.args.sched.now c.args.locks.now ts c.requires.parts (granted_wait sort.QLock c.args.t q c.args.locks.now.holds c.args.locks.now.waits))

pub wait-requires : goal.wait-requires
wait-requires c = c.wake_all.ensures.runs c.args.t c.requires.runs

pub returns-clause-serves : goal.returns-clause-serves
returns-clause-serves c =
    let q = qlock_of c.args.r c.args.locks.now in
    let ts : List ℕ = (release sort.QLock c.args.t q c.args.locks.now.holds c.args.locks.now.waits).granted in
    let empty = (subst (λ (x : Spare). HasRoom x c.args.locks.now) c.in-Woken.is c.requires.spare).0 in
    let is : c.as_slice.result.now ≡ ts = c.as_slice.ensures ∙ (c.rsleep.ensures.woken ∙ ap (λ (us : List ℕ). us ++ ts) empty) in
    slept_is c.args.t c.args.r c.args.sched.now c.wake_all.new.sched c.wait.new.self c.args.locks.now c.rsleep.new.self (ap (λ (y : ℕ). has_lock sort.QLock c.args.t y c.args.locks.now.holds) (sym c.qlock_of.ensures) ∙ (sym c.has_lock.ensures ∙ c.if-not-has_lock.false)) c.rsleep.ensures.after (subst (λ (us : List ℕ). TracksGranted us c.args.sched.now c.wake_all.new.sched) is c.wake_all.ensures.woken) (c.wait.ensures.stands (LockRequest (ask.RSleep c.args.r)) (sleep_beside c.args.r))
