use Rattle.std.proofs.Common.{◌≡◌, List, ℕ, ◌++◌, ap, sym, subst, ◌∙◌}
use Rattle.std.specs.Prelude.{slice_get}
use Rattle.std.specs.Option.{option_to_list}
use Rattle.p9_manual.specs.declared.locks.Sort.TheVariants as sort
use Rattle.p9_manual.specs.declared.locks.LockWait.TheVariants as wait
use Rattle.p9_manual.specs.Unlocks.{first_for, release}
use Rattle.p9_lock_calls.specs.declared.memory.Spare.{Spare}
use Rattle.p9_lock_calls.specs.Granted.{AreWaiting, TracksHolder}
use Rattle.p9_lock_calls.specs.Spares.{HasRoom}
use Rattle.p9_lock_calls.proofs.Granting.{no_give, gave, lock_tracks, granted_wait, are_waiting, first_of}
use Rattle.p9_lock_calls.proofs.unlocks.unlock.Goals as goal

pub returns-then-not-has_lock-clause-serves : goal.returns-then-not-has_lock-clause-serves
returns-then-not-has_lock-clause-serves c = no_give sort.Lock c.args.t c.args.k c.args.sched.now c.args.locks.now (sym c.has_lock.ensures ∙ c.if-not-has_lock.true)

pub wake_holder-requires : goal.wake_holder-requires
wake_holder-requires c =
    let ts : List ℕ = (release sort.Lock c.args.t c.args.k c.args.locks.now.holds c.args.locks.now.waits).granted in
    let empty = (subst (λ (x : Spare). HasRoom x c.args.locks.now) c.in-Woken.is c.requires.room).0 in
    let is : c.as_slice.result.now ≡ ts = c.as_slice.ensures ∙ (c.release.ensures.woken ∙ ap (λ (us : List ℕ). us ++ ts) empty) in
    let one : option_to_list c.copied.result ≡ ts = ap option_to_list (c.copied.ensures ∙ (c.first.ensures.value ∙ ap (λ (us : List ℕ). slice_get us 0) is)) ∙ first_of (first_for (wait.Lock sort.Lock c.args.k) c.args.locks.now.waits) in
    subst (AreWaiting c.args.sched.now.threads) (sym one) (are_waiting c.args.sched.now c.args.locks.now ts c.requires.parts (granted_wait sort.Lock c.args.t c.args.k c.args.locks.now.holds c.args.locks.now.waits))

pub returns-clause-serves : goal.returns-clause-serves
returns-clause-serves c =
    let ts : List ℕ = (release sort.Lock c.args.t c.args.k c.args.locks.now.holds c.args.locks.now.waits).granted in
    let empty = (subst (λ (x : Spare). HasRoom x c.args.locks.now) c.in-Woken.is c.requires.room).0 in
    let is : c.as_slice.result.now ≡ ts = c.as_slice.ensures ∙ (c.release.ensures.woken ∙ ap (λ (us : List ℕ). us ++ ts) empty) in
    let one : option_to_list c.copied.result ≡ ts = ap option_to_list (c.copied.ensures ∙ (c.first.ensures.value ∙ ap (λ (us : List ℕ). slice_get us 0) is)) ∙ first_of (first_for (wait.Lock sort.Lock c.args.k) c.args.locks.now.waits) in
    gave sort.Lock c.args.t c.args.k c.args.sched.now c.wake_holder.new.sched c.args.locks.now c.release.new.locks (sym c.has_lock.ensures ∙ c.if-not-has_lock.false) c.release.ensures.after (lock_tracks c.args.t c.args.k c.args.sched.now c.wake_holder.new.sched c.args.locks.now (subst (λ (us : List ℕ). TracksHolder us c.args.sched.now c.wake_holder.new.sched) one c.wake_holder.ensures))
