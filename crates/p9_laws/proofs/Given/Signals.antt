-- Interrupts, kills and notes wake threads with one answer.
use Rattle.std.proofs.Common.{◌≡◌, ℕ, ◌-◌, Bool, true, false, not, cond, ◌&&◌, ◌||◌, eqb, List, [], ◌∷◌, Option, Some, None, refl, subst}
use Rattle.std.specs.List.{find, list_any}
use Rattle.std.proofs.lemmas.List.Elements.{All-head, All-tail}
use Rattle.p9_word.specs.declared.answer.Answer.{Answer}
use Rattle.p9_word.specs.declared.answer.Answer.TheVariants.{Interrupted}
use Rattle.p9_word.specs.declared.request.SignalReq.{SignalReq}
use Rattle.p9_word.specs.declared.request.SignalReq.TheVariants as ask
use Rattle.p9_manual.specs.declared.state.Place.TheVariants.{Running, Waiting}
use Rattle.p9_manual.specs.declared.state.Thread.{Thread}
use Rattle.p9_manual.specs.declared.state.Waiter.{Waiter}
use Rattle.p9_manual.specs.Interrupt.{Interruption, can_interrupt, doomed, each, interrupt, is_interruptible, kill, marked, members, signal_group, signal_thread, with_mark}
use Rattle.p9_manual.specs.NoteCalls.{handlers_set, interrupted, is_alive, meets_in, notify, notify_in, post, with_note, with_posted, with_proc}
use Rattle.p9_manual.specs.Notes.{is_no_note, notified}
use Rattle.p9_manual.specs.Places.{lives}
use Rattle.p9_manual.specs.Signals.{signal_call}
use Rattle.p9_manual.specs.State.{State, Proc, by_id}
use Rattle.p9_manual.specs.Standing.{place_of}
use Rattle.p9_laws.specs.Causes.{signal_interrupts}
use Rattle.p9_laws.proofs.Sound.Stand.{eqb_equal}
use Rattle.p9_laws.proofs.Given.Goes.{Rests, Woken, stays_woken, woken_left, woken_wake}
use Rattle.p9_laws.proofs.Given.Replies.{Replies, go_replies, same_replies, if_replies}

any_step : (b c : Bool) (P : Type 0) → (b || c) ≡ true → (b ≡ true → P) → (c ≡ true → P) → P
any_step true c P h f g = f refl
any_step false c P h f g = g h

both_first : (b c : Bool) → (b && c) ≡ true → b ≡ true
both_first true c h = refl
both_first false c h = cc

rests_at : (threads : List Thread) (w : Waiter) (t : ℕ) (b : Bool) → place_of threads w.tid ≡ Waiting → (eqb w.tid t && b) ≡ true → place_of threads t ≡ Waiting
rests_at threads w t b rests h =
    let e = both_first (eqb w.tid t) b h in
    subst (λ (u : ℕ). place_of threads u ≡ Waiting) (eqb_equal w.tid t e) rests

-- a thread among the waits waits
rests_any : (q : Waiter → Bool) (threads : List Thread) (t : ℕ) → (waits : List Waiter) → Rests threads waits → list_any (λ w. eqb w.tid t && q w) waits ≡ true → place_of threads t ≡ Waiting
rests_any q threads t [] rests h = cc
rests_any q threads t (w ∷ ws) rests h =
    any_step (eqb w.tid t && q w) (list_any (λ x. eqb x.tid t && q x) ws) (place_of threads t ≡ Waiting) h
    (λ e. rests_at threads w t (q w) (All-head (λ x. place_of threads x.tid ≡ Waiting) w ws rests) e)
    (λ e. rests_any q threads t ws (All-tail (λ x. place_of threads x.tid ≡ Waiting) w ws rests) e)

module _ (P : ℕ → Answer → Type 0) (s : State) where
  if_woken : (b : Bool) (i j : Interruption) → (b ≡ true → Woken P s i.state) → Woken P s j.state → Woken P s (cond b i j).state
  if_woken true i j f g = f refl
  if_woken false i j f g = g

  -- an interrupt
  interrupt_woken : ((u : ℕ) → P u Interrupted) → (t : ℕ) (n : State) → Woken P s n → Woken P s (interrupt t n).state
  interrupt_woken holds t n w =
      if_woken (is_interruptible t n.waits) _ _
      (λ e. woken_wake P s n t Interrupted (rests_any (λ x. can_interrupt x.request) s.threads t n.waits w.rests e) (holds t) w)
      w

  doomed_step : (b : Bool) (x : Thread) → (cond b (with_mark x) x).place ≡ x.place
  doomed_step true x = refl
  doomed_step false x = refl

  -- a kill
  kill_woken : ((u : ℕ) → P u Interrupted) → (t : ℕ) (n : State) → Woken P s n → Woken P s (kill t n).state
  kill_woken holds t n w = interrupt_woken holds t (marked t n) (woken_left P doomed (λ x. doomed_step (lives x) x) s n (t - 1) w)

  -- those of a group
  each_woken : (signal : ℕ → State → Interruption) → ((t : ℕ) (n : State) → Woken P s n → Woken P s (signal t n).state) → (ts : List ℕ) (n : State) → Woken P s n → Woken P s (each signal ts n).state
  each_woken signal one [] n w = w
  each_woken signal one (t ∷ ts) n w = each_woken signal one ts (signal t n).state (one t n w)

  interrupted_woken : ((u : ℕ) → P u Interrupted) → (o : Option Waiter) (n : State) → Woken P s n → Woken P s (interrupted o n)
  interrupted_woken holds None n w = w
  interrupted_woken holds (Some x) n w = interrupt_woken holds x.tid n w

  module _ (Q : Answer → Type 0) (t : ℕ) (runs : place_of s.threads t ≡ Running) (rests : Rests s.threads s.waits) where
    woken_replies : (n : State) → Woken P s n → Replies P Q t s.threads n.threads
    woken_replies n w = go_replies P Q t s.threads n.threads runs w.each

    same : Replies P Q t s.threads s.threads
    same = same_replies P Q t s.threads runs

    thread_replies : (signal : ℕ → State → Interruption) → ((u : ℕ) (n : State) → Woken P s n → Woken P s (signal u n).state) → (u : ℕ) (o : Option Thread) → Replies P Q t s.threads (signal_thread signal u s o).state.threads
    thread_replies signal one u None = same
    thread_replies signal one u (Some thread) = woken_replies (signal u s).state (one u s (stays_woken P s rests))

    group_replies : (signal : ℕ → State → Interruption) → ((u : ℕ) (n : State) → Woken P s n → Woken P s (signal u n).state) → (group : ℕ) → Replies P Q t s.threads (signal_group signal group s).state.threads
    group_replies signal one group = woken_replies (each signal (members group s) s).state (each_woken signal one (members group s) s (stays_woken P s rests))

    set_replies : (p : ℕ) (o : Option (List (ℕ × List ℕ))) → Replies P Q t s.threads (handlers_set p o s).state.threads
    set_replies p None = same
    set_replies p (Some handlers) = same

    notify_in_replies : (p : ℕ) (on : Bool) (id : ℕ) (prefix : List ℕ) (o : Option Proc) → Replies P Q t s.threads (notify_in p on id prefix s o).state.threads
    notify_in_replies p on id prefix None = same
    notify_in_replies p on id prefix (Some proc) = set_replies p (notified on id prefix proc.handlers)

    notify_replies : (on : Bool) (id : ℕ) (prefix : List ℕ) (o : Option Thread) → Replies P Q t s.threads (notify on id prefix s o).state.threads
    notify_replies on id prefix None = same
    notify_replies on id prefix (Some caller) =
        if_replies P Q t s.threads (is_no_note prefix) _ _ (λ _. same) (λ _. notify_in_replies caller.proc_no on id prefix (by_id s.procs caller.proc_no))

    post_replies : ((u : ℕ) → P u Interrupted) → (p : ℕ) (note : List ℕ) → Replies P Q t s.threads (post p note s).state.threads
    post_replies holds p note =
        if_replies P Q t s.threads (is_no_note note || not (is_alive p s)) _ _ (λ _. same)
        (λ _. woken_replies (with_posted p note s) (interrupted_woken holds (find (meets_in p s.threads) s.waits) (with_proc (with_note note) p s) (record { each = (stays_woken P s rests).each; rests = rests })))

-- a request that interrupts threads, or is about the handlers of notes
pub signal_replies : (Q : Answer → Type 0) (t : ℕ) (r : SignalReq) (s : State) → place_of s.threads t ≡ Running → Rests s.threads s.waits → Replies (λ u a. (signal_interrupts r ≡ true) × (a ≡ Interrupted)) Q t s.threads (signal_call t r s).state.threads
unfolding signal_call
signal_replies Q t (ask.ThreadInt u) s runs rests =
    let P : ℕ → Answer → Type 0 = λ u a. (true ≡ true) × (a ≡ Interrupted) in
    thread_replies P s Q t runs rests interrupt (interrupt_woken P s (λ u. (refl, refl))) u (by_id s.threads u)
signal_replies Q t (ask.ThreadKill u) s runs rests =
    let P : ℕ → Answer → Type 0 = λ u a. (true ≡ true) × (a ≡ Interrupted) in
    thread_replies P s Q t runs rests kill (kill_woken P s (λ u. (refl, refl))) u (by_id s.threads u)
signal_replies Q t (ask.ThreadIntGrp group) s runs rests =
    let P : ℕ → Answer → Type 0 = λ u a. (true ≡ true) × (a ≡ Interrupted) in
    group_replies P s Q t runs rests interrupt (interrupt_woken P s (λ u. (refl, refl))) group
signal_replies Q t (ask.ThreadKillGrp group) s runs rests =
    let P : ℕ → Answer → Type 0 = λ u a. (true ≡ true) × (a ≡ Interrupted) in
    group_replies P s Q t runs rests kill (kill_woken P s (λ u. (refl, refl))) group
signal_replies Q t (ask.ThreadNotify on id prefix) s runs rests = notify_replies (λ u a. (false ≡ true) × (a ≡ Interrupted)) s Q t runs rests on id prefix (by_id s.threads t)
signal_replies Q t (ask.PostNote p note) s runs rests = post_replies (λ u a. (true ≡ true) × (a ≡ Interrupted)) s Q t runs rests (λ u. (refl, refl)) p note
