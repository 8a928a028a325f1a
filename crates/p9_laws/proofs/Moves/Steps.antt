-- Each step of a legal history keeps what is known of the values on channels, and so does the whole history.
use Rattle.std.proofs.Common.{◌≡◌, ℕ, ◌+◌, true, eqb, List, [], ◌∷◌, ◌++◌, length, Option, Some, None, refl, ap, subst, sym, ◌∙◌, arith, append_assoc, length-append}
use Rattle.std.specs.Prelude.{slice_get}
use Rattle.std.specs.List.{fold}
use Rattle.std.proofs.lemmas.List.{append-nil}
use Rattle.p9_word.specs.declared.request.Request.{Request}
use Rattle.p9_word.specs.declared.request.Request.TheVariants.{Chan as ChanRequest}
use Rattle.p9_word.specs.declared.request.ChanReq.{ChanReq}
use Rattle.p9_word.specs.declared.setup.Setup.{Setup}
use Rattle.p9_word.specs.declared.trail.Entry.{Entry}
use Rattle.p9_word.specs.declared.trail.Event.{Event}
use Rattle.p9_word.specs.declared.trail.Event.TheVariants.{Call, Next, IoTake, IoDid}
use Rattle.p9_word.specs.declared.trail.Reply.{Reply}
use Rattle.p9_word.specs.declared.trail.Reply.TheVariants.{Waits}
use Rattle.p9_word.specs.declared.trail.Seat.{Seat}
use Rattle.p9_word.specs.declared.trail.Seat.TheVariants.{Proc, Io as IoSeat}
use Rattle.p9_manual.specs.Offers.{Alternation, alternation, alternation_of, parties}
use Rattle.p9_manual.specs.ReadyEntries.{fits}
use Rattle.p9_manual.specs.Alt.{Verdict, AllClosed, Commits, NoneReady, MustWait, decided, verdict_of, with_draw, alt}
use Rattle.p9_manual.specs.Signals.{signal_call}
use Rattle.p9_laws.specs.Senders.{entries_in}
use Rattle.p9_manual.specs.Chans.{chan_call, by_alternation, on_channel}
use Rattle.p9_manual.specs.Ioprocs.{io_call, io_event}
use Rattle.p9_manual.specs.Locks.{lock_call}
use Rattle.p9_manual.specs.Next.{next_event}
use Rattle.p9_laws.specs.Moves.{moves_from}
use Rattle.p9_laws.proofs.Moves.Moved.{moved_in, moved_by_call, moved_at, moves-first}
use Rattle.p9_manual.specs.History.{after_entry, IsLegalFrom}
use Rattle.p9_manual.specs.Sound.{IsSound}
use Rattle.p9_manual.specs.Ends.{ended}
use Rattle.p9_manual.specs.State.{Move, State, Outcome}
use Rattle.p9_manual.specs.Step.{outcome, step, counted, makes_entry}
use Rattle.p9_laws.proofs.Groups.{Kind, Plain, OfSignals, OfChans, OfLocks, OfIoprocs, served_kind, CallOf, Strays, Dies, Serves, call_of}
use Rattle.p9_laws.proofs.Moves.Sent.{Asks}
use Rattle.p9_laws.proofs.Moves.Kept.{kept_later, kept_longer}
use Rattle.p9_laws.proofs.Moves.Verdicts.{KeptIn, alt_kept}
use Rattle.p9_laws.proofs.Moves.Requests.{Leaves, asked_leaves, ended_leaves, signal_call_leaves, on_channel_leaves, lock_call_leaves, io_call_leaves, io_event_leaves, next_event_leaves}

-- a call that asks for an alt, and is answered later
pub asks_here : (H : List Entry) (at : ℕ) (seat : Seat) (t : ℕ) (r : Request) (reply : Reply) (a : Alternation) → slice_get H at ≡ Some (record { seat = seat; event = Call t r; reply = reply }) → reply ≡ Waits → alternation_of r ≡ Some a → Asks a.entries (slice_get H at)
asks_here H at seat t r reply a here waits is =
    record { call = record { seat = seat; event = Call t r; reply = reply }; is_there = here; waits = waits; has = ap entries_in is }

decided_waits : (t : ℕ) (request : Request) (s : State) (v : Verdict) → (decided t request s v).reply ≡ Waits
decided_waits t request s AllClosed = refl
decided_waits t request s (Commits d) = refl
decided_waits t request s NoneReady = refl
decided_waits t request s MustWait = refl

-- an alt that fits is answered later
alt_waits : (setup : Setup) (t : ℕ) (request : Request) (a : Alternation) (s : State) → fits s.chans a.entries ≡ true → (alt setup t request a s).reply ≡ Waits
alt_waits setup t request a s f = rw f (decided_waits t request (with_draw a.entries s) (verdict_of setup t a s))

-- no value leaves a channel
nothing_moves : (H : List Entry) (ms : List Move) (s later : State) → Leaves s later → KeptIn H s.position ms s → KeptIn H (s.position + 1) (ms ++ []) later
nothing_moves H ms s later leaves k = rw append-nil (leaves H (s.position + 1) ms (kept_later H s.position ms s.chans (parties s.waits) k))

by_alternation_kept : (setup : Setup) (H : List Entry) (ms : List Move) (seat : Seat) (t : ℕ) (r : ChanReq) (s : State) (o : Option Alternation) → alternation r ≡ o → slice_get H s.position ≡ Some (record { seat = seat; event = Call t (ChanRequest r); reply = (by_alternation setup t r s o).reply }) → IsSound setup s → KeptIn H s.position ms s → KeptIn H (s.position + 1) (ms ++ moved_in setup t s o) (by_alternation setup t r s o).state
by_alternation_kept setup H ms seat t r s None is here sound k = nothing_moves H ms s (on_channel r s).state (on_channel_leaves r s) k
by_alternation_kept setup H ms seat t r s (Some a) is here sound k =
    alt_kept H ms setup t (ChanRequest r) a s is
    (λ f. asks_here H s.position seat t (ChanRequest r) _ a here (alt_waits setup t (ChanRequest r) a s f) is) sound.waits_right sound.within k

kind_kept : (setup : Setup) (H : List Entry) (ms : List Move) (seat : Seat) (t : ℕ) (s : State) (r : Request) (o : Outcome) → Kind setup t s r o → slice_get H s.position ≡ Some (record { seat = seat; event = Call t r; reply = o.reply }) → IsSound setup s → KeptIn H s.position ms s → KeptIn H (s.position + 1) (ms ++ moved_in setup t s (alternation_of r)) o.state
unfolding chan_call
kind_kept setup H ms seat t s _ _ (Plain r o no_alt does) here sound k = rw no_alt (nothing_moves H ms s o.state (asked_leaves setup t s o does) k)
kind_kept setup H ms seat t s _ _ (OfSignals r) here sound k = nothing_moves H ms s (signal_call t r s).state (signal_call_leaves t r s) k
kind_kept setup H ms seat t s _ _ (OfChans r) here sound k = by_alternation_kept setup H ms seat t r s (alternation r) refl here sound k
kind_kept setup H ms seat t s _ _ (OfLocks r) here sound k = nothing_moves H ms s (lock_call setup t r s).state (lock_call_leaves setup t r s) k
kind_kept setup H ms seat t s _ _ (OfIoprocs r) here sound k = nothing_moves H ms s (io_call setup t r s).state (io_call_leaves setup t r s) k

-- an entry of a history, which has the reply of this outcome
abbrev pub IsHere : List Entry → ℕ → Seat → Event → Outcome → Type 0
IsHere H at seat event o = slice_get H at ≡ Some (record { seat = seat; event = event; reply = o.reply })

stays : (H : List Entry) (ms : List Move) (s : State) → KeptIn H s.position ms s → KeptIn H (s.position + 1) (ms ++ []) s
stays H ms s k = nothing_moves H ms s s (λ H n ms h. h) k

-- a call: its thread runs there and goes on, or nothing moves
call_kept : (setup : Setup) (H : List Entry) (ms : List Move) (p t : ℕ) (r : Request) (s : State) (o : Outcome) → CallOf setup p t r s o → IsHere H s.position (Proc p) (Call t r) o → IsSound setup s → KeptIn H s.position ms s → KeptIn H (s.position + 1) (ms ++ moved_by_call setup p t r s) o.state
call_kept setup H ms p t r s _ (Strays elsewhere) here sound k = rw elsewhere (stays H ms s k)
call_kept setup H ms p t r s _ (Dies there doomed) here sound k = rw (there, doomed) (nothing_moves H ms s (ended t s) (ended_leaves (λ u. eqb u t) s) k)
call_kept setup H ms p t r s _ (Serves there undoomed) here sound k = rw (there, undoomed) (kind_kept setup H ms (Proc p) t s r _ (served_kind setup t r s) here sound k)

outcome_kept : (setup : Setup) (H : List Entry) (ms : List Move) (seat : Seat) (event : Event) (s : State) → IsHere H s.position seat event (outcome setup seat event s) → IsSound setup s → KeptIn H s.position ms s → KeptIn H (s.position + 1) (ms ++ moved_at setup seat event s) (outcome setup seat event s).state
unfolding outcome
outcome_kept setup H ms (Proc p) (Call t r) s here sound k = call_kept setup H ms p t r s _ (call_of setup p t r s) here sound k
outcome_kept setup H ms (Proc p) Next s here sound k = nothing_moves H ms s (next_event setup p s).state (next_event_leaves setup p s) k
outcome_kept setup H ms (Proc p) IoTake s here sound k = stays H ms s k
outcome_kept setup H ms (Proc p) (IoDid effect) s here sound k = stays H ms s k
outcome_kept setup H ms (IoSeat q) IoTake s here sound k = nothing_moves H ms s (io_event q s None).state (io_event_leaves q s None) k
outcome_kept setup H ms (IoSeat q) (IoDid effect) s here sound k = nothing_moves H ms s (io_event q s (Some effect)).state (io_event_leaves q s (Some effect)) k
outcome_kept setup H ms (IoSeat q) (Call t r) s here sound k = stays H ms s k
outcome_kept setup H ms (IoSeat q) Next s here sound k = stays H ms s k

-- a state after a history, with the values that moved
pub record Follows (H : List Entry) (ms : List Move) (s : State) : Type 0 where
  pub counted : s.position ≡ length H
  pub kept : KeptIn H s.position ms s

pub last_of : {A : Type 0} (y : A) → (xs : List A) → slice_get (xs ++ y ∷ []) (length xs) ≡ Some y
last_of y [] = refl
last_of y (x ∷ xs) = last_of y xs

next_position : (s : State) (o : Outcome) → makes_entry o.reply ≡ true → (counted s o).state.position ≡ s.position + 1
next_position s o h = rw h refl

counted_kept : (H : List Entry) (n : ℕ) (ms : List Move) (s : State) (o : Outcome) → makes_entry o.reply ≡ true → KeptIn H n ms o.state → KeptIn H n ms (counted s o).state
counted_kept H n ms s o h k = rw h k

-- an entry has the reply that is the step's
pub with_reply : (e : Entry) (reply : Reply) → e.reply ≡ reply → (found : Option Entry) → found ≡ Some e → found ≡ Some (record { seat = e.seat; event = e.event; reply = reply })
with_reply e reply told found here = rw (← told) here

-- what is known goes on with an entry
pub step_follows : (setup : Setup) (H : List Entry) (ms : List Move) (s : State) (e : Entry) → IsSound setup s → e.reply ≡ (step setup e.seat e.event s).reply → makes_entry e.reply ≡ true → Follows H ms s → Follows (H ++ e ∷ []) (ms ++ moved_at setup e.seat e.event s) (after_entry setup s e)
unfolding step
step_follows setup H ms s e sound told made f =
    let makes = subst (λ (r : Reply). makes_entry r ≡ true) told made in
    let n : (after_entry setup s e).position ≡ s.position + 1 = next_position s (outcome setup e.seat e.event s) makes in
    let here : slice_get (H ++ e ∷ []) s.position ≡ Some e = ap (slice_get (H ++ e ∷ [])) f.counted ∙ last_of e H in
    let replied : IsHere (H ++ e ∷ []) s.position e.seat e.event (outcome setup e.seat e.event s) = with_reply e _ told (slice_get (H ++ e ∷ []) s.position) here in
    let kept = outcome_kept setup (H ++ e ∷ []) ms e.seat e.event s replied sound (kept_longer H (e ∷ []) s.position ms s.chans (parties s.waits) f.kept) in
    record {
      counted = let c = f.counted in let l = length-append H (e ∷ []) in omega (arith, n, c, l);
      kept = rw n (counted_kept _ _ _ s (outcome setup e.seat e.event s) makes kept);
    }

-- each step keeps a sound state sound
abbrev pub StepsSound : Setup → Type 0
StepsSound setup = (s : State) (e : Entry) → IsSound setup s → IsSound setup (after_entry setup s e)

pub history_follows : (setup : Setup) → StepsSound setup → (es H : List Entry) (ms : List Move) (s : State) → IsSound setup s → IsLegalFrom setup s es → Follows H ms s → Follows (H ++ es) (ms ++ moves_from setup s es) (fold (after_entry setup) s es)
history_follows setup steps [] H ms s sound legal f = rw (append-nil H, append-nil ms) f
history_follows setup steps (e ∷ es) H ms s sound legal f =
    let one = step_follows setup H ms s e sound legal.0 legal.1 f in
    let rest = history_follows setup steps es (H ++ e ∷ []) (ms ++ moved_at setup e.seat e.event s) (after_entry setup s e) (steps s e sound) legal.2 one in
    rw (moves-first setup s e es, sym (append_assoc H (e ∷ []) es), sym (append_assoc ms (moved_at setup e.seat e.event s) (moves_from setup (after_entry setup s e) es))) rest
