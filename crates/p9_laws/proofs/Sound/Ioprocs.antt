-- The requests on ioprocs, and what ioprocs do, keep a sound state sound.
use Rattle.std.proofs.Common.{◌≡◌, ◌≤◌, ℕ, ◌+◌, ◌-◌, false, not, ◌||◌, ltb, [], ◌∷◌, Option, Some, None, refl, ap, ◌∙◌, arith, rules, tests}
use Rattle.std.specs.List.{list_any}
use Rattle.p9_word.specs.declared.setup.Setup.{Setup}
use Rattle.p9_word.specs.declared.answer.Answer.{Answer}
use Rattle.p9_word.specs.declared.answer.Answer.TheVariants.{Done, Interrupted, Number}
use Rattle.p9_word.specs.declared.trail.Reply.TheVariants.{Over, Stray, Idle as IdleReply}
use Rattle.p9_word.specs.declared.request.IoReq.{IoReq}
use Rattle.p9_word.specs.declared.request.IoReq.TheVariants.{IoProc, IoRun, IoInterrupt, CloseIoProc}
use Rattle.p9_word.specs.declared.io_call.IoCall.{IoCall}
use Rattle.p9_word.specs.declared.io_call.Effect.{Effect}
use Rattle.p9_word.specs.declared.request.Request.TheVariants.{Io as IoRequest}
use Rattle.p9_manual.specs.declared.state.Place.TheVariants.{Waiting}
use Rattle.p9_manual.specs.declared.state.Ioproc.{Ioproc}
use Rattle.p9_manual.specs.declared.state.Ioproc.TheVariants.{Unmade, Idle, Posted, Begun, Closed}
use Rattle.p9_manual.specs.Effects.{fits, message_length}
use Rattle.p9_manual.specs.Places.{lives}
use Rattle.p9_manual.specs.State.{State, by_id, changed, wake}
use Rattle.p9_manual.specs.Ioprocs.{with_ioproc, make, post_call, interrupt_begun, interrupt_call, close_ioproc, io_call, take_call, answered, did_call, io_event}
use Rattle.p9_manual.specs.Sound.{IsSound, call_of, message_at}
use Rattle.p9_laws.proofs.Sound.InTurn.{aside_in_turn}
use Rattle.p9_laws.proofs.Sound.Waits.{calling_rightly}
use Rattle.p9_laws.proofs.Sound.Calls.{kept_match, posted_match, called_waits, freed_match}
use Rattle.p9_laws.proofs.Sound.Outcomes.{IsFine, IsSafe, RunsIn, if_fine, if_safe, same_safe, now_fine, bad_fine, wait_of, waiting_fine, at_position, later_sound}
use Rattle.p9_laws.proofs.Sound.Woken.{woken_sound_with}

-- an ioproc that has the same call for the same thread as before
with_ioproc_sound : (setup : Setup) (s : State) (k : ℕ) (old io : Ioproc) → by_id s.ioprocs k ≡ Some old → call_of (Some io) ≡ call_of (Some old) → message_at (Some io) ≤ message_at (Some old) → IsSound setup s → IsSound setup (with_ioproc k io s)
with_ioproc_sound setup s k old io e call short sound =
    record {
      stand = sound.stand;
      members = sound.members;
      opened = sound.opened;
      waits_right = sound.waits_right;
      within = sound.within;
      in_turn = sound.in_turn;
      order = sound.order;
      calls = kept_match s.ioprocs s.waits k old io e call short sound.calls;
      notes = sound.notes;
    }

-- an ioproc that had a call for a thread has none for anybody, and that thread is woken
freed_sound : (setup : Setup) (s : State) (t k : ℕ) (call : IoCall) (old io : Ioproc) (a : Answer) → by_id s.ioprocs k ≡ Some old → call_of (Some old) ≡ (t, call) ∷ [] → call_of (Some io) ≡ [] → message_at (Some io) ≤ message_at (Some old) → IsSound setup s → IsSound setup (wake t a (with_ioproc k io s))
freed_sound setup s t k call old io a e had none short sound =
    let here = called_waits s.threads s.line s.waits s.ioprocs t k call (ap call_of e ∙ had) sound.stand sound.calls in
    woken_sound_with setup s (changed (λ _. io) s.ioprocs (k - 1)) t a here.0 (freed_match s.threads s.line s.waits s.ioprocs t k call old io e had none short sound.stand sound.calls) sound

make_fine : (setup : Setup) (k : ℕ) (s : State) (o : Option Ioproc) → by_id s.ioprocs k ≡ o → IsSound setup s → IsFine setup s.position (make k s o)
make_fine setup k s (Some Unmade) e sound = now_fine setup _ (Number k) (with_ioproc_sound setup s k Unmade Idle e refl (omega arith) sound)
make_fine setup k s (Some Idle) e sound = bad_fine setup s sound
make_fine setup k s (Some (Posted t call)) e sound = bad_fine setup s sound
make_fine setup k s (Some (Begun t call)) e sound = bad_fine setup s sound
make_fine setup k s (Some Closed) e sound = bad_fine setup s sound
make_fine setup k s None e sound = bad_fine setup s sound

le_from_ltb : (n m : ℕ) → ltb n m ≡ false → m ≤ n
le_from_ltb n m h = search (rules, tests)

post_call_fine : (setup : Setup) (t k : ℕ) (call : IoCall) (s : State) (o : Option Ioproc) → by_id s.ioprocs k ≡ o → IsSound setup s → RunsIn s t → IsFine setup s.position (post_call t k call s o)
post_call_fine setup t k call s (Some Idle) e sound runs =
    if_fine setup s.position (ltb 4294967295 (message_length call)) _ _ (λ _. bad_fine setup s sound)
    (λ h. waiting_fine setup (with_ioproc k (Posted t call) s) t _ (record { stand = sound.stand; members = sound.members; opened = sound.opened; within = sound.within; order = sound.order; notes = sound.notes }) runs
    (calling_rightly s.chans s.waits t k s.position call sound.waits_right)
    (posted_match s.ioprocs s.waits t k s.position call e (le_from_ltb 4294967295 (message_length call) h) sound.calls)
    (aside_in_turn s.threads s.holds s.waits (wait_of t (IoRequest (IoRun k call)) s) t Waiting refl refl sound.in_turn))
post_call_fine setup t k call s (Some Unmade) e sound runs = bad_fine setup s sound
post_call_fine setup t k call s (Some (Posted u other)) e sound runs = bad_fine setup s sound
post_call_fine setup t k call s (Some (Begun u other)) e sound runs = bad_fine setup s sound
post_call_fine setup t k call s (Some Closed) e sound runs = bad_fine setup s sound
post_call_fine setup t k call s None e sound runs = bad_fine setup s sound

close_ioproc_fine : (setup : Setup) (k : ℕ) (s : State) (o : Option Ioproc) → by_id s.ioprocs k ≡ o → IsSound setup s → IsFine setup s.position (close_ioproc k s o)
close_ioproc_fine setup k s (Some Idle) e sound = now_fine setup _ Done (with_ioproc_sound setup s k Idle Closed e refl (omega arith) sound)
close_ioproc_fine setup k s (Some Unmade) e sound = bad_fine setup s sound
close_ioproc_fine setup k s (Some (Posted t call)) e sound = bad_fine setup s sound
close_ioproc_fine setup k s (Some (Begun t call)) e sound = bad_fine setup s sound
close_ioproc_fine setup k s (Some Closed) e sound = bad_fine setup s sound
close_ioproc_fine setup k s None e sound = bad_fine setup s sound

interrupt_begun_fine : (setup : Setup) (k : ℕ) (call : IoCall) (s : State) (o : Option ℕ) → by_id s.ioprocs k ≡ Some (Begun o call) → IsSound setup s → IsFine setup s.position (interrupt_begun k call s o)
interrupt_begun_fine setup k call s None e sound = now_fine setup s (Number 0) sound
interrupt_begun_fine setup k call s (Some t) e sound =
    now_fine setup (wake t Interrupted (with_ioproc k (Begun None call) s)) (Number 1)
    (freed_sound setup s t k call (Begun (Some t) call) (Begun None call) Interrupted e refl refl (omega arith) sound)

interrupt_call_fine : (setup : Setup) (k : ℕ) (s : State) (o : Option Ioproc) → by_id s.ioprocs k ≡ o → IsSound setup s → IsFine setup s.position (interrupt_call k s o)
interrupt_call_fine setup k s (Some (Posted t call)) e sound =
    now_fine setup (wake t Interrupted (with_ioproc k Idle s)) (Number 1)
    (freed_sound setup s t k call (Posted t call) Idle Interrupted e refl refl (omega arith) sound)
interrupt_call_fine setup k s (Some (Begun t call)) e sound = interrupt_begun_fine setup k call s t e sound
interrupt_call_fine setup k s (Some Idle) e sound = now_fine setup s (Number 0) sound
interrupt_call_fine setup k s (Some Unmade) e sound = bad_fine setup s sound
interrupt_call_fine setup k s (Some Closed) e sound = bad_fine setup s sound
interrupt_call_fine setup k s None e sound = bad_fine setup s sound

pub io_call_fine : (setup : Setup) (t : ℕ) (r : IoReq) (s : State) → IsSound setup s → RunsIn s t → IsFine setup s.position (io_call setup t r s)
unfolding io_call
io_call_fine setup t (IoProc k) s sound runs = make_fine setup k s _ refl sound
io_call_fine setup t (IoRun k call) s sound runs = post_call_fine setup t k call s _ refl sound runs
io_call_fine setup t (IoInterrupt k) s sound runs = interrupt_call_fine setup k s _ refl sound
io_call_fine setup t (CloseIoProc k) s sound runs = close_ioproc_fine setup k s _ refl sound

take_call_safe : (setup : Setup) (k : ℕ) (s : State) (o : Option Ioproc) → by_id s.ioprocs k ≡ o → IsSound setup s → IsSafe setup s (take_call k s o)
take_call_safe setup k s None e sound = same_safe setup s Stray refl sound
take_call_safe setup k s (Some Closed) e sound = same_safe setup s Over refl sound
take_call_safe setup k s (Some (Begun t call)) e sound =
    if_safe setup s (s.over || not (list_any lives s.threads)) _ _ (λ _. same_safe setup s Over refl sound) (λ _. same_safe setup s Stray refl sound)
take_call_safe setup k s (Some (Posted t call)) e sound =
    if_safe setup s (s.over || not (list_any lives s.threads)) _ _ (λ _. same_safe setup s Over refl sound)
    (λ _. record { sound = later_sound setup (with_ioproc k (Begun (Some t) call) s) (with_ioproc_sound setup s k (Posted t call) (Begun (Some t) call) e refl (omega arith) sound); begins = tt })
take_call_safe setup k s (Some Unmade) e sound =
    if_safe setup s (s.over || not (list_any lives s.threads)) _ _ (λ _. same_safe setup s Over refl sound) (λ _. same_safe setup s IdleReply refl sound)
take_call_safe setup k s (Some Idle) e sound =
    if_safe setup s (s.over || not (list_any lives s.threads)) _ _ (λ _. same_safe setup s Over refl sound) (λ _. same_safe setup s IdleReply refl sound)

answered_sound : (setup : Setup) (s : State) (k : ℕ) (o : Option ℕ) (call : IoCall) (effect : Effect) → by_id s.ioprocs k ≡ Some (Begun o call) → IsSound setup s → IsSound setup (at_position (s.position + 1) (answered o effect (with_ioproc k Idle s)))
answered_sound setup s k None call effect e sound = later_sound setup (with_ioproc k Idle s) (with_ioproc_sound setup s k (Begun None call) Idle e refl (omega arith) sound)
answered_sound setup s k (Some t) call effect e sound =
    later_sound setup (answered (Some t) effect (with_ioproc k Idle s)) (freed_sound setup s t k call (Begun (Some t) call) Idle _ e refl refl (omega arith) sound)

did_call_safe : (setup : Setup) (k : ℕ) (effect : Effect) (s : State) (o : Option Ioproc) → by_id s.ioprocs k ≡ o → IsSound setup s → IsSafe setup s (did_call k effect s o)
did_call_safe setup k effect s (Some (Begun t call)) e sound =
    if_safe setup s (fits call effect) _ _ (λ _. record { sound = answered_sound setup s k t call effect e sound; begins = tt }) (λ _. same_safe setup s Stray refl sound)
did_call_safe setup k effect s (Some Unmade) e sound = same_safe setup s Stray refl sound
did_call_safe setup k effect s (Some Idle) e sound = same_safe setup s Stray refl sound
did_call_safe setup k effect s (Some (Posted t call)) e sound = same_safe setup s Stray refl sound
did_call_safe setup k effect s (Some Closed) e sound = same_safe setup s Stray refl sound
did_call_safe setup k effect s None e sound = same_safe setup s Stray refl sound

pub io_event_safe : (setup : Setup) (k : ℕ) (s : State) (o : Option Effect) → IsSound setup s → IsSafe setup s (io_event k s o)
unfolding io_event
io_event_safe setup k s None sound = take_call_safe setup k s _ refl sound
io_event_safe setup k s (Some effect) sound = did_call_safe setup k effect s _ refl sound
