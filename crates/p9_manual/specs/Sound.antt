-- What holds of the state after every history. This project's own.
use Rattle.std.specs.Prelude.{ℕ, ◌≡◌, ◌≤◌, ◌==◌, ◌+◌, ◌||◌, ◌⊎◌, All, Bool, true, false, List, [], ◌∷◌, Option, Some, None, if◌then◌else◌, length, map}
use Rattle.std.specs.List.{flat_map, list_any}
use Rattle.std.specs.Option.{is_some}
use Rattle.p9_word.specs.Setup.{IsBetween}
use Rattle.p9_word.specs.declared.setup.Setup.{Setup}
use Rattle.p9_word.specs.declared.request.Request.{Request}
use Rattle.p9_word.specs.declared.request.Request.TheVariants.{Thread as ThreadRequest, Signal as SignalRequest, Chan as ChanRequest, Lock as LockRequest, Io as IoRequest}
use Rattle.p9_word.specs.declared.request.IoReq.TheVariants.{IoRun}
use Rattle.p9_word.specs.declared.io_call.IoCall.{IoCall}
use Rattle.p9_manual.specs.declared.state.Thread.{Thread}
use Rattle.p9_manual.specs.declared.state.Waiter.{Waiter}
use Rattle.p9_manual.specs.declared.state.Channel.{Channel}
use Rattle.p9_manual.specs.declared.state.Ioproc.{Ioproc}
use Rattle.p9_manual.specs.declared.state.Ioproc.TheVariants.{Posted, Begun}
use Rattle.p9_manual.specs.Effects.{message_length}
use Rattle.p9_manual.specs.LockWaits.{lock_waiters, wait_for}
use Rattle.p9_manual.specs.Standing.{StandOnce, IsRising, times}
use Rattle.p9_manual.specs.Offers.{alternation, parties}
use Rattle.p9_manual.specs.AltEntries.{sends_on, receives_on, waits_on}
use Rattle.p9_manual.specs.ReadyEntries.{has_room, has_element}
use Rattle.p9_manual.specs.NoteCalls.{note_in}
use Rattle.p9_manual.specs.Places.{lives_in}
use Rattle.p9_manual.specs.SoundLocks.{WaitInTurn}
use Rattle.p9_manual.specs.State.{State, Proc, by_id}

-- a thread is in one of the open procs and has one of the programs
pub record IsThreadIn (opened programs : ℕ) (t : Thread) : Type 0 where
  pub proc_no : IsBetween 1 opened t.proc_no
  pub program : IsBetween 1 programs t.program

-- the requests in which threads wait: alts, those for locks and to meet, and calls through ioprocs
abbrev pub can_wait : Request → Bool
can_wait (ChanRequest r) = is_some (alternation r)
can_wait (LockRequest r) = is_some (wait_for r)
can_wait (IoRequest (IoRun k call)) = true
can_wait (IoRequest r) = false
can_wait (ThreadRequest r) = false
can_wait (SignalRequest r) = false

-- no send waits on this channel: it is closed or has room, or isn't there
abbrev pub takes_sends : Option Channel → Bool
takes_sends None = true
takes_sends (Some chan) = chan.closed || has_room chan

-- no receive waits on it: it is closed or has an element, or isn't there
abbrev pub takes_receives : Option Channel → Bool
takes_receives None = true
takes_receives (Some chan) = chan.closed || has_element chan

-- what threads wait in
pub record WaitRightly (chans : List Channel) (waits : List Waiter) : Type 0 where
  -- each waits in a request that can wait
  pub kinds : All (λ w. can_wait w.request ≡ true) waits
  -- nobody waits to send where a send goes on at once
  pub sends : (c : ℕ) → takes_sends (by_id chans c) ≡ true → times (sends_on c) (parties waits) ≡ 0
  -- nobody waits to receive where a receive goes on at once
  pub receives : (c : ℕ) → takes_receives (by_id chans c) ≡ true → times (receives_on c) (parties waits) ≡ 0
  -- on each channel no thread waits to send, or none to receive, or only one thread waits
  pub unpaired : (c : ℕ)
      → (times (sends_on c) (parties waits) ≡ 0) ⊎ ((times (receives_on c) (parties waits) ≡ 0) ⊎ (times (waits_on c) (parties waits) ≤ 1))

-- a channel has at most as many elements as its capacity says
abbrev pub IsWithin : Channel → Type 0
IsWithin chan = length chan.elements ≤ chan.cap

-- the positions of the calls in which threads wait: each was made before now, and those in alts came in this order. A woken
-- sleeper stands last with the position of its rsleep
pub record InOrder (position : ℕ) (waits : List Waiter) : Type 0 where
  pub before : All (λ w. w.at + 1 ≤ position) waits
  pub rising : IsRising (map (λ w. w.at) (parties waits))

-- the call at ioproc k that thread t makes by a request, with t
abbrev pub call_in : ℕ → ℕ → Request → List (ℕ × IoCall)
call_in k t (IoRequest (IoRun j call)) = if j == k then (t, call) ∷ [] else []
call_in k t request = []

-- the call at ioproc k that a waiting thread made, with the thread
abbrev pub call_at : ℕ → Waiter → List (ℕ × IoCall)
call_at k w = call_in k w.tid w.request

-- the calls at ioproc k in which threads wait, each with its thread
abbrev pub waiting_calls : ℕ → List Waiter → List (ℕ × IoCall)
waiting_calls k waits = flat_map (call_at k) waits

-- the call that an ioproc has, posted or begun, with the thread that it is for
abbrev pub call_of : Option Ioproc → List (ℕ × IoCall)
call_of (Some (Posted t call)) = (t, call) ∷ []
call_of (Some (Begun (Some t) call)) = (t, call) ∷ []
call_of ioproc = []

-- the length of the message in an ioproc's call
abbrev pub message_at : Option Ioproc → ℕ
message_at (Some (Posted t call)) = message_length call
message_at (Some (Begun for call)) = message_length call
message_at ioproc = 0

-- the calls of ioprocs
pub record CallsMatch (ioprocs : List Ioproc) (waits : List Waiter) : Type 0 where
  -- the call that an ioproc has for a thread is the only call there in which a thread waits, and it is that thread
  pub calls : (k : ℕ) → waiting_calls k waits ≡ call_of (by_id ioprocs k)
  -- the message in a call has at most 4,294,967,295 bytes
  pub messages : (k : ℕ) → message_at (by_id ioprocs k) ≤ 4294967295

-- a proc with a pending note has a living thread
abbrev pub AreNotesRead : List Proc → List Thread → Type 0
AreNotesRead procs threads = (p : ℕ) → is_some (note_in (by_id procs p)) ≡ true → list_any (lives_in p) threads ≡ true

-- a sound state of a setup
pub record IsSound (setup : Setup) (s : State) : Type 0 where
  -- each thread stands where its place says
  pub stand : StandOnce s.threads s.line s.waits
  -- each thread is in an open proc and has a program of the setup
  pub members : All (IsThreadIn s.opened setup.programs) s.threads
  -- each open proc has a place
  pub opened : s.opened ≤ setup.places
  -- nobody waits on a channel where it could go on, nor on one beside its partner
  pub waits_right : WaitRightly s.chans s.waits
  -- no channel has more elements than it may have
  pub within : All IsWithin s.chans
  -- threads wait in turn for locks and to meet, and one alone holds a held proc
  pub in_turn : WaitInTurn s.threads s.holds (lock_waiters s.waits)
  -- the alts among the waits stand in the order of their calls
  pub order : InOrder s.position s.waits
  -- ioprocs and the threads that wait for them agree
  pub calls : CallsMatch s.ioprocs s.waits
  -- no note is pending where nobody lives
  pub notes : AreNotesRead s.procs s.threads
