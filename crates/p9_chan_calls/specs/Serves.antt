-- What a request on channels comes to.
use Rattle.std.specs.Prelude.{ℕ, ◌≡◌, Bool, true, List, Some, is_none, if◌then◌else◌, nat_lt, length}
use Rattle.std.specs.List.{filter}
use Rattle.rand_pcg.specs.Lcg.{Lcg}
use Rattle.rand_pcg.specs.Pcg.{pcg32}
use Rattle.p9_word.specs.declared.alt.AltEntry.{AltEntry}
use Rattle.p9_word.specs.declared.alt.Ending.{Ending}
use Rattle.p9_word.specs.declared.request.Request.{Request}
use Rattle.p9_word.specs.declared.setup.Setup.{Setup}
use Rattle.p9_word.specs.declared.trail.Reply.{Reply}
use Rattle.p9_manual.specs.declared.state.Channel.{Channel}
use Rattle.p9_manual.specs.declared.state.Party.{Party}
use Rattle.p9_manual.specs.declared.state.Waiter.{Waiter}
use Rattle.p9_manual.specs.Alt.{alt}
use Rattle.p9_manual.specs.Close.{close}
use Rattle.p9_manual.specs.Offers.{Alternation, alternation_of}
use Rattle.p9_manual.specs.ReadyEntries.{ready_entries, unfreed}
use Rattle.p9_manual.specs.State.{State, Outcome, by_id}
use Rattle.p9_manual.specs.Step.{makes_entry}
use Rattle.p9_alt.specs.Exchange.{Exchange}
use Rattle.p9_sched.specs.Schedule.{Schedule}
use Rattle.p9_chan_calls.specs.For.{PartsFor, IsAt}

-- a wait that is in no alt: it is at a lock, at a Rendez or with a tag, or in a call of an ioproc
abbrev pub is_in_call : Waiter → Bool
is_in_call w = is_none (alternation_of w.request)

-- of a state all stays but the threads, their line, the waits in alts, the channels, and the number of draws
pub record Leaves (s n : State) : Type 0 where
  pub same : n ≡ record s { threads = n.threads; line = n.line; waits = n.waits; chans = n.chans; draws = n.draws }
  pub calls : filter is_in_call n.waits ≡ filter is_in_call s.waits

-- the reply is that of the outcome, the parts stand for the outcome's state, and the rest stays; an entry is made
pub record Serves (setup : Setup) (s : State) (o : Outcome) (reply : Reply) (sched : Schedule) (alts : Exchange) (g : Lcg) : Type 0 where
  pub reply_is : reply ≡ o.reply
  pub parts : PartsFor setup sched alts g o.state
  pub leaves : Leaves s o.state
  pub entry : makes_entry reply ≡ true

-- a request that is answered at once, and touches the alts alone
abbrev pub ServesAlone : (State → Outcome) → Reply → Exchange → Exchange → Type 0
ServesAlone f reply old new =
    (setup : Setup) (sched : Schedule) (g : Lcg) (s : State) → PartsFor setup sched old g s → Serves setup s (f s) reply sched new g

-- whatever sound state with so many entries the old parts stood for, the request comes to what f makes of it
abbrev pub ServesAll : (Setup → State → Outcome) → ℕ → Schedule → Exchange → Lcg → Reply → Schedule → Exchange → Lcg → Type 0
ServesAll f at sched alts g reply new_sched new_alts new_g =
    (setup : Setup) (s : State) → IsAt setup at sched alts g s → Serves setup s (f setup s) reply new_sched new_alts new_g

-- an alt of thread t with these entries, whatever request asks for it
abbrev pub ServesAlt : ℕ → Alternation → ℕ → Schedule → Exchange → Lcg → Reply → Schedule → Exchange → Lcg → Type 0
ServesAlt t a at sched alts g reply new_sched new_alts new_g =
    (setup : Setup) (s : State) (request : Request) → IsAt setup at sched alts g s → alternation_of request ≡ Some a
    → Serves setup s (alt setup t request a s) reply new_sched new_alts new_g

-- the alt of these entries
abbrev pub asked : List AltEntry → Ending → Bool → Alternation
asked entries ending single = record { entries = entries; ending = ending; single = single }

-- channel c is closed, if it can be. No draw is made
abbrev pub ServesClose : ℕ → Schedule → Exchange → Reply → Schedule → Exchange → Type 0
ServesClose c sched alts reply new_sched new_alts =
    (setup : Setup) (at : ℕ) (g : Lcg) (s : State) → IsAt setup at sched alts g s
    → Serves setup s (close c s (unfreed (by_id s.chans c))) reply new_sched new_alts g

-- the draw by which an alt of these entries chooses, and the generator after it: one is made only where there is a choice
abbrev pub draw_for : List Channel → List Party → List AltEntry → Lcg → ℕ × Lcg
draw_for chans waits entries g = if nat_lt 1 (length (ready_entries chans waits entries)) then pcg32 g else (0, g)
