-- Whole histories: the state at the start, the state after a history, and which histories are legal.
use Rattle.std.specs.Prelude.{ℕ, true, false, ◌+◌, ◌≡◌, List, [], ◌∷◌, ◌++◌, None, map, replicate, if◌then◌else◌}
use Rattle.std.specs.List.{fold}
use Rattle.p9_word.specs.declared.trail.Seat.{Seat}
use Rattle.p9_word.specs.declared.trail.Event.{Event}
use Rattle.p9_word.specs.declared.trail.Reply.{Reply}
use Rattle.p9_word.specs.declared.trail.Entry.{Entry}
use Rattle.p9_word.specs.declared.setup.Setup.{Setup}
use Rattle.p9_word.specs.declared.setup.ThreadSetup.{ThreadSetup}
use Rattle.p9_word.specs.declared.setup.ChanSetup.{ChanSetup}
use Rattle.p9_manual.specs.declared.state.Thread.{Thread}
use Rattle.p9_manual.specs.declared.state.Channel.{Channel}
use Rattle.p9_manual.specs.declared.state.Place.TheVariants.{New}
use Rattle.p9_manual.specs.declared.state.Ioproc.TheVariants.{Unmade}
use Rattle.p9_manual.specs.State.{State, Proc}
use Rattle.p9_manual.specs.Holds.{Holds}
use Rattle.p9_manual.specs.Step.{step, makes_entry}

-- the numbers from n on, one for each item
abbrev pub ids_from : {A : Type 0} → ℕ → List A → List ℕ
ids_from n [] = []
ids_from n (x ∷ xs) = n ∷ ids_from (n + 1) xs

-- a thread of the setup, which has not run yet
abbrev pub new_thread : ThreadSetup → Thread
new_thread t =
    record { proc_no = t.proc_no; program = t.program; arg = t.arg; group = 0; name = t.name; word = 0; marked = false; place = New }

-- a channel of the setup, open and without elements
abbrev pub new_channel : ChanSetup → Channel
new_channel c = record { cap = c.cap; elsize = c.elsize; closed = false; freed = false; elements = [] }

-- a proc place at the start: its word is 0
abbrev pub new_proc : Proc
new_proc = record { word = 0; handlers = []; pending = [] }

-- nobody holds anything
abbrev pub no_holds : Setup → Holds
no_holds setup =
    record {
      locks = replicate setup.locks None;
      qlocks = replicate setup.qlocks None;
      rwlocks = replicate setup.rwlocks (record { writer = None; readers = [] });
      refs = setup.refs;
    }

-- all threads are new and stand in the line in their order; nothing is held, drawn or made
abbrev pub begin_state : Setup → State
begin_state setup =
    record {
      threads = map new_thread setup.threads;
      line = ids_from 1 setup.threads;
      waits = [];
      chans = map new_channel setup.chans;
      holds = no_holds setup;
      procs = replicate setup.places new_proc;
      opened = setup.opened;
      ioprocs = replicate setup.files Unmade;
      draws = 0;
      position = 0;
      over = false;
    }

-- the state after one more entry
abbrev pub after_entry : Setup → State → Entry → State
after_entry setup s e = (step setup e.seat e.event s).state

-- the state after a history
unfoldable pub state_after : Setup → List Entry → State
state_after setup history = fold (after_entry setup) (begin_state setup) history

-- each reply is that of the step there, and makes an entry
abbrev pub IsLegalFrom : Setup → State → List Entry → Type 0
IsLegalFrom setup s [] = Unit {0}
IsLegalFrom setup s (e ∷ es) =
    (e.reply ≡ (step setup e.seat e.event s).reply) × (makes_entry e.reply ≡ true) × IsLegalFrom setup (after_entry setup s e) es

-- a legal history of a setup
abbrev pub IsLegal : Setup → List Entry → Type 0
IsLegal setup history = IsLegalFrom setup (begin_state setup) history

-- the history after a reply to an event
abbrev pub with_entry : List Entry → Seat → Event → Reply → List Entry
with_entry entries seat event reply =
    if makes_entry reply then entries ++ record { seat = seat; event = event; reply = reply } ∷ [] else entries
