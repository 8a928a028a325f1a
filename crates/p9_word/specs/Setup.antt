-- When a setup is valid: what a run starts from keeps the limits. All of this is this project's own.
use Rattle.std.specs.Prelude.{ℕ, ◌≤◌, length, All}
use Rattle.p9_word.specs.declared.limits.TheConstants.{MOST_PLACES, MOST_THREADS, MOST_NAME_BYTES, MOST_CHANNELS, MOST_ELEMENTS, MOST_ELEMENT_BYTES, MOST_LOCKS, MOST_RENDEZES, MOST_REFS, MOST_FILES}
use Rattle.p9_word.specs.declared.setup.Setup.{Setup}
use Rattle.p9_word.specs.declared.setup.ThreadSetup.{ThreadSetup}
use Rattle.p9_word.specs.declared.setup.ChanSetup.{ChanSetup}

-- n is one of low to high
pub record IsBetween (low high n : ℕ) : Type 0 where
  pub from : low ≤ n
  pub to : n ≤ high

-- a thread stands in a proc that is open at the start and has one of the programs; a name isn't too long
pub record IsThreadOf (opened programs : ℕ) (t : ThreadSetup) : Type 0 where
  pub proc_no : IsBetween 1 opened t.proc_no
  pub program : IsBetween 1 programs t.program
  pub name : length t.name ≤ MOST_NAME_BYTES

-- a channel holds no elements or more, of one byte or more
pub record IsChan (c : ChanSetup) : Type 0 where
  pub cap : c.cap ≤ MOST_ELEMENTS
  pub elsize : IsBetween 1 MOST_ELEMENT_BYTES c.elsize

-- how many of each sort there may be
pub record HasLimits (s : Setup) : Type 0 where
  pub threads : length s.threads ≤ MOST_THREADS
  pub chans : length s.chans ≤ MOST_CHANNELS
  pub locks : s.locks ≤ MOST_LOCKS
  pub qlocks : s.qlocks ≤ MOST_LOCKS
  pub rwlocks : s.rwlocks ≤ MOST_LOCKS
  pub rendezes : length s.rendezes ≤ MOST_RENDEZES
  pub refs : length s.refs ≤ MOST_REFS
  pub files : s.files ≤ MOST_FILES
  pub procs : s.procs ≤ MOST_PLACES

-- one proc place or more, some of them open; each thread, channel and Rendez is one that can be
pub record IsValid (s : Setup) : Type 0 where
  pub places : IsBetween 1 MOST_PLACES s.places
  pub opened : IsBetween 1 s.places s.opened
  pub limits : HasLimits s
  pub threads : All (IsThreadOf s.opened s.programs) s.threads
  pub chans : All IsChan s.chans
  pub rendezes : All (IsBetween 1 s.qlocks) s.rendezes
