-- What the parts stand for that requests on channels touch.
use Rattle.std.specs.Prelude.{ℕ, ◌≡◌}
use Rattle.rand_pcg.specs.Lcg.{Lcg}
use Rattle.p9_word.specs.declared.setup.Setup.{Setup}
use Rattle.p9_manual.specs.Sound.{IsSound}
use Rattle.p9_manual.specs.State.{State}
use Rattle.p9_manual.specs.Draws.{generator_after}
use Rattle.p9_alt.specs.Exchange.{Exchange}
use Rattle.p9_alt.specs.For.{AltsFor}
use Rattle.p9_sched.specs.Schedule.{Schedule}
use Rattle.p9_sched.specs.Stands.{SchedFor}

-- the threads and procs, the alts with their channels, and the generator after so many draws stand for a state
pub record PartsFor (setup : Setup) (sched : Schedule) (alts : Exchange) (generator : Lcg) (s : State) : Type 0 where
  pub threads : SchedFor setup.places sched s
  pub channels : AltsFor alts s
  pub drawn : generator ≡ generator_after setup.start s.draws

-- they stand for a sound state with so many entries
pub record IsAt (setup : Setup) (at : ℕ) (sched : Schedule) (alts : Exchange) (generator : Lcg) (s : State) : Type 0 where
  pub parts : PartsFor setup sched alts generator s
  pub position : s.position ≡ at
  pub sound : IsSound setup s

-- there is such a state, of some setup
abbrev pub Stands : ℕ → Schedule → Exchange → Lcg → Type 0
Stands at sched alts generator = (setup : Setup) × (s : State) × IsAt setup at sched alts generator s
