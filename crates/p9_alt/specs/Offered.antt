-- An alt that is offered. alt in thread(2).
use Rattle.std.specs.Prelude.{ℕ, Bool, List}
use Rattle.p9_word.specs.declared.alt.AltEntry.{AltEntry}
use Rattle.p9_word.specs.declared.alt.Ending.{Ending}
use Rattle.p9_manual.specs.declared.state.Party.{Party}
use Rattle.p9_manual.specs.Alt.{Verdict, verdict}
use Rattle.p9_alt.specs.Exchange.{Exchange}

-- the thread that offers it, by the call at this position of the trail
abbrev pub caller : ℕ → ℕ → List AltEntry → Bool → Party
caller tid at entries single = record { tid = tid; at = at; single = single; entries = entries }

-- what becomes of it
abbrev pub offered : ℕ → Party → Ending → Exchange → Verdict
offered w me ending x = verdict w me ending x.channels.chans x.waits
