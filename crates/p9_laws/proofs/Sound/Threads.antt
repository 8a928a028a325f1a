-- The requests that are no alts and on no ioprocs keep a sound state sound.
use Rattle.std.proofs.Common.{ℕ, eqb, refl}
use Rattle.p9_word.specs.declared.setup.Setup.{Setup}
use Rattle.p9_word.specs.declared.answer.Answer.TheVariants.{Done}
use Rattle.p9_manual.specs.State.{State, Outcome}
use Rattle.p9_manual.specs.Ends.{ended, all_ended}
use Rattle.p9_manual.specs.Sound.{IsSound}
use Rattle.p9_laws.proofs.Asked.{Does, Answers, ChangesCaller, ChangesAside, MakesThread, MakesProc, GivesWay, Ends, EndsAll}
use Rattle.p9_laws.proofs.Pending.{read_on}
use Rattle.p9_laws.proofs.Sound.Outcomes.{IsFine, RunsIn, now_fine, done_fine, later_sound}
use Rattle.p9_laws.proofs.Sound.Create.{made_thread_fine, made_proc_fine}
use Rattle.p9_laws.proofs.Sound.Ends.{ended_sound, all_ended_sound}
use Rattle.p9_laws.proofs.Sound.Fields.{with_changed_sound}
use Rattle.p9_laws.proofs.Sound.Signals.{with_procs_sound}

pub asked_fine : (setup : Setup) (t : ℕ) (s : State) (o : Outcome) → Does setup t s o → IsSound setup s → RunsIn s t → IsFine setup s.position o
asked_fine setup t s _ (Answers a) sound runs = now_fine setup s a sound
asked_fine setup t s _ (ChangesCaller f caller a at leaves grants) sound runs = now_fine setup _ a (with_changed_sound setup f t s leaves sound)
asked_fine setup t s _ (ChangesAside procs a grants same) sound runs =
    now_fine setup _ a (with_procs_sound setup procs s (read_on s.procs procs s.threads s.threads same (λ p h. h) sound.notes) sound)
asked_fine setup t s _ (MakesThread program arg caller at own) sound runs = made_thread_fine setup t program arg s caller at own sound
asked_fine setup t s _ (MakesProc program arg caller at own room) sound runs = made_proc_fine setup t program arg s caller own room sound runs
asked_fine setup t s _ GivesWay sound runs = done_fine setup s t Done sound runs
asked_fine setup t s _ Ends sound runs = record { sound = later_sound setup (ended t s) (ended_sound setup (λ u. eqb u t) s sound); makes = refl; begins = tt }
asked_fine setup t s _ EndsAll sound runs = record { sound = later_sound setup (all_ended s) (all_ended_sound setup s sound); makes = refl; begins = tt }
