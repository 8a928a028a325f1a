-- What the events of a proc leave of the files, and those of an ioproc of the threads.
use Rattle.std.specs.Prelude.{ℕ, ◌≡◌, List}
use Rattle.p9_word.specs.declared.trail.Entry.{Entry}
use Rattle.p9_manual.specs.Programs.{life, Asks, RunsPrograms}
use Rattle.p9_manual.specs.FilesInHistory.{calls_at, effects_at}

-- no ioproc sees anything of what came after
pub record TouchesNoFile (before after : List Entry) : Type 0 where
  pub calls : (k : ℕ) → calls_at k after ≡ calls_at k before
  pub effects : (k : ℕ) → effects_at k after ≡ effects_at k before

-- no thread sees anything of it
pub record TouchesNoThread (before after : List Entry) : Type 0 where
  pub lives : (t : ℕ) → life t after ≡ life t before
  pub runs : (asks : Asks) → RunsPrograms asks before → RunsPrograms asks after
