-- The two programs of a copy: program 1 reads file 1 to channel 1, and program 2 writes file 2 from it.
use Rattle.std.specs.Prelude.{ℕ, ◌==◌, List, if◌then◌else◌}
use Rattle.p9_word.specs.declared.answer.Answer.{Answer}
use Rattle.p9_word.specs.declared.request.Request.{Request}
use Rattle.p9_run.specs.declared.copy_programs.CopyBody.{CopyBody}
use Rattle.p9_run.specs.declared.copy_programs.CopyBody.TheVariants.{Read, Write}
use Rattle.p9_run.specs.ReadStage.{read}
use Rattle.p9_run.specs.WriteStage.{write}
use Rattle.p9_run.specs.ReadSteps.{ends_of as reader_ends, StandsFor as ReaderStandsFor}
use Rattle.p9_run.specs.WriteSteps.{ends_of as writer_ends, StandsFor as WriterStandsFor}

-- what a program asks, after the answers so far; its argument says nothing
abbrev pub copy_asks : ℕ → ℕ → List Answer → Request
copy_asks program arg =
    if program == 1 then read (record { file = 1; chan = 1 }) else write (record { file = 2; chan = 1 })

-- what a body asks
abbrev pub plan_of : CopyBody → List Answer → Request
plan_of (Read reader) = read (reader_ends reader)
plan_of (Write writer) = write (writer_ends writer)

-- the answers for which a body stands
abbrev pub StandsFor : CopyBody → List Answer → Type 0
StandsFor (Read reader) answers = ReaderStandsFor reader answers
StandsFor (Write writer) answers = WriterStandsFor writer answers
