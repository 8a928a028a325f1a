-- What the stage `write` asks from each of its steps on, and when a body of it stands for a list of answers.
use Rattle.std.specs.Prelude.{◌≡◌, List, [], ◌∷◌, ◌++◌}
use Rattle.p9_word.specs.declared.answer.Answer.{Answer}
use Rattle.p9_word.specs.declared.answer.Answer.TheVariants.{Done, Number, Got, Io}
use Rattle.p9_word.specs.declared.answer.IoAnswer.TheVariants.{Shut}
use Rattle.p9_word.specs.declared.request.Request.{Request}
use Rattle.p9_run.specs.declared.writer.Step.{Step}
use Rattle.p9_run.specs.declared.writer.Step.TheVariants.{Start, Making, Opening, Receiving, Writing, Skipping, Closing, Freeing, Exiting}
use Rattle.p9_run.specs.declared.writer.Writer.{Writer}
use Rattle.p9_run.specs.Stage.{Ends, exits}
use Rattle.p9_run.specs.WriteStage.{write, writing, skipping, shutting}

-- the request from this step on, after one more answer and the rest
abbrev pub goes_on : Ends → Step → Answer → List Answer → Request
goes_on e Start a rest = write e (a ∷ rest)
goes_on e Making a rest = write e (Done ∷ a ∷ rest)
goes_on e Opening a rest = write e (Done ∷ Number 0 ∷ a ∷ rest)
goes_on e Receiving a rest = writing e (a ∷ rest)
goes_on e Writing a rest = writing e (Got 0 [] ∷ a ∷ rest)
goes_on e Skipping a rest = skipping e (a ∷ rest)
goes_on e Closing a rest = shutting e (a ∷ rest)
goes_on e Freeing a rest = shutting e (Io Shut ∷ a ∷ rest)
goes_on e (Exiting failed) a rest = exits failed

-- the request after this answer, and a step from which all goes on in the same way
pub record IsNext (e : Ends) (at : Step) (last : Answer) (request : Request) (after : Step) : Type 0 where
  pub asked : request ≡ goes_on e at last []
  pub on : (a : Answer) (rest : List Answer) → goes_on e at last (a ∷ rest) ≡ goes_on e after a rest

-- the file and the channel of a body
abbrev pub ends_of : Writer → Ends
ends_of w = record { file = w.file; chan = w.chan }

-- whatever answers follow these, the body's step goes on as the stage does
abbrev pub StandsFor : Writer → List Answer → Type 0
StandsFor w answers =
    (a : Answer) (rest : List Answer) → write (ends_of w) (answers ++ a ∷ rest) ≡ goes_on (ends_of w) w.at a rest
