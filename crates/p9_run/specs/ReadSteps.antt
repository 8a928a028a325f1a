-- What the stage `read` asks from each of its steps on, and when a body of it stands for a list of answers.
use Rattle.std.specs.Prelude.{◌≡◌, List, [], ◌∷◌, ◌++◌}
use Rattle.p9_word.specs.declared.answer.Answer.{Answer}
use Rattle.p9_word.specs.declared.answer.Answer.TheVariants.{Done, Number, Io}
use Rattle.p9_word.specs.declared.answer.IoAnswer.TheVariants.{Shut, Bytes}
use Rattle.p9_word.specs.declared.request.Request.{Request}
use Rattle.p9_run.specs.declared.reader.Step.{Step}
use Rattle.p9_run.specs.declared.reader.Step.TheVariants.{Start, Making, Opening, Reading, Sending, Draining, Closing, Freeing, Ending, Failing, Exiting}
use Rattle.p9_run.specs.declared.reader.Reader.{Reader}
use Rattle.p9_run.specs.Stage.{Ends, exits}
use Rattle.p9_run.specs.ReadStage.{read, reading, draining, closing, read_ends, read_fails}

-- the request from this step on, after one more answer and the rest
abbrev pub goes_on : Ends → Step → Answer → List Answer → Request
goes_on e Start a rest = read e (a ∷ rest)
goes_on e Making a rest = read e (Done ∷ a ∷ rest)
goes_on e Opening a rest = read e (Done ∷ Number 0 ∷ a ∷ rest)
goes_on e Reading a rest = reading e (a ∷ rest)
goes_on e Sending a rest = reading e (Io (Bytes (0 ∷ [])) ∷ a ∷ rest)
goes_on e Draining a rest = draining e (a ∷ rest)
goes_on e Closing a rest = closing e (a ∷ rest)
goes_on e Freeing a rest = closing e (Io Shut ∷ a ∷ rest)
goes_on e Ending a rest = read_ends e (a ∷ rest)
goes_on e Failing a rest = read_fails e (a ∷ rest)
goes_on e (Exiting failed) a rest = exits failed

-- the request after this answer, and a step from which all goes on in the same way
pub record IsNext (e : Ends) (at : Step) (last : Answer) (request : Request) (after : Step) : Type 0 where
  pub asked : request ≡ goes_on e at last []
  pub on : (a : Answer) (rest : List Answer) → goes_on e at last (a ∷ rest) ≡ goes_on e after a rest

-- the file and the channel of a body
abbrev pub ends_of : Reader → Ends
ends_of r = record { file = r.file; chan = r.chan }

-- whatever answers follow these, the body's step goes on as the stage does
abbrev pub StandsFor : Reader → List Answer → Type 0
StandsFor r answers =
    (a : Answer) (rest : List Answer) → read (ends_of r) (answers ++ a ∷ rest) ≡ goes_on (ends_of r) r.at a rest
