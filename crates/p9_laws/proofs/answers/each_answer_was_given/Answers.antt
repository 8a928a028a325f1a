use Rattle.p9_laws.proofs.Given.Histories.{answers_given}
use Rattle.p9_laws.proofs.answers.each_answer_was_given.Goals as goal

pub returns : goal.returns
returns c = answers_given
