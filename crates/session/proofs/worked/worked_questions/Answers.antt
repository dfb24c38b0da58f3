use Rattle.session.proofs.WorkingQuestions.{questions}
use Rattle.session.proofs.worked.worked_questions.Goals as goal

pub returns : goal.returns
returns c = questions
