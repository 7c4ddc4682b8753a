use Rattle.core_progress.proofs.TwoRounds.{one_answers}
use Rattle.core_progress.proofs.law.two_rounds_have_an_answer.Goals as goal

pub returns : goal.returns
returns g c = λ calls hosts chooser first second rounds. one_answers g.S.Site.tells (g.C.Choose.may chooser) calls hosts first second rounds
