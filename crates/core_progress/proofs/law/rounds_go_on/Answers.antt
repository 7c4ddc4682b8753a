use Rattle.core_progress.proofs.RoundFacts.{round_goes_on}
use Rattle.core_progress.proofs.law.rounds_go_on.Goals as goal

pub returns : goal.returns
returns g c = λ calls hosts chooser core steps left between round. round_goes_on g.S.Site.tells (g.C.Choose.may chooser) calls hosts core steps left between round
