use Rattle.core_state.specs.CoreValue.{seen_core}
use Rattle.mss_run.proofs.AnswerFacts.{opens_itself}
use Rattle.mss_run.proofs.run.run_actors.Goals as goal

pub run_named-requires-clause-opening : goal.run_named-requires-clause-opening
run_named-requires-clause-opening g c = λ _ _. opens_itself g.S.Site.tells (g.S.Site.never_fails_but c.args.core.site) (seen_core g.S.Site c.args.core) _
