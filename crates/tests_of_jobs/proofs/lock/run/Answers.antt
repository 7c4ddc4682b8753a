use Rattle.std.proofs.Common.{refl, arith}
use Rattle.core_state.specs.CoreValue.{seen_core}
use Rattle.mss_run.proofs.AnswerFacts.{opens_itself}
use Rattle.tests_of_jobs.proofs.lock.run.Goals as goal

-- the name is of the core's own session
pub run_named-requires-clause-opening : goal.run_named-requires-clause-opening
run_named-requires-clause-opening g c = opens_itself g.S.Site.tells (g.S.Site.never_fails_but c.args.core.site) (seen_core g.S.Site c.args.core) _

pub run_named-requires-clause-hosts : goal.run_named-requires-clause-hosts
run_named-requires-clause-hosts g c = ((0, omega arith, refl), (1, omega arith, refl))
