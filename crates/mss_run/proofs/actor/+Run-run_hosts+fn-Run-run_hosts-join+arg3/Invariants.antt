use Rattle.std.proofs.Common.{◌+◌, ◌*◌, length}
use Rattle.mss_run.proofs.actor.+Run-run_hosts+fn-Run-run_hosts-join+arg3.Given as goal

abbrev pub decreases-join+arg3 : goal.decreases-join+arg3
decreases-join+arg3 g l = 2 * length l.rest.now + 1

abbrev pub decreases-Run::run_hosts : goal.decreases-Run::run_hosts
decreases-Run::run_hosts g l = 2 * length l.scripts.now
