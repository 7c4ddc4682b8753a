use Rattle.std.proofs.Common.{◌+◌, ◌*◌}
use Rattle.mss_run.proofs.actor.+Run-run_workers+fn-Run-run_workers-join+arg3.Given as goal

abbrev pub decreases-join+arg3 : goal.decreases-join+arg3
decreases-join+arg3 g l = 2 * l.below + 1

abbrev pub decreases-Run::run_workers : goal.decreases-Run::run_workers
decreases-Run::run_workers g l = 2 * l.count
