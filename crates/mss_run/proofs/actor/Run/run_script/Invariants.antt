use Rattle.std.proofs.Common.{◌≡◌, map}
use Rattle.job_text.specs.Views.{item_of}
use Rattle.mss_run.specs.Walks.{HasWalked}
use Rattle.mss_run.proofs.actor.Run.run_script.Given as goal

abbrev pub invariant-loop : goal.invariant-loop
invariant-loop g l = record {
  walked : HasWalked (map item_of l.items) l.running l.place;
  host : l.running.host ≡ l.initial.running.host;
}
