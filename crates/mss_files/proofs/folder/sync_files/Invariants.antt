use Rattle.std.proofs.Common.{◌≡◌}
use Rattle.mss_files.proofs.folder.sync_files.Given as goal

abbrev pub invariant-loop : goal.invariant-loop
invariant-loop g l = l.spoiled ≡ l.initial.spoiled
