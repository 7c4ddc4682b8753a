use Rattle.std.proofs.Common.{◌≡◌, length}
use Rattle.mss_files.proofs.folder.sync_names.Given as goal

abbrev pub decreases-loop-name : goal.decreases-loop-name
decreases-loop-name g l = length l.rest

abbrev pub invariant-loop-name : goal.invariant-loop-name
invariant-loop-name g l = l.spoiled ≡ l.initial.spoiled
