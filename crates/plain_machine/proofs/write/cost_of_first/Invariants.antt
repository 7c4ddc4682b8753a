use Rattle.std.proofs.Common.{◌≡◌, take}
use Rattle.ckd_track.specs.Data.{cost}
use Rattle.plain_machine.proofs.write.cost_of_first.Given as goal

-- what the records so far cost
abbrev pub invariant-loop-record : goal.invariant-loop-record
invariant-loop-record l = l.cost ≡ cost (take l.record-index l.records)
