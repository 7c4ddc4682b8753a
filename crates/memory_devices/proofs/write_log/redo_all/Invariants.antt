use Rattle.std.proofs.Common.{◌≡◌, ◌≤◌, length}
use Rattle.std.specs.List.{AllByRecursion}
use Rattle.memory_devices.specs.Memory.{content_in}
use Rattle.memory_devices.specs.Logged.{IsInside, total_length}
use Rattle.memory_devices.specs.Redone.{redone_from}
use Rattle.memory_devices.proofs.write_log.redo_all.Given as goal

abbrev pub invariant-loop-entries : goal.invariant-loop-entries
invariant-loop-entries l = record {
  made : redone_from l.fn.how (content_in l.blocks) l.entries l.rest ≡ redone_from l.fn.how (content_in l.fn.blocks) l.fn.entries l.fn.bytes;
  whole : total_length l.entries ≤ length l.rest;
  inside : AllByRecursion IsInside l.entries;
}

abbrev pub decreases-loop-entries : goal.decreases-loop-entries
decreases-loop-entries l = length l.entries
