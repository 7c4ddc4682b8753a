use Rattle.std.proofs.Common.{◌≡◌, ◌≤◌, ◌+◌, [], length, take}
use Rattle.mss_run.specs.Runs.{AreStarts, hosts_of}
use Rattle.mss_run.proofs.run.make_passes.Given as goal

abbrev pub invariant-loop-script : goal.invariant-loop-script
invariant-loop-script g l = record {
  list : l.book.list ≡ [];
  made : l.book.made ≡ hosts_of (take l.script-index l.scripts);
  starts : AreStarts (take l.script-index l.scripts) l.passes.items;
  count : length l.passes.items ≡ l.script-index;
  room : length l.scripts ≤ l.script-index + l.passes.spare;
}
