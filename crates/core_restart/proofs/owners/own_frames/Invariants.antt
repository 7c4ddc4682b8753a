use Rattle.std.proofs.Common.{◌≡◌, length}
use Rattle.volume_table.specs.Listed.{row_in_list}
use Rattle.core_restart.specs.Owners.{AreOwnersBefore}
use Rattle.core_restart.proofs.owners.own_frames.Given as goal

abbrev pub invariant-loop-number : goal.invariant-loop-number
invariant-loop-number l = record {
  so_far : AreOwnersBefore (row_in_list l.rows) l.frames.owners l.number 0;
  all_ : length l.frames.owners ≡ length l.initial.frames.owners;
  moving : l.frames.moving ≡ l.initial.frames.moving;
}
