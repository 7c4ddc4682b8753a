use Rattle.std.proofs.Common.{◌≡◌, length}
use Rattle.volume_copy.specs.Copies.{AreNoneTaken}
use Rattle.volume_copy.proofs.taken.TakenTracks.none.Given as goal

abbrev pub invariant-loop : goal.invariant-loop
invariant-loop l = record {
  long : length l.tracks.items ≡ l.counter;
  none : AreNoneTaken l.tracks.items;
}
