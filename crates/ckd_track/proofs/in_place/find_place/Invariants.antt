use Rattle.std.proofs.Common.{◌≡◌, ◌≤◌, ◌+◌, ◌-◌, ◌*◌, length}
use Rattle.ckd_track.specs.Track.{reading, reading_from, place_after}
use Rattle.ckd_track.proofs.in_place.find_place.Given as goal

-- the records before this one were passed, and the others are left
abbrev pub invariant-loop-earlier : goal.invariant-loop-earlier
invariant-loop-earlier l = record {
  left : length (reading l.block).records + 1 ≡ l.earlier + length (reading_from (99 - l.earlier) l.earlier l.place l.cost l.block).records;
  behind : l.place ≡ place_after (l.earlier - 1) 256 l.block;
  few : 135 * l.earlier ≤ l.cost + 135;
  cheap : l.cost ≤ 13165;
  near : l.place ≤ 256 + l.cost;
}
