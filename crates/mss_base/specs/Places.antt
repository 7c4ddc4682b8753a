-- Which block has a track.
use Rattle.std.specs.Prelude.{ℕ, ◌+◌, ◌*◌, ◌/◌, ◌%◌}
use Rattle.mss_base.specs.declared.place.BlockPlace.{BlockPlace}
use Rattle.mss_base.specs.declared.place.UnitNo.TheVariants.{Staging}

-- on a cartridge, which has 202 cylinders of 19 tracks
abbrev pub cartridge_block : ℕ → ℕ → ℕ
cartridge_block cylinder head = (cylinder % 202) * 19 + head

-- in a frame: a staging disk has 50 frames of eight cylinders
abbrev pub frame_block : ℕ → ℕ → ℕ → BlockPlace
frame_block frame cylinder head = record {
  unit = Staging (frame / 50);
  block = ((frame % 50) * 8 + cylinder % 8) * 19 + head;
}
