-- The tracks of a cylinder, whose blocks stand one behind the other.
use Rattle.std.specs.Prelude.{◌≡◌, ◌<◌, ℕ, ◌+◌, nat_lt, List, [], None, if◌then◌else◌}
use Rattle.mss_base.specs.Content.{Content, SiteLog, content}
use Rattle.mss_base.specs.Geometry.{cylinder_heads}
use Rattle.mss_base.specs.declared.place.BlockPlace.{BlockPlace}
use Rattle.mss_base.specs.declared.place.UnitNo.{UnitNo}
use Rattle.ckd_track.specs.Track.{reading}
use Rattle.ckd_plain.specs.Index.{Tracks}
use Rattle.track_engine.specs.declared.place.CylinderPlace.{CylinderPlace}

-- the records of a cylinder's blocks by head, where this is the block of head 0; no records beyond the last head
abbrev pub tracks_at : Content → UnitNo → ℕ → Tracks
tracks_at c unit first head = if nat_lt head cylinder_heads then (reading (c unit (first + head))).records else []

-- each of the blocks is a track
abbrev pub AreTracks : Content → UnitNo → ℕ → Type 0
AreTracks c unit first = (head : ℕ) → head < cylinder_heads → (reading (c unit (first + head))).bad ≡ None

-- the bytes are the block of this head
pub record IsBlockOf (c : Content) (unit : UnitNo) (first head : ℕ) (bytes : List ℕ) : Type 0 where
  pub block : bytes ≡ c unit (first + head)
  pub records : (reading bytes).records ≡ tracks_at c unit first head

-- the bytes are what a block has, and they are a track
pub record IsTrackAt (c : Content) (to : BlockPlace) (bytes : List ℕ) : Type 0 where
  pub block : c to.unit to.block ≡ bytes
  pub good : (reading bytes).bad ≡ None

-- ---- on the blocks of a cylinder, as a log leaves them

abbrev pub tracks_on : SiteLog → CylinderPlace → Tracks
tracks_on s place = tracks_at (content s) place.unit place.first_block

abbrev pub AreTracksOn : SiteLog → CylinderPlace → Type 0
AreTracksOn s place = AreTracks (content s) place.unit place.first_block

abbrev pub IsBlockOn : SiteLog → CylinderPlace → ℕ → List ℕ → Type 0
IsBlockOn s place head bytes = IsBlockOf (content s) place.unit place.first_block head bytes
