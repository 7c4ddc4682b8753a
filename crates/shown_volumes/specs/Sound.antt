-- Sound content: its rows are in the grammar, and agree with each other and with the blocks that they name.
use Rattle.std.specs.Prelude.{◌≡◌, ℕ, ◌<◌, Bool, if◌then◌else◌, List, [], Option, Some, None}
use Rattle.std.specs.Option.{option_map, option_and_then, ForSome}
use Rattle.mss_base.specs.Geometry.{volume_cylinders, cylinder_heads}
use Rattle.mss_base.specs.Content.{Content}
use Rattle.mss_base.specs.declared.place.BlockPlace.{BlockPlace}
use Rattle.ckd_track.specs.Data.{Volumes}
use Rattle.ckd_track.specs.Track.{reading, reading_of}
use Rattle.volume_table.specs.Row.{RowValue, frame_of, state_of}
use Rattle.table_pair.specs.Pair.{RowReading, damaged, row_of}
use Rattle.shown_volumes.specs.Shown.{RowsOf, rows_of, block_at, on_cartridge, in_page, source, volumes_shown}

-- the copy that counts, if one does, spells a row
abbrev pub IsSpelled : RowReading → Type 0
IsSpelled (damaged copy fault) = ⊥
IsSpelled _ = Unit {0}

-- the cartridge of a volume's half, the first or the second
abbrev pub cartridge_of : RowsOf → ℕ → Bool → Option ℕ
cartridge_of rows volume second = option_map (λ r. if second then r.second else r.first) (rows volume)

-- the frame of a volume's page
abbrev pub frame_in : RowsOf → ℕ → ℕ → Option ℕ
frame_in rows volume page = option_and_then (λ r. frame_of r page) (rows volume)

-- no cartridge stands in two halves
abbrev pub HasCartridgesOnce : RowsOf → Type 0
HasCartridgesOnce rows = (v w : ℕ) (s t : Bool) (cartridge : ℕ) → cartridge_of rows v s ≡ Some cartridge → cartridge_of rows w t ≡ Some cartridge → (v ≡ w) × (s ≡ t)

-- each page's frame is one of the first so many
abbrev pub HasFramesBelow : ℕ → RowsOf → Type 0
HasFramesBelow frames rows = (volume page : ℕ) → page < 51 → ForSome (frame_in rows volume page) (λ frame. frame < frames)

-- no frame stands in two pages
abbrev pub HasFramesOnce : RowsOf → Type 0
HasFramesOnce rows = (v w p q frame : ℕ) → p < 51 → q < 51 → frame_in rows v p ≡ Some frame → frame_in rows w q ≡ Some frame → (v ≡ w) × (p ≡ q)

-- the block at a place is a track, a blank one, the same as another
abbrev pub IsTrackAt : Content → BlockPlace → Type 0
IsTrackAt c place = (reading (block_at c place)).bad ≡ None

abbrev pub IsBlankAt : Content → BlockPlace → Type 0
IsBlankAt c place = reading (block_at c place) ≡ reading_of []

abbrev pub IsSameAt : Content → BlockPlace → BlockPlace → Type 0
IsSameAt c other place = block_at c place ≡ block_at c other

-- the block in a frame stands for the track as the cylinder's state says: it is blank for 2, the cartridge's for 3
pub record IsStagedAs (c : Content) (state : ℕ) (framed : Option BlockPlace) (cartridge : BlockPlace) : Type 0 where
  pub blank : state ≡ 2 → ForSome framed (IsBlankAt c)
  pub copied : state ≡ 3 → ForSome framed (IsSameAt c cartridge)

-- the block that is shown is a track, and the frame's block stands for it
pub record IsSoundTrack (c : Content) (r : RowValue) (cylinder head : ℕ) : Type 0 where
  pub shown : ForSome (source r cylinder head) (IsTrackAt c)
  pub staged : IsStagedAs c (state_of r cylinder) (in_page r cylinder head) (on_cartridge r cylinder head)

-- rows that agree with each other and with the blocks that they name
pub record AreSound (frames : ℕ) (rows : RowsOf) (c : Content) : Type 0 where
  pub cartridges_once : HasCartridgesOnce rows
  pub frames_below : HasFramesBelow frames rows
  pub frames_once : HasFramesOnce rows
  pub tracks : (volume cylinder head : ℕ) → cylinder < volume_cylinders → head < cylinder_heads → ForSome (rows volume) (λ r. IsSoundTrack c r cylinder head)

-- sound content for so many frames
pub record IsSound (frames : ℕ) (c : Content) : Type 0 where
  pub spelled : (volume : ℕ) → volume < 32 → IsSpelled (row_of c volume)
  pub agree : AreSound frames (rows_of c) c

-- a content that is sound and shows these volumes
pub record SoundAs (frames : ℕ) (volumes : Volumes) (c : Content) : Type 0 where
  pub sound : IsSound frames c
  pub same : volumes_shown c ≡ volumes

-- a volume that has a row has the serial that is asked of it, if one is
abbrev pub HasSerialsAsked : (ℕ → Option (List ℕ)) → RowsOf → Type 0
HasSerialsAsked asked rows = (volume : ℕ) → ForSome (rows volume) (λ r. ForSome (asked volume) (λ serial. r.serial ≡ serial))
