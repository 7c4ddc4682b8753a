-- Which blocks the shown volumes stand on, which of them are firm, and which changes of rows show the same.
use Rattle.std.specs.Prelude.{◌≡◌, ◌≢◌, ◌⊎◌, ◌≤◌, ℕ, ◌+◌, ◌<◌, ◌==◌, Bool, false, List, [], Some, None, if◌then◌else◌}
use Rattle.std.specs.Option.{ForSome}
use Rattle.mss_base.specs.Geometry.{volume_cylinders, cylinder_heads}
use Rattle.mss_base.specs.Content.{Content, SiteLog, IsLoose, content}
use Rattle.mss_base.specs.declared.place.BlockPlace.{BlockPlace}
use Rattle.ckd_track.specs.Data.{Volumes}
use Rattle.volume_table.specs.Row.{RowValue, state_of}
use Rattle.volume_table.specs.declared.changes.Change.{Change}
use Rattle.volume_table.specs.declared.changes.Change.TheVariants.{Create, Assign, Free, Staged, Changed, Destaged, Protect}
use Rattle.table_pair.specs.Pair.{is_table}
use Rattle.shown_volumes.specs.Shown.{RowsOf, rows_of, on_cartridge, in_page, source, shown_by, volumes_shown}
use Rattle.shown_volumes.specs.Sound.{frame_in, IsStagedAs, IsSameAt, AreSound, IsSound, SoundAs}

-- a block that a track of a row's volume stands on: the shown one, or the one in the frame where the cylinder is staged
pub record StandsOn (r : RowValue) (cylinder head : ℕ) (place : BlockPlace) : Type 0 where
  pub cylinder_in : cylinder < volume_cylinders
  pub head_in : head < cylinder_heads
  pub there : (source r cylinder head ≡ Some place) ⊎ ((2 ≤ state_of r cylinder) × (in_page r cylinder head ≡ Some place))

-- a block that is no table's, and that no track of a shown volume stands on
pub record IsOutside (c : Content) (place : BlockPlace) : Type 0 where
  pub no_table : is_table place.unit ≡ false
  pub unused : (volume cylinder head : ℕ) (r : RowValue) → rows_of c volume ≡ Some r → StandsOn r cylinder head place → ⊥

-- rows with another row of one volume
abbrev pub with_row : ℕ → RowValue → RowsOf → RowsOf
with_row volume r rows v = if v == volume then Some r else rows v

-- with the new row of a volume the content shows the same, and is sound
pub record MayChange (frames volume : ℕ) (row : RowValue) (c : Content) : Type 0 where
  pub low : volume < 32
  pub sound : IsSound frames c
  pub same : shown_by (with_row volume row (rows_of c)) c ≡ volumes_shown c
  pub still : AreSound frames (with_row volume row (rows_of c)) c

-- the blocks are as an allowed change says, and the frame that it assigns is free. A volume that is there can't be created.
-- With another mark other volumes are shown
abbrev pub IsReady : ℕ → Change → RowValue → Content → Type 0
IsReady frames (Create serial first second) r c = Unit {0}
IsReady frames (Assign page frame) r c = (frame < frames) × ((volume other : ℕ) → other < 51 → frame_in (rows_of c) volume other ≢ Some frame)
IsReady frames (Free page) r c = Unit {0}
IsReady frames (Staged cylinder) r c = (head : ℕ) → head < cylinder_heads → IsStagedAs c (state_of r cylinder + 2) (in_page r cylinder head) (on_cartridge r cylinder head)
IsReady frames (Changed cylinder) r c = Unit {0}
IsReady frames (Destaged cylinder) r c = (head : ℕ) → head < cylinder_heads → ForSome (in_page r cylinder head) (IsSameAt c (on_cartridge r cylinder head))
IsReady frames (Protect on) r c = ⊥

-- a volume without a row, and two cartridges that no row names
pub record IsFresh (volume first second : ℕ) (c : Content) : Type 0 where
  pub low : volume < 32
  pub none : rows_of c volume ≡ None
  pub apart : first ≢ second
  pub unnamed : (v : ℕ) (r : RowValue) → rows_of c v ≡ Some r → (r.first ≢ first) × (r.second ≢ first) × (r.first ≢ second) × (r.second ≢ second)

-- volumes with a blank one more, which isn't read-only
abbrev pub with_blank : ℕ → List ℕ → Volumes → Volumes
with_blank volume serial volumes = record {
  serial = λ v. if v == volume then Some serial else volumes.serial v;
  read_only = λ v. if v == volume then false else volumes.read_only v;
  track = λ v cylinder head. if v == volume then [] else volumes.track v cylinder head;
}

-- what a stop within a creation shows: the volumes, or those with the new one
abbrev pub WithOrWithout : ℕ → List ℕ → Volumes → Volumes → Type 0
WithOrWithout volume serial volumes shown = (shown ≡ volumes) ⊎ (shown ≡ with_blank volume serial volumes)

-- volumes of which one is read-only now, or isn't
abbrev pub with_marked : ℕ → Bool → Volumes → Volumes
with_marked volume on volumes = record volumes { read_only = λ v. if v == volume then on else volumes.read_only v }

-- what a stop within the change of a mark shows: the volumes, or those with the other mark
abbrev pub MarkedOrNot : ℕ → Bool → Volumes → Volumes → Type 0
MarkedOrNot volume on volumes shown = (shown ≡ volumes) ⊎ (shown ≡ with_marked volume on volumes)

-- ---- what is loose

-- each loose write of a site lies outside the table, and outside all that a content shows or holds staged
abbrev pub IsQuietIn : SiteLog → Content → Type 0
IsQuietIn s c = (place : BlockPlace) → IsLoose s place.unit place.block → IsOutside c place

-- and so with what the site itself holds
abbrev pub IsQuiet : SiteLog → Type 0
IsQuiet s = IsQuietIn s (content s)

-- no track of a row's volume stands on a loose write of a site
abbrev pub IsQuietUnder : RowValue → SiteLog → Type 0
IsQuietUnder r s = (place : BlockPlace) → IsLoose s place.unit place.block → (cylinder head : ℕ) → StandsOn r cylinder head place → ⊥

-- a content is sound and shows these volumes, and what a site has loose lies outside
abbrev pub StillShows : ℕ → Volumes → SiteLog → Content → Type 0
StillShows frames volumes s c = SoundAs frames volumes c × IsQuietIn s c

-- a volume's row may become this one on a site: it then shows the same, and stands on nothing loose
pub record MayWriteRow (frames volume : ℕ) (row : RowValue) (s : SiteLog) : Type 0 where
  pub may : MayChange frames volume row (content s)
  pub quiet : IsQuiet s
  pub under : IsQuietUnder row s

-- a block with nothing loose
abbrev pub IsFirmAt : SiteLog → BlockPlace → Type 0
IsFirmAt s place = IsLoose s place.unit place.block → ⊥

-- what an allowed change makes a row stand on is firm: the frame's blocks of a cylinder that is staged, the cartridge's of
-- one that is destaged
abbrev pub IsFirmFor : Change → RowValue → SiteLog → Type 0
IsFirmFor (Create serial first second) r s = Unit {0}
IsFirmFor (Assign page frame) r s = Unit {0}
IsFirmFor (Free page) r s = Unit {0}
IsFirmFor (Staged cylinder) r s = (head : ℕ) → head < cylinder_heads → ForSome (in_page r cylinder head) (IsFirmAt s)
IsFirmFor (Changed cylinder) r s = Unit {0}
IsFirmFor (Destaged cylinder) r s = (head : ℕ) → head < cylinder_heads → IsFirmAt s (on_cartridge r cylinder head)
IsFirmFor (Protect on) r s = Unit {0}
