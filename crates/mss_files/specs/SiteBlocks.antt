-- The blocks that a site in files keeps: whole, or the fronts of short ones.
use Rattle.std.specs.Prelude.{◌≡◌, ℕ, List, length, Option, None, Some}
use Rattle.std.proofs.Common.{◌∙◌, refl}
use Rattle.mss_base.specs.declared.place.BlockPlace.{BlockPlace}
use Rattle.mss_files.specs.Blocks.{block_from, length-block_from}
use Rattle.mss_files.specs.Files.{FileBytes, bytes_at, file_place}
use Rattle.mss_files.specs.KeptBlocks.{Keeps, IsHeld, SameBlocks, slot_start}
use Rattle.mss_files.specs.Noted.{IsNoted}
use Rattle.mss_files.specs.ShortBlocks.{IsShort}
use Rattle.mss_files.specs.declared.short_blocks.ShownBlock.{ShownBlock}
use Rattle.mss_files.specs.declared.site_blocks.SiteBlocks.{SiteBlocks}

-- it is known that this block is zeros behind its front
abbrev pub IsKnownShort : SiteBlocks → BlockPlace → Type 0
IsKnownShort kept place = IsNoted kept.short.of_slots.items place

-- this block is kept: whole, or as the front of a short one
pub data KeepsBlock (kept : SiteBlocks) (place : BlockPlace) : Type 0 where
  Whole : Keeps kept.whole place → KeepsBlock kept place
  Front : IsKnownShort kept place → Keeps kept.fronts place → KeepsBlock kept place

-- the bytes that are lent: those of the whole block that was brought last, or else those that are shown
abbrev pub lent_by : Option BlockPlace → SiteBlocks → List ℕ
lent_by None kept = kept.shown.bytes.items
lent_by (Some place) kept = block_from kept.whole.pieces.size (slot_start kept.whole place) kept.whole.bytes.items

abbrev pub lent : SiteBlocks → List ℕ
lent kept = lent_by kept.lent kept

length_by : (kept : SiteBlocks) (by : Option BlockPlace) → ((place : BlockPlace) → by ≡ Some place → Keeps kept.whole place) → length (lent_by by kept) ≡ 16384
length_by kept None stays = kept.shown.whole
length_by kept (Some place) stays = length-block_from kept.whole.pieces.size (slot_start kept.whole place) kept.whole.bytes.items (stays place refl).inside ∙ kept.whole_size

-- what is lent is a whole block
pub length-lent : (kept : SiteBlocks) → length (lent kept) ≡ 16384
length-lent kept = length_by kept kept.lent kept.stays

-- this block is the one that is lent
pub data Shows (kept : SiteBlocks) (place : BlockPlace) : Type 0 where
  ShowsWhole : kept.lent ≡ Some place → Shows kept place
  ShowsFront : kept.lent ≡ None → kept.shown.place ≡ Some place → Shows kept place

-- the block that is shown is what the files hold at its place
abbrev pub IsShownHeld : FileBytes → ShownBlock → Type 0
IsShownHeld byte shown = (place : BlockPlace) → shown.place ≡ Some place
    → shown.bytes.items ≡ bytes_at (byte place.unit) (file_place place.block 0) 16384

-- all that is kept, shown or known of a block is what the files hold at its place
pub record AreHeld (byte : FileBytes) (kept : SiteBlocks) : Type 0 where
  pub whole : IsHeld byte kept.whole
  pub fronts : IsHeld byte kept.fronts
  pub short : (place : BlockPlace) → IsKnownShort kept place → IsShort byte place
  pub shown : IsShownHeld byte kept.shown

-- what is kept is the same, and what is known
pub record SameKept (old new : SiteBlocks) : Type 0 where
  pub whole : SameBlocks old.whole new.whole
  pub fronts : SameBlocks old.fronts new.fronts
  pub short : new.short ≡ old.short
