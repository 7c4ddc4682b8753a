-- Which page has each frame.
use Rattle.std.specs.Prelude.{◌≡◌, ◌⊎◌, ◌↔◌, ◌<◌, ℕ, List, length, Option, Some}
use Rattle.volume_table.specs.Row.{RowValue}
use Rattle.volume_table.specs.Listed.{AreRows, row_in_list}
use Rattle.shown_volumes.specs.Shown.{RowsOf}
use Rattle.shown_volumes.specs.Sound.{frame_in, HasFramesBelow, HasFramesOnce}
use Rattle.core_state.specs.Pins.{owner_at}

-- the rows of the 32 volumes, whose pages have different frames, of the first so many
pub record HaveFrames (frames : ℕ) (rows : List (Option RowValue)) : Type 0 where
  pub places : length rows ≡ 32
  pub are_rows : AreRows rows
  pub below : HasFramesBelow frames (row_in_list rows)
  pub once : HasFramesOnce (row_in_list rows)

-- a frame belongs to the page that has it, and to no other
pub record AreOwners (frames : ℕ) (rows : RowsOf) (owners : List (Option (ℕ × ℕ))) : Type 0 where
  pub all_ : length owners ≡ frames
  pub owned : (frame volume page : ℕ) → (owner_at owners frame ≡ Some (volume, page))
      ↔ (frame_in rows volume page ≡ Some frame)

-- a page comes before a place, in the order of volumes and then of pages
abbrev pub IsBefore : ℕ → ℕ → ℕ → ℕ → Type 0
IsBefore v p volume page = (v < volume) ⊎ ((v ≡ volume) × (p < page))

-- of the pages before a place each frame belongs to the one that has it; a frame that belongs to a
-- page is that page's
pub record AreOwnersBefore (rows : RowsOf) (owners : List (Option (ℕ × ℕ))) (volume page : ℕ)
    : Type 0 where
  pub owns : (frame v p : ℕ) → owner_at owners frame ≡ Some (v, p)
      → frame_in rows v p ≡ Some frame
  pub owned : (frame v p : ℕ) → frame_in rows v p ≡ Some frame → IsBefore v p volume page
      → owner_at owners frame ≡ Some (v, p)
