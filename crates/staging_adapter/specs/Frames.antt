-- The frames of the staging disks.
use Rattle.std.specs.Prelude.{◌≡◌, ℕ, ◌<◌, Bool, false, List, length, replicate, slice_index_or, slice_set, Option, None}

-- by frame: the page that has it, with its volume, and whether a task is moving tracks in it
pub record FramesData : Type 0 where
  pub owners : List (Option (ℕ × ℕ))
  pub moving : List Bool

pub record AreFrames (f : FramesData) : Type 0 where
  pub same : length f.moving ≡ length f.owners

-- one of the frames
abbrev pub IsFrame : FramesData → ℕ → Type 0
IsFrame f frame = frame < length f.owners

-- so many, which no page has and no task uses
abbrev pub free_frames : ℕ → FramesData
free_frames count = record { owners = replicate count None; moving = replicate count false }

abbrev pub owner_at : FramesData → ℕ → Option (ℕ × ℕ)
owner_at f frame = slice_index_or f.owners frame None

abbrev pub moves_at : FramesData → ℕ → Bool
moves_at f frame = slice_index_or f.moving frame false

-- with that of one frame anew
abbrev pub with_owner : ℕ → Option (ℕ × ℕ) → FramesData → FramesData
with_owner frame owner f = record f { owners = slice_set f.owners frame owner }

abbrev pub with_moving : ℕ → Bool → FramesData → FramesData
with_moving frame moving f = record f { moving = slice_set f.moving frame moving }
