-- Two accessors on one rail, and what stands along it.
use Rattle.std.specs.Prelude.{ℕ, ◌+◌, ◌*◌, ◌%◌, ◌<◌, ◌≤◌}

-- the places of the accessors
pub record RailData : Type 0 where
  pub left : ℕ
  pub right : ℕ

-- they stand apart, the left one left, on the rail of 66 places
pub record IsRail (rail : RailData) : Type 0 where
  pub apart : rail.left < rail.right
  pub on_rail : rail.right ≤ 65

-- at a session's start they stand at the two ends
abbrev pub rail_start : RailData
rail_start = record { left = 0; right = 65 }

-- the place of a cell, one of 64 columns, and that of a recorder
abbrev pub cell_place : ℕ → ℕ
cell_place cell = 1 + cell % 64

abbrev pub recorder_place : ℕ → ℕ
recorder_place recorder = 8 * recorder + 5

-- a place of cells, 1 to 64, which an accessor serves
pub record IsServed (place : ℕ) : Type 0 where
  pub first : 1 ≤ place
  pub last : place ≤ 64
