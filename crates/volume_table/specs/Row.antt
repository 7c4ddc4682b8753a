-- What a row says of a volume.
use Rattle.std.specs.Prelude.{◌≡◌, ℕ, Bool, false, ◌<◌, ◌≤◌, ◌/◌, List, length, replicate, slice_index, slice_index_or, Option, None, IfSome, IsSome, nat_lt, if◌then◌else◌}
use Rattle.mss_base.specs.Serial.{IsSerial}
use Rattle.mss_base.specs.Geometry.{volume_cylinders, volume_pages}

-- the serial, whether it is read-only, the two cartridges, the frame of each page, the state of each cylinder
pub record RowValue : Type 0 where
  pub serial : List ℕ
  pub read_only : Bool
  pub first : ℕ
  pub second : ℕ
  pub pages : List (Option ℕ)
  pub states : List ℕ

abbrev pub frame_of : RowValue → ℕ → Option ℕ
frame_of r page = slice_index_or r.pages page None

-- the cartridge that has a cylinder: the first one has the cylinders 0 to 201
abbrev pub cartridge_with : RowValue → ℕ → ℕ
cartridge_with r cylinder = if nat_lt cylinder 202 then r.first else r.second

-- 0 blank, 1 on its cartridge, 2 blank and staged, 3 staged and equal to its cartridge, 4 changed since it was staged
abbrev pub state_of : RowValue → ℕ → ℕ
state_of r cylinder = slice_index r.states cylinder

-- a page has eight cylinders, the last page four; what is staged stands in the frame of its page
pub record IsRow (r : RowValue) : Type 0 where
  pub serial : IsSerial r.serial
  pub first : r.first < 2048
  pub second : r.second < 2048
  pub pages : length r.pages ≡ volume_pages
  pub frames : (page : ℕ) → IfSome (frame_of r page) (λ f. f < 200)
  pub states : length r.states ≡ volume_cylinders
  pub numbers : (cylinder : ℕ) → state_of r cylinder ≤ 4
  pub staged : (cylinder : ℕ) → 2 ≤ state_of r cylinder → IsSome (frame_of r (cylinder / 8))

-- the row of a new volume
abbrev pub blank_row : List ℕ → ℕ → ℕ → RowValue
blank_row serial first second = record {
  serial = serial;
  read_only = false;
  first = first;
  second = second;
  pages = replicate volume_pages None;
  states = replicate volume_cylinders 0;
}
