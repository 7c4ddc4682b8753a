-- Configurations as plain data.
use Rattle.std.specs.Prelude.{ℕ, ◌≤◌, ◌==◌, Bool, false, if◌then◌else◌, List, [], ◌∷◌, Option, Some, None, map}
use Rattle.std.specs.List.{AllByRecursion, IsDistinct}
use Rattle.std.specs.Ordering.{nat_cmp}
use Rattle.std.specs.List.Sorted.{IsStrictlySortedBy}
use Rattle.std.specs.Str.{bytes_eq}
use Rattle.mss_base.specs.Serial.{IsSerial}

-- a volume: its number, its serial, and whether it is read-only
abbrev pub VolumeData : Type 0
VolumeData = ℕ × List ℕ × Bool

-- the serial of a volume among these
abbrev pub serial_in : List VolumeData → ℕ → Option (List ℕ)
serial_in [] v = None
serial_in (volume ∷ volumes) v = if v == volume.0 then Some volume.1 else serial_in volumes v

-- whether a volume is among these as a read-only one
abbrev pub marked_in : List VolumeData → ℕ → Bool
marked_in [] v = false
marked_in (volume ∷ volumes) v = if v == volume.0 then volume.2 else marked_in volumes v

pub record ConfigData : Type 0 where
  pub frames : ℕ
  pub recorders : ℕ
  pub volumes : List VolumeData

abbrev pub IsVolume : VolumeData → Type 0
IsVolume v = (v.0 ≤ 31) × IsSerial v.1

-- 1 to 200 frames, 1 to 8 recorders, and volumes in rising order of number whose serials differ
pub record IsConfig (config : ConfigData) : Type 0 where
  pub some_frames : 1 ≤ config.frames
  pub few_frames : config.frames ≤ 200
  pub some_recorders : 1 ≤ config.recorders
  pub few_recorders : config.recorders ≤ 8
  pub volumes_ : AllByRecursion IsVolume config.volumes
  pub rising : IsStrictlySortedBy nat_cmp (map (λ v. v.0) config.volumes)
  pub serials : IsDistinct bytes_eq (map (λ v. v.1) config.volumes)
