-- Rows that stand beside each other, whatever the devices tell.
use Rattle.std.specs.Prelude.{◌≡◌, ℕ, List, Option, Some}
use Rattle.mss_base.specs.Configs.{ConfigData}
use Rattle.mss_base.specs.Configs.{serial_in}
use Rattle.volume_table.specs.Row.{RowValue}
use Rattle.shown_volumes.specs.Shown.{RowsOf}
use Rattle.shown_volumes.specs.Sound.{HasCartridgesOnce, HasFramesBelow, HasFramesOnce, HasSerialsAsked}

-- no cartridge and no frame is named twice, each frame is one of the first so many, and each serial is the one that
-- is asked
pub record AreUsable (frames : ℕ) (asked : ℕ → Option (List ℕ)) (rows : RowsOf) : Type 0 where
  pub cartridges_once : HasCartridgesOnce rows
  pub frames_below : HasFramesBelow frames rows
  pub frames_once : HasFramesOnce rows
  pub serials : HasSerialsAsked asked rows

-- the volume has a row with this serial
pub record HasRowWith (rows : RowsOf) (volume : ℕ) (serial : List ℕ) : Type 0 where
  pub row : RowValue
  pub there : rows volume ≡ Some row
  pub same : row.serial ≡ serial

-- usable rows, with one for each volume of the configuration
pub record AreUsableFor (config : ConfigData) (rows : RowsOf) : Type 0 where
  pub usable : AreUsable config.frames (serial_in config.volumes) rows
  pub each : (volume : ℕ) (serial : List ℕ)
      → serial_in config.volumes volume ≡ Some serial → HasRowWith rows volume serial
