-- Which transfers are due by a row, and what the row becomes by them.
use Rattle.std.specs.Prelude.{◌≡◌, ℕ, ◌<◌, ◌/◌, Some}
use Rattle.mss_base.specs.Geometry.{volume_cylinders}
use Rattle.volume_table.specs.Row.{RowValue, frame_of, state_of, cartridge_with}
use Rattle.volume_table.specs.declared.changes.Change.{Change}
use Rattle.volume_table.specs.declared.changes.Change.TheVariants.{Staged, Destaged}
use Rattle.transfers.specs.declared.transfer.Transfer.{Transfer}
use Rattle.transfers.specs.declared.transfer.TransferKind.{TransferKind}
use Rattle.transfers.specs.declared.transfer.TransferKind.TheVariants as kind

-- in which state of its cylinder a transfer is due: 0 is blank, 1 on the cartridge alone, 4 changed
-- in the frame
abbrev pub due_state : TransferKind → ℕ
due_state kind.StageBlank = 0
due_state kind.StageCartridge = 1
due_state kind.Destage = 4

-- a transfer that is due by its volume's row: with the frame of the cylinder's page, and with the
-- cartridge that has the cylinder
pub record IsDue (t : Transfer) (r : RowValue) : Type 0 where
  pub cylinder_in : t.cylinder < volume_cylinders
  pub frame_ : frame_of r (t.cylinder / 8) ≡ Some t.frame
  pub cartridge_ : t.cartridge ≡ cartridge_with r t.cylinder
  pub state : state_of r t.cylinder ≡ due_state t.kind

-- the change of the row that may be made once all tracks are copied
abbrev pub change_by : TransferKind → ℕ → Change
change_by kind.StageBlank cylinder = Staged cylinder
change_by kind.StageCartridge cylinder = Staged cylinder
change_by kind.Destage cylinder = Destaged cylinder

abbrev pub change_of : Transfer → Change
change_of t = change_by t.kind t.cylinder
