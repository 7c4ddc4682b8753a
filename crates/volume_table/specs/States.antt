-- The numbers of the states of a cylinder.
use Rattle.std.specs.Prelude.{ℕ}
use Rattle.volume_table.specs.declared.state.CylinderState.{CylinderState}
use Rattle.volume_table.specs.declared.state.CylinderState.TheVariants.{Blank, OnCartridge, StagedBlank, Staged, Changed}

-- as they stand in a row; from 2 on the cylinder stands in a frame
abbrev pub state_number : CylinderState → ℕ
state_number Blank = 0
state_number OnCartridge = 1
state_number StagedBlank = 2
state_number Staged = 3
state_number Changed = 4
