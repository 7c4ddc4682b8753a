-- The table of the command codes.
use Rattle.std.specs.Prelude.{ℕ, ◌==◌, Bool, true, false, List, [], ◌∷◌, Option, Some, None, if◌then◌else◌}
use Rattle.channel_commands.specs.declared.command.Command.{Command}
use Rattle.channel_commands.specs.declared.command.Command.TheVariants as command
use Rattle.channel_commands.specs.declared.command.SeekKind.TheVariants as seek
use Rattle.channel_commands.specs.declared.command.SearchField.TheVariants as field
use Rattle.channel_commands.specs.declared.command.SearchTest.TheVariants as test
use Rattle.channel_commands.specs.declared.command.ReadWhat.TheVariants as what
use Rattle.channel_commands.specs.declared.command.WriteKind.TheVariants as write

-- each code with its command; bit 80 means multi-track
abbrev pub table : List (ℕ × Command)
table =
    (0x03, command.NoOp) ∷ (0x04, command.Sense)
    ∷ (0x07, command.Seek seek.Full) ∷ (0x0B, command.Seek seek.Cylinder) ∷ (0x1B, command.Seek seek.Head)
    ∷ (0x13, command.Recalibrate) ∷ (0x1F, command.SetMask) ∷ (0x23, command.SetSector)
    ∷ (0x39, command.Search field.Home test.Equal false) ∷ (0xB9, command.Search field.Home test.Equal true)
    ∷ (0x31, command.Search field.Id test.Equal false) ∷ (0xB1, command.Search field.Id test.Equal true)
    ∷ (0x51, command.Search field.Id test.High false) ∷ (0xD1, command.Search field.Id test.High true)
    ∷ (0x71, command.Search field.Id test.EqualOrHigh false) ∷ (0xF1, command.Search field.Id test.EqualOrHigh true)
    ∷ (0x29, command.Search field.Key test.Equal false) ∷ (0xA9, command.Search field.Key test.Equal true)
    ∷ (0x49, command.Search field.Key test.High false) ∷ (0xC9, command.Search field.Key test.High true)
    ∷ (0x69, command.Search field.Key test.EqualOrHigh false) ∷ (0xE9, command.Search field.Key test.EqualOrHigh true)
    ∷ (0x06, command.Read what.Data false) ∷ (0x86, command.Read what.Data true)
    ∷ (0x0E, command.Read what.KeyData false) ∷ (0x8E, command.Read what.KeyData true)
    ∷ (0x1E, command.Read what.CountKeyData false) ∷ (0x9E, command.Read what.CountKeyData true)
    ∷ (0x12, command.Read what.Count false) ∷ (0x92, command.Read what.Count true)
    ∷ (0x16, command.Read what.RecordZero false) ∷ (0x96, command.Read what.RecordZero true)
    ∷ (0x1A, command.Read what.Home false) ∷ (0x9A, command.Read what.Home true)
    ∷ (0x05, command.Write write.Data) ∷ (0x0D, command.Write write.KeyData) ∷ (0x1D, command.Write write.CountKeyData)
    ∷ []

-- the command of the first row with a code
abbrev pub at_code : ℕ → List (ℕ × Command) → Option Command
at_code code [] = None
at_code code (row ∷ rows) = if code == row.0 then Some row.1 else at_code code rows

-- the command of a code
abbrev pub command_of : ℕ → Option Command
command_of code = at_code code table

-- the least length of a command's argument, in bytes
abbrev pub least : Command → ℕ
least (command.Seek _) = 6
least command.SetMask = 1
least command.SetSector = 1
least (command.Search field.Home _ _) = 4
least (command.Search field.Id _ _) = 5
least (command.Search field.Key _ _) = 1
least (command.Write write.CountKeyData) = 8
least _ = 0

-- whether a command writes on the track
abbrev pub is_write : Command → Bool
is_write (command.Write _) = true
is_write _ = false
