-- The checks that a command passes, in their order, before it does anything.
use Rattle.std.specs.Prelude.{ℕ, ◌+◌, ◌*◌, ◌==◌, Bool, true, false, ◌&&◌, ◌||◌, not, nat_lt, List, length, slice_index, bit_and, Option, Some, None, Result, Ok, Err, is_some, IsTrue, ◌≤◌}
use Rattle.channel_commands.specs.declared.command.Command.{Command}
use Rattle.channel_commands.specs.declared.command.Command.TheVariants as command
use Rattle.channel_commands.specs.declared.command.SeekKind.TheVariants as seek
use Rattle.channel_commands.specs.declared.command.WriteKind.TheVariants as write
use Rattle.channel_commands.specs.Codes.{command_of, is_write, least}
use Rattle.mss_base.specs.Geometry.{volume_cylinders, cylinder_heads}
use Rattle.ckd_plain.specs.declared.host.HostState.{HostState}
use Rattle.ckd_plain.specs.declared.host.Prior.{Prior}
use Rattle.ckd_plain.specs.declared.host.Prior.TheVariants as prior
use Rattle.ckd_plain.specs.declared.unit_check.UnitCheck.{UnitCheck}
use Rattle.ckd_plain.specs.declared.unit_check.UnitCheck.TheVariants as check

-- what comes after a step that may be refused
infixl 10 ◌>>=◌
abbrev pub ◌>>=◌ : {A B E : Type 0} → Result A E → (A → Result B E) → Result B E
(Ok x) >>= f = f x
(Err e) >>= f = Err e

-- nothing, where the test holds, and else the unit check
abbrev pub demand : Bool → UnitCheck → Result (Unit {0}) UnitCheck
demand true check = Ok tt
demand false check = Err check

-- the number in two bytes, from place i of an argument
abbrev pub number_at : List ℕ → ℕ → ℕ
number_at argument i = slice_index argument i * 256 + slice_index argument (i + 1)

-- the command of a code
abbrev pub command_or_reject : Option Command → Result Command UnitCheck
command_or_reject (Some command) = Ok command
command_or_reject None = Err check.CommandReject

-- Bits 3 and 4 of the file mask: 00 all seeks, 01 seek cylinder and seek head, 10 seek head, 11 no seek.
abbrev pub is_seek_allowed : ℕ → Command → Bool
is_seek_allowed mask (command.Seek seek.Full) = bit_and mask 0x18 == 0
is_seek_allowed mask (command.Seek seek.Cylinder) = (bit_and mask 0x18 == 0) || (bit_and mask 0x18 == 0x08)
is_seek_allowed mask (command.Seek seek.Head) = not (bit_and mask 0x18 == 0x18)
is_seek_allowed mask command.Recalibrate = bit_and mask 0x18 == 0
is_seek_allowed mask _ = true

-- Bits 0 and 1 of the file mask: 01 no writes, 10 no write of count, key and data; 00 and 11 let each through.
abbrev pub is_write_allowed : ℕ → Command → Bool
is_write_allowed mask (command.Write write.CountKeyData) = not ((bit_and mask 0xC0 == 0x40) || (bit_and mask 0xC0 == 0x80))
is_write_allowed mask (command.Write _) = not (bit_and mask 0xC0 == 0x40)
is_write_allowed mask _ = true

-- a write follows the search that met its record, or the write of the record before; R0 is never updated
abbrev pub is_prior_permitted : Prior → Command → Bool
is_prior_permitted (prior.IdEqual k) (command.Write write.CountKeyData) = true
is_prior_permitted (prior.KeyEqual k) (command.Write write.CountKeyData) = true
is_prior_permitted (prior.Wrote k) (command.Write write.CountKeyData) = true
is_prior_permitted prior.Nothing (command.Write write.CountKeyData) = false
is_prior_permitted (prior.IdEqual k) (command.Write write.KeyData) = nat_lt 0 k
is_prior_permitted _ (command.Write write.KeyData) = false
is_prior_permitted (prior.IdEqual k) (command.Write write.Data) = nat_lt 0 k
is_prior_permitted (prior.KeyEqual k) (command.Write write.Data) = nat_lt 0 k
is_prior_permitted _ (command.Write write.Data) = false
is_prior_permitted _ _ = true

-- nothing is written on a read-only volume
abbrev pub is_change_allowed : Bool → Command → Bool
is_change_allowed read_only command = not (read_only && is_write command)

-- a seek's address BB CC HH lies on the volume
abbrev pub is_address : Command → List ℕ → Bool
is_address (command.Seek seek.Head) argument = nat_lt (number_at argument 4) cylinder_heads
is_address (command.Seek _) argument =
    (number_at argument 0 == 0)
    && nat_lt (number_at argument 2) volume_cylinders
    && nat_lt (number_at argument 4) cylinder_heads
is_address _ argument = true

-- the command, where it passes the checks, and else what the first that fails gives; sense alone needs no volume
unfoldable pub admitted_command : HostState → ℕ → List ℕ → Result Command UnitCheck
admitted_command host code argument = do
  volume_is_there ← demand (is_some host.mounted || (code == 0x04)) check.InterventionRequired
  command ← command_or_reject (command_of code)
  is_long_enough ← demand (not (nat_lt (length argument) (least command))) check.CommandReject
  may_seek ← demand (is_seek_allowed host.mask command) check.FileProtected
  may_write ← demand (is_prior_permitted host.prior command && is_write_allowed host.mask command) check.CommandReject
  may_change ← demand (is_change_allowed host.protected command) check.FileProtected
  address_is_there ← demand (is_address command argument) check.CommandReject
  Ok command

-- what a command that is admitted can rely on
pub record Passes (host : HostState) (command : Command) (argument : List ℕ) : Type 0 where
  pub long : least command ≤ length argument
  pub change_ : IsTrue (is_change_allowed host.protected command)
  pub address : IsTrue (is_address command argument)
  pub prior_ : IsTrue (is_prior_permitted host.prior command)
