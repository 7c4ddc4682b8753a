-- What calls, replies and command words of the code stand for.
use Rattle.std.specs.Prelude.{◌≤◌, ℕ, Bool, List, length}
use Rattle.std.specs.Arc.{arc_value}
use Rattle.channel_commands.specs.declared.argument.Argument.{Argument}
use Rattle.channel_commands.specs.declared.argument.Argument.TheVariants as argument
use Rattle.channel_commands.specs.declared.argument.TheConstants.{INLINE_BYTES}
use Rattle.channel_commands.specs.declared.call.Call.{Call}
use Rattle.channel_commands.specs.declared.call.Call.TheVariants as call
use Rattle.channel_commands.specs.declared.call.DeviceCommand.{DeviceCommand}
use Rattle.channel_commands.specs.declared.ccw.Ccw.{Ccw}
use Rattle.channel_commands.specs.declared.ccw.Ccw.TheVariants as ccw
use Rattle.channel_commands.specs.declared.call.Reply.{Reply}
use Rattle.channel_commands.specs.declared.call.Reply.TheVariants as reply
use Rattle.channel_commands.specs.Data.{CallData, mount, demount, command, break, ReplyData, done, mounted, demounted, already_mounted, not_mounted, no_volume, in_chain, program_check, chain_limit, equipment_check, no_space, stopped, CcwData, device, transfer}

-- the bytes of an argument
abbrev pub argument_bytes : Argument → List ℕ
argument_bytes (argument.Inline bytes) = bytes.items
argument_bytes (argument.Shared bytes) = (arc_value bytes).items

-- an argument of these bytes takes no memory
abbrev pub IsShort : List ℕ → Type 0
IsShort bytes = length bytes ≤ INLINE_BYTES

-- a reply as plain data
abbrev pub reply_of : Reply → ReplyData
reply_of (reply.Done status bytes) = done status bytes.items
reply_of reply.Mounted = mounted
reply_of reply.Demounted = demounted
reply_of reply.AlreadyMounted = already_mounted
reply_of reply.NotMounted = not_mounted
reply_of reply.NoVolume = no_volume
reply_of reply.InChain = in_chain
reply_of reply.ProgramCheck = program_check
reply_of reply.ChainLimit = chain_limit
reply_of reply.EquipmentCheck = equipment_check
reply_of reply.NoSpace = no_space
reply_of reply.Stopped = stopped

-- what a function of a code, an argument and a chaining gives for a device command
abbrev pub for_command : {X : Type 0} → (ℕ → List ℕ → Bool → X) → DeviceCommand → X
for_command f c = f c.code (argument_bytes c.argument) c.chained

-- a device command as plain data
abbrev pub asked_of : DeviceCommand → CallData
asked_of = for_command command

-- a call as plain data
abbrev pub call_of : Call → CallData
call_of (call.Mount volume bind) = mount volume bind
call_of call.Demount = demount
call_of (call.Command c) = asked_of c
call_of (call.Break cause) = break cause

-- nor does that of a call
abbrev pub HasShortArgument : CallData → Type 0
HasShortArgument (command code argument chained) = IsShort argument
HasShortArgument _ = Unit {0}

-- a command word as plain data
abbrev pub ccw_of : Ccw → CcwData
ccw_of (ccw.Device code argument) = device code (argument_bytes argument)
ccw_of (ccw.Transfer to) = transfer to
