-- Calls, replies and channel command words as plain data.
use Rattle.std.specs.Prelude.{ℕ, ◌==◌, Bool, true, false, not, List, bit_and}
use Rattle.channel_commands.specs.declared.call.BreakCause.{BreakCause}

-- what a host asks
pub data CallData : Type 0 where
  mount : ℕ → Bool → CallData
  demount : CallData
  command : ℕ → List ℕ → Bool → CallData
  break : BreakCause → CallData

-- whether a call is a device command
abbrev pub is_command : CallData → Bool
is_command (command code argument chained) = true
is_command _ = false

-- what a host is told
pub data ReplyData : Type 0 where
  done : ℕ → List ℕ → ReplyData
  mounted : ReplyData
  demounted : ReplyData
  already_mounted : ReplyData
  not_mounted : ReplyData
  no_volume : ReplyData
  in_chain : ReplyData
  program_check : ReplyData
  chain_limit : ReplyData
  equipment_check : ReplyData
  no_space : ReplyData
  stopped : ReplyData

-- the status has unit check or unit exception
abbrev pub has_trouble : ℕ → Bool
has_trouble status = not (bit_and status 0x03 == 0)

-- one word of a channel program: a device command with its argument, or a transfer to a word
pub data CcwData : Type 0 where
  device : ℕ → List ℕ → CcwData
  transfer : ℕ → CcwData
