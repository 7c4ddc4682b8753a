-- Where the code's cursor stands, and what the results of `next` say.
use Rattle.std.specs.Prelude.{◌≡◌, ℕ, Bool, List, Option, Some, None, slice_get}
use Rattle.channel_commands.specs.declared.call.BreakCause.TheVariants as cause
use Rattle.channel_commands.specs.Data.{command, break, ReplyData, CcwData, device}
use Rattle.channel_program.specs.declared.cursor.Cursor.{Cursor}
use Rattle.channel_program.specs.declared.cursor.NextCall.{NextCall}
use Rattle.channel_program.specs.declared.cursor.NextCall.TheVariants as given
use Rattle.channel_program.specs.Script.{Standing, at_start, word_after, next_call, standing_after}

-- where a program stands after the reply to its last call; with no reply it is at its start
abbrev pub standing_of : List CcwData → Cursor → Option ReplyData → Standing
standing_of words cursor None = at_start
standing_of words cursor (Some reply) = record { word = word_after words cursor.word reply; executed = cursor.executed }

-- a word is a command
pub record HoldsCommand (words : List CcwData) (word : ℕ) : Type 0 where
  pub code : ℕ
  pub argument : List ℕ
  pub there : slice_get words word ≡ Some (device code argument)

-- the command at a word is the next call
pub record IsNextCommand (words : List CcwData) (at : Standing) (word : ℕ) (chained : Bool) : Type 0 where
  pub held : HoldsCommand words word
  pub call : next_call words at ≡ Some (command held.code held.argument chained)

-- what the result says of the next call
abbrev pub Says : List CcwData → Standing → NextCall → Type 0
Says words at (given.Command word chained) = IsNextCommand words at word chained
Says words at given.Ended = next_call words at ≡ None
Says words at given.ProgramCheck = next_call words at ≡ Some (break cause.Program)
Says words at given.ChainLimit = next_call words at ≡ Some (break cause.Limit)

-- what becomes of the cursor: after a command the program stands, whatever the reply, where it moved; else it stays
abbrev pub Moves : List CcwData → Standing → NextCall → Cursor → Cursor → Type 0
Moves words at (given.Command word chained) old new = (reply : ReplyData) → standing_of words new (Some reply) ≡ standing_after words at reply
Moves words at _ old new = new ≡ old
