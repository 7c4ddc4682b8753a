-- A place in a script, as the code keeps it.
use Rattle.std.specs.Prelude.{◌≡◌, ◌≢◌, ◌≤◌, List, ◌∷◌, length, drop, Some, IfSome}
use Rattle.channel_commands.specs.Data.{ReplyData, CcwData}
use Rattle.channel_commands.specs.Views.{call_of}
use Rattle.channel_program.specs.Script.{ItemData, program, Standing, standing_after}
use Rattle.channel_program.specs.Views.{standing_of, HoldsCommand, Says}
use Rattle.channel_program.specs.declared.cursor.Cursor.{Cursor}
use Rattle.channel_program.specs.declared.cursor.NextCall.{NextCall}
use Rattle.channel_program.specs.declared.cursor.NextCall.TheVariants.{Ended, Command}
use Rattle.script_places.specs.declared.place.Place.{Place}
use Rattle.script_places.specs.Scripts.{Left, next_of, program_left}

-- a command that comes next stands in the program
abbrev pub HoldsNext : List CcwData → NextCall → Type 0
HoldsNext words (Command word chained) = HoldsCommand words word
HoldsNext words _ = Unit {0}

-- from there a cursor goes on with a program's next call
abbrev pub GoesOnFrom : List CcwData → Standing → NextCall → Cursor → Type 0
GoesOnFrom words at (Command word chained) cursor =
    (reply : ReplyData) → standing_of words cursor (Some reply) ≡ standing_after words at reply
GoesOnFrom words at _ cursor = Unit {0}

-- the next call of a program that stands here is known, and there is one
pub record KnowsNext (words : List CcwData) (at : Standing) (p : Place) : Type 0 where
  pub call : Says words at p.next
  pub some : p.next ≢ Ended
  pub goes_on : GoesOnFrom words at p.next p.cursor

abbrev pub KnowsItem : List ItemData → Standing → Place → Type 0
KnowsItem (program words ∷ more) at p = KnowsNext words at p
KnowsItem _ at p = Unit {0}

-- the place is where so much of the script is left
pub record StandsAt (script : List ItemData) (left : Left) (p : Place) : Type 0 where
  pub within : p.item ≤ length script
  pub items : left.items ≡ drop p.item script
  pub knows : KnowsItem left.items left.at p
  -- a call that waits there is the one that comes next
  pub waits : IfSome p.call (λ call. next_of left.items left.at ≡ Some (call_of call))

abbrev pub IsPlace : List ItemData → Place → Type 0
IsPlace script p = (left : Left) × StandsAt script left p

-- the place is in this program, which stands here, with these items behind it
pub record IsWithin (script : List ItemData) (words : List CcwData) (at : Standing)
    (more : List ItemData) (p : Place) : Type 0 where
  pub items : drop p.item script ≡ program words ∷ more
  pub knows : KnowsNext words at p

-- behind the reply the program stands where the cursor does
abbrev pub IsAt : List CcwData → Standing → Cursor → ReplyData → Type 0
IsAt words at cursor reply = standing_of words cursor (Some reply) ≡ standing_after words at reply

-- behind the reply it goes on, or the next item is begun
abbrev pub IsPassed : List ItemData → List CcwData → Standing → List ItemData → ReplyData → Place
    → Type 0
IsPassed script words at more reply p =
    StandsAt script (program_left words more (standing_after words at reply) (standing_after words at reply).word) p
