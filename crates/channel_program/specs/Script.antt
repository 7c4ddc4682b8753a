-- Scripts of hosts: which lists of calls and replies follow one.
use Rattle.std.specs.Prelude.{◌≡◌, ◌⊎◌, ℕ, ◌+◌, ◌==◌, nat_le, Bool, true, false, ◌||◌, not, List, [], ◌∷◌, ◌++◌, length, count_by, slice_get, bit_and, Option, Some, None, option_map, is_some, if◌then◌else◌}
use Rattle.channel_commands.specs.declared.call.BreakCause.TheVariants as cause
use Rattle.channel_commands.specs.Data.{CallData, mount, demount, command, break, is_command, ReplyData, done, has_trouble, CcwData, device, transfer}

-- what a host does next: it mounts a volume, demounts it, or runs a channel program
pub data ItemData : Type 0 where
  mounting : ℕ → Bool → ItemData
  demounting : ItemData
  program : List CcwData → ItemData

-- a call with its reply
abbrev pub Exchange : Type 0
Exchange = CallData × ReplyData

-- a command that a program comes to: its word, its code and its argument
pub record Reached : Type 0 where
  pub word : ℕ
  pub code : ℕ
  pub argument : List ℕ

-- a word with a command; a transfer is none
abbrev pub command_in : ℕ → Option CcwData → Option Reached
command_in w (Some (device code argument)) = Some (record { word = w; code = code; argument = argument })
command_in w (Some (transfer to)) = None
command_in w None = None

-- a word leads to itself or, behind word 0, over one transfer to a command
abbrev pub reached_by : List CcwData → ℕ → Option CcwData → Option Reached
reached_by words w (Some (device code argument)) = Some (record { word = w; code = code; argument = argument })
reached_by words w (Some (transfer to)) = if w == 0 then None else command_in to (slice_get words to)
reached_by words w None = None

abbrev pub word_reached : List CcwData → ℕ → Option Reached
word_reached words w = reached_by words w (slice_get words w)

abbrev pub is_last : List CcwData → ℕ → Bool
is_last words w = w + 1 == length words

abbrev pub has_modifier : ℕ → Bool
has_modifier status = bit_and status 0x40 == 0x40

-- the word to go to after a reply to the command at word w; none where the program is finished
abbrev pub word_after : List CcwData → ℕ → ReplyData → Option ℕ
word_after words w (done status bytes) =
    if has_trouble status || is_last words w then None
    else Some (if has_modifier status then w + 2 else w + 1)
word_after words w _ = None

-- the most commands that a program runs
abbrev pub CHAIN_LIMIT : ℕ
CHAIN_LIMIT = 2048

-- where a program stands: the word to go to, or none where it is finished, and how many calls it made
pub record Standing : Type 0 where
  pub word : Option ℕ
  pub executed : ℕ

abbrev pub at_start : Standing
at_start = record { word = Some 0; executed = 0 }

-- the call for what a word leads to: chained, where the program has words behind it
abbrev pub call_for : List CcwData → ℕ → Option Reached → CallData
call_for words executed None = break cause.Program
call_for words executed (Some at) =
    if nat_le CHAIN_LIMIT executed then break cause.Limit else command at.code at.argument (not (is_last words at.word))

-- the call that a program makes next; none where it is finished
abbrev pub next_call : List CcwData → Standing → Option CallData
next_call words at = option_map (λ w. call_for words at.executed (word_reached words w)) at.word

-- the word to go to after a reply to the call for what a word leads to; a break finishes the program
abbrev pub word_from : List CcwData → ℕ → Option Reached → ReplyData → Option ℕ
word_from words executed None reply = None
word_from words executed (Some at) reply = if nat_le CHAIN_LIMIT executed then None else word_after words at.word reply

abbrev pub word_from_standing : List CcwData → ℕ → Option ℕ → ReplyData → Option ℕ
word_from_standing words executed None reply = None
word_from_standing words executed (Some w) reply = word_from words executed (word_reached words w) reply

-- where the program stands after a reply to its next call
abbrev pub standing_after : List CcwData → Standing → ReplyData → Standing
standing_after words at reply =
    record { word = word_from_standing words at.executed at.word reply; executed = at.executed + 1 }

-- the exchanges are those of a program that goes from one standing to another
abbrev pub RunsWords : List CcwData → Standing → List Exchange → Standing → Type 0
RunsWords words from [] to = from ≡ to
RunsWords words from (x ∷ xs) to =
    (next_call words from ≡ Some x.0) × RunsWords words (standing_after words from x.1) xs to

-- the exchanges of one item; the flag says whether it is finished
abbrev pub Gives : ItemData → List Exchange → Bool → Type 0
Gives (mounting volume bind) [] finished = finished ≡ false
Gives (mounting volume bind) (x ∷ xs) finished = (x.0 ≡ mount volume bind) × (xs ≡ []) × (finished ≡ true)
Gives demounting [] finished = finished ≡ false
Gives demounting (x ∷ xs) finished = (x.0 ≡ demount) × (xs ≡ []) × (finished ≡ true)
Gives (program words) xs finished =
    (to : Standing) × RunsWords words at_start xs to × (finished ≡ not (is_some to.word))

-- the exchanges follow the items: item after item what each gives, and only the last may be unfinished
abbrev pub Follows : List ItemData → List Exchange → Type 0
Follows [] xs = xs ≡ []
Follows (item ∷ items) xs =
    Gives item xs false
    ⊎ ((front : List Exchange) × (rest : List Exchange) × (xs ≡ front ++ rest) × Gives item front true × Follows items rest)

-- the exchanges follow the items, and every item is finished
abbrev pub FollowsToEnd : List ItemData → List Exchange → Type 0
FollowsToEnd [] xs = xs ≡ []
FollowsToEnd (item ∷ items) xs =
    (front : List Exchange) × (rest : List Exchange) × (xs ≡ front ++ rest) × Gives item front true × FollowsToEnd items rest

-- how many of the calls are commands
abbrev pub commands : List Exchange → ℕ
commands xs = count_by (λ x. is_command x.0) xs
