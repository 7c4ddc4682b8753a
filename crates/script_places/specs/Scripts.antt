-- What a host does next, by its script and by what it was told so far.
use Rattle.std.specs.Prelude.{◌≡◌, ℕ, ◌==◌, List, [], ◌∷◌, Option, Some, None, if◌then◌else◌}
use Rattle.channel_commands.specs.Data.{CallData, mount, demount, ReplyData, CcwData}
use Rattle.channel_program.specs.Script.{ItemData, mounting, demounting, program, Exchange}
use Rattle.channel_program.specs.Script.{Standing, at_start, next_call, standing_after}
use Rattle.ckd_plain.specs.History.{EntryData}
use Rattle.job_text.specs.Jobs.{ScriptData}

-- what is left of a script: its items, and where the first of them stands, if it is a program
pub record Left : Type 0 where
  pub items : List ItemData
  pub at : Standing

abbrev pub not_begun : List ItemData → Left
not_begun items = record { items = items; at = at_start }

-- the call that comes next, unless nothing is left
abbrev pub next_of : List ItemData → Standing → Option CallData
next_of [] at = None
next_of (mounting volume bind ∷ more) at = Some (mount volume bind)
next_of (demounting ∷ more) at = Some demount
next_of (program words ∷ more) at = next_call words at

-- a program that has a word to go to goes on, and else it is finished
abbrev pub program_left : List CcwData → List ItemData → Standing → Option ℕ → Left
program_left words more at None = not_begun more
program_left words more at (Some word) = record { items = program words ∷ more; at = at }

-- what is left behind a reply to that call
abbrev pub left_by : List ItemData → Standing → ReplyData → Left
left_by [] at reply = not_begun []
left_by (mounting volume bind ∷ more) at reply = not_begun more
left_by (demounting ∷ more) at reply = not_begun more
left_by (program words ∷ more) at reply =
    program_left words more (standing_after words at reply) (standing_after words at reply).word

-- and behind a list of calls with their replies
abbrev pub left_after : Left → List Exchange → Left
left_after left [] = left
left_after left (x ∷ xs) = left_after (left_by left.items left.at x.1) xs

-- behind an entry, if there is one
abbrev pub left_behind : Left → Option EntryData → Left
left_behind left None = left
left_behind left (Some e) = left_by left.items left.at e.reply

-- each of them is the call that came next
abbrev pub Plays : Left → List Exchange → Type 0
Plays left [] = Unit {0}
Plays left (x ∷ xs) =
    (next_of left.items left.at ≡ Some x.0) × Plays (left_by left.items left.at x.1) xs

-- ---- of the hosts of a job

-- a host that isn't in the job does nothing
abbrev pub script_of : List ScriptData → ℕ → List ItemData
script_of [] h = []
script_of (script ∷ scripts) h = if script.host == h then script.items else script_of scripts h

-- a host's own calls in a history, with their replies
abbrev pub exchanges_of : ℕ → List EntryData → List Exchange
exchanges_of h [] = []
exchanges_of h (e ∷ es) =
    if e.host == h then (e.call, e.reply) ∷ exchanges_of h es else exchanges_of h es

abbrev pub left_of : List ScriptData → List EntryData → ℕ → Left
left_of scripts history h = left_after (not_begun (script_of scripts h)) (exchanges_of h history)

-- a host's next call after a history, if it has one
abbrev pub calls_of : List ScriptData → List EntryData → ℕ → Option CallData
calls_of scripts history h =
    next_of (left_of scripts history h).items (left_of scripts history h).at
