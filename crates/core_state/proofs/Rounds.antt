-- Rounds done: the recorder works until it is idle, and then each host calls, until no host has a call left.
use Rattle.std.proofs.Common.{ℕ, zero, suc, Bool, true, false, List, [], ◌∷◌, map, Option}
use Rattle.std.specs.Prelude.{if◌then◌else◌}
use Rattle.channel_commands.specs.Data.{CallData, ReplyData}
use Rattle.ckd_plain.specs.History.{EntryData}
use Rattle.volume_table.specs.declared.changes.Change.{Change}
use Rattle.core_state.specs.declared.session.Message.{Message}
use Rattle.core_state.specs.HostEvents.{replied}
use Rattle.core_state.specs.Chains.{Step, called, is_idle}
use Rattle.core_state.proofs.Runner.{World, calls, works, step}

-- so many events of the recorder at most
abbrev pub settled : ℕ → World → World
settled zero w = w
settled (suc n) w = let s = step w (works 0) in if is_idle s.0 then w else settled n s.1

-- a host with the calls that it has left
abbrev pub Script : Type 0
Script = ℕ × List CallData

abbrev pub is_replied : Step → Bool
is_replied (called h call (replied index reply)) = true
is_replied _ = false

-- after each of the hosts had one call, and what each has left
abbrev pub hosts_called : World → List Script → World × List Script
hosts_called w [] = (w, [])
hosts_called w ((h, []) ∷ more) =
    let r = hosts_called w more in
    (r.0, (h, []) ∷ r.1)
hosts_called w ((h, call ∷ rest) ∷ more) =
    let s = step w (calls h call) in
    let r = hosts_called s.1 more in
    (r.0, (h, if is_replied s.0 then rest else (call ∷ rest)) ∷ r.1)

-- so many rounds
abbrev pub rounds : ℕ → World → List Script → World
rounds zero w scripts = w
rounds (suc n) w scripts =
    let r = hosts_called (settled 60 w) scripts in
    rounds n r.0 r.1

-- what the report tells of messages and entries
abbrev pub changes_of : List Message → List (ℕ × Change × Option ℕ)
changes_of messages = map (λ m. (m.volume, m.change, m.freed)) messages

abbrev pub marks_of : List Message → List ℕ
marks_of messages = map (λ m. m.mark) messages

abbrev pub replies_of : List EntryData → List (ℕ × ReplyData)
replies_of entries = map (λ e. (e.host, e.reply)) entries
