-- Histories: which are legal, and what they leave.
use Rattle.std.specs.Prelude.{◌≡◌, ◌↔◌, ℕ, ◌+◌, ◌==◌, Bool, true, false, List, [], ◌∷◌, ◌++◌, count_by, Option, Some, IsSome, IsTrue, Ok}
use Rattle.channel_commands.specs.declared.command.Command.{Command}
use Rattle.channel_commands.specs.Codes.{is_write}
use Rattle.channel_commands.specs.Data.{CallData, command as ask, ReplyData, equipment_check, no_space, stopped}
use Rattle.ckd_plain.specs.declared.unit_check.UnitCheck.{UnitCheck}
use Rattle.ckd_plain.specs.declared.unit_check.UnitCheck.TheVariants as check
use Rattle.ckd_plain.specs.Data.{State}
use Rattle.ckd_plain.specs.Checks.{admitted_command}
use Rattle.ckd_plain.specs.Effects.{is_data}
use Rattle.ckd_plain.specs.Plain.{with_open_chain, plain, host_after_check, with_host}

-- an entry of a history: a host's call, which of its calls it is, from 1, the reply, and the fault behind the reply
pub record EntryData : Type 0 where
  pub host : ℕ
  pub number : ℕ
  pub call : CallData
  pub reply : ReplyData
  pub fault : Option ℕ

-- ---- which calls are data commands

-- the call is a command that passes the checks, of a kind that the test holds of
abbrev pub Admits : (Command → Bool) → State → ℕ → CallData → Type 0
Admits test s h (ask code argument chained) = (c : Command) × (admitted_command (with_open_chain (s.host h)) code argument ≡ Ok c) × IsTrue (test c)
Admits test s h _ = ⊥

abbrev pub IsDataCommand : State → ℕ → CallData → Type 0
IsDataCommand = Admits is_data

abbrev pub IsWriteCommand : State → ℕ → CallData → Type 0
IsWriteCommand = Admits is_write

-- ---- one entry

-- the state after a reply that plain volumes don't give
abbrev pub state_after_check : UnitCheck → State → ℕ → State
state_after_check why s h = with_host s h (host_after_check why (s.host h))

abbrev pub left_by : ReplyData → State → ℕ → CallData → State
left_by equipment_check s h call = state_after_check check.EquipmentCheck s h
left_by no_space s h call = state_after_check check.NoSpace s h
left_by stopped s h call = s
left_by _ s h call = (plain s h call).1

-- the state after an entry
unfoldable pub state_after : State → EntryData → State
state_after s e = left_by e.reply s e.host e.call

-- the reply is the plain one, or one of the three exceptions in its place
abbrev pub IsAnswered : State → EntryData → ReplyData → Type 0
IsAnswered s e equipment_check = IsDataCommand s e.host e.call
IsAnswered s e no_space = IsDataCommand s e.host e.call
IsAnswered s e stopped = IsWriteCommand s e.host e.call
IsAnswered s e reply = reply ≡ (plain s e.host e.call).0

abbrev pub keeps_fault : ReplyData → Bool
keeps_fault equipment_check = true
keeps_fault stopped = true
keeps_fault _ = false

-- no other host has an open chain on the volume that the host has mounted
abbrev pub IsAlone : State → ℕ → CallData → Type 0
IsAlone s h (ask code argument chained) =
    (other v : ℕ) (bind bind' : Bool) → (s.host h).mounted ≡ Some (v, bind) → (s.host other).mounted ≡ Some (v, bind') → IsTrue (s.host other).chain_open → other ≡ h
IsAlone s h _ = Unit {0}

-- the entry may come next, where so many entries of its host are before it
pub record IsNextEntry (s : State) (before : ℕ) (e : EntryData) : Type 0 where
  pub number : e.number ≡ before + 1
  pub answered : IsAnswered s e e.reply
  pub fault : IsSome e.fault ↔ IsTrue (keeps_fault e.reply)
  pub alone : IsAlone s e.host e.call

-- ---- whole histories

abbrev pub count_of_host : ℕ → List EntryData → ℕ
count_of_host h entries = count_by (λ (e : EntryData). e.host == h) entries

-- the state after a history
abbrev pub after : State → List EntryData → State
after s [] = s
after s (e ∷ es) = after (state_after s e) es

abbrev pub IsStopped : ReplyData → Type 0
IsStopped stopped = Unit {0}
IsStopped _ = ⊥

-- what comes after the entries before, from the state that they leave
abbrev pub IsLegalAfter : List EntryData → State → List EntryData → Type 0
IsLegalAfter before s [] = Unit {0}
IsLegalAfter before s (e ∷ es) =
    IsNextEntry s (count_of_host e.host before) e × (IsStopped e.reply → es ≡ []) × IsLegalAfter (before ++ e ∷ []) (state_after s e) es

abbrev pub IsLegal : State → List EntryData → Type 0
IsLegal s entries = IsLegalAfter [] s entries

-- no entry is a stopped one
abbrev pub HasNoStop : List EntryData → Type 0
HasNoStop [] = Unit {0}
HasNoStop (e ∷ es) = (IsStopped e.reply → ⊥) × HasNoStop es
