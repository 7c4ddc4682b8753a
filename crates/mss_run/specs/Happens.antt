-- What an event of a host adds to the history, and what one in vain leaves.
use Rattle.std.specs.Prelude.{◌≡◌, ◌⊎◌, ℕ, ◌==◌, Bool, false, List, [], ◌∷◌, ◌++◌, length, Some}
use Rattle.channel_commands.specs.Data.{CallData, ReplyData, stopped}
use Rattle.ckd_plain.specs.History.{EntryData, IsStopped}
use Rattle.core_state.specs.Chains.{Reading}
use Rattle.core_state.specs.CoreValue.{CoreData}
use Rattle.core_state.specs.declared.session.TheConstants.{ENTRY_LIMIT}
use Rattle.core_state.specs.HostEvents.{HostTold, replied, marked, waits, halts, at_limit, no_memory, IsSame}

-- one entry was added, of this host, call and reply, at this place
pub record Enters (host : ℕ) (call : CallData) (reply : ReplyData) (index : ℕ)
    (old new : List EntryData) : Type 0 where
  pub entry : EntryData
  pub host_ : entry.host ≡ host
  pub call_ : entry.call ≡ call
  pub reply_ : entry.reply ≡ reply
  pub index_ : index ≡ length old
  pub history : new ≡ old ++ entry ∷ []

-- a stop was added, with this fault
pub record EntersStop (host : ℕ) (call : CallData) (fault : ℕ) (old new : List EntryData) : Type 0
  where
    pub enters : Enters host call stopped (length old) old new
    pub fault_ : enters.entry.fault ≡ Some fault

-- it is a wait, and no event was put down
abbrev pub is_in_vain : HostTold → ℕ → ℕ → Bool
is_in_vain (waits why) before after = after == before
is_in_vain _ before after = false

-- nothing changed, but that a read for a copy came before, if one is taken: it may have failed
abbrev pub IsSameButRead : Bool → Type 0 → CoreData → CoreData → Type 0
IsSameButRead copies tells core core' = Reading copies tells core (λ read. IsSame tells read core')

-- a reply is the last entry; a stop may be one; at the limit there is no room; else nothing was added
abbrev pub Happens : ℕ → CallData → HostTold → List EntryData → List EntryData → Type 0
Happens host call (replied index reply) old new =
    Enters host call reply index old new × (IsStopped reply → ⊥)
Happens host call (halts fault) old new =
    (new ≡ old) ⊎ EntersStop host call fault old new
Happens host call at_limit old new = (new ≡ old) × (length old ≡ ENTRY_LIMIT)
Happens host call marked old new = new ≡ old
Happens host call (waits why) old new = new ≡ old
Happens host call no_memory old new = new ≡ old
