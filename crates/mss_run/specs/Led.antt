-- What actors do to a session: events of hosts and recorders, one after the other.
use Rattle.std.specs.Prelude.{◌≡◌, ◌⊎◌, ◌<◌, ◌≤◌, ℕ, Bool, false, List, [], ◌∷◌, Option, None, Some}
use Rattle.channel_commands.specs.Data.{CallData}
use Rattle.victim_choice.specs.declared.choose.Candidate.{Candidate}
use Rattle.core_state.specs.Beginning.{IsLater}
use Rattle.core_state.specs.Chains.{Reading, Step, called, worked}
use Rattle.core_state.specs.CoreValue.{CoreData}
use Rattle.core_state.specs.HostEvents.{HostEvent, HostTold, IsSame}
use Rattle.core_state.specs.WorkEvents.{WorkEvent}
use Rattle.core_state.specs.declared.rule.WorkAnswer.{WorkAnswer}
use Rattle.core_state.specs.declared.rule.WorkAnswer.TheVariants.{Idle}
use Rattle.mss_run.specs.Sleep.{has_worker}
use Rattle.mss_run.specs.declared.present.Presence.{Presence}

-- ---- one event

-- an event of a recorder was done; of one that isn't configured there is none, and it is idle
abbrev pub Works : Type 0 → (List Candidate → ℕ → Type 0) → CoreData → ℕ → WorkAnswer → CoreData
    → Type 0
Works tells may core recorder told left =
    ((recorder < core.config.recorders) × WorkEvent tells may core recorder told left)
    ⊎ ((core.config.recorders ≤ recorder) × (told ≡ Idle) × (left ≡ core))

-- nobody was found who has work; or one whose own worker isn't in did it, behind others that were
-- idle
abbrev pub Helps : Type 0 → (List Candidate → ℕ → Type 0) → CoreData → Presence → WorkAnswer
    → CoreData → Type 0
Helps tells may core p told left =
    (told ≡ Idle)
    ⊎ ((mid : CoreData) × (recorder : ℕ) × (has_worker recorder p ≡ false)
    × IsSame tells core mid × Works tells may mid recorder told left)

-- an event of a host was done, behind a read for a copy, if one is taken; and help followed, where
-- an answer is told of it
abbrev pub HelpsThen : Type 0 → (List Candidate → ℕ → Type 0) → CoreData → Presence
    → Option WorkAnswer → CoreData → Type 0
HelpsThen tells may core p None left = left ≡ core
HelpsThen tells may core p (Some told) left = Helps tells may core p told left

abbrev pub HelpsBehind : Type 0 → (List Candidate → ℕ → Type 0) → Bool → Presence → ℕ → CallData
    → HostTold → Option WorkAnswer → CoreData → CoreData → Type 0
HelpsBehind tells may copies p h call told helped core left =
    Reading copies tells core (λ read.
    (mid : CoreData) × HostEvent tells read h call told mid
    × HelpsThen tells may mid p helped left)

-- ---- a session

-- whichever of them is chosen
abbrev pub any_choice : List Candidate → ℕ → Type 0
any_choice candidates place = Unit {0}

-- one event, of a host, or of a recorder that is configured
abbrev pub IsEventOf : Type 0 → CoreData → Step → CoreData → Type 0
IsEventOf tells core (called h call told) left = HostEvent tells core h call told left
IsEventOf tells core (worked recorder told) left =
    (recorder < core.config.recorders) × WorkEvent tells any_choice core recorder told left

-- these events, each of them behind reads for a copy, if one is taken, and such reads last: an entry
-- and its mark are those of its own event, and stay
abbrev pub AreEvents : Type 0 → Bool → CoreData → List Step → CoreData → Type 0
AreEvents tells copies core [] left = Reading copies tells core (λ read. left ≡ read)
AreEvents tells copies core (step ∷ steps) left =
    Reading copies tells core (λ read.
    (next : CoreData) × IsEventOf tells read step next × AreEvents tells copies next steps left)

-- left is the core at a later moment, and nothing but such events led there
pub record LeadsTo (tells : Type 0) (copies : Bool) (core left : CoreData) : Type 0 where
  pub later : IsLater tells core left
  pub steps : List Step
  pub events : AreEvents tells copies core steps left
