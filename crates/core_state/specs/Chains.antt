-- Events one after the other.
use Rattle.std.specs.Prelude.{◌≡◌, ◌⊎◌, ◌<◌, ◌≤◌, ℕ, zero, suc, Bool, true, false, ◌&&◌, ◌||◌, List, []}
use Rattle.std.specs.Prelude.{◌∷◌, Option, Some, None, is_some, IsSome}
use Rattle.channel_commands.specs.Data.{CallData}
use Rattle.ckd_plain.specs.History.{EntryData}
use Rattle.fault_queue.specs.declared.queue.Request.{Request}
use Rattle.fault_queue.specs.declared.queue.RequestState.{RequestState}
use Rattle.fault_queue.specs.declared.queue.RequestState.TheVariants as request
use Rattle.fault_queue.specs.Requests.{RequestsData}
use Rattle.victim_choice.specs.declared.choose.Candidate.{Candidate}
use Rattle.volume_table.specs.Listed.{row_in_list}
use Rattle.shown_volumes.specs.Sound.{frame_in}
use Rattle.core_state.specs.declared.session.Event.{Event}
use Rattle.core_state.specs.declared.session.Event.TheVariants.{Host, Work}
use Rattle.core_state.specs.declared.rule.WorkAnswer.{WorkAnswer}
use Rattle.core_state.specs.declared.rule.WorkAnswer.TheVariants.{Idle, Stopped, Memory}
use Rattle.core_state.specs.CoreValue.{CoreData, DevicesSeen}
use Rattle.core_state.specs.Pins.{owner_at, page_of, is_bound, is_held}
use Rattle.core_state.specs.HostEvents.{HostTold, halts, at_limit, no_memory, HostEvent}
use Rattle.core_state.specs.WorkEvents.{WorkEvent}

-- an event with its answer
pub data Step : Type 0 where
  called : ℕ → CallData → HostTold → Step
  worked : ℕ → WorkAnswer → Step

-- after these answers no event follows
abbrev pub is_end : Step → Bool
is_end (called h call (halts fault)) = true
is_end (called h call at_limit) = true
is_end (called h call no_memory) = true
is_end (worked recorder (Stopped fault)) = true
is_end (worked recorder Memory) = true
is_end _ = false

abbrev pub is_idle : Step → Bool
is_idle (worked recorder Idle) = true
is_idle _ = false

-- the host's call, or the recorder's work, and none other
abbrev pub IsCallOf : ℕ → CallData → Step → Type 0
IsCallOf h call (called h' call' told) = (h' ≡ h) × (call' ≡ call)
IsCallOf h call _ = ⊥

abbrev pub IsWorkOf : ℕ → Step → Type 0
IsWorkOf recorder (worked r told) = r ≡ recorder
IsWorkOf recorder _ = ⊥

-- one fact where a test holds, and else another
abbrev pub OneOf : Bool → Type 0 → Type 0 → Type 0
OneOf true A B = A
OneOf false A B = B

-- what goes on from a core with some events left
abbrev pub Onward : Type 1
Onward = CoreData → List Step → Type 0

-- whether one of these hosts has a call
abbrev pub has_call : (List EntryData → ℕ → Option CallData) → List ℕ → CoreData → Bool
has_call calls [] core = false
has_call calls (h ∷ hs) core = is_some (calls core.history h) || has_call calls hs core

-- ---- on which terms events follow each other

-- whether the site tells, what the chooser may answer, and whether a copy of a volume is taken
-- meanwhile
pub record Terms : Type 1 where
  pub tells : Type 0
  pub may : List Candidate → ℕ → Type 0
  pub copies : Bool

-- without a copy
abbrev pub without_copy : Type 0 → (List Candidate → ℕ → Type 0) → Terms
without_copy tells may = record { tells = tells; may = may; copies = false }

-- devices that were read, whether or not a read failed
pub record WereRead (tells : Type 0) (old new : DevicesSeen) : Type 0 where
  pub told : tells → new.told ≡ old.told
  pub unwritten : new.writes ≡ old.writes
  pub later : old.faults ≤ new.faults

-- what is so of a core behind the reads of a copy, if one is taken
abbrev pub Reading : Bool → Type 0 → CoreData → (CoreData → Type 0) → Type 0
Reading false tells core P = P core
Reading true tells core P =
    (site : DevicesSeen) × WereRead tells core.site site × P (record core { site = site })

module _ (terms : Terms) where
  abbrev pub IsEvent : CoreData → Step → CoreData → Type 0
  IsEvent core (called h call told) core' =
      Reading terms.copies terms.tells core
      (λ read. HostEvent terms.tells read h call told core')
  IsEvent core (worked recorder told) core' =
      WorkEvent terms.tells terms.may core recorder told core'

  -- each event begins with the core that the one before left
  abbrev pub IsChain : CoreData → List Step → CoreData → Type 0
  IsChain core [] core' = core' ≡ core
  IsChain core (step ∷ steps) core' =
      (next : CoreData) × IsEvent core step next × IsChain next steps core'

  -- the first of some events is this one, and the others go on, unless none follows it
  abbrev pub Goes : CoreData → (Step → Type 0) → List Step → CoreData → Onward → Type 0
  Goes core Is [] core' go = ⊥
  Goes core Is (step ∷ steps) core' go =
      (next : CoreData) × Is step × IsEvent core step next
      × OneOf (is_end step) ((steps ≡ []) × (core' ≡ next)) (go next steps)

  -- ---- until nothing is left to do

  -- one event of each of these recorders, in turn; idle: whether all of the turn so far were idle
  abbrev pub WorkTurn : List ℕ → Bool → CoreData → List Step → CoreData → (Bool → Onward) → Type 0
  WorkTurn [] idle core steps core' go = go idle core steps
  WorkTurn (r ∷ rs) idle core [] core' go = ⊥
  WorkTurn (r ∷ rs) idle core (step ∷ steps) core' go =
      Goes core (IsWorkOf r) (step ∷ steps) core'
      (λ next rest. WorkTurn rs (idle && is_idle step) next rest core' go)

  -- so many turns, of which the last is idle as a whole, and no other
  abbrev pub Settles : List ℕ → ℕ → CoreData → List Step → CoreData → Onward → Type 0
  Settles recorders zero core steps core' go = ⊥
  Settles recorders (suc turns) core steps core' go =
      WorkTurn recorders true core steps core'
      (λ idle next rest. OneOf idle ((turns ≡ zero) × go next rest)
      (Settles recorders turns next rest core' go))

  -- ---- rounds; calls: a host's next call after a history, if it has one

  abbrev pub HostGoes : Option CallData → ℕ → CoreData → List Step → CoreData → Onward → Type 0
  HostGoes None h core steps core' go = go core steps
  HostGoes (Some call) h core steps core' go = Goes core (IsCallOf h call) steps core' go

  -- one event of each of these hosts that has a call, in order
  abbrev pub HostTurn : (List EntryData → ℕ → Option CallData) → List ℕ → CoreData → List Step
      → CoreData → Onward → Type 0
  HostTurn calls [] core steps core' go = go core steps
  HostTurn calls (h ∷ hs) core steps core' go =
      HostGoes (calls core.history h) h core steps core'
      (λ next rest. HostTurn calls hs next rest core' go)

  -- a list of events of hosts and recorders, in order; one of a host without a call is none
  abbrev pub EventTurn : (List EntryData → ℕ → Option CallData) → List Event → CoreData → List Step
      → CoreData → Onward → Type 0
  EventTurn calls [] core steps core' go = go core steps
  EventTurn calls (Host h ∷ events) core steps core' go =
      HostGoes (calls core.history h) h core steps core'
      (λ next rest. EventTurn calls events next rest core' go)
  EventTurn calls (Work r ∷ events) core steps core' go =
      Goes core (IsWorkOf r) steps core' (λ next rest. EventTurn calls events next rest core' go)

  -- so many rounds, before each of which some host has a call: in each a track may be copied, the
  -- recorders work until nothing is left to do, and then each host that has a call calls. That none
  -- has one at the end is for what goes on to say.
  abbrev pub Rounds : (List EntryData → ℕ → Option CallData) → List ℕ → List ℕ → ℕ → CoreData
      → List Step → CoreData → Onward → Type 0
  Rounds calls hosts recorders zero core steps core' go = go core steps
  Rounds calls hosts recorders (suc rounds) core steps core' go =
      (has_call calls hosts core ≡ true)
      × Reading terms.copies terms.tells core (λ read.
      (turns : ℕ) × Settles recorders turns read steps core' (λ settled rest.
      HostTurn calls hosts settled rest core'
      (λ next left. Rounds calls hosts recorders rounds next left core' go)))

-- no event is left
abbrev pub Ended : CoreData → Onward
Ended core' core steps = (steps ≡ []) × (core' ≡ core)

-- ---- nothing is left to do

-- of a request: it is served, or failed, or it waits, and finds each frame bound or held
abbrev pub IsAtRest : CoreData → Request → RequestState → Type 0
IsAtRest core r request.Moving = ⊥
IsAtRest core r request.Queued =
    (frame_in (row_in_list core.rows) r.volume (page_of r.cylinder) ≡ None)
    × ((frame : ℕ) → frame < core.config.frames
    → IsSome (owner_at core.owners frame)
    × ((is_bound core frame ≡ true) ⊎ (is_held core frame ≡ true)))
IsAtRest core r _ = Unit {0}

abbrev pub AllRequests : (Request → Type 0) → RequestsData → Type 0
AllRequests P [] = Unit {0}
AllRequests P (asked ∷ more) = P asked.1 × AllRequests P more

abbrev pub AllNone : {A : Type 0} → List (Option A) → Type 0
AllNone [] = Unit {0}
AllNone (x ∷ xs) = (x ≡ None) × AllNone xs

-- no recorder has a task or a cartridge, and each request is at rest
pub record IsSettled (core : CoreData) : Type 0 where
  pub no_tasks : AllNone core.tasks
  pub no_cartridges : AllNone core.recorders
  pub requests_ : AllRequests (λ r. IsAtRest core r r.state) core.requests
