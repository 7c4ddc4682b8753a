-- A serial run as plain data, what it keeps, and what its calls do.
use Rattle.std.specs.Prelude.{◌≡◌, ◌≢◌, ◌≤◌, ◌<◌, ◌+◌, ◌==◌, ℕ, zero, suc, slice_index_or}
use Rattle.std.specs.Prelude.{Bool, true, false, List, [], ◌∷◌, length, map, Option, Some, None, is_some}
use Rattle.std.specs.List.{IsDistinct, AllByRecursion, range_with_len}
use Rattle.mss_base.specs.Sound.{StaysSound}
use Rattle.mss_base.specs.Configs.{ConfigData}
use Rattle.mss_base.specs.Counts.{IsFaultSince}
use Rattle.mss_base.specs.declared.place.UnitNo.{UnitNo}
use Rattle.mss_base.specs.declared.site.Site.{Ghosts}
use Rattle.channel_commands.specs.Data.{CallData}
use Rattle.channel_program.specs.Script.{ItemData, program, FollowsToEnd}
use Rattle.ckd_plain.specs.History.{EntryData}
use Rattle.job_text.specs.Jobs.{ScriptData, JobData}
use Rattle.victim_choice.specs.declared.choose.Candidate.{Candidate}
use Rattle.fault_queue.specs.declared.queue.Request.{Request}
use Rattle.fault_queue.specs.Requests.{request_of}
use Rattle.core_state.specs.Beginning.{IsLater}
use Rattle.core_state.specs.Chains.{Step, called, worked, IsEvent, EventTurn, Settles, HostTurn}
use Rattle.core_state.specs.Chains.{Rounds, Onward, Ended, Terms, has_call, IsSettled}
use Rattle.core_state.specs.CoreValue.{CoreValue, CoreData, seen_core}
use Rattle.core_state.specs.Pins.{host_at}
use Rattle.core_state.specs.HostEvents.{HostTold}
use Rattle.core_state.specs.declared.session.Event.{Event}
use Rattle.core_state.specs.declared.session.Event.TheVariants.{Host, Work}
use Rattle.core_state.specs.declared.rule.WorkAnswer.{WorkAnswer}
use Rattle.core_state.specs.declared.session.TheConstants.{ENTRY_LIMIT}
use Rattle.serial_driver.specs.Answers.{of_host, of_work, of_last}
use Rattle.serial_driver.specs.declared.answer.DriveAnswer.{DriveAnswer}
use Rattle.serial_driver.specs.declared.answer.DriveAnswer.TheVariants.{Done, Stopped, CommandLimit}
use Rattle.script_places.specs.declared.place.Place.{Place}
use Rattle.script_places.specs.Places.{StandsAt}
use Rattle.script_places.specs.Scripts.{Left, not_begun, next_of, left_after, Plays, script_of}
use Rattle.script_places.specs.Scripts.{exchanges_of, left_of, calls_of}
use Rattle.volume_copy.specs.Beside.{CopiedValue, asked_copy}
use Rattle.volume_copy.specs.Copies.{CopyData}

-- a core, the copier beside it, if a copy is asked for, and what each host of the job is to do
pub record DriveValue (S C : Type 0) : Type 0 where
  pub core : CoreValue S C
  pub copier : Option CopyData
  pub scripts : List ScriptData

-- its core with the copier beside it
abbrev pub copied_of : {S C : Type 0} → DriveValue S C → CopiedValue S C
copied_of d = record { core = d.core; copier = d.copier }

-- on which terms its events follow each other
abbrev pub terms_by : {S C : Type 0} → Ghosts S → (C → List Candidate → ℕ → Type 0) → C
    → Option CopyData → Terms
terms_by g may chooser copier = record {
  tells = g.tells;
  may = may chooser;
  copies = is_some (asked_copy copier);
}

abbrev pub terms_of : {S C : Type 0} → Ghosts S → (C → List Candidate → ℕ → Type 0)
    → DriveValue S C → Terms
terms_of g may d = terms_by g may d.core.chooser d.copier

-- the hosts of the job, in order
abbrev pub hosts_of : List ScriptData → List ℕ
hosts_of scripts = map (λ (script : ScriptData). script.host) scripts

-- the recorders of a configuration, in order
abbrev pub recorders_of : ConfigData → List ℕ
recorders_of config = range_with_len 0 config.recorders

-- ---- with what it begins

-- nothing has happened, and the core is configured as the job asks
pub record IsUnused {S C : Type 0} (core : CoreValue S C) (job : JobData) : Type 0 where
  pub config : core.config ≡ job.config
  pub no_entries : core.history ≡ []
  pub no_requests : core.requests ≡ []
  pub no_chains : (h : ℕ) → (host_at core.hosts h).chain_open ≡ false

-- ---- what it keeps

pub record IsScript (script : ScriptData) : Type 0 where
  pub low : 1 ≤ script.host
  pub high : script.host ≤ 8

pub record AreScripts (scripts : List ScriptData) : Type 0 where
  pub differ : IsDistinct ◌==◌ (hosts_of scripts)
  pub each : AllByRecursion IsScript scripts

-- each script's place is where so much of it is left
abbrev pub AllStand : List EntryData → List ScriptData → List Place → Type 0
AllStand history [] [] = Unit {0}
AllStand history (script ∷ scripts) (place ∷ places) =
    StandsAt script.items
    (left_after (not_begun script.items) (exchanges_of script.host history)) place
    × AllStand history scripts places
AllStand history _ _ = ⊥

-- a program is under way, or comes next
abbrev pub IsInProgram : List ItemData → Type 0
IsInProgram (program words ∷ more) = Unit {0}
IsInProgram _ = ⊥

-- a host with an open chain goes on with a program, and one with a request has a call
pub record HasMore {S C : Type 0} (core : CoreValue S C) (left : Left) (h : ℕ) : Type 0 where
  pub chained : (host_at core.hosts h).chain_open ≡ true → IsInProgram left.items
  pub asked : (r : Request) → request_of core.requests h ≡ Some r
      → (call : CallData) × (next_of left.items left.at ≡ Some call)

pub record IsDriven {S C : Type 0} (core : CoreValue S C) (scripts : List ScriptData)
    (places : List Place) : Type 0 where
  pub scripts_ : AreScripts scripts
  pub stand : AllStand core.history scripts places
  -- each host's entries, in order, are the calls of its script
  pub plays : (h : ℕ) → Plays (not_begun (script_of scripts h)) (exchanges_of h core.history)
  pub more : core.stopped ≡ None → (h : ℕ) → HasMore core (left_of scripts core.history h) h

-- ---- what an event does

-- a host's turn: one event of its next call, or, without a call, nothing
abbrev pub HostTakes : Terms → ℕ → Option CallData → CoreData → DriveAnswer → CoreData → Type 0
HostTakes terms h None core answer left = (left ≡ core) × (answer ≡ Done)
HostTakes terms h (Some call) core answer left =
    (told : HostTold) × IsEvent terms core (called h call told) left × (answer ≡ of_host told)

-- a recorder's turn
abbrev pub WorkTakes : Terms → ℕ → CoreData → DriveAnswer → CoreData → Type 0
WorkTakes terms recorder core answer left =
    (told : WorkAnswer) × IsEvent terms core (worked recorder told) left × (answer ≡ of_work told)

-- an event of a list, of a host or a recorder
abbrev pub EventTakes : Terms → List ScriptData → Event → CoreData → DriveAnswer → CoreData
    → Type 0
EventTakes terms scripts (Host h) core answer left =
    HostTakes terms h (calls_of scripts core.history h) core answer left
EventTakes terms scripts (Work recorder) core answer left =
    WorkTakes terms recorder core answer left

-- a recorder of a list is one of those configured
abbrev pub IsConfigured : ConfigData → Event → Type 0
IsConfigured config (Host h) = Unit {0}
IsConfigured config (Work recorder) = recorder < config.recorders

-- which script is a host's, if one is
abbrev pub IsNumberOf : List ScriptData → ℕ → Option ℕ → Type 0
IsNumberOf scripts h None = script_of scripts h ≡ []
IsNumberOf scripts h (Some n) =
    (n < length scripts)
    × ((unknown : ScriptData) → (slice_index_or scripts n unknown).host ≡ h)

-- ---- what a call leaves

-- whether the core is stopped, by the answer
abbrev pub Halts : DriveAnswer → Option ℕ → Option ℕ → Type 0
Halts (Stopped fault) was is = is ≡ Some fault
Halts _ was is = is ≡ was

-- the history has no room for an entry, and some host hasn't come to the end of its script
pub record IsFull (scripts : List ScriptData) (history : List EntryData) : Type 0 where
  pub entries : length history ≡ ENTRY_LIMIT
  pub host : ℕ
  pub unfinished : FollowsToEnd (script_of scripts host) (exchanges_of host history) → ⊥

-- The job, the copy and the chooser stay, and no count falls. A fault stopped the core only by a
-- write that failed since, and none did where reads alone may fail. The limit is told of a full
-- history alone.
pub record LeavesDrive {S C : Type 0} (g : Ghosts S) (old new : DriveValue S C) (answer : DriveAnswer)
    : Type 0 where
  pub session : IsLater g.tells (seen_core g old.core) (seen_core g new.core)
  pub scripts_ : new.scripts ≡ old.scripts
  pub copier_ : asked_copy new.copier ≡ asked_copy old.copier
  pub chooser_ : new.core.chooser ≡ old.core.chooser
  pub written : g.writes old.core.site ≤ g.writes new.core.site
  pub later : g.faults old.core.site ≤ g.faults new.core.site
  pub sound : StaysSound g.never_fails_but old.core.site new.core.site
  pub halts : Halts answer old.core.stopped new.core.stopped
  pub cause : old.core.stopped ≡ None → (fault : ℕ) → new.core.stopped ≡ Some fault
      → IsFaultSince (g.faults old.core.site) (g.faults new.core.site) fault
  pub only_reads_fail : (but : UnitNo → Bool) → g.never_fails_but old.core.site but
      → old.core.stopped ≡ None → new.core.stopped ≡ None
  pub full : answer ≡ CommandLimit → IsFull new.scripts new.core.history

-- ---- a list of events

-- whose turn it is, by number: the hosts of the job come first, and then the recorders
abbrev pub event_of : List ScriptData → ℕ → Event
event_of [] turn = Work turn
event_of (script ∷ scripts) zero = Host script.host
event_of (script ∷ scripts) (suc turn) = event_of scripts turn

abbrev pub events_of : List ScriptData → List ℕ → List Event
events_of scripts turns = map (event_of scripts) turns

-- each turn is of a host of the job, or of a recorder that is configured
abbrev pub AreTurns : List ScriptData → ConfigData → List ℕ → Type 0
AreTurns scripts config turns =
    AllByRecursion (λ turn. turn < length scripts + config.recorders) turns

module _ (terms : Terms) (scripts : List ScriptData) where
  -- the events of a list, each once and in order, until one ends them
  pub record RunsEvents (events : List Event) (core : CoreData) (answer : DriveAnswer)
      (left : CoreData) : Type 0 where
    pub steps : List Step
    pub chain : EventTurn terms (calls_of scripts) events core steps left (Ended left)
    pub last : answer ≡ of_last steps

-- ---- until nothing is left to do

module _ (terms : Terms) where
  -- turns of the recorders, of which the last is idle as a whole, unless an event ends them before
  pub record SettlesIt (core : CoreData) (answer : DriveAnswer) (left : CoreData) : Type 0 where
    pub turns : ℕ
    pub steps : List Step
    pub chain : Settles terms (recorders_of core.config) turns core steps left (Ended left)
    pub last : answer ≡ of_last steps
    pub settled : answer ≡ Done → IsSettled left
    pub going : answer ≡ Done → left.stopped ≡ None
    -- it adds no entry
    pub history_ : left.history ≡ core.history

-- ---- until no host has a call

module _ (terms : Terms) (scripts : List ScriptData) where
  -- one event of each host that has a call, in order, unless one ends them before
  pub record HostsTurn (core : CoreData) (answer : DriveAnswer) (left : CoreData) : Type 0 where
    pub steps : List Step
    pub chain : HostTurn terms (calls_of scripts) (hosts_of scripts) core steps left
        (Ended left)
    pub last : answer ≡ of_last steps

  abbrev pub NoneCalls : CoreData → Onward
  NoneCalls left core steps =
      Ended left core steps
      × (has_call (calls_of scripts) (hosts_of scripts) core ≡ false)

  -- rounds until no host has a call, unless an event ends them before
  pub record RunsToEnd (core : CoreData) (answer : DriveAnswer) (left : CoreData) : Type 0 where
    pub rounds : ℕ
    pub steps : List Step
    pub chain : Rounds terms (calls_of scripts) (hosts_of scripts) (recorders_of core.config)
        rounds core steps left (NoneCalls left)
    pub last : answer ≡ of_last steps
    pub none_calls : answer ≡ Done
        → has_call (calls_of scripts) (hosts_of scripts) left ≡ false

  -- the turns of a list, and then rounds, unless one of the turns ended them
  pub record RunsOn (turns : List ℕ) (core : CoreData) (answer : DriveAnswer) (left : CoreData)
      : Type 0 where
    pub mid : CoreData
    pub halfway : DriveAnswer
    pub turned : RunsEvents terms scripts (events_of scripts turns) core halfway mid
    pub rounds : halfway ≡ Done → RunsToEnd mid answer left
    pub halted : halfway ≢ Done → (answer ≡ halfway) × (left ≡ mid)
