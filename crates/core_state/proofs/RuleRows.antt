-- Rules of some calls, by computing.
use Rattle.std.proofs.Common.{◌≡◌, ℕ, Bool, true, false, [], ◌∷◌, Option, Some, None, refl}
use Rattle.std.specs.Prelude.{replicate}
use Rattle.ckd_plain.specs.declared.host.HostState.{HostState}
use Rattle.ckd_plain.specs.declared.host.Prior.TheVariants as prior
use Rattle.channel_commands.specs.declared.command.Command.TheVariants as command
use Rattle.channel_commands.specs.declared.command.SearchField.TheVariants as field
use Rattle.channel_commands.specs.declared.command.SearchTest.TheVariants as test
use Rattle.channel_commands.specs.declared.command.WriteKind.TheVariants as write
use Rattle.channel_commands.specs.Data.{CallData, mount, demount, command as ask}
use Rattle.ckd_plain.specs.Plain.{fresh_host}
use Rattle.accessors.specs.Rails.{rail_start}
use Rattle.table_pair.specs.Slots.{no_slots}
use Rattle.core_state.specs.declared.rule.HostRule.TheVariants.{IsBusy, IsMoving, IsHeld, Responds, HasFailed, HasNoSpace, Faults, Marks, Runs}
use Rattle.fault_queue.specs.declared.queue.RequestState.{RequestState}
use Rattle.fault_queue.specs.declared.queue.RequestState.TheVariants as request
use Rattle.victim_choice.specs.declared.choose.Candidate.{Candidate}
use Rattle.core_state.specs.Pins.{candidates}
use Rattle.core_state.specs.CoreValue.{CoreData, DevicesSeen}
use Rattle.core_state.specs.declared.rule.WorkRule.TheVariants.{Picks, PicksVictim, GivesBack, IsIdle}
use Rattle.core_state.specs.HostRules.{host_rule}
use Rattle.core_state.specs.WorkRules.{work_rule}
use Rattle.ckd_plain.specs.Checks.{admitted_command}
use Rattle.mss_base.specs.Firsts.{first_below}

-- devices that tell nothing, and made seven writes
abbrev pub no_devices : DevicesSeen
no_devices = record { told = record { start = λ unit block. []; log = [] }; writes = 7; faults = 0 }

-- one frame, one volume; hosts 1 and 2; the first page has the frame or none, and the first cylinder this state
abbrev core : Option ℕ → ℕ → Bool → Bool → HostState → CoreData
core frame state bind chained host = record {
  site = no_devices;
  chooser = tt;
  config = record { frames = 1; recorders = 1; volumes = [] };
  rows = Some (record { serial = 0x56 ∷ []; read_only = false; first = 0; second = 1; pages = frame ∷ replicate 50 None; states = state ∷ replicate 403 0 }) ∷ replicate 31 None;
  used = replicate 32 no_slots;
  owners = Some (0, 3) ∷ [];
  moving = false ∷ [];
  recency = 0 ∷ [];
  requests = [];
  tasks = None ∷ [];
  recorders = None ∷ [];
  store = [];
  rail = rail_start;
  hosts = host ∷ record fresh_host { mounted = Some (0, bind); chain_open = chained } ∷ replicate 6 fresh_host;
  history = [];
  marks = [];
  console = [];
  events = [];
  first_write = 0;
  first_faults = 0;
  stopped = None;
}

abbrev plain_host : HostState
plain_host = record fresh_host { mounted = Some (0, false) }

-- after a search of R1, in a chain
abbrev met_host : HostState
met_host = record fresh_host { mounted = Some (0, false); chain_open = true; prior = prior.IdEqual 1 }

abbrev search : CallData
search = ask 0x31 (0 ∷ 0 ∷ 0 ∷ 0 ∷ 0 ∷ []) true

abbrev write_call : CallData
write_call = ask 0x05 (0x41 ∷ []) false

-- a frame that nobody has, and that a task uses
abbrev moving_core : CoreData
moving_core = record (core None 0 true false plain_host) { owners = None ∷ []; moving = true ∷ [] }

-- a frame that a Ready request holds
abbrev held_core : CoreData
held_core = record (core None 0 false false plain_host) { requests = (2, record { volume = 0; cylinder = 24; state = request.Ready }) ∷ [] }

-- of which no host has the volume bound, so there may be space soon
rows_of_space : (host_rule moving_core 1 search ≡ Faults 0 0) × (host_rule (record held_core { hosts = plain_host ∷ replicate 7 fresh_host }) 1 search ≡ Faults 0 0)
unfolding host_rule admitted_command first_below
rows_of_space = (refl, refl)

-- two frames, of which the second was touched longer ago; a cylinder of its page is changed
abbrev two_frames : CoreData
two_frames = record (core None 0 false false fresh_host) {
  config = record { frames = 2; recorders = 1; volumes = [] };
  owners = Some (0, 3) ∷ Some (0, 0) ∷ [];
  moving = replicate 2 false;
  recency = 1 ∷ 0 ∷ [];
  rows = Some (record { serial = 0x56 ∷ []; read_only = false; first = 0; second = 1; pages = Some 1 ∷ None ∷ None ∷ Some 0 ∷ replicate 47 None; states = 3 ∷ 4 ∷ replicate 402 0 }) ∷ replicate 31 None;
  hosts = replicate 8 fresh_host;
}

first_candidate : Candidate
first_candidate = record { frame = 1; volume = 0; page = 0; changed = 1 }

second_candidate : Candidate
second_candidate = record { frame = 0; volume = 0; page = 3; changed = 0 }

rows_of_candidates : (candidates two_frames ≡ first_candidate ∷ second_candidate ∷ [])
    × (candidates (record two_frames { moving = false ∷ true ∷ [] }) ≡ second_candidate ∷ [])
    × (candidates (record two_frames { hosts = record fresh_host { mounted = Some (0, true) } ∷ replicate 7 fresh_host }) ≡ [])
    × (candidates (record two_frames { requests = (2, record { volume = 0; cylinder = 7; state = request.Ready }) ∷ [] }) ≡ second_candidate ∷ [])
unfolding first_candidate second_candidate
rows_of_candidates = (refl, refl, refl, refl)

-- a request on a page without a frame: the lowest frame that nobody has and no task uses
rows_of_picks : (work_rule (record two_frames { owners = replicate 2 None; moving = true ∷ false ∷ []; requests = (3, record { volume = 0; cylinder = 8; state = request.Queued }) ∷ [] }) 0 ≡ Picks 3 1)
    × (work_rule (record two_frames { requests = (3, record { volume = 0; cylinder = 8; state = request.Queued }) ∷ [] }) 0 ≡ PicksVictim 3)
    × (work_rule (record two_frames { requests = (3, record { volume = 0; cylinder = 2; state = request.Queued }) ∷ [] }) 0 ≡ Picks 3 1)
    × (work_rule (record two_frames { recorders = Some 1 ∷ [] }) 0 ≡ GivesBack 1)
    × (work_rule two_frames 0 ≡ IsIdle)
unfolding work_rule first_below
rows_of_picks = (refl, refl, refl, refl, refl)

-- a call that isn't for the host's request waits while the request moves, and else ends it
abbrev asked_core : RequestState → CoreData
asked_core state = record (core (Some 0) 2 false false plain_host) { requests = (1, record { volume = 0; cylinder = 5; state = state }) ∷ [] }

rows_of_requests : (host_rule (asked_core request.Moving) 1 demount ≡ IsMoving 5) × (host_rule (asked_core request.Queued) 1 demount ≡ Responds)
    × (host_rule (record (asked_core (request.Failed 3)) { hosts = record plain_host { cylinder = 5 } ∷ replicate 7 fresh_host }) 1 search ≡ HasFailed 3)
    × (host_rule (record (core (Some 0) 2 false false plain_host) { tasks = Some (record { host = 1; frame = 0; victim = Some (0, 3); touched = false; transfer = None }) ∷ [] }) 3 (mount 0 true) ≡ IsHeld 0)
unfolding host_rule admitted_command first_below
rows_of_requests = (refl, refl, refl, refl)

rows_of_rules : (host_rule (core None 0 false false plain_host) 1 search ≡ Faults 0 0)
    × (host_rule (core None 0 true false plain_host) 1 search ≡ HasNoSpace)
    × (host_rule (core (Some 0) 2 false false plain_host) 1 search ≡ Runs (command.Search field.Id test.Equal false) 0 0)
    × (host_rule (core (Some 0) 2 false true plain_host) 1 search ≡ IsBusy 2)
    × (host_rule (core (Some 0) 2 false true plain_host) 1 demount ≡ Responds)
    × (host_rule (core (Some 0) 2 false false met_host) 1 write_call ≡ Marks 0 0)
    × (host_rule (core (Some 0) 4 false false met_host) 1 write_call ≡ Runs (command.Write write.Data) 0 0)
    × (host_rule (core (Some 0) 2 false false plain_host) 1 write_call ≡ Responds)
    × (host_rule (core (Some 0) 2 false false plain_host) 3 (mount 0 true) ≡ Responds)
unfolding host_rule admitted_command first_below
rows_of_rules = (refl, refl, refl, refl, refl, refl, refl, refl, refl)
