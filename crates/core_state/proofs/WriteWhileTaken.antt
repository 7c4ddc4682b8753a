-- A host writes on a page while a task takes the page from its frame.
use Rattle.std.proofs.Common.{◌≡◌, ℕ, true, false, List, [], ◌∷◌, ◌++◌, Some, None, refl}
use Rattle.std.specs.Prelude.{replicate, map}
use Rattle.channel_commands.specs.Data.{CallData, mount, command as ask, done, mounted}
use Rattle.ckd_plain.specs.Plain.{fresh_host, answer_on_tracks, command_answer, blank_volumes, response_to}
use Rattle.ckd_plain.specs.Checks.{admitted_command}
use Rattle.ckd_plain.specs.Effects.{effect, search, read_outcome, write_}
use Rattle.ckd_plain.specs.Index.{pass_index, next_within, next_record, same_record, to_home}
use Rattle.mss_base.specs.Configs.{VolumeData}
use Rattle.mss_base.specs.Firsts.{first_below}
use Rattle.table_pair.specs.Slots.{no_slots}
use Rattle.volume_table.specs.Row.{blank_row}
use Rattle.accessors.specs.Rails.{rail_start}
use Rattle.fault_queue.specs.declared.queue.RequestState.TheVariants.{Queued}
use Rattle.core_state.specs.declared.rule.Waiting.TheVariants.{Fault}
use Rattle.core_state.specs.declared.rule.WorkKind.TheVariants as kind
use Rattle.core_state.specs.declared.rule.WorkAnswer.TheVariants.{Did}
use Rattle.core_state.specs.Pins.{state_in}
use Rattle.core_state.specs.HostRules.{host_rule}
use Rattle.core_state.specs.WorkRules.{work_rule}
use Rattle.core_state.specs.HostEvents.{replied, waits}
use Rattle.core_state.proofs.Runner.{World, Asked, calls, works, to_host, to_recorder, told, steps_of, world_after}
use Rattle.core_state.proofs.Rounds.{rounds}
use Rattle.core_state.proofs.RuleRows.{no_devices}

abbrev pub serial : ℕ → List ℕ
serial n = 0x56 ∷ 0x4F ∷ 0x4C ∷ 0x30 ∷ 0x30 ∷ n ∷ []

abbrev pub volumes : List VolumeData
volumes = (0, serial 0x31, false) ∷ (1, serial 0x32, false) ∷ []

abbrev pub world : World
world = record {
  core = record {
    site = no_devices;
    chooser = tt;
    config = record { frames = 1; recorders = 1; volumes = volumes };
    rows = Some (blank_row (serial 0x31) 0 1) ∷ Some (blank_row (serial 0x32) 2 3) ∷ replicate 30 None;
    used = replicate 32 no_slots;
    owners = None ∷ [];
    moving = false ∷ [];
    recency = 0 ∷ [];
    requests = [];
    tasks = None ∷ [];
    recorders = None ∷ [];
    store = [];
    rail = rail_start;
    hosts = replicate 8 fresh_host;
    history = [];
    marks = [];
    console = [];
    events = [];
    first_write = 0;
    first_faults = 0;
    stopped = None;
  };
  volumes = blank_volumes volumes;
}

abbrev pub seek : CallData
seek = ask 0x07 (0 ∷ 0 ∷ 0 ∷ 0 ∷ 0 ∷ 3 ∷ []) true

abbrev pub search_id : ℕ → CallData
search_id k = ask 0x31 (0 ∷ 0 ∷ 0 ∷ 3 ∷ k ∷ []) true

abbrev pub format_one : CallData
format_one = ask 0x1D (0 ∷ 0 ∷ 0 ∷ 3 ∷ 1 ∷ 0 ∷ 0 ∷ 1 ∷ 0x41 ∷ []) false

abbrev pub write_data : CallData
write_data = ask 0x05 (0x42 ∷ []) false

abbrev pub search_zero : CallData
search_zero = ask 0x31 (0 ∷ 0 ∷ 0 ∷ 0 ∷ 0 ∷ []) true

-- host 2 has R1 on cylinder 0, and has just met it
abbrev pub met : World
met = rounds 12 world ((2, mount 0 false ∷ seek ∷ search_id 0 ∷ format_one ∷ seek ∷ search_id 1 ∷ search_id 1 ∷ []) ∷ [])

abbrev pub asked : List Asked
asked = calls 1 (mount 1 false) ∷ calls 1 search_zero ∷ (replicate 10 (works 0) ++ (calls 2 write_data ∷ replicate 12 (works 0)))

pub row_12 : map told (steps_of met asked) ≡
    to_host (replied 7 mounted) ∷ to_host (waits (Fault 0)) ∷ to_recorder (Did kind.Pick) ∷ to_recorder (Did kind.Fetch)
    ∷ (replicate 8 (to_recorder (Did kind.Copy)) ++ (to_host (replied 8 (done 0x0C [])) ∷ replicate 11 (to_recorder (Did kind.Copy))
    ++ (to_recorder (Did kind.Abandon) ∷ [])))
unfolding host_rule work_rule response_to first_below admitted_command answer_on_tracks command_answer effect search read_outcome write_ pass_index next_within next_record same_record to_home
row_12 = refl

abbrev pub abandoned : World
abandoned = world_after met asked

pub row_12_state : state_in abandoned.core.rows 0 0 ≡ 4
unfolding host_rule work_rule response_to first_below admitted_command answer_on_tracks command_answer effect search read_outcome write_ pass_index next_within next_record same_record to_home
row_12_state = refl

pub row_12_shows : map (λ r. r.body) ((rounds 6 abandoned ((1, search_zero ∷ []) ∷ [])).volumes.track 0 0 3) ≡ (0x42 ∷ []) ∷ []
unfolding host_rule work_rule response_to first_below admitted_command answer_on_tracks command_answer effect search read_outcome write_ pass_index next_within next_record same_record to_home
row_12_shows = refl

-- the request waits again, the frame rests, and the cartridge stays in the recorder, where the left accessor brought it
pub row_12_left : (abandoned.core.requests ≡ (1, record { volume = 1; cylinder = 0; state = Queued }) ∷ []) × (abandoned.core.tasks ≡ None ∷ []) × (abandoned.core.moving ≡ false ∷ [])
    × (abandoned.core.recorders ≡ Some 0 ∷ []) × (abandoned.core.rail ≡ record { left = 5; right = 65 }) × (abandoned.core.recency ≡ 0 ∷ [])
unfolding host_rule work_rule response_to first_below admitted_command answer_on_tracks command_answer effect search read_outcome write_ pass_index next_within next_record same_record to_home
row_12_left = (refl, refl, refl, refl, refl, refl)
