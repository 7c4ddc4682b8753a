-- One frame, one recorder, one volume, two hosts: each call with its answer.
use Rattle.std.proofs.Common.{◌≡◌, ℕ, true, false, List, [], ◌∷◌, ◌++◌, Some, None, refl}
use Rattle.std.specs.Prelude.{replicate, map, length}
use Rattle.channel_commands.specs.Data.{CallData, mount, command as ask, done, mounted}
use Rattle.ckd_plain.specs.Plain.{fresh_host, answer_on_tracks, command_answer, blank_volumes, response_to}
use Rattle.ckd_plain.specs.Checks.{admitted_command}
use Rattle.ckd_plain.specs.Effects.{effect, search, read_outcome, write_}
use Rattle.ckd_plain.specs.Index.{pass_index, next_within, next_record, same_record, to_home}
use Rattle.mss_base.specs.Firsts.{first_below}
use Rattle.table_pair.specs.Slots.{no_slots}
use Rattle.volume_table.specs.Row.{blank_row}
use Rattle.accessors.specs.Rails.{rail_start}
use Rattle.core_state.specs.declared.session.Event.TheVariants.{Host, Work}
use Rattle.core_state.specs.declared.rule.Waiting.TheVariants.{Busy, Fault}
use Rattle.core_state.specs.declared.rule.WorkKind.TheVariants as kind
use Rattle.core_state.specs.declared.rule.WorkAnswer.TheVariants.{Did, Idle}
use Rattle.core_state.specs.CoreValue.{CoreData}
use Rattle.core_state.specs.HostRules.{host_rule}
use Rattle.core_state.specs.WorkRules.{work_rule}
use Rattle.core_state.specs.HostEvents.{replied, marked, waits}
use Rattle.core_state.proofs.Runner.{World, Asked, calls, works, Told, to_host, to_recorder, told, steps_of, world_after}
use Rattle.core_state.proofs.RuleRows.{no_devices}

abbrev pub serial : List ℕ
serial = 0x56 ∷ 0x4F ∷ 0x4C ∷ 0x30 ∷ 0x30 ∷ 0x31 ∷ []

abbrev pub core : CoreData
core = record {
  site = no_devices;
  chooser = tt;
  config = record { frames = 1; recorders = 1; volumes = (0, serial, false) ∷ [] };
  rows = Some (blank_row serial 0 1) ∷ replicate 31 None;
  used = replicate 32 no_slots;
  owners = None ∷ [];
  moving = false ∷ [];
  recency = 0 ∷ [];
  requests = [];
  tasks = None ∷ [];
  recorders = None ∷ [];
  store = [];
  rail = rail_start;
  hosts = replicate 8 fresh_host;
  history = [];
  marks = [];
  console = [];
  events = [];
  first_write = 0;
  first_faults = 0;
  stopped = None;
}

abbrev pub world : World
world = record { core = core; volumes = blank_volumes ((0, serial, false) ∷ []) }

-- search of R0 on cylinder 0, head 0, chained; no-op; a format write of R1
abbrev pub search_zero : CallData
search_zero = ask 0x31 (0 ∷ 0 ∷ 0 ∷ 0 ∷ 0 ∷ []) true

abbrev pub no_op : CallData
no_op = ask 0x03 [] false

abbrev pub format_one : CallData
format_one = ask 0x1D (0 ∷ 0 ∷ 0 ∷ 0 ∷ 1 ∷ 0 ∷ 0 ∷ 1 ∷ 0x41 ∷ []) false

abbrev pub asked : List Asked
asked =
    works 0
    ∷ calls 1 (mount 0 false) ∷ calls 2 (mount 0 false)
    ∷ calls 1 search_zero
    ∷ calls 2 no_op
    ∷ (replicate 23 (works 0)
    ++ (calls 1 search_zero
    ∷ calls 2 no_op
    ∷ calls 1 format_one
    ∷ calls 1 format_one
    ∷ calls 2 no_op
    ∷ works 0
    ∷ []))

abbrev pub answers : List Told
answers =
    to_recorder Idle
    ∷ to_host (replied 0 mounted) ∷ to_host (replied 1 mounted)
    ∷ to_host (waits (Fault 0))
    ∷ to_host (waits (Busy 1))
    ∷ to_recorder (Did kind.Pick) ∷ to_recorder (Did kind.Assign)
    ∷ (replicate 19 (to_recorder (Did kind.Copy))
    ++ (to_recorder (Did kind.End) ∷ to_recorder Idle
    ∷ to_host (replied 2 (done 0x4C []))
    ∷ to_host (waits (Busy 1))
    ∷ to_host marked
    ∷ to_host (replied 3 (done 0x0C []))
    ∷ to_host (replied 4 (done 0x0C []))
    ∷ to_recorder Idle
    ∷ []))

pub row_28 : map told (steps_of world asked) ≡ answers
unfolding host_rule work_rule response_to first_below admitted_command answer_on_tracks command_answer effect search read_outcome write_ pass_index next_within next_record same_record to_home
row_28 = refl

pub row_28_ends : length (world_after world asked).core.history ≡ 5
unfolding host_rule work_rule response_to first_below admitted_command answer_on_tracks command_answer effect search read_outcome write_ pass_index next_within next_record same_record to_home
row_28_ends = refl

abbrev pub ended : CoreData
ended = (world_after world asked).core

-- each entry has its mark, and what changed the core is told, and no wait and no idle turn
pub row_28_tells : (ended.marks ≡ replicate 5 7)
    × (ended.events ≡ Host 1 ∷ Host 2 ∷ Host 1 ∷ (replicate 22 (Work 0) ++ (Host 1 ∷ Host 1 ∷ Host 1 ∷ Host 2 ∷ [])))
unfolding host_rule work_rule response_to first_below admitted_command answer_on_tracks command_answer effect search read_outcome write_ pass_index next_within next_record same_record to_home
row_28_tells = (refl, refl)

-- nobody waits for anything, and the page has the frame
pub row_28_leaves : (ended.requests ≡ []) × (ended.tasks ≡ None ∷ []) × (ended.owners ≡ Some (0, 0) ∷ []) × (ended.moving ≡ false ∷ []) × (ended.recency ≡ 0 ∷ [])
unfolding host_rule work_rule response_to first_below admitted_command answer_on_tracks command_answer effect search read_outcome write_ pass_index next_within next_record same_record to_home
row_28_leaves = (refl, refl, refl, refl, refl)

-- each host's entries count from 1
pub row_28_numbers : map (λ e. e.number) ended.history ≡ 1 ∷ 1 ∷ 2 ∷ 3 ∷ 2 ∷ []
unfolding host_rule work_rule response_to first_below admitted_command answer_on_tracks command_answer effect search read_outcome write_ pass_index next_within next_record same_record to_home
row_28_numbers = refl
