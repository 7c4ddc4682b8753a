-- One frame: a page gives it to another, and gets it back.
use Rattle.std.proofs.Common.{◌≡◌, ℕ, true, false, List, [], ◌∷◌, Some, None, refl}
use Rattle.std.specs.Prelude.{replicate, drop}
use Rattle.channel_commands.specs.Data.{CallData, mount, command as ask, done}
use Rattle.ckd_plain.specs.Plain.{fresh_host, answer_on_tracks, command_answer, blank_volumes, response_to}
use Rattle.ckd_plain.specs.Checks.{admitted_command}
use Rattle.ckd_plain.specs.Effects.{effect, search, read_outcome, write_}
use Rattle.ckd_plain.specs.Index.{pass_index, next_within, next_record, same_record, to_home}
use Rattle.mss_base.specs.Firsts.{first_below}
use Rattle.table_pair.specs.Slots.{no_slots}
use Rattle.volume_table.specs.Row.{blank_row}
use Rattle.volume_table.specs.declared.changes.Change.TheVariants.{Assign, Free, Staged, Changed, Destaged}
use Rattle.accessors.specs.Rails.{rail_start}
use Rattle.core_state.specs.HostRules.{host_rule}
use Rattle.core_state.specs.WorkRules.{work_rule}
use Rattle.core_state.proofs.Runner.{World}
use Rattle.core_state.proofs.Rounds.{rounds, changes_of, marks_of, replies_of}
use Rattle.core_state.proofs.RuleRows.{no_devices}

abbrev pub serial : List ℕ
serial = 0x56 ∷ 0x4F ∷ 0x4C ∷ 0x30 ∷ 0x30 ∷ 0x31 ∷ []

abbrev pub world : World
world = record {
  core = record {
    site = no_devices;
    chooser = tt;
    config = record { frames = 1; recorders = 1; volumes = (0, serial, false) ∷ [] };
    rows = Some (blank_row serial 0 1) ∷ replicate 31 None;
    used = replicate 32 no_slots;
    owners = None ∷ [];
    moving = false ∷ [];
    recency = 0 ∷ [];
    requests = [];
    tasks = None ∷ [];
    recorders = None ∷ [];
    store = [];
    rail = rail_start;
    hosts = replicate 8 fresh_host;
    history = [];
    marks = [];
    console = [];
    events = [];
    first_write = 0;
    first_faults = 0;
    stopped = None;
  };
  volumes = blank_volumes ((0, serial, false) ∷ []);
}

-- seek to a cylinder, search of a record of its first track, a format write of R1 with one byte, a read
abbrev pub seek : ℕ → CallData
seek c = ask 0x07 (0 ∷ 0 ∷ 0 ∷ c ∷ 0 ∷ 0 ∷ []) true

abbrev pub search_id : ℕ → ℕ → CallData
search_id c k = ask 0x31 (0 ∷ c ∷ 0 ∷ 0 ∷ k ∷ []) true

abbrev pub format_one : ℕ → ℕ → CallData
format_one c byte = ask 0x1D (0 ∷ c ∷ 0 ∷ 0 ∷ 1 ∷ 0 ∷ 0 ∷ 1 ∷ byte ∷ []) false

abbrev pub read_data : CallData
read_data = ask 0x06 [] false

abbrev pub script : List CallData
script =
    mount 0 false
    ∷ seek 0 ∷ search_id 0 0 ∷ format_one 0 0x41
    ∷ seek 8 ∷ search_id 8 0 ∷ format_one 8 0x42
    ∷ seek 0 ∷ search_id 0 1 ∷ search_id 0 1 ∷ read_data
    ∷ []

abbrev pub last : World
last = rounds 20 world ((1, script) ∷ [])

pub row_10 : changes_of last.core.console ≡
    (0, Assign 0 0, None) ∷ (0, Staged 0, None) ∷ (0, Changed 0, None)
    ∷ (0, Destaged 0, None) ∷ (0, Free 0, Some 0) ∷ (0, Assign 1 0, None) ∷ (0, Staged 8, None) ∷ (0, Changed 8, None)
    ∷ (0, Destaged 8, None) ∷ (0, Free 1, Some 0) ∷ (0, Assign 0 0, None) ∷ (0, Staged 0, None)
    ∷ []
unfolding host_rule work_rule response_to first_below admitted_command answer_on_tracks command_answer effect search read_outcome write_ pass_index next_within next_record same_record to_home
row_10 = refl

pub row_10_reads : drop 7 (replies_of last.core.history) ≡ (1, done 0x0C []) ∷ (1, done 0x0C []) ∷ (1, done 0x4C []) ∷ (1, done 0x0C (0x41 ∷ [])) ∷ []
unfolding host_rule work_rule response_to first_below admitted_command answer_on_tracks command_answer effect search read_outcome write_ pass_index next_within next_record same_record to_home
row_10_reads = refl

-- each with its mark
pub row_10_marks : marks_of last.core.console ≡ replicate 12 7
unfolding host_rule work_rule response_to first_below admitted_command answer_on_tracks command_answer effect search read_outcome write_ pass_index next_within next_record same_record to_home
row_10_marks = refl
