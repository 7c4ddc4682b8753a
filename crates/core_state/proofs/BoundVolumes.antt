-- Two frames, and three hosts of which two bind their volumes.
use Rattle.std.proofs.Common.{◌≡◌, ℕ, true, false, List, [], ◌∷◌, Some, None, refl}
use Rattle.std.specs.Prelude.{replicate}
use Rattle.channel_commands.specs.Data.{CallData, mount, demount, command as ask, done, mounted, demounted, no_space}
use Rattle.ckd_plain.specs.Plain.{fresh_host, answer_on_tracks, command_answer, blank_volumes, response_to}
use Rattle.ckd_plain.specs.Checks.{admitted_command}
use Rattle.ckd_plain.specs.Effects.{effect, search, read_outcome, write_}
use Rattle.ckd_plain.specs.Index.{pass_index, next_within, next_record, same_record, to_home}
use Rattle.mss_base.specs.Configs.{VolumeData}
use Rattle.mss_base.specs.Firsts.{first_below}
use Rattle.table_pair.specs.Slots.{no_slots}
use Rattle.volume_table.specs.Row.{blank_row}
use Rattle.volume_table.specs.declared.changes.Change.TheVariants.{Assign, Free, Staged}
use Rattle.accessors.specs.Rails.{rail_start}
use Rattle.core_state.specs.HostRules.{host_rule}
use Rattle.core_state.specs.WorkRules.{work_rule}
use Rattle.core_state.proofs.Runner.{World}
use Rattle.core_state.proofs.Rounds.{rounds, changes_of, replies_of}
use Rattle.core_state.proofs.RuleRows.{no_devices}

abbrev pub serial : ℕ → List ℕ
serial n = 0x56 ∷ 0x4F ∷ 0x4C ∷ 0x30 ∷ 0x30 ∷ n ∷ []

abbrev pub volumes : List VolumeData
volumes = (0, serial 0x31, false) ∷ (1, serial 0x32, false) ∷ (2, serial 0x33, false) ∷ []

abbrev pub world : World
world = record {
  core = record {
    site = no_devices;
    chooser = tt;
    config = record { frames = 2; recorders = 1; volumes = volumes };
    rows = Some (blank_row (serial 0x31) 0 1) ∷ Some (blank_row (serial 0x32) 2 3) ∷ Some (blank_row (serial 0x33) 4 5) ∷ replicate 29 None;
    used = replicate 32 no_slots;
    owners = replicate 2 None;
    moving = replicate 2 false;
    recency = 0 ∷ 1 ∷ [];
    requests = [];
    tasks = None ∷ [];
    recorders = None ∷ [];
    store = [];
    rail = rail_start;
    hosts = replicate 8 fresh_host;
    history = [];
    marks = [];
    console = [];
    events = [];
    first_write = 0;
    first_faults = 0;
    stopped = None;
  };
  volumes = blank_volumes volumes;
}

abbrev pub search_zero : CallData
search_zero = ask 0x31 (0 ∷ 0 ∷ 0 ∷ 0 ∷ 0 ∷ []) false

abbrev pub last : World
last = rounds 8 world (
    (1, mount 0 true ∷ search_zero ∷ demount ∷ [])
    ∷ (2, mount 1 true ∷ search_zero ∷ [])
    ∷ (3, mount 2 false ∷ search_zero ∷ search_zero ∷ [])
    ∷ [])

pub row_11 : replies_of last.core.history ≡
    (1, mounted) ∷ (2, mounted) ∷ (3, mounted)
    ∷ (1, done 0x4C []) ∷ (2, done 0x4C []) ∷ (3, no_space)
    ∷ (1, demounted) ∷ (3, done 0x4C [])
    ∷ []
unfolding host_rule work_rule response_to first_below admitted_command answer_on_tracks command_answer effect search read_outcome write_ pass_index next_within next_record same_record to_home
row_11 = refl

pub row_11_changes : changes_of last.core.console ≡
    (0, Assign 0 0, None) ∷ (0, Staged 0, None) ∷ (1, Assign 0 1, None) ∷ (1, Staged 0, None)
    ∷ (0, Free 0, Some 0) ∷ (2, Assign 0 0, None) ∷ (2, Staged 0, None)
    ∷ []
unfolding host_rule work_rule response_to first_below admitted_command answer_on_tracks command_answer effect search read_outcome write_ pass_index next_within next_record same_record to_home
row_11_changes = refl
