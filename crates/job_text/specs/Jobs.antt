-- Jobs as plain data.
use Rattle.std.specs.Prelude.{ℕ, ◌≤◌, ◌<◌, ◌==◌, List, length, map, sum_by, IsSome}
use Rattle.std.specs.List.{AllByRecursion, IsDistinct, filter_map, find, range_with_len}
use Rattle.channel_commands.specs.Data.{CcwData, device, transfer}
use Rattle.channel_program.specs.Script.{ItemData, mounting, demounting, program as running}
use Rattle.channel_program.specs.Items.{AreRunnable}
use Rattle.mss_base.specs.Configs.{VolumeData, ConfigData, IsConfig}

-- a host with what it does, in order
pub record ScriptData : Type 0 where
  pub host : ℕ
  pub items : List ItemData

pub record JobData : Type 0 where
  pub config : ConfigData
  pub hosts : List ScriptData

-- volumes in order of number, where the numbers differ
abbrev pub by_number : List VolumeData → List VolumeData
by_number volumes = filter_map (λ n. find (λ v. v.0 == n) volumes) (range_with_len 0 32)

-- the most words of a program, items of a host, bytes of an argument, and bytes of all arguments of a job
abbrev pub WORD_LIMIT : ℕ
WORD_LIMIT = 256

abbrev pub ITEM_LIMIT : ℕ
ITEM_LIMIT = 1024

abbrev pub ARGUMENT_LIMIT : ℕ
ARGUMENT_LIMIT = 65798

abbrev pub TOTAL_LIMIT : ℕ
TOTAL_LIMIT = 268435456

-- how many bytes of arguments a word, an item and a host have
abbrev pub word_size : CcwData → ℕ
word_size (device code argument) = length argument
word_size (transfer to) = 0

abbrev pub item_size : ItemData → ℕ
item_size (mounting volume bind) = 0
item_size demounting = 0
item_size (running words) = sum_by word_size words

abbrev pub script_size : ScriptData → ℕ
script_size script = sum_by item_size script.items

abbrev pub IsWord : CcwData → Type 0
IsWord (device code argument) = (code < 256) × AllByRecursion (λ b. b < 256) argument × (length argument ≤ ARGUMENT_LIMIT)
IsWord (transfer to) = to ≤ 255

pub record IsProgram (words : List CcwData) : Type 0 where
  pub some : 1 ≤ length words
  pub few : length words ≤ WORD_LIMIT
  pub each : AllByRecursion IsWord words

-- a mounted volume is one of the configured
abbrev pub IsItem : List VolumeData → ItemData → Type 0
IsItem volumes (mounting n bind) = IsSome (find (λ v. v.0 == n) volumes)
IsItem volumes demounting = Unit {0}
IsItem volumes (running words) = IsProgram words

pub record IsScript (volumes : List VolumeData) (script : ScriptData) : Type 0 where
  pub low : 1 ≤ script.host
  pub high : script.host ≤ 8
  pub few : length script.items ≤ ITEM_LIMIT
  pub each : AllByRecursion (IsItem volumes) script.items

-- what a job keeps: its hosts differ, and its programs, items and arguments are within the limits
pub record IsJob (job : JobData) : Type 0 where
  pub config_ : IsConfig job.config
  pub scripts : AllByRecursion (IsScript job.config.volumes) job.hosts
  pub hosts_differ : IsDistinct ◌==◌ (map (λ script. script.host) job.hosts)
  pub small : sum_by script_size job.hosts ≤ TOTAL_LIMIT

-- each script's programs can be run
abbrev pub AreRunnableScripts : List ScriptData → Type 0
AreRunnableScripts scripts = AllByRecursion (λ (script : ScriptData). AreRunnable script.items) scripts
