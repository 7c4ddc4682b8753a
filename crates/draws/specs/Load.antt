-- The job of a load.
use Rattle.std.specs.Prelude.{ℕ, ◌+◌, ◌-◌, ◌*◌, ◌%◌, ◌==◌, false, List, [], ◌∷◌, ◌++◌, codes}
use Rattle.std.specs.Prelude.{if◌then◌else◌}
use Rattle.std.specs.Int.{w16, w32, to_be_bytes}
use Rattle.channel_commands.specs.Data.{CcwData, device, transfer}
use Rattle.channel_program.specs.Script.{ItemData, mounting, program as running}
use Rattle.job_text.specs.Jobs.{JobData, ScriptData}
use Rattle.mss_base.specs.Configs.{ConfigData}
use Rattle.draws.specs.Draws.{draws}

-- the cylinder and the head of a track, of two bytes each
abbrev pub track_bytes : ℕ → ℕ → List ℕ
track_bytes place head = to_be_bytes w16 (place % 404) ++ to_be_bytes w16 (head % 19)

-- the end of a program: R1 is formatted, of which the choice is the data, or R0 is read
abbrev pub last_word : List ℕ → ℕ → CcwData
last_word track choice =
    if choice % 2 == 0 then device 0x1D (track ++ (1 ∷ 0 ∷ 0 ∷ 4 ∷ []) ++ to_be_bytes w32 choice)
    else device 0x16 []

-- seek to a track, search R0 until it is met, and the last word
abbrev pub program_on : List ℕ → ℕ → List CcwData
program_on track choice =
    device 0x07 (0 ∷ 0 ∷ track) ∷ device 0x31 (track ++ 0 ∷ []) ∷ transfer 1
    ∷ last_word track choice ∷ []

-- the program of three draws
abbrev pub program_of : ℕ → ℕ → ℕ → List CcwData
program_of place head choice = program_on (track_bytes place head) choice

-- the program of this number, where it is the host's: every fourth is
abbrev pub own_program : ℕ → ℕ → ℕ → ℕ → ℕ → List ItemData
own_program host number place head choice =
    if 1 + number % 4 == host then running (program_of place head choice) ∷ [] else []

-- the host's programs among those of each three draws, numbered from `number` on
abbrev pub programs_from : ℕ → ℕ → List ℕ → List ItemData
programs_from host number (place ∷ head ∷ choice ∷ words) =
    own_program host number place head choice ++ programs_from host (number + 1) words
programs_from host number _ = []

-- a host mounts its volume, and runs its programs
abbrev pub items_of : ℕ → List ℕ → List ItemData
items_of host words = mounting (host - 1) false ∷ programs_from host 0 words

abbrev pub script_of : ℕ → List ℕ → ScriptData
script_of host words = record { host = host; items = items_of host words }

-- `LOAD00` to `LOAD03`
abbrev pub load_serial : ℕ → List ℕ
load_serial number = codes "LOAD0" ++ (48 + number) ∷ []

-- what the run is made of
abbrev pub load_config : ConfigData
load_config = record {
  frames = 24;
  recorders = 2;
  volumes = (0, codes "LOAD00", false) ∷ (1, codes "LOAD01", false)
      ∷ (2, codes "LOAD02", false) ∷ (3, codes "LOAD03", false) ∷ [];
}

abbrev pub scripts_of : List ℕ → List ScriptData
scripts_of words =
    script_of 1 words ∷ script_of 2 words ∷ script_of 3 words ∷ script_of 4 words ∷ []

-- the job of so many programs, of three draws each
abbrev pub load_job : ℕ → ℕ → JobData
load_job order programs =
    record { config = load_config; hosts = scripts_of (draws order (3 * programs)) }
