-- The one text of a line and of a job, in which numbers are decimal and bytes are upper-case hexadecimal.
use Rattle.std.specs.Prelude.{◌≡◌, ℕ, ◌/◌, ◌%◌, ◌<◌, ◌≤◌, true, false, List, [], ◌∷◌, ◌++◌, map, nat_eq as eqb, codes, decimal, Some, Ok}
use Rattle.std.specs.List.{flat_map, join_with_byte, AllByRecursion, find}
use Rattle.std.specs.Fmt.{digit_glyph}
use Rattle.std.specs.Option.{option_map_or}
use Rattle.job_text.specs.declared.kind.Keyword.{Keyword}
use Rattle.job_text.specs.declared.kind.Keyword.TheVariants as keyword
use Rattle.job_text.specs.declared.kind.Place.{Place}
use Rattle.job_text.specs.Words.{is_serial}
use Rattle.job_text.specs.Grammar.{SoFar, after_line}
use Rattle.channel_commands.specs.Data.{CcwData, device, transfer}
use Rattle.channel_program.specs.Script.{ItemData, mounting, demounting, program as running}
use Rattle.mss_base.specs.Configs.{VolumeData, ConfigData}
use Rattle.job_text.specs.Jobs.{ScriptData, JobData}
use Rattle.job_text.specs.Lines.{LineData, mss, volume, host, done, mount, demount, program, ccw, tic, end, spelling, keyword_at}

-- a byte as two hexadecimal digits in upper case
abbrev pub hex_byte : ℕ → List ℕ
hex_byte b = digit_glyph true (b / 16) ∷ digit_glyph true (b % 16) ∷ []

-- bytes as hexadecimal digits
abbrev pub hex : List ℕ → List ℕ
hex bytes = flat_map hex_byte bytes

abbrev pub keyword_of : LineData → Keyword
keyword_of (mss f r) = keyword.Mss
keyword_of (volume n s read_only) = keyword.Volume
keyword_of (host n) = keyword.Host
keyword_of done = keyword.Done
keyword_of (mount s bind) = keyword.Mount
keyword_of demount = keyword.Demount
keyword_of program = keyword.Program
keyword_of (ccw code argument) = keyword.Ccw
keyword_of (tic to) = keyword.Tic
keyword_of end = keyword.End

-- the words after the keyword
abbrev pub words_said : LineData → List (List ℕ)
words_said (mss f r) = codes "1" ∷ codes "frames" ∷ decimal f ∷ codes "recorders" ∷ decimal r ∷ []
words_said (volume n s true) = decimal n ∷ s ∷ codes "readonly" ∷ []
words_said (volume n s false) = decimal n ∷ s ∷ []
words_said (host n) = decimal n ∷ []
words_said done = []
words_said (mount s true) = s ∷ codes "bind" ∷ []
words_said (mount s false) = s ∷ []
words_said demount = []
words_said program = []
words_said (ccw code []) = hex_byte code ∷ []
words_said (ccw code (b ∷ argument)) = hex_byte code ∷ hex (b ∷ argument) ∷ []
words_said (tic to) = decimal to ∷ []
words_said end = []

-- what a line may say, wherever it stands
abbrev pub IsLine : LineData → Type 0
IsLine (mss f r) = (1 ≤ f) × (f ≤ 200) × (1 ≤ r) × (r ≤ 8)
IsLine (volume n s read_only) = (n ≤ 31) × (is_serial s ≡ true)
IsLine (host n) = (1 ≤ n) × (n ≤ 8)
IsLine (mount s bind) = is_serial s ≡ true
IsLine (ccw code argument) = (code < 256) × AllByRecursion (λ b. b < 256) argument
IsLine (tic to) = to ≤ 255
IsLine _ = Unit {0}

-- the keyword may stand at the place
abbrev pub IsAllowed : Place → Keyword → Type 0
IsAllowed at k = keyword_at at (spelling k) ≡ Some k

-- the line's canonical bytes, without the line feed
abbrev pub line_bytes : LineData → List ℕ
line_bytes line = join_with_byte 32 (spelling (keyword_of line) ∷ words_said line)

abbrev pub line_text : LineData → List ℕ
line_text line = line_bytes line ++ 10 ∷ []

abbrev pub serial_of : List VolumeData → ℕ → List ℕ
serial_of volumes n = option_map_or (λ v. v.1) (find (λ v. eqb v.0 n) volumes) []

abbrev pub word_line : CcwData → LineData
word_line (device code argument) = ccw code argument
word_line (transfer to) = tic to

abbrev pub item_lines : List VolumeData → ItemData → List LineData
item_lines volumes (mounting n bind) = mount (serial_of volumes n) bind ∷ []
item_lines volumes demounting = demount ∷ []
item_lines volumes (running words) = program ∷ map word_line words ++ end ∷ []

abbrev pub script_lines : List VolumeData → ScriptData → List LineData
script_lines volumes script = host script.host ∷ flat_map (item_lines volumes) script.items

abbrev pub config_lines : ConfigData → List LineData
config_lines config =
    mss config.frames config.recorders ∷ map (λ v. volume v.0 v.1 v.2) config.volumes

abbrev pub job_lines : JobData → List LineData
job_lines job = config_lines job.config ++ flat_map (script_lines job.config.volumes) job.hosts ++ done ∷ []

abbrev pub config_text : ConfigData → List ℕ
config_text config = flat_map line_text (config_lines config)

-- the canonical text of a job
abbrev pub job_text : JobData → List ℕ
job_text job = flat_map line_text (job_lines job)

-- each line stands where it may and is good, and the lines lead from what was known to what is known then
abbrev pub LeadsTo : SoFar → List LineData → SoFar → Type 0
LeadsTo s [] t = s ≡ t
LeadsTo s (line ∷ lines) t = IsLine line × IsAllowed s.place (keyword_of line) × (u : SoFar) × (after_line s line ≡ Ok u) × LeadsTo u lines t
