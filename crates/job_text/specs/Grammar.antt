-- A job text line by line: the job, or the first bad line with the first kind that applies.
use Rattle.std.specs.Prelude.{ℕ, ◌+◌, ◌==◌, nat_lt, Bool, true, false, ◌||◌, not, List, [], ◌∷◌, ◌++◌, length, Option, Some, None, is_none, Result, Ok, Err, if◌then◌else◌}
use Rattle.std.specs.List.{list_all, list_any, find}
use Rattle.std.specs.Option.{option_map, option_map_or}
use Rattle.std.specs.Str.{bytes_eq}
use Rattle.job_text.specs.declared.kind.JobKind.{JobKind}
use Rattle.job_text.specs.declared.kind.JobKind.TheVariants.{TooBig, BadByte, After, Unknown, Twice, Absent, Count, Ended}
use Rattle.job_text.specs.declared.kind.Keyword.{Keyword}
use Rattle.job_text.specs.declared.kind.Place.{Place}
use Rattle.job_text.specs.declared.kind.Place.TheVariants as place
use Rattle.job_text.specs.Words.{lines_of, words_of, is_skipped, is_printable}
use Rattle.channel_commands.specs.Data.{CcwData, device, transfer}
use Rattle.channel_program.specs.Script.{ItemData, mounting, demounting, program as running}
use Rattle.mss_base.specs.Configs.{VolumeData}
use Rattle.job_text.specs.Jobs.{ScriptData, JobData, by_number, WORD_LIMIT, ITEM_LIMIT, ARGUMENT_LIMIT, TOTAL_LIMIT}
use Rattle.job_text.specs.Lines.{LineData, mss, volume, host, done, mount, demount, program, ccw, tic, end, keyword_at, line_of}

-- the most bytes of a job's text
abbrev pub TEXT_LIMIT : ℕ
TEXT_LIMIT = 4194304

-- What the lines before said. The present host and the open program stand apart.
pub record SoFar : Type 0 where
  pub place : Place
  pub frames : ℕ
  pub recorders : ℕ
  pub volumes : List VolumeData
  pub closed : List ScriptData
  pub present : Option ℕ
  pub items : List ItemData
  pub words : List CcwData
  pub total : ℕ

abbrev pub nothing : SoFar
nothing = record { place = place.Head; frames = 0; recorders = 0; volumes = []; closed = []; present = None; items = []; words = []; total = 0 }

-- the number of the volume with this serial
abbrev pub number_of_serial : SoFar → List ℕ → Option ℕ
number_of_serial s serial = option_map (λ v. v.0) (find (λ v. bytes_eq v.1 serial) s.volumes)

-- all hosts so far, with their items
abbrev pub scripts : SoFar → List ScriptData
scripts s = s.closed ++ option_map_or (λ n. record { host = n; items = s.items } ∷ []) s.present []

-- a volume number, a serial or a host number stands in an earlier line
abbrev pub is_twice : SoFar → LineData → Bool
is_twice s (volume n serial read_only) = list_any (λ v. v.0 == n || bytes_eq v.1 serial) s.volumes
is_twice s (host n) = list_any (λ script. script.host == n) (scripts s)
is_twice s _ = false

-- no `volume` line has the serial
abbrev pub is_absent : SoFar → LineData → Bool
is_absent s (mount serial bind) = is_none (number_of_serial s serial)
is_absent s _ = false

-- a limit would be passed, or a program would have no words
abbrev pub is_beyond : SoFar → LineData → Bool
is_beyond s (mount serial bind) = nat_lt ITEM_LIMIT (length s.items + 1)
is_beyond s demount = nat_lt ITEM_LIMIT (length s.items + 1)
is_beyond s program = nat_lt ITEM_LIMIT (length s.items + 1)
is_beyond s (ccw code argument) =
    nat_lt WORD_LIMIT (length s.words + 1) || nat_lt ARGUMENT_LIMIT (length argument) || nat_lt TOTAL_LIMIT (s.total + length argument)
is_beyond s (tic n) = nat_lt WORD_LIMIT (length s.words + 1)
is_beyond s end = length s.words == 0
is_beyond s _ = false

-- the volume's number, where the serial is one of a volume
abbrev pub mounting_of : Option ℕ → Bool → List ItemData
mounting_of None bind = []
mounting_of (Some n) bind = mounting n bind ∷ []

-- what is known after a good line
abbrev pub after : SoFar → LineData → SoFar
after s (mss f r) = record s { place = place.Volumes; frames = f; recorders = r }
after s (volume n serial read_only) =
    record s { volumes = s.volumes ++ (n, serial, read_only) ∷ [] }
after s (host n) = record s { place = place.Host; closed = scripts s; present = Some n; items = [] }
after s done = record s { place = place.After; closed = scripts s; present = None; items = [] }
after s (mount serial bind) = record s { items = s.items ++ mounting_of (number_of_serial s serial) bind }
after s demount = record s { items = s.items ++ demounting ∷ [] }
after s program = record s { place = place.Program; words = [] }
after s (ccw code argument) = record s { words = s.words ++ device code argument ∷ []; total = s.total + length argument }
after s (tic n) = record s { words = s.words ++ transfer n ∷ [] }
after s end = record s { place = place.Host; items = s.items ++ running s.words ∷ []; words = [] }

infixl 10 ◌>>=◌
abbrev pub ◌>>=◌ : {A B : Type 0} → Result A JobKind → (A → Result B JobKind) → Result B JobKind
(Ok x) >>= f = f x
(Err e) >>= f = Err e

-- a line that says something, after these: the kinds in their order
abbrev pub after_line : SoFar → LineData → Result SoFar JobKind
after_line s line =
    if is_twice s line then Err Twice
    else if is_absent s line then Err Absent
    else if is_beyond s line then Err Count
    else Ok (after s line)

-- the words after a first word that may be a keyword
abbrev pub spoken_by : SoFar → Option Keyword → List (List ℕ) → Result SoFar JobKind
spoken_by s None rest = Err Unknown
spoken_by s (Some keyword) rest = line_of keyword rest >>= after_line s

abbrev pub line_of_words : SoFar → List (List ℕ) → Result SoFar JobKind
line_of_words s [] = Err Unknown
line_of_words s (first ∷ rest) = spoken_by s (keyword_at s.place first) rest

abbrev pub is_after : Place → Bool
is_after place.After = true
is_after _ = false

abbrev pub line_after : SoFar → List ℕ → Result SoFar JobKind
line_after s line =
    if is_skipped line then Ok s
    else if not (list_all is_printable line) then Err BadByte
    else if is_after s.place then Err After
    else line_of_words s (words_of line)

-- a bad line: its number and its kind
pub record BadLine : Type 0 where
  pub line : ℕ
  pub kind : JobKind

-- the first bad line is told with its number
abbrev pub with_line_number : ℕ → Result SoFar JobKind → (SoFar → Result SoFar BadLine) → Result SoFar BadLine
with_line_number n (Err kind) next = Err (record { line = n; kind = kind })
with_line_number n (Ok s) next = next s

-- the lines in order, the first of them with this number
abbrev pub lines_after : SoFar → ℕ → List (List ℕ) → Result SoFar BadLine
lines_after s n [] = if is_after s.place then Ok s else Err (record { line = n; kind = Ended })
lines_after s n (line ∷ lines) = with_line_number n (line_after s line) (λ s'. lines_after s' (n + 1) lines)

abbrev pub job : SoFar → JobData
job s = record { config = record { frames = s.frames; recorders = s.recorders; volumes = by_number s.volumes }; hosts = s.closed }

abbrev pub job_of_reading : Result SoFar BadLine → Result JobData BadLine
job_of_reading (Ok s) = Ok (job s)
job_of_reading (Err bad) = Err bad

-- the job of a text, or the first bad line
abbrev pub job_of : List ℕ → Result JobData BadLine
job_of text =
    if nat_lt TEXT_LIMIT (length text) then Err (record { line = 0; kind = TooBig })
    else job_of_reading (lines_after nothing 1 (lines_of text))
