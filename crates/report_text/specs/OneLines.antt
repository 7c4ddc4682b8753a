-- Outputs of one line in place of a report.
use Rattle.std.specs.Prelude.{ℕ, List, ◌++◌, codes, decimal}
use Rattle.job_text.specs.declared.kind.JobKind.{JobKind}
use Rattle.job_text.specs.declared.kind.JobKind.TheVariants as kind
use Rattle.report_text.specs.declared.one_line.OneLine.{OneLine}
use Rattle.report_text.specs.declared.one_line.OneLine.TheVariants.{WordsRefused, InputFault, JobRefused}
use Rattle.report_text.specs.declared.one_line.OneLine.TheVariants.{RestartRefused, WantOfMemory}
use Rattle.report_text.specs.Refusals.{refusal_text}

-- how a kind of bad lines is named
abbrev pub kind_name : JobKind → List ℕ
kind_name kind.TooBig = codes "TooBig"
kind_name kind.BadByte = codes "BadByte"
kind_name kind.After = codes "After"
kind_name kind.Unknown = codes "Unknown"
kind_name kind.Shape = codes "Shape"
kind_name kind.Range = codes "Range"
kind_name kind.Twice = codes "Twice"
kind_name kind.Absent = codes "Absent"
kind_name kind.Count = codes "Count"
kind_name kind.Ended = codes "Ended"

-- what each says
unfoldable pub one_line_text : OneLine → List ℕ
one_line_text WordsRefused = codes "words refused\n"
one_line_text InputFault = codes "input fault\n"
one_line_text (JobRefused line kind) =
    codes "job refused line " ++ decimal line ++ codes " " ++ kind_name kind ++ codes "\n"
one_line_text (RestartRefused refused) = refusal_text refused
one_line_text WantOfMemory = codes "want of memory\n"
