-- How an output ends that is one line.
use Rattle.report_text.specs.declared.one_line.OneLine.{OneLine}
use Rattle.report_text.specs.declared.one_line.OneLine.TheVariants as line
use Rattle.shown_volumes.specs.declared.refused.Refused.{Refused}
use Rattle.shown_volumes.specs.declared.refused.Refused.TheVariants as refused
use Rattle.session_report.specs.Parties.{Stream}
use Rattle.mss_top.specs.Status.{IsLinePut}
use Rattle.mss_top.specs.declared.status.Status.{Status}

-- the line of a site that isn't taken up
abbrev pub line_of : Refused → OneLine
line_of refused.Memory = line.WantOfMemory
line_of why = line.RestartRefused why

-- one line was put, and says why
pub record SaysWhy (Cause : OneLine → Type 0) (sink : Stream) (told : Status) : Type 0 where
  pub said : OneLine
  pub cause : Cause said
  pub put : IsLinePut said sink told
