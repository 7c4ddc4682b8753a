-- What a comparison puts.
use Rattle.std.specs.Prelude.{ℕ, List, ◌++◌, ◌==◌, codes, decimal, if◌then◌else◌}
use Rattle.report_text.specs.OneLines.{one_line_text}
use Rattle.report_text.specs.Texts.{end_text, limit_text, numbered_lines, stopped_text}
use Rattle.report_text.specs.declared.one_line.OneLine.TheVariants.{WantOfMemory}
use Rattle.core_state.specs.declared.session.Message.{Message}
use Rattle.core_state.specs.declared.session.Session.{Session}
use Rattle.serial_driver.specs.declared.answer.DriveAnswer.{DriveAnswer}
use Rattle.serial_driver.specs.declared.answer.DriveAnswer.TheVariants as ended
use Rattle.session_report.specs.Summaries.{count_of}
use Rattle.session_report.specs.declared.summing.Kind.TheVariants as kind

-- the first line
unfoldable pub policies_title : List ℕ
policies_title = codes "MSS POLICIES 1\n"

-- the name of the n-th chooser, from 1
unfoldable pub name_at : ℕ → List ℕ
name_at n = if n == 1 then codes "lru"
    else (if n == 2 then codes "clean" else (if n == 3 then codes "quota:1" else codes "other"))

-- a word and a count
unfoldable pub word_and_count : List ℕ → ℕ → List ℕ
word_and_count word n = word ++ decimal n

-- the same at the end of a line
unfoldable pub counted_last : List ℕ → ℕ → List ℕ
counted_last word n = word ++ decimal n ++ codes "\n"

-- how often a cylinder was destaged, and a page gave its frame back
unfoldable pub given_back_text : List Message → List ℕ
given_back_text console = word_and_count (codes " destaged ") (count_of kind.Destaged console)
    ++ counted_last (codes " free ") (count_of kind.Free console)

-- and how often a cylinder was staged
unfoldable pub counts_text : List Message → List ℕ
counts_text console =
    word_and_count (codes " staged ") (count_of kind.Staged console) ++ given_back_text console

unfoldable pub named_text : List ℕ → List ℕ
named_text name = codes "policy " ++ name

-- the line of the n-th chooser's session
abbrev pub policy_line : ℕ → Session → List ℕ
policy_line n s = named_text (name_at n) ++ counts_text s.console.items

unfoldable pub lines_text : List Session → List ℕ
lines_text sessions = numbered_lines policy_line 1 sessions

-- the last line: no session of a comparison is stopped
abbrev pub closing_text : DriveAnswer → List ℕ
closing_text ended.Done = end_text
closing_text ended.CommandLimit = limit_text
closing_text (ended.Stopped fault) = stopped_text fault
closing_text ended.Memory = one_line_text WantOfMemory

-- all lines but the first
unfoldable pub sessions_text : List Session → DriveAnswer → List ℕ
sessions_text sessions end = lines_text sessions ++ closing_text end

-- all of it
unfoldable pub policies_text : List Session → DriveAnswer → List ℕ
policies_text sessions end = policies_title ++ sessions_text sessions end
