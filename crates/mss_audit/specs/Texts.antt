-- The text of an audit: a title, a line for each finding, the last line.
use Rattle.std.specs.Prelude.{ℕ, List, ◌++◌, codes, decimal}
use Rattle.report_text.specs.Texts.{numbered_lines, end_text, stopped_text}
use Rattle.report_text.specs.Refusals.{copy_name, row_field_text, refused_text}
use Rattle.mss_audit.specs.declared.finding.Finding.{Finding}
use Rattle.mss_audit.specs.declared.finding.Finding.TheVariants.{Refusal, CopyClosed, CopyDamaged, CopyDiffers}

-- what a finding says
unfoldable pub finding_text : Finding → List ℕ
finding_text (Refusal refused) = refused_text refused
finding_text (CopyClosed volume copy) =
    codes "volume " ++ decimal volume ++ codes " copy " ++ copy_name copy ++ codes " closed\n"
finding_text (CopyDamaged volume copy fault) =
    codes "volume " ++ decimal volume ++ codes " copy " ++ copy_name copy ++ codes " also damaged "
    ++ row_field_text fault.field ++ codes " value " ++ decimal fault.value ++ codes "\n"
finding_text (CopyDiffers volume place a b) =
    codes "volume " ++ decimal volume ++ codes " copies differ place " ++ decimal place
    ++ codes " values " ++ decimal a ++ codes " " ++ decimal b ++ codes "\n"

-- how the line of the finding at place n begins, from 1
unfoldable pub number_text : ℕ → List ℕ
number_text n = codes "finding " ++ decimal n ++ codes " "

unfoldable pub finding_line : ℕ → Finding → List ℕ
finding_line n finding = number_text n ++ finding_text finding

-- the first line
unfoldable pub audit_title : List ℕ
audit_title = codes "MSS AUDIT 1\n"

-- the lines behind it
unfoldable pub lines_text : List Finding → List ℕ
lines_text findings = numbered_lines finding_line 1 findings

unfoldable pub rest_text : List Finding → List ℕ
rest_text findings = lines_text findings ++ end_text

-- a whole audit
unfoldable pub audit_text : List Finding → List ℕ
audit_text findings = audit_title ++ rest_text findings

-- an audit that a failed read ended, which says nothing of what it had found
unfoldable pub unread_text : ℕ → List ℕ
unread_text fault = audit_title ++ stopped_text fault
