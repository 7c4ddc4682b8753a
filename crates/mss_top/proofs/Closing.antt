-- A line that is put after nothing was put.
use Rattle.std.proofs.Common.{ℕ, List, ◌++◌, ◌∙◌, ap, subst}
use Rattle.mss_base.specs.Counts.{Rises}
use Rattle.mss_base.specs.Puts.{PutsFront}
use Rattle.report_text.specs.declared.one_line.OneLine.{OneLine}
use Rattle.report_text.specs.OneLines.{one_line_text}
use Rattle.session_report.specs.Parties.{Stream, IsUntouched}
use Rattle.mss_top.specs.Serial.{Output, since, until}
use Rattle.mss_top.specs.Status.{IsLinePut, whole, broken}
use Rattle.mss_top.specs.declared.status.Status.{Status}

pub put_since : (said : OneLine) (sink : Stream) (mid : Output) (told : Status) → IsUntouched (until sink mid) → IsLinePut said (since sink mid) told → IsLinePut said sink told
put_since said sink mid told none (whole is counted bytes) = whole is (counted ∙ none.faults_) (λ t. bytes t ∙ ap (λ (b : List ℕ). b ++ one_line_text said) none.told_)
put_since said sink mid told none (broken is rose front) = broken is
    (subst (λ (n : ℕ). Rises n sink.faults_now) none.faults_ rose)
    (λ t. subst (λ (b : List ℕ). PutsFront b sink.now (one_line_text said)) none.told_ (front t))
