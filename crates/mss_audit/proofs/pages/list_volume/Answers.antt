use Rattle.std.proofs.Common.{refl, ◌++◌, ◌∙◌, ap, ℕ, List}
use Rattle.volume_table.specs.Listed.{row_in_list}
use Rattle.shown_volumes.specs.Faults.{page_fault}
use Rattle.mss_audit.specs.declared.finding.Finding.{Finding}
use Rattle.mss_audit.specs.Listing.{one}
use Rattle.mss_audit.specs.Findings.{refusal}
use Rattle.mss_audit.proofs.Joining.{joined_none, joined_next}
use Rattle.mss_audit.proofs.pages.list_volume.Goals as goal

pub loop-number-init : goal.loop-number-init
loop-number-init c = joined_none (λ page. one (refusal (page_fault c.args.frames (row_in_list c.args.rows.now) c.args.volume page))) _ _ refl

pub loop-number-preserved : goal.loop-number-preserved
loop-number-preserved c =
    let f : ℕ → List Finding = λ page. one (refusal (page_fault c.args.frames (row_in_list c.args.rows.now) c.args.volume page)) in
    joined_next f c.args.findings.now.items c.loop-number.findings.items c.list_refusal.new.findings.items c.loop-number.number c.page_at.result c.page_at.ensures
    c.loop-number.invariant (c.in_ok-list_refusal.ensures ∙ ap (λ o. c.loop-number.findings.items ++ one (refusal o)) c.page_fault.ensures)
