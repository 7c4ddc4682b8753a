use Rattle.std.proofs.Common.{refl}
use Rattle.volume_table.specs.Listed.{row_in_list}
use Rattle.mss_audit.specs.Findings.{half_findings}
use Rattle.mss_audit.proofs.Joining.{joined_none, joined_next}
use Rattle.mss_audit.proofs.halves.list_halves.Goals as goal

pub loop-number-init : goal.loop-number-init
loop-number-init c = joined_none (half_findings (row_in_list c.args.rows.now)) _ _ refl

pub loop-number-preserved : goal.loop-number-preserved
loop-number-preserved c =
    joined_next (half_findings (row_in_list c.args.rows.now)) c.args.findings.now.items c.loop-number.findings.items c.list_volume.new.findings.items c.loop-number.number c.volume_at.result c.volume_at.ensures
    c.loop-number.invariant c.in_ok-list_volume.ensures
