use Rattle.std.proofs.Common.{refl, ◌∙◌, ℕ, List}
use Rattle.mss_base.specs.Content.{Content, content}
use Rattle.table_pair.proofs.SiteLemmas.{reads_none, reads_then}
use Rattle.mss_audit.specs.declared.finding.Finding.{Finding}
use Rattle.mss_audit.specs.Walks.{row_cylinder_findings}
use Rattle.mss_audit.proofs.Joining.{joined_none}
use Rattle.mss_audit.proofs.Inspecting.{lists_next}
use Rattle.mss_audit.proofs.tracks.list_row.Goals as goal

pub loop-number-init : goal.loop-number-init
loop-number-init g c = record {
  list = λ tells. joined_none (row_cylinder_findings (content (g.S.Site.told c.args.site.now)) c.args.volume c.args.row.now) _ _ refl;
  devices = reads_none g.S.Site c.args.site.now;
  count = refl;
}

pub loop-number-preserved : goal.loop-number-preserved
loop-number-preserved g c =
    let known = c.loop-number.invariant in
    let found : Content → ℕ → List Finding = λ k. row_cylinder_findings k c.args.volume c.args.row.now in
    record {
      list = λ tells. lists_next found (g.S.Site.told c.args.site.now) (g.S.Site.told c.loop-number.site) c.args.findings.now.items c.loop-number.findings.items c.list_cylinder.new.findings.items c.loop-number.number c.cylinder_at.result
          (known.devices.log tells) c.cylinder_at.ensures (known.list tells) (c.in_ok-list_cylinder.ensures.list tells);
      devices = reads_then g.S.Site c.args.site.now c.loop-number.site c.list_cylinder.new.site known.devices c.in_ok-list_cylinder.ensures.inspects.devices;
      count = c.in_ok-list_cylinder.ensures.inspects.counts ∙ known.count;
    }
