use Rattle.std.proofs.Common.{refl, ◌∙◌, ℕ, List}
use Rattle.mss_base.specs.Content.{Content, content}
use Rattle.volume_table.specs.Listed.{row_in_list}
use Rattle.table_pair.proofs.SiteLemmas.{reads_none, reads_then}
use Rattle.mss_audit.specs.declared.finding.Finding.{Finding}
use Rattle.mss_audit.specs.Findings.{track_findings}
use Rattle.mss_audit.proofs.Joining.{joined_none}
use Rattle.mss_audit.proofs.Inspecting.{lists_next}
use Rattle.mss_audit.proofs.tracks.list_tracks.Goals as goal

pub loop-number-init : goal.loop-number-init
loop-number-init g c = record {
  list = λ tells. joined_none (track_findings (row_in_list c.args.rows.now) (content (g.S.Site.told c.args.site.now))) _ _ refl;
  devices = reads_none g.S.Site c.args.site.now;
  count = refl;
}

pub loop-number-preserved : goal.loop-number-preserved
loop-number-preserved g c =
    let known = c.loop-number.invariant in
    let found : Content → ℕ → List Finding = λ k. track_findings (row_in_list c.args.rows.now) k in
    record {
      list = λ tells. lists_next found (g.S.Site.told c.args.site.now) (g.S.Site.told c.loop-number.site) c.args.findings.now.items c.loop-number.findings.items c.list_volume.new.findings.items c.loop-number.number c.volume_at.result
          (known.devices.log tells) c.volume_at.ensures (known.list tells) (c.in_ok-list_volume.ensures.list tells);
      devices = reads_then g.S.Site c.args.site.now c.loop-number.site c.list_volume.new.site known.devices c.in_ok-list_volume.ensures.inspects.devices;
      count = c.in_ok-list_volume.ensures.inspects.counts ∙ known.count;
    }
