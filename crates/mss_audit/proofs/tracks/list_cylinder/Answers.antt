use Rattle.std.proofs.Common.{refl, ◌++◌, ◌∙◌, ap, ℕ, List, Option}
use Rattle.mss_base.specs.Content.{Content, content}
use Rattle.table_pair.proofs.SiteLemmas.{reads_none, reads_then}
use Rattle.shown_volumes.specs.Faults.{row_track_fault}
use Rattle.shown_volumes.specs.declared.refused.Refused.{Refused}
use Rattle.mss_audit.specs.declared.finding.Finding.{Finding}
use Rattle.mss_audit.specs.Listing.{one}
use Rattle.mss_audit.specs.Findings.{refusal}
use Rattle.mss_audit.proofs.Joining.{joined_none}
use Rattle.mss_audit.proofs.Inspecting.{lists_next}
use Rattle.mss_audit.proofs.tracks.list_cylinder.Goals as goal

pub loop-number-init : goal.loop-number-init
loop-number-init g c = record {
  list = λ tells. joined_none (λ head. one (refusal (row_track_fault (content (g.S.Site.told c.args.site.now)) c.args.volume c.args.cylinder head c.args.row.now))) _ _ refl;
  devices = reads_none g.S.Site c.args.site.now;
  count = refl;
}

pub loop-number-preserved : goal.loop-number-preserved
loop-number-preserved g c =
    let known = c.loop-number.invariant in
    let found : Content → ℕ → List Finding = λ k head. one (refusal (row_track_fault k c.args.volume c.args.cylinder head c.args.row.now)) in
    record {
      list = λ tells. lists_next found (g.S.Site.told c.args.site.now) (g.S.Site.told c.loop-number.site) c.args.findings.now.items c.loop-number.findings.items c.list_refusal.new.findings.items c.loop-number.number c.head_at.result
          (known.devices.log tells) c.head_at.ensures (known.list tells)
          (c.in_ok-list_refusal.ensures ∙ ap (λ (o : Option Refused). c.loop-number.findings.items ++ one (refusal o)) (c.in_ok-fault.ensures.fault tells));
      devices = reads_then g.S.Site c.args.site.now c.loop-number.site c.track_fault.new.site known.devices c.in_ok-fault.ensures.inspects.devices;
      count = c.in_ok-fault.ensures.inspects.counts ∙ known.count;
    }
