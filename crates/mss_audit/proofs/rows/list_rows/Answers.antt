use Rattle.std.proofs.Common.{refl, ◌++◌, ◌∙◌, ap, subst, arith, rules, ◌≡◌, ℕ, List, Option}
use Rattle.mss_base.specs.Content.{Content, content}
use Rattle.mss_base.specs.Configs.{serial_in}
use Rattle.table_pair.proofs.SiteLemmas.{reads_none, reads_then}
use Rattle.mss_audit.specs.declared.finding.Finding.{Finding}
use Rattle.mss_audit.specs.Findings.{row_findings}
use Rattle.mss_audit.proofs.Joining.{joined_none}
use Rattle.mss_audit.proofs.Inspecting.{lists_next}
use Rattle.mss_audit.proofs.RowFacts.{AreSoFar, none_so_far, one_so_far, all_so_far, same_row}
use Rattle.mss_audit.proofs.rows.list_rows.Goals as goal

pub loop-number-init : goal.loop-number-init
loop-number-init g c = record {
  rows = λ tells. none_so_far (content (g.S.Site.told c.args.site.now)) c.in_ok-rows.rows;
  going = record {
    list = λ tells. joined_none (row_findings (serial_in c.args.volumes.now) (content (g.S.Site.told c.args.site.now))) _ _ refl;
    devices = reads_none g.S.Site c.args.site.now;
    count = refl;
  };
}

pub loop-number-preserved : goal.loop-number-preserved
loop-number-preserved g c =
    let known = c.loop-number.invariant in
    let begun = g.S.Site.told c.args.site.now in
    let now = g.S.Site.told c.loop-number.site in
    let at = c.volume_at-volume.result in
    let listed_so = c.loop-number.findings.items in
    let found : Content → ℕ → List Finding = λ k. row_findings (serial_in c.args.volumes.now) k in
    record {
      rows = λ tells. one_so_far c.loop-number.number at (content begun) c.loop-number.rows c.put.new.self c.in_ok-row.row c.put.ensures.places (omega (arith, c.loop-number-test.true)) c.volume_at-volume.ensures
          (known.rows tells) c.put.ensures.rows
          (c.in_ok-row.ensures.row tells ∙ same_row now begun at (known.going.devices.log tells));
      going = record {
        list = λ tells. lists_next found begun now c.args.findings.now.items listed_so c.list_row.new.findings.items c.loop-number.number at
            (known.going.devices.log tells) c.volume_at-volume.ensures (known.going.list tells)
            (c.in_ok-row.ensures.list tells ∙ ap (λ (o : Option (List ℕ)). listed_so ++ row_findings (λ _. o) (content now) at) c.serial_asked-asked.ensures);
        devices = reads_then g.S.Site c.args.site.now c.loop-number.site c.list_row.new.site known.going.devices c.in_ok-row.ensures.inspects.devices;
        count = c.in_ok-row.ensures.inspects.counts ∙ known.going.count;
      };
    }

pub returns-clause-rows : goal.returns-clause-rows
returns-clause-rows g c = λ tells.
    let n : c.loop-number.number ≡ 32 = search rules in
    let old = content (g.S.Site.told c.args.site.now) in
    all_so_far old c.loop-number.rows c.look.ensures.places
    (subst (λ (m : ℕ). AreSoFar m old c.loop-number.rows) n (c.loop-number.invariant.rows tells))
