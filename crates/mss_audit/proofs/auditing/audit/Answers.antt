use Rattle.std.proofs.Common.{◌∙◌, ap}
use Rattle.mss_base.specs.Configs.{ConfigData}
use Rattle.mss_base.specs.Content.{content}
use Rattle.volume_table.specs.Listed.{row_in_list}
use Rattle.mss_audit.proofs.Audited.{all_listed}
use Rattle.mss_audit.proofs.auditing.audit.Goals as goal

pub returns-clause-list : goal.returns-clause-list
returns-clause-list g c = λ tells.
    all_listed c.config.inside.frames c.args.config.now.frames c.as_slice.result.now c.args.config.now.volumes (content (g.S.Site.told c.list_rows.new.site)) (content (g.S.Site.told c.args.site.now)) (row_in_list c.in_ok-rows.rows) c.new-findings.result.items c.list_rows.new.findings.items c.list_rest.new.findings.items
    (ap (λ (x : ConfigData). x.frames) c.config.view_is) (c.as_slice.ensures ∙ ap (λ (x : ConfigData). x.volumes) c.config.view_is) (ap content (c.in_ok-rows.ensures.inspects.devices.log tells))
    (c.in_ok-rows.ensures.rows tells) c.new-findings.ensures (c.in_ok-rows.ensures.list tells) (c.in_ok-list_rest.ensures.list tells)
