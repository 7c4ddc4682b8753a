use Rattle.std.proofs.Common.{sym, ◌∙◌, ◌++◌, ap}
use Rattle.std.proofs.lemmas.List.{append-nil}
use Rattle.mss_base.specs.Content.{content}
use Rattle.volume_table.specs.Listed.{row_in_list}
use Rattle.mss_audit.proofs.TrackFacts.{no_tracks}
use Rattle.mss_audit.proofs.tracks.list_volume.Goals as goal

pub returns-in_default-clause-list : goal.returns-in_default-clause-list
returns-in_default-clause-list g c = λ tells.
    sym (append-nil c.args.findings.now.items)
    ∙ ap (λ l. c.args.findings.now.items ++ l) (sym (no_tracks (row_in_list c.args.rows.now) (content (g.S.Site.told c.args.site.now)) c.args.volume (sym c.row.ensures ∙ c.in_default.is)))
