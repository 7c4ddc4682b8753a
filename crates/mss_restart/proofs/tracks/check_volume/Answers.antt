use Rattle.std.proofs.Common.{Option, sym, ◌∙◌, subst}
use Rattle.mss_base.specs.Content.{content}
use Rattle.shown_volumes.specs.declared.refused.Refused.{Refused}
use Rattle.volume_table.specs.Listed.{row_in_list}
use Rattle.mss_restart.specs.Survey.{Finds}
use Rattle.mss_restart.proofs.ListedFacts.{row_tracks, no_tracks}
use Rattle.mss_restart.proofs.tracks.check_volume.Goals as goal

pub returns-in_default-clause-finds : goal.returns-in_default-clause-finds
returns-in_default-clause-finds g c = λ tells.
    no_tracks (row_in_list c.args.rows.now) (content (g.S.Site.told c.args.site.now)) c.args.volume
    (sym c.row.ensures ∙ c.in_default.is)

pub returns-clause-finds : goal.returns-clause-finds
returns-clause-finds g c = λ tells.
    let there = sym c.row.ensures ∙ c.in-Some.is in
    subst (λ (o : Option Refused). Finds c.check_row.result o) (sym (row_tracks (row_in_list c.args.rows.now) (content (g.S.Site.told c.args.site.now)) c.args.volume c.in-Some.row there)) (c.check_row.ensures.finds tells)

pub returns-clause-works : goal.returns-clause-works
returns-clause-works g c = λ reads.
    c.check_row.ensures.works (reads c.in-Some.row (sym c.row.ensures ∙ c.in-Some.is))
