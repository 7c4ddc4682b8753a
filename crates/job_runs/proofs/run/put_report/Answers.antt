use Rattle.std.proofs.Common.{rules, ◌≡◌, List, Option, refl, subst}
use Rattle.mss_base.specs.Content.{content}
use Rattle.volume_table.specs.Listed.{row_in_list}
use Rattle.shown_volumes.specs.Shown.{shown_by}
use Rattle.core_state.specs.Sessions.{session_data}
use Rattle.session_report.specs.Parties.{Stream, seen_with, site_between, sink_between}
use Rattle.session_report.specs.Parts.{IsUnread}
use Rattle.session_report.specs.Reports.{BreaksOff, Heading, OnRead, report_matter}
use Rattle.std.specs.Option.{option_map}
use Rattle.session_report.specs.CopyTexts.{behind_text}
use Rattle.volume_copy.specs.Copies.{CopyData}
use Rattle.job_runs.specs.Runs.{IsTold}
use Rattle.job_runs.proofs.CopyTold.{behind_of}
use Rattle.job_runs.proofs.SessionFacts.{broken_of, report_of}
use Rattle.job_runs.proofs.run.put_report.Goals as goal

pub returns-clause-tells : goal.returns-clause-tells
returns-clause-tells g c =
    let p = c.args.played in
    let tells = g.S.Site.tells in
    let told = g.S.Site.told in
    let site = c.tell-told.new.site in
    let sink : Stream = sink_between g.O.Sink c.args.output.now c.tell-told.new.output in
    let headings : c.as_slice-volumes.result.now ≡ c.args.job.now.config.volumes =
    search rules in
    let same : option_map (λ x. x.now) c.as_ref.result ≡ p.copier = c.as_ref.ensures.value in
    let told_so = subst (λ (o : Option CopyData). IsTold (report_matter (session_data p.session) c.as_slice-volumes.result.now (shown_by (row_in_list p.rows) (content (told p.site))) (behind_text o)) p.end (site_between g.S.Site p.site site) sink c.tell-told.result) same c.tell-told.ensures.told in
    let report : IsTold (report_matter (session_data p.session) c.args.job.now.config.volumes (shown_by (row_in_list p.rows) (content (told p.site))) (behind_text p.copier)) p.end (site_between g.S.Site p.site site) sink c.tell-told.result =
    subst (λ (x : List Heading). IsTold (report_matter (session_data p.session) x (shown_by (row_in_list p.rows) (content (told p.site))) (behind_text p.copier)) p.end (site_between g.S.Site p.site site) sink c.tell-told.result)
    headings told_so in
    λ was plain holds. (
      refl,
      refl,
      report_of g.S.Site c.args.job.now was p.site site p.end (session_data p.session) p.rows
          plain c.requires.halts c.requires.rows
          (c.rows_of_a_content_show_its_volumes.ensures p.rows (content (told p.site))) sink c.tell-told.result c.tell-told.ensures.site p.copier report
          (λ whole. behind_of tells c.args.job.now.config was (g.S.Site.faults p.site) (session_data p.session) c.whole_copies_are_their_volumes.ensures p.copier c.look_at_copy.ensures (holds whole)) c.tell-told.ensures.framed c.tell-told.ensures.counted c.tell-told.ensures.output,
    )

pub returns-clause-unread : goal.returns-clause-unread
returns-clause-unread g c =
    let p = c.args.played in
    let told = g.S.Site.told in
    let site = c.tell-told.new.site in
    let sink : Stream = sink_between g.O.Sink c.args.output.now c.tell-told.new.output in
    let headings : c.as_slice-volumes.result.now ≡ c.args.job.now.config.volumes =
    search rules in
    let same : option_map (λ x. x.now) c.as_ref.result ≡ p.copier = c.as_ref.ensures.value in
    let told_so = subst (λ (o : Option CopyData). IsTold (report_matter (session_data p.session) c.as_slice-volumes.result.now (shown_by (row_in_list p.rows) (content (told p.site))) (behind_text o)) p.end (site_between g.S.Site p.site site) sink c.tell-told.result) same c.tell-told.ensures.told in
    let unread_so = subst (λ (o : Option CopyData). OnRead c.tell-told.result (BreaksOff (IsUnread g.S.Site p.site (row_in_list p.rows) c.as_slice-volumes.result.now) (report_matter (session_data p.session) c.as_slice-volumes.result.now (shown_by (row_in_list p.rows) (content (told p.site))) (behind_text o))
    (seen_with (site_between g.S.Site p.site site) sink))) same c.tell-told.ensures.unread in
    let report : IsTold (report_matter (session_data p.session) c.args.job.now.config.volumes (shown_by (row_in_list p.rows) (content (told p.site))) (behind_text p.copier)) p.end (site_between g.S.Site p.site site) sink c.tell-told.result =
    subst (λ (x : List Heading). IsTold (report_matter (session_data p.session) x (shown_by (row_in_list p.rows) (content (told p.site))) (behind_text p.copier)) p.end (site_between g.S.Site p.site site) sink c.tell-told.result)
    headings told_so in
    λ was plain. broken_of g.S.Site c.args.job.now was p.site site p.end (session_data p.session) p.rows
    plain c.requires.halts c.requires.rows
    (c.rows_of_a_content_show_its_volumes.ensures p.rows (content (told p.site))) sink c.tell-told.result c.tell-told.ensures.site p.copier report
    (subst (λ (x : List Heading). OnRead c.tell-told.result (BreaksOff (IsUnread g.S.Site p.site (row_in_list p.rows) x) (report_matter (session_data p.session) x (shown_by (row_in_list p.rows) (content (told p.site))) (behind_text p.copier))
    (seen_with (site_between g.S.Site p.site site) sink)))
    headings unread_so)
