use Rattle.std.proofs.Common.{Err, List, [], refl, ◌∙◌, ap, subst}
use Rattle.std.proofs.lemmas.Result.{err_from_is_err_and}
use Rattle.mss_base.specs.Content.{content}
use Rattle.ckd_track.specs.Data.{Volumes}
use Rattle.volume_table.specs.Listed.{row_in_list}
use Rattle.shown_volumes.specs.Shown.{shown_by}
use Rattle.report_text.specs.Texts.{listing_title}
use Rattle.report_text.specs.declared.report.ReportFault.TheVariants as part
use Rattle.session_report.specs.Parties.{ToldDevices, Stream, seen_with, site_between, sink_between}
use Rattle.session_report.specs.Parts.{IsUnread}
use Rattle.session_report.specs.Reports.{BreaksOff, Heading, IsReported, OnRead, finished, listing_matter, untitled_matter}
use Rattle.session_report.specs.declared.reporting.Last.TheVariants.{End}
use Rattle.session_report.proofs.Framing.{fault_grows, frames_behind, frames_front, grows_none, put_no_read, title_long}
use Rattle.session_report.proofs.Told.{untold, unopened, opened, broken_behind}
use Rattle.session_report.proofs.all_volumes.listing.Goals as goal

pub returns-in_err-put_title-clause-report : goal.returns-in_err-put_title-clause-report
returns-in_err-put_title-clause-report g c =
    let p = err_from_is_err_and c.from_residual.result c.from_residual.ensures.1 in
    let shown : Volumes = shown_by (row_in_list c.args.rows.now) (content (g.S.Site.told c.args.site.now)) in
    unopened listing_title shown (listing_matter shown).volumes [] (finished End) _ _ c.from_residual.result part.Output
    (p.1 ∙ ap Err p.2)
    (λ output. c.in_err-put_title.ensures.cause.failed) (λ memory. absurd cc) c.in_err-put_title.ensures.bytes

pub returns-in_err-volumes-clause-report : goal.returns-in_err-volumes-clause-report
returns-in_err-volumes-clause-report g c =
    let p = err_from_is_err_and c.from_residual-in_err-volumes.result c.from_residual-in_err-volumes.ensures.1 in
    let shown : Volumes = shown_by (row_in_list c.args.rows.now) (content (g.S.Site.told c.args.site.now)) in
    opened listing_title shown (listing_matter shown).volumes [] (finished End) _ _ c.from_residual-in_err-volumes.result
    (g.O.Sink.told c.put_title.new.output) (g.O.Sink.faults c.put_title.new.output)
    c.in_ok-put_title.ensures.bytes c.in_ok-put_title.ensures.cause.same
    (untold _ (finished End) _ _ c.from_residual-in_err-volumes.result (p.1 ∙ ap Err p.2) refl refl)

pub returns-clause-report : goal.returns-clause-report
returns-clause-report g c =
    let shown : Volumes = shown_by (row_in_list c.args.rows.now) (content (g.S.Site.told c.args.site.now)) in
    opened listing_title shown (listing_matter shown).volumes [] (finished End) _ _ c.put_ending.result
    (g.O.Sink.told c.put_title.new.output) (g.O.Sink.faults c.put_title.new.output)
    c.in_ok-put_title.ensures.bytes c.in_ok-put_title.ensures.cause.same
    (subst (λ (volumes : List Heading). IsReported (untitled_matter volumes shown []) (finished End) (site_between g.S.Site c.args.site.now c.put_ending.new.site) (sink_between g.O.Sink c.put_title.new.output c.put_ending.new.output) c.put_ending.result)
    (c.as_slice.ensures ∙ c.in_ok-volumes.ensures) c.put_ending.ensures.report)

pub returns-in_err-put_title-clause-unread : goal.returns-in_err-put_title-clause-unread
returns-in_err-put_title-clause-unread g c =
    let p = err_from_is_err_and c.from_residual.result c.from_residual.ensures.1 in
    put_no_read c.from_residual.result part.Output _ (p.1 ∙ ap Err p.2)

pub returns-in_err-volumes-clause-unread : goal.returns-in_err-volumes-clause-unread
returns-in_err-volumes-clause-unread g c =
    let p = err_from_is_err_and c.from_residual-in_err-volumes.result c.from_residual-in_err-volumes.ensures.1 in
    put_no_read c.from_residual-in_err-volumes.result part.Memory _ (p.1 ∙ ap Err p.2)

pub returns-clause-unread : goal.returns-clause-unread
returns-clause-unread g c =
    let shown : Volumes = shown_by (row_in_list c.args.rows.now) (content (g.S.Site.told c.args.site.now)) in
    let site : ToldDevices = site_between g.S.Site c.args.site.now c.put_ending.new.site in
    let sink : Stream = sink_between g.O.Sink c.args.output.now c.put_ending.new.output in
    let late : Stream = sink_between g.O.Sink c.put_title.new.output c.put_ending.new.output in
    broken_behind listing_title shown (listing_matter shown).volumes [] (finished End) site sink c.put_ending.result
    (g.O.Sink.told c.put_title.new.output) (g.O.Sink.faults c.put_title.new.output) c.in_ok-put_title.ensures.bytes c.in_ok-put_title.ensures.cause.same
    (IsUnread g.S.Site c.args.site.now (row_in_list c.args.rows.now) (listing_matter shown).volumes) c.put_ending.result
    (subst (λ (volumes : List Heading). OnRead c.put_ending.result (BreaksOff (IsUnread g.S.Site c.args.site.now (row_in_list c.args.rows.now) volumes) (untitled_matter volumes shown []) (seen_with site late)))
    (c.as_slice.ensures ∙ c.in_ok-volumes.ensures) c.put_ending.ensures.unread)

pub returns-in_err-put_title-clause-framed : goal.returns-in_err-put_title-clause-framed
returns-in_err-put_title-clause-framed g c = λ told.
    let p = err_from_is_err_and c.from_residual.result c.from_residual.ensures.1 in
    frames_front listing_title (finished End) (g.O.Sink.told c.args.output.now) (g.O.Sink.told c.put_title.new.output) c.from_residual.result part.Output
    (p.1 ∙ ap Err p.2) (c.in_err-put_title.ensures.bytes told) (λ memory. absurd cc)

pub returns-in_err-volumes-clause-framed : goal.returns-in_err-volumes-clause-framed
returns-in_err-volumes-clause-framed g c = λ told.
    let p = err_from_is_err_and c.from_residual-in_err-volumes.result c.from_residual-in_err-volumes.ensures.1 in
    frames_behind listing_title End (g.O.Sink.told c.args.output.now) (g.O.Sink.told c.put_title.new.output) (g.O.Sink.told c.put_title.new.output) c.from_residual-in_err-volumes.result
    title_long (c.in_ok-put_title.ensures.bytes told) (fault_grows End _ _ c.from_residual-in_err-volumes.result part.Memory (p.1 ∙ ap Err p.2) (grows_none (g.O.Sink.told c.put_title.new.output)))

pub returns-clause-framed : goal.returns-clause-framed
returns-clause-framed g c = λ told.
    frames_behind listing_title End (g.O.Sink.told c.args.output.now) (g.O.Sink.told c.put_title.new.output) (g.O.Sink.told c.put_ending.new.output) c.put_ending.result
    title_long (c.in_ok-put_title.ensures.bytes told) (c.put_ending.ensures.closed told)
