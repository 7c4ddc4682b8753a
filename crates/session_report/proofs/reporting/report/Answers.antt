use Rattle.std.proofs.Common.{ℕ, List, ◌++◌, Option, Ok, Err, refl, sym, ◌∙◌, ap, subst}
use Rattle.std.proofs.lemmas.Result.{err_from_is_err_and}
use Rattle.std.specs.Option.{option_map}
use Rattle.mss_base.specs.Content.{content}
use Rattle.ckd_track.specs.Data.{Volumes}
use Rattle.volume_table.specs.Listed.{row_in_list}
use Rattle.shown_volumes.specs.Shown.{shown_by}
use Rattle.core_state.specs.Sessions.{session_data}
use Rattle.report_text.specs.Texts.{stopped_text}
use Rattle.report_text.specs.declared.report.ReportFault.TheVariants as part
use Rattle.session_report.specs.CopyTexts.{behind_text}
use Rattle.session_report.specs.Parties.{site_between, sink_between}
use Rattle.session_report.specs.Reports.{Frames, IsReported, ending_of, finished, stopped, opening_text, report_matter}
use Rattle.session_report.specs.Parts.{IsUnread}
use Rattle.session_report.proofs.Framing.{frames_behind, frames_front, frames_unput, grows_front, opening_long, put_no_read}
use Rattle.session_report.proofs.Told.{unopened, opened, broken_behind, stop_told, stop_unput}
use Rattle.session_report.proofs.reporting.report.Goals as goal

pub returns-in_err-put_opening-clause-report : goal.returns-in_err-put_opening-clause-report
returns-in_err-put_opening-clause-report g c =
    let p = err_from_is_err_and c.from_residual.result c.from_residual.ensures.1 in
    unopened (opening_text (session_data c.args.session.now)) _ c.args.volumes.now _ (ending_of c.args.session.now.stopped c.args.last) _ _ c.from_residual.result c.in_err-put_opening.field-0.0 (p.1 ∙ ap Err p.2)
    (λ output. c.in_err-put_opening.ensures.cause.output (ap Err output)) (λ memory. c.in_err-put_opening.ensures.cause.memory (ap Err memory)) c.in_err-put_opening.ensures.bytes

pub returns-in_err-put_stopped-in-Some-clause-report : goal.returns-in_err-put_stopped-in-Some-clause-report
returns-in_err-put_stopped-in-Some-clause-report g c =
    let p = err_from_is_err_and c.from_residual-in_err-put_stopped-in-Some.result c.from_residual-in_err-put_stopped-in-Some.ensures.1 in
    let shown : Volumes = shown_by (row_in_list c.args.rows.now) (content (g.S.Site.told c.args.site.now)) in
    let behind : List ℕ = behind_text (option_map (λ c. c.now) c.args.copy) in
    subst (λ (stop : Option ℕ). IsReported (report_matter (session_data c.args.session.now) c.args.volumes.now shown behind) (ending_of stop c.args.last) (site_between g.S.Site c.args.site.now c.args.site.now) (sink_between g.O.Sink c.args.output.now c.put_stopped.new.output) c.from_residual-in_err-put_stopped-in-Some.result)
    (sym c.in-Some.is)
    (opened (opening_text (session_data c.args.session.now)) shown c.args.volumes.now behind (stopped c.in-Some.kept) _ _ _ (g.O.Sink.told c.put_opening.new.output) (g.O.Sink.faults c.put_opening.new.output) c.in_ok-put_opening.ensures.bytes c.in_ok-put_opening.ensures.cause.same
    (stop_unput shown c.args.volumes.now behind c.in-Some.kept _ _ _ (p.1 ∙ ap Err p.2) c.in_err-put_stopped-in-Some.ensures.cause.failed c.in_err-put_stopped-in-Some.ensures.bytes))

pub returns-in-Some-clause-report : goal.returns-in-Some-clause-report
returns-in-Some-clause-report g c =
    let shown : Volumes = shown_by (row_in_list c.args.rows.now) (content (g.S.Site.told c.args.site.now)) in
    let behind : List ℕ = behind_text (option_map (λ c. c.now) c.args.copy) in
    subst (λ (stop : Option ℕ). IsReported (report_matter (session_data c.args.session.now) c.args.volumes.now shown behind) (ending_of stop c.args.last) (site_between g.S.Site c.args.site.now c.args.site.now) (sink_between g.O.Sink c.args.output.now c.put_stopped.new.output) _)
    (sym c.in-Some.is)
    (opened (opening_text (session_data c.args.session.now)) shown c.args.volumes.now behind (stopped c.in-Some.kept) _ _ _ (g.O.Sink.told c.put_opening.new.output) (g.O.Sink.faults c.put_opening.new.output) c.in_ok-put_opening.ensures.bytes c.in_ok-put_opening.ensures.cause.same
    (stop_told shown c.args.volumes.now behind c.in-Some.kept _ _ _ refl c.in_ok-put_stopped-in-Some.ensures.bytes))

pub returns-clause-report : goal.returns-clause-report
returns-clause-report g c =
    let shown : Volumes = shown_by (row_in_list c.args.rows.now) (content (g.S.Site.told c.args.site.now)) in
    let behind : List ℕ = behind_text (option_map (λ c. c.now) c.args.copy) in
    subst (λ (stop : Option ℕ). IsReported (report_matter (session_data c.args.session.now) c.args.volumes.now shown behind) (ending_of stop c.args.last) (site_between g.S.Site c.args.site.now c.put_ending.new.site) (sink_between g.O.Sink c.args.output.now c.put_ending.new.output) c.put_ending.result)
    (sym c.in-None.is)
    (opened (opening_text (session_data c.args.session.now)) shown c.args.volumes.now behind (finished c.args.last) _ _ c.put_ending.result (g.O.Sink.told c.put_opening.new.output) (g.O.Sink.faults c.put_opening.new.output) c.in_ok-put_opening.ensures.bytes c.in_ok-put_opening.ensures.cause.same c.put_ending.ensures.report)

pub returns-in_err-put_opening-clause-unread : goal.returns-in_err-put_opening-clause-unread
returns-in_err-put_opening-clause-unread g c =
    let p = err_from_is_err_and c.from_residual.result c.from_residual.ensures.1 in
    put_no_read c.from_residual.result c.in_err-put_opening.field-0.0 _ (p.1 ∙ ap Err p.2)

pub returns-in_err-put_stopped-in-Some-clause-unread : goal.returns-in_err-put_stopped-in-Some-clause-unread
returns-in_err-put_stopped-in-Some-clause-unread g c =
    let p = err_from_is_err_and c.from_residual-in_err-put_stopped-in-Some.result c.from_residual-in_err-put_stopped-in-Some.ensures.1 in
    put_no_read c.from_residual-in_err-put_stopped-in-Some.result part.Output _ (p.1 ∙ ap Err p.2)

pub returns-clause-unread : goal.returns-clause-unread
returns-clause-unread g c =
    broken_behind (opening_text (session_data c.args.session.now)) (shown_by (row_in_list c.args.rows.now) (content (g.S.Site.told c.args.site.now))) c.args.volumes.now (behind_text (option_map (λ c. c.now) c.args.copy)) (finished c.args.last)
    (site_between g.S.Site c.args.site.now c.put_ending.new.site) (sink_between g.O.Sink c.args.output.now c.put_ending.new.output) c.put_ending.result
    (g.O.Sink.told c.put_opening.new.output) (g.O.Sink.faults c.put_opening.new.output) c.in_ok-put_opening.ensures.bytes c.in_ok-put_opening.ensures.cause.same
    (IsUnread g.S.Site c.args.site.now (row_in_list c.args.rows.now) c.args.volumes.now) c.put_ending.result c.put_ending.ensures.unread

pub returns-in_err-put_opening-clause-framed : goal.returns-in_err-put_opening-clause-framed
returns-in_err-put_opening-clause-framed g c = λ told.
    let p = err_from_is_err_and c.from_residual.result c.from_residual.ensures.1 in
    frames_front (opening_text (session_data c.args.session.now)) (ending_of c.args.session.now.stopped c.args.last) (g.O.Sink.told c.args.output.now) (g.O.Sink.told c.put_opening.new.output) c.from_residual.result c.in_err-put_opening.field-0.0
    (p.1 ∙ ap Err p.2) (c.in_err-put_opening.ensures.bytes told) (λ memory. c.in_err-put_opening.ensures.begun told (ap Err memory))

pub returns-in_err-put_stopped-in-Some-clause-framed : goal.returns-in_err-put_stopped-in-Some-clause-framed
returns-in_err-put_stopped-in-Some-clause-framed g c = λ told.
    let p = err_from_is_err_and c.from_residual-in_err-put_stopped-in-Some.result c.from_residual-in_err-put_stopped-in-Some.ensures.1 in
    frames_unput (opening_text (session_data c.args.session.now)) (ending_of c.args.session.now.stopped c.args.last) (g.O.Sink.told c.args.output.now) (g.O.Sink.told c.put_opening.new.output) (g.O.Sink.told c.put_stopped.new.output) _
    (p.1 ∙ ap Err p.2) (c.in_ok-put_opening.ensures.bytes told) (grows_front _ _ _ (c.in_err-put_stopped-in-Some.ensures.bytes told))

pub returns-in-Some-clause-framed : goal.returns-in-Some-clause-framed
returns-in-Some-clause-framed g c = λ told.
    subst (λ (stop : Option ℕ). Frames (opening_text (session_data c.args.session.now)) (ending_of stop c.args.last) (g.O.Sink.told c.args.output.now) (g.O.Sink.told c.put_stopped.new.output) (Ok tt)) (sym c.in-Some.is)
    (c.in_ok-put_stopped-in-Some.ensures.bytes told ∙ ap (λ (l : List ℕ). l ++ stopped_text c.in-Some.kept) (c.in_ok-put_opening.ensures.bytes told))

pub returns-clause-framed : goal.returns-clause-framed
returns-clause-framed g c = λ told.
    subst (λ (stop : Option ℕ). Frames (opening_text (session_data c.args.session.now)) (ending_of stop c.args.last) (g.O.Sink.told c.args.output.now) (g.O.Sink.told c.put_ending.new.output) c.put_ending.result) (sym c.in-None.is)
    (frames_behind (opening_text (session_data c.args.session.now)) c.args.last (g.O.Sink.told c.args.output.now) (g.O.Sink.told c.put_opening.new.output) (g.O.Sink.told c.put_ending.new.output) c.put_ending.result
    (opening_long (session_data c.args.session.now)) (c.in_ok-put_opening.ensures.bytes told) (c.put_ending.ensures.closed told))
