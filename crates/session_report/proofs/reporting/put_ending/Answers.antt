use Rattle.std.proofs.Common.{◌≡◌, ℕ, Err, ◌++◌, refl, ◌∙◌, ap, subst}
use Rattle.std.proofs.lemmas.Result.{err_from_is_err_and}
use Rattle.std.specs.Option.{option_map}
use Rattle.mss_base.specs.Puts.{PutsFront}
use Rattle.report_text.specs.Texts.{stopped_text}
use Rattle.session_report.specs.Answers.{fault_of}
use Rattle.session_report.specs.CopyTexts.{behind_text}
use Rattle.session_report.specs.Parties.{site_between, sink_between}
use Rattle.session_report.specs.Reports.{finished}
use Rattle.session_report.specs.declared.fault.ReportFault.TheVariants as report_fault
use Rattle.mss_base.specs.Content.{content}
use Rattle.volume_table.specs.Listed.{row_in_list}
use Rattle.shown_volumes.specs.Shown.{shown_by}
use Rattle.report_text.specs.declared.report.ReportFault.TheVariants as part
use Rattle.session_report.proofs.Framing.{fault_grows, grows_front, grows_none, grows_then, line_behind, put_no_read}
use Rattle.session_report.proofs.Told.{untold, rises_since, told_broken_off, told_whole, told_fault, told_unread, told_unput}
use Rattle.session_report.proofs.reporting.put_ending.Goals as goal

pub returns-in_err-block-clause-report : goal.returns-in_err-block-clause-report
returns-in_err-block-clause-report g c =
    let p = err_from_is_err_and c.from_residual.result c.from_residual.ensures.1 in
    untold _ (finished c.args.last) _ _ c.from_residual.result (p.1 ∙ ap Err p.2) refl refl

pub returns-in-Ok-clause-report : goal.returns-in-Ok-clause-report
returns-in-Ok-clause-report g c = told_whole _ _ _ _ _ c.args.last _ refl c.in-Ok.ensures.bytes

pub returns-in_err-put_stopped-in-Err-Read-clause-report : goal.returns-in_err-put_stopped-in-Err-Read-clause-report
returns-in_err-put_stopped-in-Err-Read-clause-report g c =
    let p = err_from_is_err_and c.from_residual-in_err-put_stopped-in-Err-Read.result c.from_residual-in_err-put_stopped-in-Err-Read.ensures.1 in
    told_unput _ _ _ _ _ c.args.last _ _ c.in-Err-Read.field-0 c.in-Err-Read.fault _ c.in-Err-Read.field-0-is c.in-Err-Read.ensures.counted c.in-Err-Read.ensures.bytes (p.1 ∙ ap Err p.2)
    (rises_since _ _ _ c.put_to_end.ensures.output.later c.in_err-put_stopped-in-Err-Read.ensures.cause.failed)
    (λ t. subst (λ (n : ℕ). PutsFront (g.O.Sink.told c.put_to_end.new.output) (g.O.Sink.told c.put_stopped.new.output) (stopped_text n)) c.in-Err-Read.fault-is (c.in_err-put_stopped-in-Err-Read.ensures.bytes t.1))

pub returns-in-Err-Read-clause-report : goal.returns-in-Err-Read-clause-report
returns-in-Err-Read-clause-report g c =
    told_unread _ _ _ _ _ c.args.last _ _ c.in-Err-Read.field-0 c.in-Err-Read.fault _ c.in-Err-Read.field-0-is c.in-Err-Read.ensures.counted c.in-Err-Read.ensures.bytes refl
    (λ t. subst (λ (n : ℕ). g.O.Sink.told c.put_stopped.new.output ≡ g.O.Sink.told c.put_to_end.new.output ++ stopped_text n) c.in-Err-Read.fault-is (c.in_ok-put_stopped-in-Err-Read.ensures.bytes t.1))

pub returns-clause-report : goal.returns-clause-report
returns-clause-report g c =
    told_fault _ _ _ _ _ c.args.last _ _ c.in-Err-Put.field-0 c.in-Err-Put.fault c.in-Err-Put.field-0-is (ap Err (c.from.ensures ∙ ap fault_of c.in-Err-Put.fault-is)) c.in-Err-Put.ensures.output.failed c.in-Err-Put.ensures.output.memory c.in-Err-Put.ensures.bytes

pub returns-in_err-block-clause-unread : goal.returns-in_err-block-clause-unread
returns-in_err-block-clause-unread g c =
    let p = err_from_is_err_and c.from_residual.result c.from_residual.ensures.1 in
    put_no_read c.from_residual.result part.Memory _ (p.1 ∙ ap Err p.2)

pub returns-in_err-put_stopped-in-Err-Read-clause-unread : goal.returns-in_err-put_stopped-in-Err-Read-clause-unread
returns-in_err-put_stopped-in-Err-Read-clause-unread g c =
    let p = err_from_is_err_and c.from_residual-in_err-put_stopped-in-Err-Read.result c.from_residual-in_err-put_stopped-in-Err-Read.ensures.1 in
    put_no_read c.from_residual-in_err-put_stopped-in-Err-Read.result part.Output _ (p.1 ∙ ap Err p.2)

pub returns-in-Err-Read-clause-unread : goal.returns-in-Err-Read-clause-unread
returns-in-Err-Read-clause-unread g c =
    told_broken_off (shown_by (row_in_list c.args.rows.now) (content (g.S.Site.told c.args.site.now))) c.args.volumes.now (behind_text (option_map (λ c. c.now) c.args.copy)) (site_between g.S.Site c.args.site.now c.put_to_end.new.site)
    (sink_between g.O.Sink c.args.output.now c.put_stopped.new.output) c.args.last (Err (report_fault.Read c.in-Err-Read.fault)) _ c.in-Err-Read.field-0 c.in-Err-Read.fault _ c.in-Err-Read.field-0-is c.in-Err-Read.ensures.counted c.in-Err-Read.ensures.bytes
    (λ t. subst (λ (n : ℕ). g.O.Sink.told c.put_stopped.new.output ≡ g.O.Sink.told c.put_to_end.new.output ++ stopped_text n) c.in-Err-Read.fault-is (c.in_ok-put_stopped-in-Err-Read.ensures.bytes t.1))

pub returns-clause-unread : goal.returns-clause-unread
returns-clause-unread g c = put_no_read _ c.in-Err-Put.fault _ (ap Err (c.from.ensures ∙ ap fault_of c.in-Err-Put.fault-is))

pub returns-in_err-block-clause-closed : goal.returns-in_err-block-clause-closed
returns-in_err-block-clause-closed g c = λ told.
    let p = err_from_is_err_and c.from_residual.result c.from_residual.ensures.1 in
    fault_grows c.args.last _ _ c.from_residual.result part.Memory (p.1 ∙ ap Err p.2) (grows_none _)

pub returns-in_err-put_stopped-in-Err-Read-clause-closed : goal.returns-in_err-put_stopped-in-Err-Read-clause-closed
returns-in_err-put_stopped-in-Err-Read-clause-closed g c = λ told.
    let p = err_from_is_err_and c.from_residual-in_err-put_stopped-in-Err-Read.result c.from_residual-in_err-put_stopped-in-Err-Read.ensures.1 in
    fault_grows c.args.last _ _ c.from_residual-in_err-put_stopped-in-Err-Read.result part.Output (p.1 ∙ ap Err p.2)
    (grows_then _ _ _ (c.put_to_end.ensures.grown told) (grows_front _ _ _ (c.in_err-put_stopped-in-Err-Read.ensures.bytes told)))

pub returns-in-Err-Read-clause-closed : goal.returns-in-Err-Read-clause-closed
returns-in-Err-Read-clause-closed g c = λ told.
    line_behind _ _ _ _ (c.put_to_end.ensures.grown told)
    (subst (λ (n : ℕ). g.O.Sink.told c.put_stopped.new.output ≡ g.O.Sink.told c.put_to_end.new.output ++ stopped_text n) c.in-Err-Read.fault-is (c.in_ok-put_stopped-in-Err-Read.ensures.bytes told))

pub returns-clause-closed : goal.returns-clause-closed
returns-clause-closed g c = λ told.
    fault_grows c.args.last _ _ _ c.in-Err-Put.fault (ap Err (c.from.ensures ∙ ap fault_of c.in-Err-Put.fault-is)) (c.put_to_end.ensures.grown told)
