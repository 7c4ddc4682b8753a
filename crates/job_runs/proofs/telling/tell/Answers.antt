use Rattle.std.proofs.Common.{Err, refl, sym}
use Rattle.core_state.specs.Sessions.{session_data}
use Rattle.mss_base.specs.Content.{content}
use Rattle.volume_table.specs.Listed.{row_in_list}
use Rattle.shown_volumes.specs.Shown.{shown_by}
use Rattle.session_report.specs.Parties.{site_between, sink_between}
use Rattle.session_report.specs.Reports.{Ending, Frames, IsReported, opening_text, report_matter}
use Rattle.session_report.specs.declared.fault.ReportFault.TheVariants.{Memory}
use Rattle.std.specs.Option.{option_map}
use Rattle.session_report.specs.CopyTexts.{behind_text}
use Rattle.job_runs.proofs.Ended.{told_nothing, told_to_end}
use Rattle.job_runs.proofs.telling.tell.Goals as goal

pub returns-in-Some-clause-told : goal.returns-in-Some-clause-told
returns-in-Some-clause-told g c =
    let sink = sink_between g.O.Sink c.args.output.now c.report.new.output in
    told_to_end (λ (ending : Ending). IsReported (report_matter (session_data c.args.session.now) c.args.volumes.now (shown_by (row_in_list c.args.rows.now) (content (g.S.Site.told c.args.site.now))) (behind_text (option_map (λ x. x.now) c.args.copy))) ending
    (site_between g.S.Site c.args.site.now c.report.new.site) sink c.report.result) sink c.report.result
    c.args.end c.args.session.now.stopped c.in-Some.last c.requires.halts (sym c.in-Some.ensures) c.report.ensures.report

pub returns-in-None-clause-told : goal.returns-in-None-clause-told
returns-in-None-clause-told g c =
    let sink = sink_between g.O.Sink c.args.output.now c.args.output.now in
    told_nothing (λ (ending : Ending). IsReported (report_matter (session_data c.args.session.now) c.args.volumes.now (shown_by (row_in_list c.args.rows.now) (content (g.S.Site.told c.args.site.now))) (behind_text (option_map (λ x. x.now) c.args.copy))) ending
    (site_between g.S.Site c.args.site.now c.args.site.now) sink (Err Memory)) sink (Err Memory) c.args.end (sym c.in-None.ensures) refl (record { told_ = refl; faults_ = refl })

pub returns-in-Some-clause-framed : goal.returns-in-Some-clause-framed
returns-in-Some-clause-framed g c =
    let sink = sink_between g.O.Sink c.args.output.now c.report.new.output in
    told_to_end (λ (ending : Ending). g.O.Sink.tells → Frames (opening_text (session_data c.args.session.now)) ending sink.was sink.now c.report.result) sink c.report.result
    c.args.end c.args.session.now.stopped c.in-Some.last c.requires.halts (sym c.in-Some.ensures) c.report.ensures.framed

pub returns-in-None-clause-framed : goal.returns-in-None-clause-framed
returns-in-None-clause-framed g c =
    let sink = sink_between g.O.Sink c.args.output.now c.args.output.now in
    told_nothing (λ (ending : Ending). g.O.Sink.tells → Frames (opening_text (session_data c.args.session.now)) ending sink.was sink.now (Err Memory)) sink (Err Memory)
    c.args.end (sym c.in-None.ensures) refl (record { told_ = refl; faults_ = refl })
