use Rattle.std.proofs.Common.{Err, refl, sym}
use Rattle.core_state.specs.Sessions.{session_data}
use Rattle.std.proofs.Common.{Ok}
use Rattle.session_report.specs.Answers.{IsPut}
use Rattle.session_report.specs.Parties.{sink_between}
use Rattle.session_report.specs.Reports.{Ending}
use Rattle.session_report.specs.Summaries.{summary_text}
use Rattle.session_report.specs.declared.fault.ReportFault.TheVariants.{Memory}
use Rattle.job_runs.proofs.Ended.{told_nothing, told_to_end}
use Rattle.job_runs.proofs.load.tell_load.Goals as goal

pub returns-in-Some : goal.returns-in-Some
returns-in-Some g c =
    let sink = sink_between g.O.Sink c.args.output.now c.put_summary.new.output in
    record {
      summed = told_to_end (λ (ending : Ending). IsPut (Ok tt) (summary_text c.args.programs (session_data c.args.session.now) ending) sink c.put_summary.result) sink c.put_summary.result
          c.args.end c.args.session.now.stopped c.in-Some.last c.requires.halts (sym c.in-Some.ensures) c.put_summary.ensures.put;
      counted = c.put_summary.ensures.counted;
    }

pub returns-in-None : goal.returns-in-None
returns-in-None g c =
    let sink = sink_between g.O.Sink c.args.output.now c.args.output.now in
    record {
      summed = told_nothing (λ (ending : Ending). IsPut (Ok tt) (summary_text c.args.programs (session_data c.args.session.now) ending) sink (Err Memory)) sink (Err Memory) c.args.end (sym c.in-None.ensures) refl (record { told_ = refl; faults_ = refl });
      counted = refl;
    }
