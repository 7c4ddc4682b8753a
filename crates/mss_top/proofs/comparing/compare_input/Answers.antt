use Rattle.std.proofs.Common.{inl, inr, Some, refl}
use Rattle.command_words.specs.declared.command.Command.TheVariants.{Compare}
use Rattle.session_report.specs.Parties.{Stream, source_between}
use Rattle.mss_top.proofs.ComparedJobs.{jobless_compare}
use Rattle.mss_top.proofs.comparing.compare_input.Goals as goal

pub returns-in-Ok : goal.returns-in-Ok
returns-in-Ok g c = inr (record {
  job = c.in-Ok.job;
  command = refl;
  text = c.in-Ok.ensures;
  done = c.compare_job.ensures;
})

pub returns-in-Err : goal.returns-in-Err
returns-in-Err g c =
    let input : Stream = source_between g.I.Source c.args.input.now c.job_of_input.new.input in
    inl (record {
      says = record { said = c.in-Err.line; cause = jobless_compare (Some Compare) input c.in-Err.line refl c.in-Err.ensures; put = c.refuse_comparison.ensures.put };
      none = c.refuse_comparison.ensures.none;
    })
