use Rattle.session_report.specs.Parties.{source_between}
use Rattle.std.proofs.Common.{◌∙◌}
use Rattle.mss_top.proofs.Taken.{takes}
use Rattle.mss_top.proofs.admission.job_of_input.Goals as goal

pub returns-in-Ok : goal.returns-in-Ok
returns-in-Ok g c = takes (source_between g.I.Source c.args.input.now c.read_input.new.input)
    c.as_slice.result.now c.job_of_text.result (λ t. c.as_slice.ensures ∙ c.in-Ok.ensures.bytes t)
    (record { rest = c.in-Ok.ensures.left; none_failed = c.in-Ok.ensures.cause.same }) c.job_of_text.ensures
