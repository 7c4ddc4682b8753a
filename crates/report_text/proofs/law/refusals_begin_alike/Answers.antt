use Rattle.report_text.proofs.Alike.{begins_alike}
use Rattle.report_text.proofs.law.refusals_begin_alike.Goals as goal

pub returns : goal.returns
returns c = begins_alike
