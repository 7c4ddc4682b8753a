use Rattle.mss_audit.proofs.Surveying.{tells_first}
use Rattle.mss_audit.proofs.law.surveys_tell_the_first_refusal.Goals as goal

pub returns : goal.returns
returns c = tells_first
