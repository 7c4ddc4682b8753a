use Rattle.mss_audit.proofs.FirstRefusal.{first_is_first}
use Rattle.mss_audit.proofs.law.the_first_refusal_is_the_first_fault.Goals as goal

pub returns : goal.returns
returns c = first_is_first
