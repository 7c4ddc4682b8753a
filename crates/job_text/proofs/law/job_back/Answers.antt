use Rattle.job_text.proofs.CanonicalBack.{job_back, job_back_unfed}
use Rattle.job_text.proofs.law.job_back.Goals as goal

pub returns-clause-fed : goal.returns-clause-fed
returns-clause-fed c = job_back

pub returns-clause-unfed : goal.returns-clause-unfed
returns-clause-unfed c = job_back_unfed
