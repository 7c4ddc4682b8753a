use Rattle.job_text.proofs.Whole.{job_whole}
use Rattle.job_text.proofs.law.jobs_are_whole.Goals as goal

pub returns : goal.returns
returns c = job_whole
