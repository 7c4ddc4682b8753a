use Rattle.job_text.proofs.Runnable.{scripts_run}
use Rattle.job_text.proofs.Whole.{job_whole}
use Rattle.job_text.proofs.law.programs_can_be_run.Goals as goal

pub returns-clause-job : goal.returns-clause-job
returns-clause-job c = λ j is. scripts_run j.config.volumes j.hosts is.scripts

pub returns-clause-read : goal.returns-clause-read
returns-clause-read c = λ text j is. scripts_run j.config.volumes j.hosts (job_whole text j is).scripts
