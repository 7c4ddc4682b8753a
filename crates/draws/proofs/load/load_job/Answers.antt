use Rattle.std.proofs.Common.{rules, ◌≡◌, ◌*◌, List, ap, ap₂, ◌∙◌, sym, subst}
use Rattle.mss_base.specs.Configs.{ConfigData}
use Rattle.job_text.specs.Jobs.{IsJob, JobData, ScriptData}
use Rattle.draws.specs.Draws.{draws}
use Rattle.draws.specs.Load.{load_job, scripts_of}
use Rattle.draws.proofs.LoadKept.{job_kept}
use Rattle.draws.proofs.load.load_job.Goals as goal

job : ConfigData → List ScriptData → JobData
job config hosts = record { config = config; hosts = hosts }

pub invariant_of-result : goal.invariant_of-result
unfolding job
invariant_of-result c =
    let hosts : c.put_script-4.new.hosts.items ≡ scripts_of (draws c.args.order (3 * c.args.programs)) =
    rw (c.in_ok-put_script-4.ensures, c.in_ok-put_script-3.ensures, c.in_ok-put_script-2.ensures, c.in_ok-put_script.ensures, c.new-hosts.ensures)
    (ap scripts_of (c.as_slice-words.ensures.value ∙ c.in_ok-drawn.ensures.words)) in
    let made : job c.in_ok-config.config c.put_script-4.new.hosts.items ≡ load_job c.args.order c.args.programs = ap₂ job c.in_ok-config.ensures hosts in
    subst IsJob (sym made) (job_kept c.args.order c.args.programs c.requires.few)

pub returns-clause-whole : goal.returns-clause-whole
unfolding job
returns-clause-whole c =
    let made : job c.in_ok-config.config c.put_script-4.new.hosts.items ≡ load_job c.args.order c.args.programs = search rules in
    subst IsJob (sym made) (job_kept c.args.order c.args.programs c.requires.few)
