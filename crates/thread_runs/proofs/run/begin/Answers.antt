use Rattle.std.proofs.Common.{ap, subst}
use Rattle.mss_base.specs.Configs.{ConfigData}
use Rattle.job_text.specs.Jobs.{JobData}
use Rattle.core_state.specs.CoreValue.{DevicesSeen, seen_core, seen_site}
use Rattle.job_runs.specs.Parties.{devices}
use Rattle.job_runs.specs.Runs.{IsBegun, RefusesStart}
use Rattle.job_runs.proofs.SessionFacts.{begun_of}
use Rattle.thread_runs.proofs.run.begin.Goals as goal

pub returns-in-Ok-clause-begun : goal.returns-in-Ok-clause-begun
returns-in-Ok-clause-begun g c =
    let core = c.in-Ok.core in
    let tells = g.S.Site.tells in
    let is = c.in-Ok.ensures in
    let was : DevicesSeen = seen_site g.S.Site c.args.site in
    subst (λ (k : ConfigData). IsBegun tells k was (seen_core g.S.Site core)) (ap (λ (j : JobData). j.config) c.job.view_is)
    (begun_of g.S.Site c.job.inside.config c.args.chooser was core c.job.invariant.config_ is.restarts is.begins (λ t. (is.takes_up t).begins) c.look.ensures.told
    (λ t. g.met.S.Site.counted core.site t))

pub returns-in-Err-clause-untaken : goal.returns-in-Err-clause-untaken
returns-in-Err-clause-untaken g c =
    subst (λ (k : ConfigData). RefusesStart k (devices g.S.Site c.args.site c.in-Err.site) c.in-Err.refused) (ap (λ (j : JobData). j.config) c.job.view_is)
    (record { restarts = c.in-Err.ensures.restarts; stops = c.in-Err.ensures.stops })
