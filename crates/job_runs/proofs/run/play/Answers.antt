use Rattle.std.proofs.Common.{ap, subst}
use Rattle.mss_base.specs.Configs.{ConfigData}
use Rattle.job_text.specs.Jobs.{JobData}
use Rattle.core_state.specs.CoreValue.{seen_core, seen_site}
use Rattle.core_state.specs.Sessions.{session_data}
use Rattle.mss_restart.proofs.Repaired.{written_on}
use Rattle.job_runs.specs.Copies.{job_with}
use Rattle.job_runs.specs.Parties.{devices}
use Rattle.job_runs.specs.Runs.{IsBegun, IsPlayed}
use Rattle.job_runs.proofs.SessionFacts.{begun_of}
use Rattle.job_runs.proofs.run.play.Goals as goal

pub returns-in-Ok : goal.returns-in-Ok
returns-in-Ok g c =
    let core = c.in-Ok.core in
    let tells = g.S.Site.tells in
    let is = c.in-Ok.ensures in
    let played = c.play_on in
    let begun : IsBegun tells c.args.job.now.config (seen_site g.S.Site c.args.site) (seen_core g.S.Site core) =
    subst (λ (k : ConfigData). IsBegun tells k (seen_site g.S.Site c.args.site) (seen_core g.S.Site core)) (ap (λ (j : JobData). j.config) c.job.view_is)
    (begun_of g.S.Site c.job.inside.config c.args.chooser (seen_site g.S.Site c.args.site) core c.job.invariant.config_ is.restarts is.begins (λ t. (is.takes_up t).begins) c.look.ensures.told
    (λ t. g.met.S.Site.counted core.site t)) in
    record {
      played = subst (λ (x : g.row.C.Denot). IsPlayed (g.C.Choose.may x) (job_with c.args.job.now c.args.copier) c.args.turns.now (devices g.S.Site c.args.site played.result.site) played.result.end (session_data played.result.session)) is.begins.chooser_
          (played.ensures.session (seen_site g.S.Site c.args.site) begun);
      asked = played.ensures.asked;
      copy = played.ensures.copy (seen_site g.S.Site c.args.site) begun;
      rows = played.ensures.rows;
      devices = written_on g.S.Site c.args.site core.site played.result.site is.devices played.ensures.devices;
      only_reads_fail = λ but none. played.ensures.only_reads_fail but (is.devices.sound but none);
      untaken = tt;
      back = tt;
    }
