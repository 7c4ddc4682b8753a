use Rattle.mss_run.proofs.RunFacts.{runs_push}
use Rattle.mss_run.proofs.run.with_run.Goals as goal

pub returns-clause-runs : goal.returns-clause-runs
returns-clause-runs g c =
    let pushed = runs_push c.args.rest.now c.args.script.now c.args.passes.items c.args.pass c.args.ends.items c.args.end c.requires.runs c.requires.run in
    rw (c.push.ensures.items, c.push-2.ensures.items) pushed
