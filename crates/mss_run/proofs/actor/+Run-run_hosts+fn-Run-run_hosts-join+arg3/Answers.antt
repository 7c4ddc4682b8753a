use Rattle.std.proofs.Common.{List, sym, subst}
use Rattle.job_text.specs.Jobs.{ScriptData}
use Rattle.mss_run.specs.Runs.{AreStarts, AreRuns}
use Rattle.mss_run.proofs.actor.+Run-run_hosts+fn-Run-run_hosts-join+arg3.Goals as goal

pub take_pass-pass-requires : goal.take_pass-pass-requires
take_pass-pass-requires g n c = subst (λ (l : List ScriptData). AreStarts l c.args.passes.items) c.in-Some.ensures.cases.0 c.requires.starts

pub returns-clause-runs : goal.returns-clause-runs
returns-clause-runs g n c = subst (λ (l : List ScriptData). AreRuns l c.with_run-2.result.0.items c.with_run-2.result.1.items) (sym c.in-Some.ensures.cases.0) c.with_run-2.ensures.runs
