use Rattle.std.proofs.Common.{◌≡◌, ℕ, List, ◌++◌, subst}
use Rattle.std.specs.Prelude.{OnOk}
use Rattle.job_text.specs.Jobs.{JobData}
use Rattle.job_text.specs.Canonical.{job_text}
use Rattle.job_text.proofs.Writing.{job_put}
use Rattle.job_text.proofs.write.push_job.Goals as goal

pub returns : goal.returns
returns c =
    let j : JobData = record { config = c.job.inside.config; hosts = c.job.inside.hosts.items } in
    let e = job_put j c.args.out.now.items c.push_config.new.out.items c.push_scripts.new.out.items c.as_slice.result.now c.as_slice.ensures c.in_ok-push_config.ensures c.in_ok-push_scripts.ensures in
    subst (λ (k : JobData). OnOk c.push_line.result (c.push_line.new.out.items ≡ c.args.out.now.items ++ job_text k)) c.job.view_is
    (subst (λ (text : List ℕ). OnOk c.push_line.result (c.push_line.new.out.items ≡ text)) e c.push_line.ensures)
