use Rattle.std.proofs.Common.{◌≡◌, ℕ, List, ◌++◌, subst}
use Rattle.std.specs.Prelude.{OnOk}
use Rattle.mss_base.specs.Configs.{ConfigData}
use Rattle.job_text.specs.Canonical.{config_text}
use Rattle.job_text.proofs.Writing.{config_put}
use Rattle.job_text.proofs.write.push_config.Goals as goal

pub returns : goal.returns
returns c =
    let config : ConfigData = record { frames = c.config.inside.frames; recorders = c.config.inside.recorders; volumes = c.config.inside.volumes.items } in
    let e = config_put config c.args.out.now.items c.push_mss.new.out.items c.as_slice.result.now c.as_slice.ensures c.in_ok-push_mss.ensures in
    subst (λ (k : ConfigData). OnOk c.push_volumes.result (c.push_volumes.new.out.items ≡ c.args.out.now.items ++ config_text k)) c.config.view_is
    (subst (λ (text : List ℕ). OnOk c.push_volumes.result (c.push_volumes.new.out.items ≡ text)) e c.push_volumes.ensures)
