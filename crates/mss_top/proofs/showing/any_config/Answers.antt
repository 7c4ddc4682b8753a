use Rattle.std.proofs.Common.{List, sym, subst}
use Rattle.mss_base.specs.Configs.{IsConfig, VolumeData}
use Rattle.mss_top.proofs.Looked.{any_config}
use Rattle.mss_top.proofs.showing.any_config.Goals as goal

pub invariant_of-result : goal.invariant_of-result
invariant_of-result c = subst (λ (volumes : List VolumeData). IsConfig (record { frames = c.args.frames; recorders = 1; volumes = volumes })) (sym c.new.ensures)
    (any_config c.args.frames c.requires.0 c.requires.1)
