use Rattle.std.proofs.Common.{refl}
use Rattle.track_engine.proofs.Steps.{format_carried_out, format_failed}
use Rattle.track_engine.proofs.write.format_behind.Goals as goal

pub returns-in-Ok-clause-done : goal.returns-in-Ok-clause-done
returns-in-Ok-clause-done g c = λ tells.
    format_carried_out c.args.to.now _ _ c.args.at.now _ (g.S.Site.brought c.args.site.now) (c.requires.track tells).good _ refl (c.in-Ok.ensures.moments tells) c.written.result c.written.ensures (c.in-Ok.ensures.done tells) (c.requires.track tells).block (c.in-Ok.ensures.later tells) (c.in-Ok.ensures.firm tells)

pub returns-in-Err-clause-done : goal.returns-in-Err-clause-done
returns-in-Err-clause-done g c = λ tells.
    format_failed c.args.to.now _ _ c.args.at.now _ (g.S.Site.brought c.args.site.now) (c.requires.track tells).good _ refl (c.in-Err.ensures.moments tells) c.faults.result
