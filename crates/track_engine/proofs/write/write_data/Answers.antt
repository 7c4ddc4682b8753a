use Rattle.std.proofs.Common.{ap, ◌∙◌, arith}
use Rattle.std.proofs.lemmas.Result.{err_from_is_err_and}
use Rattle.mss_base.specs.declared.place.BlockPlace.{BlockPlace}
use Rattle.track_engine.proofs.Reading.{uses_then, uses_broken}
use Rattle.track_engine.proofs.Steps.{track_brought, track_there, unwritten}
use Rattle.track_engine.proofs.Updates.{update_unfound, update_there}
use Rattle.track_engine.specs.Found.{found_at}
use Rattle.ckd_plain.specs.Views.{effect_of}
use Rattle.track_engine.proofs.write.write_data.Goals as goal

pub returns-in_err-at-clause-done : goal.returns-in_err-at-clause-done
returns-in_err-at-clause-done g c = λ tells.
    let p = err_from_is_err_and c.from_residual.result c.from_residual.ensures.1 in
    let head = c.block_of-to.ensures.in_range in
    rw (p.1, p.2) (unwritten effect_of _ _ _ _ _ _
    (update_unfound (found_at (g.S.Site.brought c.bring_record.new.site)) effect_of c.args.key_too _ c.args.host.now c.args.left c.args.argument.now _ (rw c.number.ensures at (c.in_err-at.ensures.found tells)))
    (c.requires.tracks tells _ head) (track_there (g.S.Site.told c.args.site.now) c.args.place.now _ head) (c.bring_record.ensures.site_.reads.log tells))

pub returns-in_err-at-clause-site_ : goal.returns-in_err-at-clause-site_
returns-in_err-at-clause-site_ g c =
    let p = err_from_is_err_and c.from_residual.result c.from_residual.ensures.1 in
    rw (p.1, p.2) (uses_broken g.S.Site _ _ _ _ _ _ c.in_err-at.ensures.site_)

pub update_argument-requires-clause-track : goal.update_argument-requires-clause-track
update_argument-requires-clause-track g c = λ tells.
    track_brought c.args.place.now _ _ (g.S.Site.told c.args.site.now) _ _ (c.in_ok-at.ensures.block tells) (c.requires.tracks tells) c.block_of-to.ensures.in_range c.block_of-to.ensures.value (c.bring_record.ensures.site_.reads.log tells)

pub returns-clause-done : goal.returns-clause-done
returns-clause-done g c = λ tells.
    let number = c.in_ok-at.ensures.itself.number_ ∙ c.number.ensures in
    update_there c.args.place.now c.args.host.now c.args.left c.args.key_too c.args.argument.now (g.S.Site.brought c.bring_record.new.site) _ c.in_ok-at.at (g.S.Site.told c.args.site.now) _ _ c.update_argument.result
    (omega (arith, number, c.requires.first)) (rw c.number.ensures at (c.in_ok-at.ensures.found tells)) number (c.in_ok-at.ensures.block tells) c.block_of-to.ensures.value (c.bring_record.ensures.site_.reads.log tells) (c.update_argument.ensures.done tells)

pub returns-clause-site_ : goal.returns-clause-site_
returns-clause-site_ g c =
    uses_then g.S.Site _ _ _ _ _ _ _ _ c.update_argument.result (ap (λ (b : BlockPlace). b.unit) c.block_of-to.ensures.value) c.in_ok-at.ensures.site_ c.update_argument.ensures.site_
