use Rattle.std.proofs.Common.{List, ℕ, ◌∙◌, ap, refl}
use Rattle.std.proofs.lemmas.Result.{err_from_is_err_and}
use Rattle.ckd_track.specs.Track.{reading}
use Rattle.track_engine.specs.Found.{found_at}
use Rattle.track_engine.proofs.Steps.{unbegun}
use Rattle.track_engine.proofs.Updates.{may_update, updated_length_there}
use Rattle.track_engine.proofs.write.update_argument.Goals as goal

pub returns-in_err-bytes-in-None-clause-done : goal.returns-in_err-bytes-in-None-clause-done
returns-in_err-bytes-in-None-clause-done g c = λ tells.
    let p = err_from_is_err_and c.from_residual.result c.from_residual.ensures.1 in
    let track = c.requires.track tells in
    rw (p.1, p.2) (unbegun _ _ _ _ _ _ (ap (λ (b : List ℕ). (reading b).bad) track.block ∙ track.good) (ap (λ (b : List ℕ). (reading b).records) track.block) refl)

pub update_at-requires-in-None-clause-may : goal.update_at-requires-in-None-clause-may
update_at-requires-in-None-clause-may g c =
    let found = c.found_in.ensures.found ∙ ap (λ (b : List ℕ). found_at b c.args.at.now) c.brought.ensures in
    let long = updated_length_there c.args.key_too (g.S.Site.brought c.args.site.now) c.args.at.now c.requires.first c.found_in.result _ found c.updated_length-length.ensures in
    may_update c.args.key_too (g.S.Site.brought c.args.site.now) c.args.at.now c.requires.first c.args.argument.now c.as_slice.result.now _ long (c.as_slice.ensures ∙ c.in_ok-bytes-in-None.ensures) c.requires.stands
