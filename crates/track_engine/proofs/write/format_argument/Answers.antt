use Rattle.std.proofs.Common.{List, ℕ, ◌∙◌, ap, refl}
use Rattle.std.proofs.lemmas.Result.{err_from_is_err_and}
use Rattle.ckd_track.specs.Track.{reading}
use Rattle.track_engine.proofs.Steps.{unbegun}
use Rattle.track_engine.proofs.write.format_argument.Goals as goal

pub returns-in_err-bytes-in-None-clause-done : goal.returns-in_err-bytes-in-None-clause-done
returns-in_err-bytes-in-None-clause-done g c = λ tells.
    let p = err_from_is_err_and c.from_residual.result c.from_residual.ensures.1 in
    let track = c.requires.track tells in
    rw (p.1, p.2) (unbegun _ _ _ _ _ _ (ap (λ (b : List ℕ). (reading b).bad) track.block ∙ track.good) (ap (λ (b : List ℕ). (reading b).records) track.block) refl)
