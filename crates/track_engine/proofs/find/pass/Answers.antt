use Rattle.std.proofs.lemmas.Result.{err_from_is_err_and}
use Rattle.track_engine.proofs.Volumes.{passed_volume, refused_volume}
use Rattle.track_engine.proofs.find.pass.Goals as goal

pub returns-in_err-passed-clause-volume : goal.returns-in_err-passed-clause-volume
returns-in_err-passed-clause-volume g c =
    let p = err_from_is_err_and c.from_residual.result c.from_residual.ensures.1 in
    rw (p.1, p.2) (refused_volume _ _ _ c.in_err-passed.ensures)

pub returns-then-eq-clause-volume : goal.returns-then-eq-clause-volume
returns-then-eq-clause-volume g c = passed_volume _ _ _ c.in_ok-passed.ensures

pub returns-clause-volume : goal.returns-clause-volume
returns-clause-volume g c = passed_volume _ _ _ c.in_ok-passed.ensures
