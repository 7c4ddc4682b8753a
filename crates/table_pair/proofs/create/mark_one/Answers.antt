use Rattle.table_pair.proofs.CreateLemmas.{marks_at}
use Rattle.table_pair.proofs.create.mark_one.Goals as goal

pub returns-clause-marks : goal.returns-clause-marks
returns-clause-marks g c = λ tells.
    let is = c.mark_copy.ensures in
    marks_at (record { moments = is.moments tells; done = is.done tells; clear = is.clear tells; mark = is.mark tells; firm = is.firm tells }) c.place_of.ensures
