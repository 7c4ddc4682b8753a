use Rattle.table_pair.proofs.ChangeLemmas.{due_b, moments_a, moments_b, marks_a, marks_b, is_changed, changed_settled, change_order_a, change_order_b}
use Rattle.table_pair.proofs.VersionLemmas.{both_stay_new}
use Rattle.table_pair.proofs.change.change_row.Goals as goal

pub returns-in_err-a-clause-moments : goal.returns-in_err-a-clause-moments
returns-in_err-a-clause-moments g c = λ tells. moments_a _ (c.requires.due tells) (c.change_one.ensures.changes tells)

pub change_one-requires-2-clause-due : goal.change_one-requires-2-clause-due
change_one-requires-2-clause-due g c = λ tells. due_b _ (c.requires.due tells) (c.in_ok-a.ensures.changes tells)

pub returns-in_err-b-clause-moments : goal.returns-in_err-b-clause-moments
returns-in_err-b-clause-moments g c = λ tells. moments_b _ (c.requires.due tells) (c.in_ok-a.ensures.changes tells) (c.change_one-2.ensures.changes tells)

pub returns-clause-moments : goal.returns-clause-moments
returns-clause-moments g c = λ tells. moments_b _ (c.requires.due tells) (c.in_ok-a.ensures.changes tells) (c.change_one-2.ensures.changes tells)

pub returns-clause-done : goal.returns-clause-done
returns-clause-done g c = λ tells. is_changed _ (c.requires.due tells) (c.in_ok-a.ensures.changes tells) (c.in_ok-b.ensures.changes tells)

pub returns-clause-settled : goal.returns-clause-settled
returns-clause-settled g c = λ tells.
    changed_settled (is_changed _ (c.requires.due tells) (c.in_ok-a.ensures.changes tells) (c.in_ok-b.ensures.changes tells))

pub returns-in_err-a-clause-marks : goal.returns-in_err-a-clause-marks
returns-in_err-a-clause-marks g c = λ tells. marks_a _ (c.requires.due tells) (c.change_one.ensures.changes tells)

pub returns-in_err-b-clause-marks : goal.returns-in_err-b-clause-marks
returns-in_err-b-clause-marks g c = λ tells. marks_b _ (c.requires.due tells) (c.in_ok-a.ensures.changes tells) (c.change_one-2.ensures.changes tells)

pub returns-clause-marks : goal.returns-clause-marks
returns-clause-marks g c = λ tells. marks_b _ (c.requires.due tells) (c.in_ok-a.ensures.changes tells) (c.change_one-2.ensures.changes tells)

pub returns-in_err-a-clause-order : goal.returns-in_err-a-clause-order
returns-in_err-a-clause-order g c = λ tells. change_order_a _ (c.requires.due tells) (c.change_one.ensures.changes tells)

pub returns-in_err-b-clause-order : goal.returns-in_err-b-clause-order
returns-in_err-b-clause-order g c = λ tells. change_order_b _ (c.requires.due tells) (c.in_ok-a.ensures.changes tells) (c.change_one-2.ensures.changes tells)

pub returns-clause-order : goal.returns-clause-order
returns-clause-order g c = λ tells. change_order_b _ (c.requires.due tells) (c.in_ok-a.ensures.changes tells) (c.change_one-2.ensures.changes tells)

pub returns-clause-new : goal.returns-clause-new
returns-clause-new g c = λ tells. both_stay_new (c.in_ok-a.ensures.changes tells) (c.in_ok-b.ensures.changes tells) (c.in_ok-a.ensures.new tells) (c.in_ok-b.ensures.new tells)
