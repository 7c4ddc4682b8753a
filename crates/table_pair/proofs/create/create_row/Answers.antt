use Rattle.volume_table.specs.Grammar.{body}
use Rattle.table_pair.proofs.ChangeLemmas.{changed_settled}
use Rattle.table_pair.proofs.CreateLemmas.{marking_a, marking_b, closed_a, clear_a, filling_a, closed_b, clear_b, filling_b, created, created_marks, in_order_a, in_order_b, in_order_filling, in_order_filled}
use Rattle.table_pair.proofs.VersionLemmas.{both_filled_new}
use Rattle.table_pair.proofs.create.create_row.Goals as goal

pub returns-in_err-clear_a-clause-moments : goal.returns-in_err-clear_a-clause-moments
returns-in_err-clear_a-clause-moments g c = λ tells. marking_a (body c.encode_row.new.into) c.encode_row.ensures.again _ (c.requires.none tells) (c.mark_one.ensures.marks tells)

pub returns-in_err-clear_b-clause-moments : goal.returns-in_err-clear_b-clause-moments
returns-in_err-clear_b-clause-moments g c = λ tells. marking_b (body c.encode_row.new.into) c.encode_row.ensures.again _ (c.requires.none tells) (c.in_ok-clear_a.ensures.marks tells) (c.mark_one-2.ensures.marks tells)

pub fill_one-requires-clause-closed : goal.fill_one-requires-clause-closed
fill_one-requires-clause-closed g c = λ tells. closed_a (body c.encode_row.new.into) c.encode_row.ensures.again _ (c.requires.none tells) (c.in_ok-clear_a.ensures.marks tells) (c.in_ok-clear_b.ensures.marks tells)

pub fill_one-requires-clause-clear : goal.fill_one-requires-clause-clear
fill_one-requires-clause-clear g c = λ tells. clear_a (body c.encode_row.new.into) c.encode_row.ensures.again _ (c.requires.none tells) (c.in_ok-clear_a.ensures.marks tells) (c.in_ok-clear_b.ensures.marks tells)

pub returns-in_err-fill_one-clause-moments : goal.returns-in_err-fill_one-clause-moments
returns-in_err-fill_one-clause-moments g c = λ tells. filling_a (body c.encode_row.new.into) c.encode_row.ensures.again _ (c.requires.none tells) (c.in_ok-clear_a.ensures.marks tells) (c.in_ok-clear_b.ensures.marks tells) (c.fill_one.ensures.fills tells)

pub fill_one-requires-2-clause-closed : goal.fill_one-requires-2-clause-closed
fill_one-requires-2-clause-closed g c = λ tells. closed_b (body c.encode_row.new.into) c.encode_row.ensures.again _ (c.requires.none tells) (c.in_ok-clear_a.ensures.marks tells) (c.in_ok-clear_b.ensures.marks tells) (c.in_ok-fill_one.ensures.fills tells)

pub fill_one-requires-2-clause-clear : goal.fill_one-requires-2-clause-clear
fill_one-requires-2-clause-clear g c = λ tells. clear_b (body c.encode_row.new.into) c.encode_row.ensures.again _ (c.requires.none tells) (c.in_ok-clear_a.ensures.marks tells) (c.in_ok-clear_b.ensures.marks tells) (c.in_ok-fill_one.ensures.fills tells)

pub returns-in_err-fill_one-2-clause-moments : goal.returns-in_err-fill_one-2-clause-moments
returns-in_err-fill_one-2-clause-moments g c = λ tells. filling_b (body c.encode_row.new.into) c.encode_row.ensures.again _ (c.requires.none tells) (c.in_ok-clear_a.ensures.marks tells) (c.in_ok-clear_b.ensures.marks tells) (c.in_ok-fill_one.ensures.fills tells) (c.fill_one-2.ensures.fills tells)

pub returns-clause-moments : goal.returns-clause-moments
returns-clause-moments g c = λ tells. filling_b (body c.encode_row.new.into) c.encode_row.ensures.again _ (c.requires.none tells) (c.in_ok-clear_a.ensures.marks tells) (c.in_ok-clear_b.ensures.marks tells) (c.in_ok-fill_one.ensures.fills tells) (c.fill_one-2.ensures.fills tells)

pub returns-clause-done : goal.returns-clause-done
returns-clause-done g c = λ tells. created (body c.encode_row.new.into) c.encode_row.ensures.again _ (c.requires.none tells) (c.in_ok-clear_a.ensures.marks tells) (c.in_ok-clear_b.ensures.marks tells) (c.in_ok-fill_one.ensures.fills tells) (c.in_ok-fill_one-2.ensures.fills tells)

pub returns-clause-settled : goal.returns-clause-settled
returns-clause-settled g c = λ tells. changed_settled (created (body c.encode_row.new.into) c.encode_row.ensures.again _ (c.requires.none tells) (c.in_ok-clear_a.ensures.marks tells) (c.in_ok-clear_b.ensures.marks tells) (c.in_ok-fill_one.ensures.fills tells) (c.in_ok-fill_one-2.ensures.fills tells))

pub returns-clause-marks : goal.returns-clause-marks
returns-clause-marks g c = λ tells. created_marks (body c.encode_row.new.into) c.encode_row.ensures.again _ (c.requires.none tells) (c.in_ok-clear_a.ensures.marks tells) (c.in_ok-clear_b.ensures.marks tells) (c.in_ok-fill_one.ensures.fills tells) (c.in_ok-fill_one-2.ensures.fills tells)

pub returns-in_err-clear_a-clause-order : goal.returns-in_err-clear_a-clause-order
returns-in_err-clear_a-clause-order g c = λ tells. in_order_a (body c.encode_row.new.into) c.encode_row.ensures.again _ (c.requires.none tells) (c.mark_one.ensures.marks tells)

pub returns-in_err-clear_b-clause-order : goal.returns-in_err-clear_b-clause-order
returns-in_err-clear_b-clause-order g c = λ tells. in_order_b (body c.encode_row.new.into) c.encode_row.ensures.again _ (c.requires.none tells) (c.in_ok-clear_a.ensures.marks tells) (c.mark_one-2.ensures.marks tells)

pub returns-in_err-fill_one-clause-order : goal.returns-in_err-fill_one-clause-order
returns-in_err-fill_one-clause-order g c = λ tells. in_order_filling (body c.encode_row.new.into) c.encode_row.ensures.again _ (c.requires.none tells) (c.in_ok-clear_a.ensures.marks tells) (c.in_ok-clear_b.ensures.marks tells) (c.fill_one.ensures.fills tells)

pub returns-in_err-fill_one-2-clause-order : goal.returns-in_err-fill_one-2-clause-order
returns-in_err-fill_one-2-clause-order g c = λ tells. in_order_filled (body c.encode_row.new.into) c.encode_row.ensures.again _ (c.requires.none tells) (c.in_ok-clear_a.ensures.marks tells) (c.in_ok-clear_b.ensures.marks tells) (c.in_ok-fill_one.ensures.fills tells) (c.fill_one-2.ensures.fills tells)

pub returns-clause-order : goal.returns-clause-order
returns-clause-order g c = λ tells. in_order_filled (body c.encode_row.new.into) c.encode_row.ensures.again _ (c.requires.none tells) (c.in_ok-clear_a.ensures.marks tells) (c.in_ok-clear_b.ensures.marks tells) (c.in_ok-fill_one.ensures.fills tells) (c.fill_one-2.ensures.fills tells)

pub returns-clause-new : goal.returns-clause-new
returns-clause-new g c = λ tells. both_filled_new c.args.row.now _ c.encode_row.ensures.body (c.in_ok-fill_one.ensures.fills tells) (c.in_ok-fill_one-2.ensures.fills tells)
