use Rattle.std.proofs.Common.{◌+◌, refl, sym, ◌∙◌, arith}
use Rattle.ckd_track.proofs.ReadLemmas.{closed_byte_ends, runs_past, overfull, one_read}
use Rattle.ckd_track.proofs.stored.StoredRecords.next_record.Goals as goal

pub returns-then-block-number-clause-next : goal.returns-then-block-number-clause-next
returns-then-block-number-clause-next c = (sym c.self.view_is ∙ closed_byte_ends _ _ _ _ _ c.if-block-number.true, refl)

pub returns-then-end-block-clause-bad : goal.returns-then-end-block-clause-bad
returns-then-end-block-clause-bad c =
    (sym c.self.view_is ∙ runs_past _ _ _ _ (omega arith) c.if-block-number.false (omega (arith, c.record_length.ensures)), refl)

pub returns-then-spent-gt-TRACK_COST-clause-bad : goal.returns-then-spent-gt-TRACK_COST-clause-bad
returns-then-spent-gt-TRACK_COST-clause-bad c =
    (sym c.self.view_is ∙ overfull _ _ _ _ (omega arith) c.if-block-number.false (omega (arith, c.record_length.ensures)) (omega (arith, c.cost_at.ensures)), refl)

pub returns-clause-next : goal.returns-clause-next
returns-clause-next c =
    sym c.self.view_is
    ∙ one_read _ _ _ _ (omega arith) c.if-block-number.false (omega (arith, c.record_length.ensures)) _ (c.self.inside.place + c.record_length.result) (c.self.inside.spent + c.cost_at.result)
    c.record_at.ensures (omega (arith, c.record_length.ensures)) (omega (arith, c.cost_at.ensures)) (omega arith)
