-- A record that is there has a number of at most 97, since its track has no more records.
use Rattle.std.proofs.Common.{◌≤◌, Some, ap, length, arith, rules, ◌∙◌, sym}
use Rattle.ckd_track.specs.Data.{RecordData}
use Rattle.ckd_plain.proofs.TrackFacts.{track_length, record_stored}
use Rattle.plain_machine.proofs.index.record_at.Goals as goal

pub overflow_cast-number : goal.overflow_cast-number
overflow_cast-number c =
    let small : c.args.number ≤ 97 = omega (arith, c.in_ok-record.ensures.lookup.3.0, ap length c.as_slice.ensures, track_length _ c.track.invariant) in
    search rules

pub returns-clause-item : goal.returns-clause-item
returns-clause-item c = record {
  item =
      record_stored _ _ c.args.host.now _ _ (c.as_slice.ensures ∙ c.track.view_is) c.if-number-eq0.false c.in_ok-record.ensures.lookup.3.0 c.in_ok-record.ensures.lookup.1
      ∙ ap (λ (r : RecordData). Some r) (sym c.stored.ensures.item);
  number_ = c.stored.ensures.number;
  host_ = c.stored.ensures.host_;
}

pub returns-clause-small : goal.returns-clause-small
returns-clause-small c = omega (arith, c.in_ok-record.ensures.lookup.3.0, ap length c.as_slice.ensures, track_length _ c.track.invariant)
