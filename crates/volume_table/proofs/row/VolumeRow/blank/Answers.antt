use Rattle.std.proofs.Common.{sym, subst, rules, arith}
use Rattle.mss_base.specs.Serial.{IsSerial}
use Rattle.volume_table.specs.Row.{IsRow, blank_row}
use Rattle.volume_table.proofs.RowLemmas.{row-blank}
use Rattle.volume_table.proofs.row.VolumeRow.blank.Goals as goal

pub invariant_of-result : goal.invariant_of-result
invariant_of-result c =
    let serial : IsSerial c.args.serial = search rules in
    let row = row-blank c.args.serial c.args.first c.args.second serial (omega arith) (omega arith) in
    subst IsRow (λ i. record (blank_row c.args.serial c.args.first c.args.second) { pages = sym c.in_ok-pages.ensures i; states = sym c.in_ok-states.ensures i }) row
