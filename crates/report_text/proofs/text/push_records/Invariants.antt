use Rattle.std.proofs.Common.{◌≡◌, ◌++◌}
use Rattle.std.specs.List.{flat_map}
use Rattle.report_text.specs.Texts.{record_text}
use Rattle.report_text.proofs.text.push_records.Given as goal

abbrev pub invariant-loop-record : goal.invariant-loop-record
invariant-loop-record l = l.out.items ++ flat_map record_text l.record-iterator.records ≡ l.fn.out.items ++ flat_map record_text l.fn.records.records
