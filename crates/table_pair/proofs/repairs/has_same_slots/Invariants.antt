use Rattle.std.proofs.Common.{◌≡◌, ◌<◌, ℕ, length, slice_get}
use Rattle.table_journal.specs.Slots.{slots}
use Rattle.table_pair.proofs.repairs.has_same_slots.Given as goal

abbrev pub invariant-loop-index : goal.invariant-loop-index
invariant-loop-index l = record {
  count_a : l.count ≡ length (slots l.a);
  count_b : l.count ≡ length (slots l.b);
  same : (i : ℕ) → i < l.index → slice_get (slots l.a) i ≡ slice_get (slots l.b) i;
}
