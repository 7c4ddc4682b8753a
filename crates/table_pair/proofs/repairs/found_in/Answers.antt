use Rattle.std.proofs.Common.{◌∙◌, ◌||◌, ap, length, List, ℕ}
use Rattle.table_journal.specs.Slots.{slots}
use Rattle.table_pair.proofs.CopyLemmas.{counted}
use Rattle.table_pair.proofs.repairs.found_in.Goals as goal

pub returns : goal.returns
returns c = record {
  stale = c.in_ok-stale.ensures;
  used_a = counted c.args.a.now _ (c.read_slots.ensures.count ∙ ap (λ (b : List ℕ). length (slots b)) c.as_slice.ensures.bytes);
  age = λ i. c.is_old_copy.ensures i || c.is_old_copy-2.ensures i;
  used_b = counted c.args.b.now _ (c.read_slots-2.ensures.count ∙ ap (λ (b : List ℕ). length (slots b)) c.as_slice-2.ensures.bytes);
}
