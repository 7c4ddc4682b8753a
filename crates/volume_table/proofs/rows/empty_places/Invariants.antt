use Rattle.std.proofs.Common.{◌≡◌, ℕ, None, length}
use Rattle.volume_table.specs.Listed.{row_in_list}
use Rattle.volume_table.proofs.rows.empty_places.Given as goal

abbrev pub invariant-loop : goal.invariant-loop
invariant-loop l = record {
  long : length l.places.items ≡ l.counter;
  none : (volume : ℕ) → row_in_list l.places.items volume ≡ None;
}
