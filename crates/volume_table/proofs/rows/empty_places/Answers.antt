use Rattle.std.proofs.Common.{◌≡◌, List, Option, None, sym, ap, subst, rules}
use Rattle.volume_table.specs.Row.{RowValue}
use Rattle.volume_table.specs.Listed.{row_in_list}
use Rattle.volume_table.proofs.PlaceFacts.{none_behind}
use Rattle.volume_table.proofs.rows.empty_places.Goals as goal

pub loop-init : goal.loop-init
loop-init c = record {
  long = search rules;
  none = λ volume. ap (λ (places : List (Option RowValue)). row_in_list places volume) c.new-places.ensures.items;
}

pub loop-preserved : goal.loop-preserved
loop-preserved c = record {
  long = search rules;
  none = λ volume. subst (λ (places : List (Option RowValue)). row_in_list places volume ≡ None) (sym c.in_ok-push.ensures.items) (none_behind c.loop.places.items c.loop.invariant.none volume);
}
