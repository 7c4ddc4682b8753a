use Rattle.std.proofs.Common.{◌≡◌, None}
use Rattle.std.specs.Prelude.{not}
use Rattle.mss_base.specs.Firsts.{first_below, where_so}
use Rattle.core_state.specs.Pins.{on_page, owner_at, is_volume_bound}
use Rattle.core_state.proofs.looks.are_all_bound.Given as goal

abbrev pub invariant-loop-number : goal.invariant-loop-number
invariant-loop-number l = first_below l.number (λ frame. where_so (not (on_page (λ page. is_volume_bound l.hosts page.0) (owner_at l.frames.owners frame))) frame) ≡ None
