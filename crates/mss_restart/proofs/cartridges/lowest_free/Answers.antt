use Rattle.std.proofs.Common.{arith}
use Rattle.volume_table.specs.Listed.{row_in_list}
use Rattle.mss_restart.proofs.Pigeons.{one_is_free}
use Rattle.mss_restart.proofs.cartridges.lowest_free.Goals as goal

pub unreachable-requires : goal.unreachable-requires
unreachable-requires c = one_is_free (row_in_list c.args.rows.now) c.args.taken (λ n lt. c.loop-number.invariant n (omega (arith, lt, c.loop-number-test.false)))
