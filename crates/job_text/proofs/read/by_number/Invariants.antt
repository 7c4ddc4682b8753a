use Rattle.std.proofs.Common.{◌≡◌}
use Rattle.std.specs.Prelude.{◌==◌}
use Rattle.std.specs.List.{filter_map, find, range_with_len}
use Rattle.job_text.proofs.read.by_number.Given as goal

abbrev pub invariant-loop-number : goal.invariant-loop-number
invariant-loop-number l = l.ordered.items ≡ filter_map (λ n. find (λ v. v.0 == n) l.volumes) (range_with_len 0 l.number)
