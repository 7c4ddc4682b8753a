use Rattle.std.proofs.Common.{◌≡◌, drop, length, [], eqb}
use Rattle.std.specs.List.{slice_split}
use Rattle.victim_rules.specs.Texts.{rules_behind}
use Rattle.victim_rules.proofs.reading.read_rules.Given as goal

abbrev pub invariant-loop-rule : goal.invariant-loop-rule
invariant-loop-rule l = rules_behind [] (slice_split (λ b. eqb b 44) l.fn.text) ≡ rules_behind l.rules (drop (length l.yielded) (slice_split (λ b. eqb b 44) l.fn.text))
