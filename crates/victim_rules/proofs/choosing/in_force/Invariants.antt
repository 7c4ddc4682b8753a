use Rattle.std.proofs.Common.{◌≡◌, ◌≤◌, true, drop, length}
use Rattle.std.specs.Prelude.{filter}
use Rattle.std.specs.List.{list_any}
use Rattle.victim_rules.specs.Rules.{meets, narrowed_by}
use Rattle.victim_rules.proofs.choosing.in_force.Given as goal

abbrev pub invariant-loop-rule : goal.invariant-loop-rule
invariant-loop-rule l = record {
  narrowed : narrowed_by l.given l.rules l.given ≡ narrowed_by l.given (drop l.rule-index l.rules) (filter (meets l.given l.force) l.given);
  met : list_any (meets l.given l.force) l.given ≡ true;
  room : length l.force ≤ l.rule-index;
}
