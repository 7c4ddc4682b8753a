use Rattle.std.proofs.Common.{sym, ◌∙◌}
use Rattle.victim_rules.specs.Rules.{meets}
use Rattle.victim_rules.proofs.Places.{found, never_none}
use Rattle.victim_rules.proofs.choosing.first_that_meets.Goals as goal

pub unreachable-requires : goal.unreachable-requires
unreachable-requires c = never_none (meets c.args.given.now c.args.rules.now) c.args.given.now c.requires (sym c.place_of.ensures ∙ c.in-None.is)

pub returns-clause-first : goal.returns-clause-first
returns-clause-first c = found (meets c.args.given.now c.args.rules.now) c.args.given.now c.in-Some.place (sym c.place_of.ensures ∙ c.in-Some.is)
