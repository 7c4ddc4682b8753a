use Rattle.std.proofs.Common.{◌<◌, ◌++◌, ◌∷◌, [], ◌∙◌, ap, length, List, arith}
use Rattle.victim_rules.specs.declared.rule.Rule.{Rule}
use Rattle.victim_rules.proofs.Padded.{pushed, still_padded}
use Rattle.victim_rules.proofs.ruled.Ruled.push.Goals as goal

pub invariant_of-self : goal.invariant_of-self
invariant_of-self c =
    let room : c.self.inside.count < 8 = omega (arith, c.self.invariant.long, ap length c.self.view_is, c.requires) in
    still_padded c.self.inside.count c.self.inside.rules c.args.rule c.self.invariant room

pub returns : goal.returns
returns c =
    let room : c.self.inside.count < 8 = omega (arith, c.self.invariant.long, ap length c.self.view_is, c.requires) in
    pushed c.self.inside.count c.self.inside.rules c.args.rule c.self.invariant room ∙ ap (λ (l : List Rule). l ++ c.args.rule ∷ []) c.self.view_is
