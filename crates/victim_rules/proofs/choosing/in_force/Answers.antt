use Rattle.std.proofs.Common.{◌≡◌, ◌≤◌, ◌<◌, ◌+◌, ℕ, List, ◌∷◌, length, drop, sym, ◌∙◌, ap, arith}
use Rattle.std.specs.Prelude.{filter}
use Rattle.std.proofs.lemmas.List.{drop_all, drop_more}
use Rattle.victim_choice.specs.declared.choose.Candidate.{Candidate}
use Rattle.victim_rules.specs.declared.rule.Rule.{Rule}
use Rattle.victim_rules.specs.Rules.{meets, narrowed_by}
use Rattle.victim_rules.proofs.Narrowing.{all_meet, at_end, some_meet}
use Rattle.victim_rules.proofs.choosing.in_force.Goals as goal

pub loop-rule-init : goal.loop-rule-init
loop-rule-init c =
    let given : List Candidate = c.args.given.now in
    rw c.none-force.ensures (record {
      narrowed = ap (narrowed_by given c.args.rules.now) (sym (all_meet given given));
      met = some_meet given given c.requires.some;
      room = omega arith;
    })

pub loop-rule-preserved : goal.loop-rule-preserved
loop-rule-preserved c =
    let given : List Candidate = c.args.given.now in
    let rules : List Rule = c.args.rules.now in
    let k : ℕ = c.loop-rule.rule-index in
    let left : List Candidate = filter (meets given c.loop-rule.force) given in
    let within : k < length rules = omega arith in
    let next : drop k rules ≡ c.rule-item.result ∷ drop (k + 1) rules = drop_more rules k c.rule-item.result within ∙ ap (λ (r : Rule). r ∷ drop (k + 1) rules) (sym c.rule-item.is) in
    record {
      narrowed = c.loop-rule.invariant.narrowed ∙ ap (λ (rest : List Rule). narrowed_by given rest left) next ∙ c.with_rule-force.ensures.leaves (drop (k + 1) rules);
      met = c.with_rule-force.ensures.met;
      room = omega (arith, c.with_rule-force.ensures.few);
    }

pub returns : goal.returns
returns c =
    let given : List Candidate = c.args.given.now in
    let rules : List Rule = c.args.rules.now in
    let left : List Candidate = filter (meets given c.loop-rule.force) given in
    let done : length rules ≤ c.loop-rule.rule-index = omega arith in
    record {
      narrowed = c.loop-rule.invariant.narrowed ∙ ap (λ (rest : List Rule). narrowed_by given rest left) (drop_all c.loop-rule.rule-index rules done) ∙ at_end given left;
      met = c.loop-rule.invariant.met;
    }
