use Rattle.std.proofs.Common.{rules, ◌≡◌, true, false, ◌&&◌, List, ◌∷◌, sym, ◌∙◌, subst}
use Rattle.std.specs.Prelude.{filter}
use Rattle.std.specs.List.{list_any}
use Rattle.victim_choice.specs.declared.choose.Candidate.{Candidate}
use Rattle.victim_rules.specs.declared.rule.Rule.{Rule}
use Rattle.victim_rules.specs.Rules.{holds, meets, narrowed_by}
use Rattle.victim_rules.proofs.Narrowing.{narrows_on, stays_on}
use Rattle.victim_rules.proofs.choosing.with_rule.Goals as goal

pub returns-then-not-narrows-clause-leaves : goal.returns-then-not-narrows-clause-leaves
returns-then-not-narrows-clause-leaves c = λ rest.
    let given : List Candidate = c.args.given.now in
    let fails : c.narrows.result ≡ false = search rules in
    let none : list_any (λ (d : Candidate). meets given c.args.force d && holds given c.args.rule.now d) given ≡ false =
    subst (λ (l : List Rule). list_any (λ (d : Candidate). meets given l d && holds given c.args.rule.now d) given ≡ false) c.as_slice.ensures.value (sym c.narrows.ensures ∙ fails) in
    stays_on given c.args.force c.args.rule.now rest none

pub returns-clause-leaves : goal.returns-clause-leaves
returns-clause-leaves c = λ rest.
    let given : List Candidate = c.args.given.now in
    let holds_some : c.narrows.result ≡ true = search rules in
    let some : list_any (λ (d : Candidate). meets given c.args.force d && holds given c.args.rule.now d) given ≡ true =
    subst (λ (l : List Rule). list_any (λ (d : Candidate). meets given l d && holds given c.args.rule.now d) given ≡ true) c.as_slice.ensures.value (sym c.narrows.ensures ∙ holds_some) in
    subst (λ (l : List Rule). narrowed_by given (c.args.rule.now ∷ rest) (filter (meets given c.args.force) given) ≡ narrowed_by given rest (filter (meets given l) given)) (sym c.push.ensures) (narrows_on given c.args.force c.args.rule.now rest some)
