use Rattle.std.proofs.Common.{rules, tests, ◌≡◌, ◌≤◌, ℕ, false, List, length, drop, eqb, Err, sym, ◌∙◌, ap, arith}
use Rattle.std.specs.Prelude.{codes}
use Rattle.std.specs.List.{slice_split}
use Rattle.std.specs.Str.{bytes_eq}
use Rattle.std.proofs.lemmas.Iterator.Consumers.{YieldsList-at, YieldsList-end, YieldsList-turn}
use Rattle.std.proofs.lemmas.Iterator.Splits.{YieldsList-from_slice_split}
use Rattle.std.proofs.lemmas.List.{length_push}
use Rattle.std.proofs.lemmas.Result.{err_from_is_err_and}
use Rattle.victim_rules.specs.Texts.{Text, rules_behind}
use Rattle.victim_rules.proofs.Parts.{all_read, next_bad, next_good, rules_are}
use Rattle.victim_rules.proofs.reading.read_rules.Goals as goal

abbrev parts_of : Text → List Text
parts_of text = slice_split (λ b. eqb b 44) text

pub loop-rule-preserved : goal.loop-rule-preserved
loop-rule-preserved c =
    let split = c.split-rule-items.ensures in
    let turn = YieldsList-turn (YieldsList-at c.into_iter-rule-iterator.ensures.into_iter_gives (YieldsList-from_slice_split _ (λ (b : ℕ). eqb b 44) c.args.text.now (split.rest ∙ c.as_bytes.ensures.value) split.done split.closure (λ x r q k. search (rules, tests)))) c.loop-rule.yielded _ c.loop-rule.yielded_by _ _ c.in-Some.rule c.in-Some.is c.next.ensures.steps in
    c.loop-rule.invariant
    ∙ next_good c.loop-rule.rules (parts_of c.args.text.now) (length c.loop-rule.yielded) c.in-Some.rule.now c.in_ok-rules.rules turn.0 turn.1 (sym c.in_ok-rules.ensures)
    ∙ ap (λ (n : ℕ). rules_behind c.in_ok-rules.rules (drop n (parts_of c.args.text.now))) (sym (length_push c.loop-rule.yielded c.in-Some.rule))

pub returns-in_err-rules : goal.returns-in_err-rules
returns-in_err-rules c =
    let split = c.split-rule-items.ensures in
    let turn = YieldsList-turn (YieldsList-at c.into_iter-rule-iterator.ensures.into_iter_gives (YieldsList-from_slice_split _ (λ (b : ℕ). eqb b 44) c.args.text.now (split.rest ∙ c.as_bytes.ensures.value) split.done split.closure (λ x r q k. search (rules, tests)))) c.loop-rule.yielded _ c.loop-rule.yielded_by _ _ c.in-Some.rule c.in-Some.is c.next.ensures.steps in
    let differs : bytes_eq c.args.text.now (codes "lru") ≡ false = sym c.eq.ensures ∙ c.if-eq.false in
    let p = err_from_is_err_and c.from_residual.result c.from_residual.ensures.1 in
    p.1 ∙ ap Err p.2
    ∙ sym (c.loop-rule.invariant ∙ next_bad c.loop-rule.rules (parts_of c.args.text.now) (length c.loop-rule.yielded) c.in-Some.rule.now c.in_err-rules.field-0.0 turn.0 turn.1 (sym c.in_err-rules.ensures))
    ∙ sym (rules_are c.args.text.now differs)

pub returns : goal.returns
returns c =
    let split = c.split-rule-items.ensures in
    let all = YieldsList-end (YieldsList-at c.into_iter-rule-iterator.ensures.into_iter_gives (YieldsList-from_slice_split _ (λ (b : ℕ). eqb b 44) c.args.text.now (split.rest ∙ c.as_bytes.ensures.value) split.done split.closure (λ x r q k. search (rules, tests)))) c.loop-rule.yielded _ c.loop-rule.yielded_by _ _ c.in-None.is c.next.ensures.steps in
    let differs : bytes_eq c.args.text.now (codes "lru") ≡ false = sym c.eq.ensures ∙ c.if-eq.false in
    let long : length (parts_of c.args.text.now) ≤ length c.loop-rule.yielded = omega (arith, all.1) in
    sym (c.loop-rule.invariant ∙ all_read c.loop-rule.rules (parts_of c.args.text.now) (length c.loop-rule.yielded) long) ∙ sym (rules_are c.args.text.now differs)
