use Rattle.std.proofs.Common.{◌≡◌, ◌<◌, true, false, map, length, string_bytes, Global, Option, sym, ◌∙◌, subst, arith}
use Rattle.std.proofs.lemmas.List.{take_rest}
use Rattle.command_words.specs.declared.command.Command.{Command}
use Rattle.command_words.specs.Outcomes.{Reads}
use Rattle.command_words.specs.Words.{asks_compare, asks_policy, policy_of}
use Rattle.command_words.proofs.Ruling.{means_compare, means_ruled, means_unruled}
use Rattle.command_words.proofs.ruled_read.read_command.Goals as goal

pub returns-then-asks_policy-clause-meaning : goal.returns-then-asks_policy-clause-meaning
returns-then-asks_policy-clause-meaning c =
    let words = c.args.words.now in
    let asks : asks_policy (map (string_bytes {Z = Global}) words) ≡ true = sym c.asks_policy.ensures.value ∙ c.if-asks_policy.true in
    let two = c.asks_policy.ensures.two c.if-asks_policy.true in
    let within : 1 < length words = omega (arith, two) in
    let is = means_ruled (string_bytes {Z = Global}) words asks c.index-words-1.result within c.index-words-1.is in
    subst (λ (o : Option Command). Reads c.read_policy.result o)
    ((λ i. policy_of (c.as_str.ensures.value i) (map (string_bytes {Z = Global}) (take_rest words 2 i))) ∙ sym is)
    c.read_policy.ensures.meaning

pub returns-then-asks_compare-clause-meaning : goal.returns-then-asks_compare-clause-meaning
returns-then-asks_compare-clause-meaning c =
    let words = c.args.words.now in
    let asks : asks_policy (map (string_bytes {Z = Global}) words) ≡ false = sym c.asks_policy.ensures.value ∙ c.if-asks_policy.false in
    let compares : asks_compare (map (string_bytes {Z = Global}) words) ≡ true = sym c.asks_compare.ensures ∙ c.if-asks_compare.true in
    means_compare (string_bytes {Z = Global}) words asks compares

pub returns-clause-meaning : goal.returns-clause-meaning
returns-clause-meaning c =
    let words = c.args.words.now in
    let asks : asks_policy (map (string_bytes {Z = Global}) words) ≡ false = sym c.asks_policy.ensures.value ∙ c.if-asks_policy.false in
    let compares : asks_compare (map (string_bytes {Z = Global}) words) ≡ false = sym c.asks_compare.ensures ∙ c.if-asks_compare.false in
    subst (λ (o : Option Command). Reads c.read_unruled.result o) (sym (means_unruled (string_bytes {Z = Global}) words asks compares)) c.read_unruled.ensures.meaning
