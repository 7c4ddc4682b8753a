use Rattle.std.proofs.Common.{rules, tests, ap, map, ◌∙◌}
use Rattle.std.proofs.lemmas.Iterator.Consumers.{YieldsList-at, YieldsList-end}
use Rattle.std.proofs.lemmas.Iterator.Splits.{YieldsList-from_slice_split}
use Rattle.job_text.proofs.words.cut_words.Goals as goal

pub returns : goal.returns
returns c =
    let split = c.split-word-items.ensures in
    let words = YieldsList-from_slice_split _ _ c.args.line.now split.rest split.done split.closure (λ x r q k. search (rules, tests)) in
    let all = YieldsList-end (YieldsList-at c.into_iter-word-iterator.ensures.into_iter_gives words) c.loop-word.yielded _ c.loop-word.yielded_by _ _ c.in-None.is c.next.ensures.steps in
    ap (map (λ w. w.now)) c.loop-word.invariant ∙ all.0
