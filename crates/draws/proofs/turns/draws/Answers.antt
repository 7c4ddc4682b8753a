use Rattle.std.proofs.Common.{suc, List, length, ◌++◌, ap, ◌∙◌, arith, ℕ}
use Rattle.rand_core.specs.Steps.{first_words}
use Rattle.rand_pcg.specs.Pcg.{pcg32}
use Rattle.draws.specs.Draws.{generator_of}
use Rattle.draws.proofs.Drawing.{draw_next, draw_end, length-draws}
use Rattle.draws.proofs.turns.draws.Goals as goal

pub loop-preserved : goal.loop-preserved
loop-preserved c = λ left whole.
    ap (λ (items : List ℕ). items ++ first_words pcg32 left c.next_word.new.self) c.in_ok-push.ensures.items
    ∙ draw_next c.loop.words.items _ left c.next_word.result c.loop.generator c.next_word.new.self c.next_word.ensures
    (c.loop.invariant (suc left) (omega (arith, whole)))

pub returns-clause-words : goal.returns-clause-words
returns-clause-words c = draw_end c.loop.words.items _ c.loop.generator (c.loop.invariant 0 (omega arith))

pub returns-clause-count : goal.returns-clause-count
returns-clause-count c =
    ap length (draw_end c.loop.words.items _ c.loop.generator (c.loop.invariant 0 (omega arith)))
    ∙ length-draws c.args.count (generator_of c.args.order)
