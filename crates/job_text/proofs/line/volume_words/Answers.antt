use Rattle.std.proofs.Common.{◌≡◌, length, arith}
use borrow.Author.Tests.{ltb-true, ltb-false}
use Rattle.job_text.proofs.Shapes.{volume_of_others}
use Rattle.job_text.proofs.line.volume_words.Goals as goal
use Rattle.job_text.proofs.line.volume_words.Goals.{in_default-via-then-words-lt2, in_default-via-else-words-lt2+else-words-lt3+else-words-lt4}

pub returns-in_default : goal.returns-in_default
returns-in_default c =
    let words = c.args.words.now in
    elim c.in_default.branch [
      | in_default-via-then-words-lt2 w ↦ volume_of_others words
          (λ (e : length words ≡ 2). omega (arith, ltb-true)) (λ (e : length words ≡ 3). omega (arith, ltb-true))
      | in_default-via-else-words-lt2+else-words-lt3+else-words-lt4 w ↦ volume_of_others words
          (λ (e : length words ≡ 2). omega (arith, ltb-false)) (λ (e : length words ≡ 3). omega (arith, ltb-false))
    ]
