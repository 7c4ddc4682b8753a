use Rattle.std.proofs.Common.{◌≡◌, ℕ, List, ◌++◌, take, ap, ◌∙◌}
use Rattle.job_text.specs.Words.{bytes_of, is_hex}
use Rattle.job_text.proofs.Hexadecimal.{bytes_on, hex_behind}
use Rattle.job_text.proofs.words.bytes_of.Goals as goal

pub loop-rest-preserved : goal.loop-rest-preserved
loop-rest-preserved c =
    let had : List ℕ = c.loop-rest.bytes.items in
    let rest : List ℕ = c.loop-rest.rest.now in
    let few = rw c.split_at.ensures.front at c.in-Some.ensures in
    let bytes : c.append.new.self.items ≡ had ++ bytes_of (take 16 rest) = c.in_ok-append.ensures.ok ∙ ap (λ (b : List ℕ). had ++ b) (c.as_slice.ensures.value ∙ few.1) in
    let back = c.split_at.ensures.back in (
      (λ i. bytes i ++ bytes_of (back i)) ∙ bytes_on had rest ∙ c.loop-rest.invariant.0,
      ap is_hex back ∙ hex_behind rest c.loop-rest-test.true few.0 ∙ c.loop-rest.invariant.1,
    )
