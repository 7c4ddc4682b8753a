use Rattle.std.proofs.Common.{◌≡◌, ◌++◌, ◌∙◌, ℕ, List, take, drop, sym, ap}
use Rattle.std.proofs.lemmas.List.{take-append-drop, drop-drop}
use Rattle.memory_devices.specs.Streams.{SourceState}
use Rattle.memory_devices.proofs.memory_source.MemorySourceSource.take.Goals as goal

pub returns-clause-moved : goal.returns-clause-moved
returns-clause-moved c =
    let taken = c.self.inside.taken in
    let count = c.copy_front-count.result in
    let bytes : List ℕ = c.self.inside.bytes.items in
    let left : c.split_at.result.1.now ≡ drop taken bytes = c.split_at.ensures.back ∙ ap (λ (l : List ℕ). drop taken l) c.as_slice.ensures.value in
    let front : take count (drop taken bytes) ≡ take count c.copy_front-count.new.into = ap (λ (l : List ℕ). take count l) (sym left) ∙ sym c.copy_front-count.ensures.copied in
    ap (λ (s : SourceState). s.left) (sym c.self.view_is) ∙ sym (take-append-drop count (drop taken bytes)) ∙ (λ i. front i ++ drop-drop count taken bytes i)
