use Rattle.std.proofs.Common.{◌≡◌, ◌++◌, ◌∷◌, map, take}
use Rattle.std.specs.List.{flat_map}
use Rattle.job_text.specs.Lines.{spelling}
use Rattle.job_text.proofs.write.push_line.Given as goal

abbrev pub invariant-loop-word : goal.invariant-loop-word
invariant-loop-word l = l.out.items ≡ l.fn.out.items ++ (spelling l.fn.keyword ++ flat_map (λ w. 32 ∷ w) (map (λ w. w.now) (take l.word-index l.words)))
