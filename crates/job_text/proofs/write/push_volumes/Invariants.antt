use Rattle.std.proofs.Common.{◌≡◌, ◌++◌, map, take}
use Rattle.std.specs.List.{flat_map}
use Rattle.job_text.specs.Lines.{volume}
use Rattle.job_text.specs.Canonical.{line_text}
use Rattle.job_text.proofs.write.push_volumes.Given as goal

abbrev pub invariant-loop-number : goal.invariant-loop-number
invariant-loop-number l =
    l.out.items ≡ l.fn.out.items ++ flat_map line_text (map (λ v. volume v.0 v.1 v.2) (take l.number-index l.volumes))
