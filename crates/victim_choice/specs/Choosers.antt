-- What a closure that chooses has to keep.
use Rattle.std.specs.Prelude.{ℕ, ◌≤◌, ◌<◌, List, length}
use Rattle.std.specs.Fn.{Shared, AnyResult}
use Rattle.std.specs.Borrow.{Bor}
use Rattle.victim_choice.specs.declared.choose.Candidate.{Candidate}

-- it can be asked of each list that isn't empty, and then answers below its length
abbrev pub AnswersBelow : {F : Type 0} → Shared F (Bor (List Candidate) × Unit {0}) ℕ → F → Type 0
AnswersBelow fn answer = (list : Bor (List Candidate)) → 1 ≤ length list.now
    → fn.pre answer (list, tt) × AnyResult fn answer (list, tt) (λ place. place < length list.now)
