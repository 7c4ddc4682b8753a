-- Scripts that can be run, and how a script ends.
use Rattle.std.specs.Prelude.{◌≤◌, Bool, true, false, List, length}
use Rattle.std.specs.List.{AllByRecursion}
use Rattle.channel_program.specs.Script.{ItemData, program, Exchange, Follows, FollowsToEnd}

-- a program that can be run has words, 256 at most
abbrev pub IsRunnable : ItemData → Type 0
IsRunnable (program words) = (1 ≤ length words) × (length words ≤ 256)
IsRunnable _ = Unit {0}

abbrev pub AreRunnable : List ItemData → Type 0
AreRunnable items = AllByRecursion IsRunnable items

-- how a script ended: at its end, or before it
abbrev pub EndsScript : List ItemData → List Exchange → Bool → Type 0
EndsScript items xs true = FollowsToEnd items xs
EndsScript items xs false = Follows items xs × (FollowsToEnd items xs → ⊥)
