-- What a list of taken tracks keeps of the first that isn't taken.
use Rattle.std.specs.Prelude.{◌≡◌, ◌≤◌, ◌<◌, ℕ, List, length, None, IsSome}
use Rattle.volume_copy.specs.declared.taken.Taken.{Taken}
use Rattle.volume_copy.specs.declared.taken.TheConstants.{TRACKS}
use Rattle.volume_copy.specs.Copies.{taken_at}

-- all before it are taken
abbrev pub IsReached : List Taken → ℕ → Type 0
IsReached tracks n = (m : ℕ) → m < n → IsSome (taken_at tracks m)

-- it is the first that isn't taken, or the number of tracks where all are
pub record IsFirst (tracks : List Taken) (n : ℕ) : Type 0 where
  pub inside : n ≤ TRACKS
  pub before : IsReached tracks n
  pub left_ : n < TRACKS → taken_at tracks n ≡ None

pub record AreTracks (tracks : List Taken) (next : ℕ) : Type 0 where
  pub long : length tracks ≡ TRACKS
  pub first : IsFirst tracks next
