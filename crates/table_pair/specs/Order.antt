-- Copy A of a row is written before copy B.
use Rattle.std.specs.Prelude.{◌≡◌, ◌⊎◌, ℕ, true}
use Rattle.mss_base.specs.Content.{Content, SiteLog, Writes, content}
use Rattle.mss_base.specs.declared.place.UnitNo.TheVariants.{TableA, TableB}
use Rattle.volume_table.specs.Row.{RowValue}
use Rattle.table_pair.specs.Copies.{copy_at, IsMarking}
use Rattle.table_pair.specs.Pair.{IsOpenWith}

-- copy A is open with this row, and its block is what it is at the end
pub record IsADone (row : RowValue) (volume : ℕ) (end now : Content) : Type 0 where
  pub holds : IsOpenWith row (copy_at (now TableA volume))
  pub last : now TableA volume ≡ end TableA volume

-- the block of copy B is as it was until copy A is done
abbrev pub IsAFirst : RowValue → ℕ → Content → Content → Content → Type 0
IsAFirst row volume old end now = (now TableB volume ≡ old TableB volume) ⊎ IsADone row volume end now

-- so it is at each moment of a call, whatever a stop tears then: copy A is firm before copy B is touched
abbrev pub WritesAFirst : RowValue → ℕ → SiteLog → SiteLog → Type 0
WritesAFirst row volume old new = Writes (IsAFirst row volume (content old) (content new)) old new

-- in a creation the block of copy B is as it was until copy A is made; until copy B is made, copy A has no more than its
-- mark; until copy A is done, copy B has no more than its mark
pub record IsCreatedInOrder (row : RowValue) (volume : ℕ) (old end now : Content) : Type 0 where
  pub mark_a : (now TableB volume ≡ old TableB volume) ⊎ ((copy_at (now TableA volume)).is_made ≡ true)
  pub mark_b : IsMarking (copy_at (old TableA volume)) (copy_at (now TableA volume)) ⊎ ((copy_at (now TableB volume)).is_made ≡ true)
  pub row_a : IsMarking (copy_at (old TableB volume)) (copy_at (now TableB volume)) ⊎ IsADone row volume end now

-- so it is at each moment of a call
abbrev pub CreatesInOrder : RowValue → ℕ → SiteLog → SiteLog → Type 0
CreatesInOrder row volume old new = Writes (IsCreatedInOrder row volume (content old) (content new)) old new
