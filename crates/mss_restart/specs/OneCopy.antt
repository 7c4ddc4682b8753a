-- One copy of the table that can't be read, where each copy tells its row alone.
use Rattle.std.specs.Prelude.{◌≡◌, ◌≢◌, ◌⊎◌, ◌<◌, ℕ, true, false, Result, Err}
use Rattle.mss_base.specs.Content.{Content}
use Rattle.mss_base.specs.declared.place.UnitNo.{UnitNo}
use Rattle.mss_base.specs.declared.place.UnitNo.TheVariants.{TableA, TableB}
use Rattle.mss_base.specs.declared.site.Site.{Ghosts}
use Rattle.volume_table.specs.Row.{RowValue}
use Rattle.table_pair.specs.Copies.{copy_at}
use Rattle.table_pair.specs.Pair.{HoldsRow, AreClosed, is_table}
use Rattle.table_pair.specs.Reads.{IsReadable}
use Rattle.shown_volumes.specs.declared.refused.Refused.{Refused}
use Rattle.shown_volumes.specs.declared.refused.Refused.TheVariants.{Stopped}

-- ---- the content

-- both copies of a volume's row are closed, and neither was ever made
pub record AreUnmade (volume : ℕ) (c : Content) : Type 0 where
  pub closed : AreClosed volume c
  pub a : (copy_at (c TableA volume)).is_made ≡ false
  pub b : (copy_at (c TableB volume)).is_made ≡ false

-- each of the two copies of a volume's row tells it alone: both are open with it, or neither was
-- ever made
abbrev pub IsPaired : ℕ → Content → Type 0
IsPaired volume c = ((row : RowValue) × HoldsRow row volume c) ⊎ AreUnmade volume c

abbrev pub ArePaired : Content → Type 0
ArePaired c = (volume : ℕ) → volume < 32 → IsPaired volume c

-- where they did so, they do so now, unless a call failed
abbrev pub StayPaired : {T : Type 0} → Content → Content → Result T Refused → Type 0
StayPaired old new (Err (Stopped fault)) = Unit {0}
StayPaired old new _ = ArePaired old → ArePaired new

-- ---- the devices

-- reads of one of the two units of the table may fail, and no others
pub record LosesOneTable {S : Type 0} (g : Ghosts S) (s : S) : Type 0 where
  pub lost : UnitNo
  pub of_table : is_table lost ≡ true
  pub others : (unit : UnitNo) → unit ≢ lost → IsReadable g s unit
