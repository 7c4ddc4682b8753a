-- Where the copies of a row are.
use Rattle.std.specs.Prelude.{ℕ}
use Rattle.mss_base.specs.declared.place.UnitNo.{UnitNo}
use Rattle.mss_base.specs.declared.place.UnitNo.TheVariants.{TableA, TableB}
use Rattle.mss_base.specs.declared.place.BlockPlace.{BlockPlace}
use Rattle.table_pair.specs.declared.copy.TableCopy.{TableCopy}
use Rattle.table_pair.specs.declared.copy.TableCopy.TheVariants.{A, B}

abbrev pub unit_of : TableCopy → UnitNo
unit_of A = TableA
unit_of B = TableB

abbrev pub place_of : TableCopy → ℕ → BlockPlace
place_of copy volume = record { unit = unit_of copy; block = volume }
