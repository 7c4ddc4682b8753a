use Rattle.std.specs.Prelude.{map}
use Rattle.volume_table.specs.States.{state_number}
use Rattle.volume_table.specs.Row.{RowValue, IsRow}
use Rattle.volume_table.specs.declared.row.VolumeRow.TheInside.{Inside}

abbrev pub row_value : Inside → RowValue
row_value r = record {
  serial = r.serial;
  read_only = r.read_only;
  first = r.first;
  second = r.second;
  pages = r.pages.items;
  states = map state_number r.states.items;
}

abbrev pub row_holds : Inside → Type 0
row_holds r = IsRow (row_value r)
