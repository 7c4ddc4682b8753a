use Rattle.std.specs.Prelude.{◌≡◌, ◌+◌, ◌*◌, ◌≤◌, vec_len, vec_capacity, length}
use Rattle.std.specs.List.{AllByRecursion}
use Rattle.memory_devices.specs.Logged.{LogValue, IsInside, items_of, total_length}
use Rattle.memory_devices.specs.declared.write_log.WriteLog.TheInside.{Inside}

abbrev pub log_value : Inside → LogValue
log_value l = record { items = items_of l.entries.items l.bytes.items; room = l.room }

pub record log_holds (l : Inside) : Type 0 where
  pub whole : total_length l.entries.items ≡ length l.bytes.items
  pub entry_room : vec_len l.entries + l.room ≤ vec_capacity l.entries
  pub byte_room : vec_len l.bytes + 16384 * l.room ≤ vec_capacity l.bytes
  pub inside : AllByRecursion IsInside l.entries.items
