-- The items that a log in memory stands for.
use Rattle.std.specs.Prelude.{◌≡◌, ◌≤◌, ◌+◌, ℕ, Bool, List, [], ◌∷◌, length, take, drop, Option, Some}
use Rattle.std.specs.List.{list_any}
use Rattle.mss_base.specs.Content.{Item, write_at, wrote, synced, synced_all, unsynced}
use Rattle.memory_devices.specs.Tears.{syncs}
use Rattle.memory_devices.specs.declared.write_log.LoggedItem.{LoggedItem}
use Rattle.memory_devices.specs.declared.write_log.LoggedItem.TheVariants.{Wrote, Synced, SyncedAll, Unsynced}
use Rattle.memory_devices.specs.declared.write_log.SyncKind.{SyncKind}
use Rattle.memory_devices.specs.declared.write_log.SyncKind.TheVariants.{OfUnit, OfAll, Failed}
use Rattle.mss_base.specs.declared.place.UnitNo.{UnitNo}

-- what a clause sees of a log: its items, and for how many more there is room
pub record LogValue : Type 0 where
  pub items : List Item
  pub room : ℕ

-- how many bytes of the log are an item's
abbrev pub span : LoggedItem → ℕ
span (Wrote place offset length) = length
span (Synced unit) = 0
span SyncedAll = 0
span Unsynced = 0

-- the item with its bytes
abbrev pub item_of : LoggedItem → List ℕ → Item
item_of (Wrote place offset length) bytes = wrote (write_at place offset bytes)
item_of (Synced unit) bytes = synced unit
item_of SyncedAll bytes = synced_all
item_of Unsynced bytes = unsynced

-- the bytes of the items stand one after another
abbrev pub items_of : List LoggedItem → List ℕ → List Item
items_of [] bytes = []
items_of (x ∷ xs) bytes = item_of x (take (span x) bytes) ∷ items_of xs (drop (span x) bytes)

abbrev pub total_length : List LoggedItem → ℕ
total_length [] = 0
total_length (x ∷ xs) = span x + total_length xs

-- a write lies within its block
abbrev pub IsInside : LoggedItem → Type 0
IsInside (Wrote place offset length) = offset + length ≤ 16384
IsInside (Synced unit) = Unit {0}
IsInside SyncedAll = Unit {0}
IsInside Unsynced = Unit {0}

-- it is this item, whose bytes stand elsewhere
abbrev pub IsLogged : LoggedItem → Option Item → Type 0
IsLogged x it = (bytes : List ℕ) × (length bytes ≡ span x) × (it ≡ Some (item_of x bytes))

-- a sync as it is logged, where this is the unit of one that is of a unit, and its item
abbrev pub sync_as : SyncKind → UnitNo → LoggedItem
sync_as OfUnit unit = Synced unit
sync_as OfAll unit = SyncedAll
sync_as Failed unit = Unsynced

abbrev pub sync_of : SyncKind → UnitNo → Item
sync_of OfUnit unit = synced unit
sync_of OfAll unit = synced_all
sync_of Failed unit = unsynced

-- whether one of them is a sync of this unit, or of all
abbrev pub syncs_unit : UnitNo → LoggedItem → Bool
syncs_unit unit x = syncs unit (item_of x [])

abbrev pub has_sync : UnitNo → List LoggedItem → Bool
has_sync unit xs = list_any (syncs_unit unit) xs
