-- What the tear of a test puts at the places that a stop leaves open.
use Rattle.std.specs.Prelude.{ℕ, ◌-◌, Bool, true, false, if◌then◌else◌, List, [], ◌∷◌, length, take, get_or, slice_get, Option, Some, None}
use Rattle.std.specs.List.{list_any}
use Rattle.mss_base.specs.Content.{Content, Item, wrote, synced, synced_all, unsynced, same_unit, with_write, fitted_bytes}
use Rattle.mss_base.specs.Content.{SiteLog, in_range, Tear, image}
use Rattle.mss_base.specs.declared.place.UnitNo.{UnitNo}
use Rattle.memory_devices.specs.declared.tearing.Tear.{Tear as TestTear}
use Rattle.memory_devices.specs.declared.tearing.Tear.TheVariants as tear

abbrev pub syncs : UnitNo → Item → Bool
syncs unit (wrote w) = false
syncs unit (synced u) = same_unit u unit
syncs unit synced_all = true
syncs unit unsynced = false

-- whether a write of this unit is firm behind these items: one of them is a sync of it, or of all
abbrev pub is_synced : UnitNo → List Item → Bool
is_synced unit xs = list_any (syncs unit) xs

-- the firm writes among items, made
abbrev pub firm_after : Content → List Item → Content
firm_after c [] = c
firm_after c (wrote w ∷ xs) = firm_after (if is_synced w.unit xs then with_write c w else c) xs
firm_after c (synced u ∷ xs) = firm_after c xs
firm_after c (synced_all ∷ xs) = firm_after c xs
firm_after c (unsynced ∷ xs) = firm_after c xs

-- these bytes, cut or padded with zeros, in the range of an item, where that is a write
abbrev pub bytes_at : Option Item → List ℕ → Tear
bytes_at (Some (wrote w)) bytes unit block place =
    if in_range w unit block place then Some (get_or (fitted_bytes (length w.bytes) bytes) (place - w.offset) 0)
    else None
bytes_at (Some (synced u)) bytes unit block place = None
bytes_at (Some synced_all) bytes unit block place = None
bytes_at (Some unsynced) bytes unit block place = None
bytes_at None bytes unit block place = None

-- what a tear puts at each place, where a stop comes after k items
abbrev pub tear_in : SiteLog → ℕ → Option TestTear → Tear
tear_in s k None unit block place = None
tear_in s k (Some (tear.Write bytes)) unit block place = bytes_at (slice_get s.log k) bytes.items unit block place
tear_in s k (Some (tear.Fill byte)) unit block place = Some byte
tear_in s k (Some tear.Lost) unit block place = Some (get_or (firm_after s.start (take k s.log) unit block) place 0)

-- what such a stop leaves
abbrev pub left_by_stop : SiteLog → ℕ → Option TestTear → Content
left_by_stop s k tear = image s k (tear_in s k tear)
