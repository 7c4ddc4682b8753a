-- What is left of items that are done again, and of the write under way, where a tear stands for what may be lost.
use Rattle.std.specs.Prelude.{ℕ, Bool, if◌then◌else◌, List, [], ◌∷◌, length, take, drop, replicate, Option, Some, None}
use Rattle.mss_base.specs.Content.{Content, Write, Item, write_at, wrote, synced, synced_all, unsynced, with_write, fitted_bytes}
use Rattle.mss_base.specs.declared.place.BlockPlace.{BlockPlace}
use Rattle.mss_base.specs.declared.place.UnitNo.{UnitNo}
use Rattle.memory_devices.specs.Logged.{has_sync, item_of, span}
use Rattle.memory_devices.specs.Tears.{is_synced}
use Rattle.memory_devices.specs.declared.write_log.LoggedItem.{LoggedItem}
use Rattle.memory_devices.specs.declared.tearing.Loose.{Loose}
use Rattle.memory_devices.specs.declared.tearing.Loose.TheVariants.{Kept, Filled, LeftOut}
use Rattle.memory_devices.specs.declared.tearing.Tear.{Tear as TestTear}
use Rattle.memory_devices.specs.declared.tearing.Tear.TheVariants as tear

abbrev pub loose_under : TestTear → Loose
loose_under (tear.Write bytes) = Kept
loose_under (tear.Fill byte) = Filled byte
loose_under tear.Lost = LeftOut

-- a write of one byte over and over
abbrev pub filled_write : ℕ → Write → Write
filled_write byte w = record w { bytes = replicate (length w.bytes) byte }

-- a content after a loose write
abbrev pub loosely : Loose → Content → Write → Content
loosely Kept c w = with_write c w
loosely (Filled byte) c w = with_write c (filled_write byte w)
loosely LeftOut c w = c

-- a content after an item, with the units that are synced behind it
abbrev pub redone_item : Loose → (UnitNo → Bool) → Content → Item → Content
redone_item how is_firm c (wrote w) = if is_firm w.unit then with_write c w else loosely how c w
redone_item how is_firm c (synced u) = c
redone_item how is_firm c synced_all = c
redone_item how is_firm c unsynced = c

-- and after items
abbrev pub redone : Loose → Content → List Item → Content
redone how c [] = c
redone how c (x ∷ xs) = redone how (redone_item how (λ unit. is_synced unit xs) c x) xs

-- and after logged ones, whose bytes stand one after another
abbrev pub redone_from : Loose → Content → List LoggedItem → List ℕ → Content
redone_from how c [] bytes = c
redone_from how c (x ∷ xs) bytes =
    redone_from how (redone_item how (λ unit. has_sync unit xs) c (item_of x (take (span x) bytes))) xs (drop (span x) bytes)

-- a content with a tear in a range
abbrev pub covered_range : Content → BlockPlace → ℕ → ℕ → TestTear → Content
covered_range c at offset n (tear.Write bytes) = with_write c (write_at at offset (fitted_bytes n bytes.items))
covered_range c at offset n (tear.Fill byte) = with_write c (write_at at offset (replicate n byte))
covered_range c at offset n tear.Lost = c

-- and in that of an item, where that is a write
abbrev pub covered_content : Content → Option Item → TestTear → Content
covered_content c (Some (wrote w)) tear = covered_range c (record { unit = w.unit; block = w.block }) w.offset (length w.bytes) tear
covered_content c (Some (synced u)) tear = c
covered_content c (Some synced_all) tear = c
covered_content c (Some unsynced) tear = c
covered_content c None tear = c
