-- A change as the seven bytes of a slot, and the row of a body and the slots behind it.
--
-- A slot has eight bytes: a gate, a kind (1 a page gets a frame, 2 it gives it back, 3 a cylinder is staged, 4
-- changed, 5 destaged, 6 a volume becomes read-only or is no longer), two bytes for the page, the cylinder or the
-- mark, one for the frame, and three zeros. A new volume's row is a body without slots, so that no slot creates one.
use Rattle.std.specs.Prelude.{ℕ, zero, suc, ◌*◌, ◌/◌, ◌==◌, nat_lt, Bool, true, false, not, ◌&&◌, ◌||◌, if◌then◌else◌, List, [], ◌∷◌, ◌++◌, take, drop, slice_index, Option, Some, None, is_some, is_none, Result, Ok, Err}
use Rattle.std.specs.Option.{option_and_then}
use Rattle.mss_base.specs.Geometry.{volume_cylinders}
use Rattle.volume_table.specs.Row.{RowValue, frame_of, state_of}
use Rattle.volume_table.specs.Changes.{effect}
use Rattle.volume_table.specs.Grammar.{two, two_at, mark_byte, decode}
use Rattle.mss_base.specs.Geometry.{volume_pages, slot_bytes, slot_body_bytes}
use Rattle.volume_table.specs.declared.fault.RowField.TheVariants as field
use Rattle.volume_table.specs.declared.fault.RowFault.{RowFault}
use Rattle.volume_table.specs.declared.changes.Change.{Change}
use Rattle.volume_table.specs.declared.changes.Change.TheVariants.{Create, Assign, Free, Staged, Changed, Destaged, Protect}

-- the bytes of a kind, of the number of a page or a cylinder or of a mark, and of a frame
abbrev pub spelled_slot : ℕ → ℕ → ℕ → List ℕ
spelled_slot kind number frame = kind ∷ two number ++ frame ∷ 0 ∷ 0 ∷ 0 ∷ []

-- how a change is spelled; a creation as zeros, which spell none
abbrev pub slot_of : Change → List ℕ
slot_of (Create serial first second) = spelled_slot 0 0 0
slot_of (Assign page frame) = spelled_slot 1 page frame
slot_of (Free page) = spelled_slot 2 page 0
slot_of (Staged cylinder) = spelled_slot 3 cylinder 0
slot_of (Changed cylinder) = spelled_slot 4 cylinder 0
slot_of (Destaged cylinder) = spelled_slot 5 cylinder 0
slot_of (Protect on) = spelled_slot 6 (mark_byte on) 0

-- a number that is one of so many
abbrev pub number_below : ℕ → ℕ → Option ℕ
number_below bound number = if nat_lt number bound then Some number else None

-- a page that gets a frame
abbrev pub assignment : ℕ → ℕ → Option Change
assignment page frame = if nat_lt page volume_pages && nat_lt frame 200 then Some (Assign page frame) else None

-- what befalls a cylinder
abbrev pub cylinder_change : ℕ → ℕ → Option Change
cylinder_change kind cylinder =
    if kind == 3 then Some (Staged cylinder)
    else (if kind == 4 then Some (Changed cylinder) else (if kind == 5 then Some (Destaged cylinder) else None))

-- a mark that is set or taken off
abbrev pub mark_change : ℕ → Option Change
mark_change number = if nat_lt number 2 then Some (Protect (number == 1)) else None

-- the change of a kind without a frame
abbrev pub frameless_change : ℕ → ℕ → Option Change
frameless_change kind number =
    if kind == 2 then (if nat_lt number volume_pages then Some (Free number) else None)
    else (if kind == 6 then mark_change number
    else (if nat_lt number volume_cylinders then cylinder_change kind number else None))

-- the change of a kind, a number and a frame, if there is one
abbrev pub change_by : ℕ → ℕ → ℕ → Option Change
change_by kind number frame =
    if kind == 1 then assignment number frame else (if frame == 0 then frameless_change kind number else None)

-- the change that seven bytes spell, if they spell one
abbrev pub change_of : List ℕ → Option Change
change_of slot =
    if slice_index slot 4 == 0 && slice_index slot 5 == 0 && slice_index slot 6 == 0
    then change_by (slice_index slot 0) (two_at 1 slot) (slice_index slot 3)
    else None

-- whether each item passes, by its number and value
abbrev pub each_passes : {A : Type 0} → (ℕ → A → Bool) → ℕ → List A → Bool
each_passes test number [] = true
each_passes test number (x ∷ xs) = test number x && each_passes test (suc number) xs

abbrev pub is_other_frame : ℕ → Option ℕ → Bool
is_other_frame frame None = true
is_other_frame frame (Some other) = if other == frame then false else true

-- whether a cylinder is of another page, or isn't changed
abbrev pub may_lose_frame : ℕ → ℕ → ℕ → Bool
may_lose_frame page cylinder state = if cylinder / 8 == page && state == 4 then false else true

-- whether a change may be made within its row, as a test
abbrev pub allows : Change → RowValue → Bool
allows (Create serial first second) r = false
allows (Assign page frame) r = is_none (frame_of r page) && each_passes (λ _ other. is_other_frame frame other) 0 r.pages
allows (Free page) r = is_some (frame_of r page) && each_passes (may_lose_frame page) 0 r.states
allows (Staged cylinder) r = nat_lt (state_of r cylinder) 2 && is_some (frame_of r (cylinder / 8))
allows (Changed cylinder) r = (state_of r cylinder == 2) || (state_of r cylinder == 3)
allows (Destaged cylinder) r = state_of r cylinder == 4
allows (Protect on) r = if on then not r.read_only else r.read_only

-- the row after a change, if it is allowed
abbrev pub allowed_effect : RowValue → Change → Option RowValue
allowed_effect r change = if allows change r then Some (effect change r) else None

-- the row after the change of a slot, if it spells one that is allowed
abbrev pub after_slot : List ℕ → RowValue → Option RowValue
after_slot slot r = option_and_then (allowed_effect r) (change_of slot)

-- a slot that spells no change, or none that is allowed where it stands
abbrev pub slot_fault : ℕ → List ℕ → RowFault
slot_fault number slot = record { field = field.Slot number; value = slice_index slot 0 }

-- with the row after a slot, if there is one; else the slot is at fault
abbrev pub goes_on : ℕ → List ℕ → (RowValue → Result RowValue RowFault) → Option RowValue → Result RowValue RowFault
goes_on number slot rest None = Err (slot_fault number slot)
goes_on number slot rest (Some r) = rest r

-- the row after the changes of slots, of which the first has this number
abbrev pub changed_by : ℕ → RowValue → List (List ℕ) → Result RowValue RowFault
changed_by number r [] = Ok r
changed_by number r (slot ∷ slots) = goes_on number slot (λ next. changed_by (suc number) next slots) (after_slot slot r)

-- what a body tells, and then its slots
abbrev pub with_slots : List (List ℕ) → Result RowValue RowFault → Result RowValue RowFault
with_slots slots (Ok r) = changed_by 0 r slots
with_slots slots (Err fault) = Err fault

-- the row of a body and its slots
abbrev pub told_by : List ℕ → List (List ℕ) → Result RowValue RowFault
told_by body slots = with_slots slots (decode body)

-- what spells the change of a slot, among the bytes of slots
abbrev pub slot_at : ℕ → List ℕ → List ℕ
slot_at number bytes = take slot_body_bytes (drop (suc (slot_bytes * number)) bytes)

-- so many slots from one on
abbrev pub slots_from : ℕ → ℕ → List ℕ → List (List ℕ)
slots_from zero number bytes = []
slots_from (suc count) number bytes = slot_at number bytes ∷ slots_from count (suc number) bytes
