-- When a row may change, and what it is then.
use Rattle.std.specs.Prelude.{◌≡◌, ◌≢◌, ◌⊎◌, ℕ, Bool, suc, ◌+◌, ◌<◌, ◌/◌, ◌==◌, if◌then◌else◌, List, [], ◌∷◌, slice_set, Some, None, IsSome}
use Rattle.volume_table.specs.Row.{RowValue, frame_of, state_of, blank_row}
use Rattle.mss_base.specs.Geometry.{volume_cylinders, volume_pages}
use Rattle.volume_table.specs.declared.changes.Change.{Change}
use Rattle.volume_table.specs.declared.changes.Change.TheVariants.{Create, Assign, Free, Staged, Changed, Destaged, Protect}

-- within the row: that no other volume has the frame, or a new volume's cartridges, is a matter of all rows
abbrev pub IsAllowed : Change → RowValue → Type 0
IsAllowed (Create serial first second) r = ⊥
IsAllowed (Assign page frame) r = (frame_of r page ≡ None) × ((other : ℕ) → frame_of r other ≢ Some frame)
IsAllowed (Free page) r = IsSome (frame_of r page) × ((cylinder : ℕ) → cylinder / 8 ≡ page → state_of r cylinder ≢ 4)
IsAllowed (Staged cylinder) r = (state_of r cylinder < 2) × IsSome (frame_of r (cylinder / 8))
IsAllowed (Changed cylinder) r = (state_of r cylinder ≡ 2) ⊎ (state_of r cylinder ≡ 3)
IsAllowed (Destaged cylinder) r = state_of r cylinder ≡ 4
IsAllowed (Protect on) r = r.read_only ≢ on

-- a page is one of the 51, a frame one of the 200, a cylinder one of the 404
abbrev pub IsInRange : Change → Type 0
IsInRange (Create serial first second) = Unit {0}
IsInRange (Assign page frame) = (page < volume_pages) × (frame < 200)
IsInRange (Free page) = page < volume_pages
IsInRange (Staged cylinder) = cylinder < volume_cylinders
IsInRange (Changed cylinder) = cylinder < volume_cylinders
IsInRange (Destaged cylinder) = cylinder < volume_cylinders
IsInRange (Protect on) = Unit {0}

abbrev pub with_mark : Bool → RowValue → RowValue
with_mark on r = record r { read_only = on }

abbrev pub with_frame : ℕ → ℕ → RowValue → RowValue
with_frame page frame r = record r { pages = slice_set r.pages page (Some frame) }

abbrev pub with_state : ℕ → ℕ → RowValue → RowValue
with_state cylinder state r = record r { states = slice_set r.states cylinder state }

-- a state whose frame is taken away
abbrev pub unstaged_state : ℕ → ℕ
unstaged_state state = if state == 2 then 0 else (if state == 3 then 1 else state)

-- a function of number and item, at each item
abbrev pub map_numbered : (ℕ → ℕ → ℕ) → ℕ → List ℕ → List ℕ
map_numbered f number [] = []
map_numbered f number (x ∷ xs) = f number x ∷ map_numbered f (suc number) xs

-- the states where a page has lost its frame
abbrev pub unstaged_page : ℕ → List ℕ → List ℕ
unstaged_page page states = map_numbered (λ cylinder state. if cylinder / 8 == page then unstaged_state state else state) 0 states

abbrev pub without_frame : ℕ → RowValue → RowValue
without_frame page r = record r { pages = slice_set r.pages page None; states = unstaged_page page r.states }

-- what a change makes of a row; a volume is created where it has none
abbrev pub effect : Change → RowValue → RowValue
effect (Create serial first second) r = blank_row serial first second
effect (Assign page frame) r = with_frame page frame r
effect (Free page) r = without_frame page r
effect (Staged cylinder) r = with_state cylinder (state_of r cylinder + 2) r
effect (Changed cylinder) r = with_state cylinder 4 r
effect (Destaged cylinder) r = with_state cylinder 3 r
effect (Protect on) r = with_mark on r
