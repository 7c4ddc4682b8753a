-- The console's messages agree with the history.
use Rattle.std.specs.Prelude.{◌≡◌, ◌≢◌, ◌≤◌, ◌<◌, ℕ, ◌/◌, ◌==◌, nat_le, Bool, true, false, not}
use Rattle.std.specs.Prelude.{if◌then◌else◌, List, [], ◌∷◌, Option, Some, None, option_map}
use Rattle.ckd_plain.specs.declared.host.HostState.{HostState}
use Rattle.channel_commands.specs.Data.{ReplyData, done, no_space, stopped}
use Rattle.ckd_plain.specs.Data.{State}
use Rattle.ckd_plain.specs.History.{EntryData, state_after, IsDataCommand, IsWriteCommand}
use Rattle.volume_table.specs.Row.{RowValue, frame_of, state_of, blank_row}
use Rattle.volume_table.specs.Changes.{IsAllowed, effect, with_mark}
use Rattle.volume_table.specs.declared.changes.Change.{Change}
use Rattle.volume_table.specs.declared.changes.Change.TheVariants.{Create, Assign, Free, Protect}
use Rattle.shown_volumes.specs.Shown.{RowsOf}
use Rattle.shown_volumes.specs.Sound.{cartridge_of, frame_in}
use Rattle.core_state.specs.declared.session.Message.{Message}

abbrev pub changed_row : Change → Option RowValue → Option RowValue
changed_row (Create serial first second) r = Some (blank_row serial first second)
changed_row change r = option_map (effect change) r

-- rows after a message's change
abbrev pub with_change : RowsOf → Message → RowsOf
with_change rows m volume =
    if volume == m.volume then changed_row m.change (rows volume) else rows volume

abbrev pub rows_after : RowsOf → List Message → RowsOf
rows_after rows [] = rows
rows_after rows (m ∷ ms) = rows_after (with_change rows m) ms

abbrev pub till : ℕ → List Message → List Message
till k [] = []
till k (m ∷ ms) = if nat_le m.mark k then m ∷ till k ms else till k ms

-- the rows at a moment
abbrev pub rows_at : RowsOf → List Message → ℕ → RowsOf
rows_at rows console k = rows_after rows (till k console)

-- a frame stays owned once
abbrev pub IsFree : RowsOf → Change → Type 0
IsFree rows (Assign page frame) = (volume page' : ℕ) → frame_in rows volume page' ≢ Some frame
IsFree rows _ = Unit {0}

abbrev pub freed_by : RowsOf → ℕ → Change → Option ℕ
freed_by rows volume (Free page) = frame_in rows volume page
freed_by rows volume _ = None

-- the message of a change that stood when so many writes were made
abbrev pub message_of : ℕ → ℕ → Change → RowsOf → Message
message_of mark volume change rows =
    record { mark = mark; volume = volume; change = change; freed = freed_by rows volume change }

-- the change of a row that is there, or of none
abbrev pub IsAllowedIn : RowsOf → ℕ → Change → Option RowValue → Type 0
IsAllowedIn rows volume (Create serial first second) r =
    (r ≡ None)
    × ((v : ℕ) (half : Bool) → (cartridge_of rows v half ≢ Some first)
    × (cartridge_of rows v half ≢ Some second))
IsAllowedIn rows volume change None = ⊥
IsAllowedIn rows volume change (Some r) = IsAllowed change r × IsFree rows change

-- each message's change is allowed after the messages before it, and names the frame that it freed
abbrev pub AllAllowed : RowsOf → List Message → Type 0
AllAllowed rows [] = Unit {0}
AllAllowed rows (m ∷ ms) =
    (IsAllowedIn rows m.volume m.change (rows m.volume)
    × (m.freed ≡ freed_by rows m.volume m.change))
    × AllAllowed (with_change rows m) ms

-- the row of the host's volume has P at the host's cylinder
abbrev pub UnderHost : RowsOf → HostState → (RowValue → ℕ → Type 0) → Type 0
UnderHost rows host P =
    (volume : ℕ) × (bind : Bool) × (r : RowValue) × (host.mounted ≡ Some (volume, bind))
    × (rows volume ≡ Some r) × P r host.cylinder

-- the page has no frame, and each frame is owned by a page of a volume that some host has bound
abbrev pub HasNoSpace : ℕ → RowsOf → State → ℕ → Type 0
HasNoSpace frames rows s h =
    UnderHost rows (s.host h) (λ r cylinder. frame_of r (cylinder / 8) ≡ None)
    × ((frame : ℕ) → frame < frames → (volume : ℕ) × (page : ℕ) × (other : ℕ)
    × (frame_in rows volume page ≡ Some frame) × ((s.host other).mounted ≡ Some (volume, true)))

-- what an entry says of the rows at its mark
abbrev pub EntryAgrees : ℕ → RowsOf → State → EntryData → ReplyData → Type 0
EntryAgrees frames rows s e (done status bytes) =
    IsDataCommand s e.host e.call
    → UnderHost rows (s.host e.host) (λ r cylinder. (2 ≤ state_of r cylinder)
    × (IsWriteCommand s e.host e.call → state_of r cylinder ≡ 4))
    × (HasNoSpace frames rows s e.host → ⊥)
EntryAgrees frames rows s e no_space = HasNoSpace frames rows s e.host
EntryAgrees frames rows s e stopped = HasNoSpace frames rows s e.host → ⊥
EntryAgrees frames rows s e _ = Unit {0}

abbrev pub AllAgree : ℕ → (ℕ → RowsOf) → State → List EntryData → List ℕ → Type 0
AllAgree frames rows s (e ∷ es) (m ∷ ms) =
    EntryAgrees frames (rows m) s e e.reply × AllAgree frames rows (state_after s e) es ms
AllAgree frames rows s _ _ = Unit {0}

-- whether a change is one that is made while a session is opened, and never later
abbrev pub is_early : Change → Bool
is_early (Create serial first second) = true
is_early (Protect on) = true
is_early _ = false

-- so they are done by the session's first write
abbrev pub AreEarly : ℕ → List Message → Type 0
AreEarly first [] = Unit {0}
AreEarly first (m ∷ ms) = (is_early m.change ≡ true → m.mark ≤ first) × AreEarly first ms

pub record Agrees (frames first : ℕ) (handed : RowsOf) (s : State) (history : List EntryData)
    (marks : List ℕ) (console : List Message) : Type 0 where
  pub early : AreEarly first console
  pub allowed : AllAllowed handed console
  pub entries : AllAgree frames (rows_at handed console) s history marks

-- a row before such a change: none where it is created, or with the other mark
abbrev pub undone : Change → Option RowValue → Option RowValue
undone (Create serial first second) r = None
undone (Protect on) r = option_map (with_mark (not on)) r
undone _ r = r

-- the rows that restart was handed: those at the session's start, before the changes that it made
-- and tells
abbrev pub handed_rows : RowsOf → List Message → RowsOf
handed_rows rows [] volume = rows volume
handed_rows rows (m ∷ ms) volume =
    if volume == m.volume then undone m.change (handed_rows rows ms volume)
    else handed_rows rows ms volume
