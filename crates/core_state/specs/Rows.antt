-- The change of a volume's row on the devices.
use Rattle.std.specs.Prelude.{◌≡◌, ◌<◌, ℕ, List, Option, Result, OnOk, OnErr, length}
use Rattle.std.specs.Option.{ForSome}
use Rattle.mss_base.specs.Content.{Content, SiteLog, content, Writes}
use Rattle.volume_table.specs.Row.{RowValue}
use Rattle.volume_table.specs.Listed.{row_in_list}
use Rattle.table_pair.specs.declared.copy.SlotsUsed.{SlotsUsed}
use Rattle.table_pair.specs.Pair.{ChangesRow, HoldsRow, OldOrNew}
use Rattle.table_pair.specs.Order.{WritesAFirst}
use Rattle.table_pair.specs.Slots.{HasSlots, IsChanged, used_at, with_used_after}
use Rattle.core_state.specs.declared.session.Message.{Message}
use Rattle.core_state.specs.declared.session.Session.{Session}
use Rattle.core_state.specs.SessionData.{with_last_message, with_stop}
use Rattle.core_state.specs.Sessions.{session_data}

-- at each moment the volume has its old row or this one, and nothing else differs
abbrev pub Rewrites : ℕ → RowValue → SiteLog → SiteLog → Type 0
Rewrites volume row old new =
    Writes (ChangesRow volume (OldOrNew volume row (content old)) (content old)) old new

-- the devices have a volume's row as the lists have it: both copies hold it, and so many of their
-- slots are in use
pub record HaveListed (rows : List (Option RowValue)) (used : List SlotsUsed) (volume : ℕ)
    (c : Content) : Type 0 where
  pub holds : ForSome (row_in_list rows volume) (λ r. HoldsRow r volume c)
  pub slots_ : HasSlots (used_at used volume) volume c

-- what the change of a volume's row to this one leaves of the devices; copy A is done before copy B
-- is touched
pub record WritesRow {T E : Type 0} (volume : ℕ) (row : RowValue) (used : SlotsUsed)
    (old new : SiteLog) (result : Result T E) : Type 0 where
  pub moments : Rewrites volume row old new
  pub order : WritesAFirst row volume old new
  pub changed : OnOk result (IsChanged row used volume old new)
  pub grown : OnOk result (length old.log < length new.log)

-- of the slots that are counted: those of the volume's copies after the change; where it failed, as
-- before
pub record CountsSlots {T E : Type 0} (volume : ℕ) (old new : List SlotsUsed)
    (result : Result T E) : Type 0 where
  pub done : OnOk result (new ≡ with_used_after volume old)
  pub failed : OnErr result (new ≡ old)

-- and of a session: the message behind the others, or that it stopped after so many faults; the
-- rest stays, with its room
pub record TellsChange {T E : Type 0} (message : Message) (faults : ℕ) (old new : Session)
    (result : Result T E) : Type 0 where
  pub told : OnOk result (session_data new ≡ with_last_message message (session_data old))
  pub stopped : OnErr result (session_data new ≡ with_stop faults (session_data old))
  pub history_ : new.history ≡ old.history
  pub marks_ : new.marks ≡ old.marks
  pub events_ : new.events ≡ old.events
