-- What every later moment of a session keeps: its beginning, and the writes before.
use Rattle.std.specs.Prelude.{◌≡◌, List}
use Rattle.mss_base.specs.Content.{SiteLog, Item, Got}
use Rattle.shown_volumes.specs.Shown.{RowsOf}
use Rattle.core_state.specs.Agrees.{handed_rows}
use Rattle.core_state.specs.CoreValue.{CoreData}

-- the configuration, the counts of writes and of faults when it began, and which changes of rows
-- were made before: no event creates a volume, or changes a mark
pub record KeepsBeginning (core left : CoreData) : Type 0 where
  pub config : left.config ≡ core.config
  pub first_write : left.first_write ≡ core.first_write
  pub first_faults : left.first_faults ≡ core.first_faults
  pub handed : (rows : RowsOf) → handed_rows rows left.console ≡ handed_rows rows core.console

-- some writes were added to the log
abbrev pub Continues : SiteLog → SiteLog → Type 0
Continues old new = (items : List Item) × Got items old new

-- left is the core at a later moment
pub record IsLater (tells : Type 0) (core left : CoreData) : Type 0 where
  pub beginning : KeepsBeginning core left
  pub grown : tells → Continues core.site.told left.site.told
