-- What half-done transfers say of the blocks.
use Rattle.std.specs.Prelude.{◌≡◌, ◌<◌, ℕ, ◌+◌, Bool, false, List, Option, Some}
use Rattle.std.specs.Option.{ForSome}
use Rattle.mss_base.specs.Content.{Content}
use Rattle.volume_table.specs.Row.{RowValue, state_of}
use Rattle.shown_volumes.specs.Shown.{RowsOf, on_cartridge, in_page}
use Rattle.shown_volumes.specs.Sound.{IsSameAt, IsStagedAs}
use Rattle.core_state.specs.declared.task.Task.{Task}
use Rattle.transfers.specs.declared.transfer.Transfer.{Transfer}
use Rattle.transfers.specs.declared.transfer.TransferKind.{TransferKind}
use Rattle.transfers.specs.declared.transfer.TransferKind.TheVariants.{StageBlank, StageCartridge}
use Rattle.transfers.specs.declared.transfer.TransferKind.TheVariants.{Destage}
use Rattle.core_state.specs.Pins.{task_at}

-- the first tracks of a cylinder stand in its page's frame as they do where it is staged. With 19
-- the cylinder may be Staged.
abbrev pub AreStaged : Content → RowValue → ℕ → ℕ → Type 0
AreStaged c r cylinder n =
    (head : ℕ) → head < n
    → IsStagedAs c (state_of r cylinder + 2) (in_page r cylinder head)
    (on_cartridge r cylinder head)

-- the first tracks of a cylinder stand on its cartridge as in its page's frame. With 19 the
-- cylinder may be Destaged.
abbrev pub AreDestaged : Content → RowValue → ℕ → ℕ → Type 0
AreDestaged c r cylinder n =
    (head : ℕ) → head < n
    → ForSome (in_page r cylinder head) (IsSameAt c (on_cartridge r cylinder head))

-- the first tracks are copied; where the page was written meanwhile, nothing is said of what was
-- destaged
abbrev pub AreCopied : TransferKind → Bool → Content → RowValue → ℕ → ℕ → Type 0
AreCopied StageBlank touched c r cylinder n = AreStaged c r cylinder n
AreCopied StageCartridge touched c r cylinder n = AreStaged c r cylinder n
AreCopied Destage touched c r cylinder n = touched ≡ false → AreDestaged c r cylinder n

abbrev pub IsServed : Content → RowsOf → Task → Type 0
IsServed c rows task =
    (t : Transfer) (r : RowValue) → task.transfer ≡ Some t → rows t.volume ≡ Some r
    → AreCopied t.kind task.touched c r t.cylinder t.next

abbrev pub AreServed : Content → RowsOf → List (Option Task) → Type 0
AreServed c rows tasks =
    (recorder : ℕ) (task : Task) → task_at tasks recorder ≡ Some task → IsServed c rows task
