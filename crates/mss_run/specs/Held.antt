-- What the lock keeps.
use Rattle.std.specs.Prelude.{◌≡◌, ℕ, List, Option, Some}
use Rattle.seen_book.specs.Openings.{OpeningData}
use Rattle.seen_book.specs.Books.{BookData}
use Rattle.core_state.specs.CoreValue.{CoreData}
use Rattle.volume_copy.specs.Beside.{asked_copy}
use Rattle.volume_copy.specs.Copies.{CopyData}
use Rattle.mss_run.specs.Beginning.{Failing, SetupData, OpensWith}

-- the book is there, and its list is the core's history; the core's session is the one that is
-- named, and the copy beside it the one that is asked for
pub record IsHeld (opening : OpeningData) (setup : SetupData) (tells : Type 0)
    (never_fails_but : Failing) (core : CoreData) (copier : Option CopyData)
    (book : Option BookData) : Type 0 where
  pub made : List ℕ
  pub book_ : book ≡ Some record { list = core.history; made = made }
  pub opens : OpensWith opening setup tells never_fails_but core
  pub copy : asked_copy copier ≡ setup.copy
