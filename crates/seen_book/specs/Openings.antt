-- What a session begins with, and which histories are legal from there.
use Rattle.std.specs.Prelude.{List, []}
use Rattle.ckd_plain.specs.Data.{State}
use Rattle.ckd_plain.specs.Plain.{blank_volumes, start_of}
use Rattle.ckd_plain.specs.History.{EntryData, IsLegal}

-- whether the site tells, and the plain state that it showed when the session began
pub record OpeningData : Type 1 where
  pub tells : Type 0
  pub state : State

-- an opening that tells nothing
abbrev pub no_opening : OpeningData
no_opening = record {
  tells = ⊥;
  state = start_of (blank_volumes []);
}

-- where the site tells, the history is legal from the state at the start
abbrev pub IsLegalFrom : OpeningData → List EntryData → Type 0
IsLegalFrom opening log = opening.tells → IsLegal opening.state log
