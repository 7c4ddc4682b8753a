use Rattle.mss_files.proofs.Places.{none_spoiled}
use Rattle.mss_files.proofs.spoiled.Spoiled.none.Goals as goal

pub returns-clause-files : goal.returns-clause-files
returns-clause-files g unit = none_spoiled unit
