use Rattle.ckd_plain.proofs.VolumeFacts.{no_write, elsewhere_stays, serials}
use Rattle.ckd_plain.proofs.laws.only_the_track_under_a_write_changes.Goals as goal

pub returns-clause-no_write : goal.returns-clause-no_write
returns-clause-no_write c = no_write

pub returns-clause-elsewhere : goal.returns-clause-elsewhere
returns-clause-elsewhere c = elsewhere_stays

pub returns-clause-serials : goal.returns-clause-serials
returns-clause-serials c = serials
