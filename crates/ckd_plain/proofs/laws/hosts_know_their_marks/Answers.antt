use Rattle.ckd_plain.proofs.MarkFacts.{marks, starts_known, stays_known}
use Rattle.ckd_plain.proofs.laws.hosts_know_their_marks.Goals as goal

pub returns-clause-marks : goal.returns-clause-marks
returns-clause-marks c = marks

pub returns-clause-start : goal.returns-clause-start
returns-clause-start c = starts_known

pub returns-clause-kept : goal.returns-clause-kept
returns-clause-kept c = stays_known
