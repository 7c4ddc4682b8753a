use Rattle.shown_volumes.proofs.QuietFacts.{row_moments, row_settled}
use Rattle.shown_volumes.proofs.law.written_rows_leave_a_site_quiet.Goals as goal

pub returns-clause-moments : goal.returns-clause-moments
returns-clause-moments c = row_moments

pub returns-clause-quiet : goal.returns-clause-quiet
returns-clause-quiet c = row_settled
