use Rattle.mss_base.specs.Content.{content}
use Rattle.transfers.proofs.CopyFacts.{most_moments, most_quiet}
use Rattle.transfers.proofs.law.copies_leave_a_site_quiet.Goals as goal

pub returns-clause-moments : goal.returns-clause-moments
returns-clause-moments c = λ frames t r old new sound quiet there due more adds.
    most_moments frames t old new quiet sound (c.copies_go_outside.ensures frames t.next t r (content old) sound there due more) adds

pub returns-clause-quiet : goal.returns-clause-quiet
returns-clause-quiet c = λ frames t r old new sound quiet there due more adds.
    most_quiet t old new quiet (c.copies_go_outside.ensures frames t.next t r (content old) sound there due more) adds
