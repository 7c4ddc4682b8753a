use Rattle.transfers.proofs.DueFacts.{allowed, ready, firm_for}
use Rattle.transfers.proofs.law.copied_cylinders_are_ready.Goals as goal

pub returns-clause-allowed : goal.returns-clause-allowed
returns-clause-allowed c = allowed

pub returns-clause-ready : goal.returns-clause-ready
returns-clause-ready c = ready

pub returns-clause-firm : goal.returns-clause-firm
returns-clause-firm c = firm_for
