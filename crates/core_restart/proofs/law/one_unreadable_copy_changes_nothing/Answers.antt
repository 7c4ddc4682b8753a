use Rattle.mss_restart.proofs.OneCopy.{exact_by_one}
use Rattle.core_restart.proofs.OneCopy.{one_answer, unread_twice}
use Rattle.core_restart.proofs.law.one_unreadable_copy_changes_nothing.Goals as goal

pub returns-clause-exact : goal.returns-clause-exact
returns-clause-exact c = λ before now frames asked d result paired surveys fine. exact_by_one before now frames asked d paired result surveys fine

pub returns-clause-unread : goal.returns-clause-unread
returns-clause-unread c = λ before now frames volume fault asked d paired surveys. unread_twice before now frames volume fault asked d paired surveys

pub returns-clause-same : goal.returns-clause-same
returns-clause-same c = λ frames asked d result other is too. one_answer frames asked d result other is too
