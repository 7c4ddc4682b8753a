use Rattle.transfers.proofs.DueFacts.{goes_outside}
use Rattle.transfers.proofs.law.copies_go_outside.Goals as goal

pub returns : goal.returns
returns c = λ frames head t r k sound there due low.
    goes_outside t r k head due
    (λ unstaged. c.unstaged_cylinders_leave_their_frame.ensures frames t.volume t.cylinder head t.frame r k sound there due.frame_ unstaged due.cylinder_in low)
    (λ changed. c.changed_cylinders_leave_their_cartridge.ensures frames t.volume t.cylinder head r k sound there changed due.cylinder_in low)
