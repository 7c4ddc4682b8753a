use Rattle.transfers.specs.Dues.{change_of}
use Rattle.transfers.proofs.law.copied_cylinders_show_the_same.Goals as goal

pub returns : goal.returns
returns c = λ frames t r k sound there row due all copied.
    c.allowed_changes_show_the_same.ensures frames t.volume (change_of t) r k sound there row
    (c.copied_cylinders_are_ready.ensures.allowed t r due) (c.copied_cylinders_are_ready.ensures.ready frames t r k due all copied)
