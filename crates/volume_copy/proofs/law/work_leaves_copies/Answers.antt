use Rattle.volume_copy.proofs.EventFacts.{work_leaves}
use Rattle.volume_copy.proofs.law.work_leaves_copies.Goals as goal

pub returns : goal.returns
returns g c = λ chooser copy core recorder told left is whole event.
    work_leaves g.S.Site.tells copy core left whole (c.work_is_later.ensures chooser core recorder told left is event) (g.C.Choose.may chooser) recorder told event
    (c.work_leaves_the_history.ensures chooser core recorder told left event)
