use Rattle.volume_copy.proofs.EventFacts.{host_leaves}
use Rattle.volume_copy.proofs.law.host_events_leave_copies.Goals as goal

pub returns : goal.returns
returns g c = λ copy core h call told left is whole guards event.
    host_leaves g.S.Site.tells copy core left whole (c.events_are_later.ensures core h call told left whole.kept event) is h call guards told event
    (c.events_add_one_entry_at_most.ensures core h call told left whole.kept event)
