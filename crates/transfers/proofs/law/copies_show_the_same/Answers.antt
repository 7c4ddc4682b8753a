use Rattle.mss_base.specs.Content.{content}
use Rattle.transfers.specs.Copies.{target}
use Rattle.transfers.proofs.DueFacts.{shows_same_while}
use Rattle.transfers.proofs.law.copies_show_the_same.Goals as goal

pub returns : goal.returns
returns c = λ frames t r old new sound there due more adds.
    shows_same_while frames (target t t.next) old new sound (λ w. c.writes_outside_change_nothing.ensures frames (content old) w)
    (c.copies_go_outside.ensures frames t.next t r (content old) sound there due more) adds
