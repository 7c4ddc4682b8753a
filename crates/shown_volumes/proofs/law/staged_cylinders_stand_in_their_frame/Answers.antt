use Rattle.shown_volumes.proofs.FrameFacts.{staged_shown}
use Rattle.shown_volumes.proofs.law.staged_cylinders_stand_in_their_frame.Goals as goal

pub returns : goal.returns
returns c = λ frames v y h f r d sound there has high low y_low h_low. staged_shown frames d v y h f r sound there has high low y_low h_low
