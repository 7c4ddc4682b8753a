use Rattle.shown_volumes.proofs.OutsideFacts.{frame_outside}
use Rattle.shown_volumes.proofs.law.unstaged_cylinders_leave_their_frame.Goals as goal

pub returns : goal.returns
returns c = λ frames v y h f r d sound there has unstaged y_low h_low. frame_outside frames d v y h r sound there y_low h_low f has unstaged
