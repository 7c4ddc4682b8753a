use Rattle.shown_volumes.proofs.OutsideFacts.{cartridge_outside}
use Rattle.shown_volumes.proofs.law.changed_cylinders_leave_their_cartridge.Goals as goal

pub returns : goal.returns
returns c = λ frames v y h r d sound there four y_low h_low. cartridge_outside frames d v y h r sound there y_low h_low four
