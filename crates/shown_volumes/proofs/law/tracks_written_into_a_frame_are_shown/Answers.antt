use Rattle.shown_volumes.proofs.FrameFacts.{shows_track}
use Rattle.shown_volumes.proofs.law.tracks_written_into_a_frame_are_shown.Goals as goal

pub returns : goal.returns
returns c = λ frames v y h f r before now sound there has four y_low h_low changes. shows_track frames before now sound v y h f r there has four y_low h_low changes
