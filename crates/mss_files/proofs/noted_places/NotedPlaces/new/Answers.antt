use Rattle.mss_files.proofs.Keeping.{none_stands}
use Rattle.mss_files.proofs.noted_places.NotedPlaces.new.Goals as goal

pub returns : goal.returns
returns c = none_stands _ c.in_ok-of_slots.ensures.items
