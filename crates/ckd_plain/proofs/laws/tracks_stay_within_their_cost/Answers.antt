use Rattle.ckd_plain.proofs.CostFacts.{costs_stay, tracks_stay}
use Rattle.ckd_plain.proofs.laws.tracks_stay_within_their_cost.Goals as goal

pub returns-clause-cost_ : goal.returns-clause-cost_
returns-clause-cost_ c = costs_stay

pub returns-clause-tracks : goal.returns-clause-tracks
returns-clause-tracks c = tracks_stay
