use Rattle.std.proofs.Common.{ℕ, subst}
use Rattle.ckd_plain.specs.Index.{same_record}
use Rattle.track_engine.specs.Found.{IsPlaceOf}
use Rattle.track_engine.proofs.Finding.{found_itself}
use Rattle.track_engine.proofs.find.same_record.Goals as goal

pub returns-clause-found : goal.returns-clause-found
unfolding same_record
returns-clause-found c = found_itself _ _ c.args.number _ (subst (λ (k : ℕ). IsPlaceOf k c.args.host.now c.args.block.now c.in-Some.at) c.from.ensures c.in-Some.ensures)
