use Rattle.std.proofs.Common.{inl, refl}
use Rattle.shown_volumes.specs.declared.refused.Refused.TheVariants.{Memory}
use Rattle.core_restart.specs.Opening as made
use Rattle.core_restart.proofs.restarting.prepare.Goals as goal

-- memory ran out before anything was done
pub returns-in_default-clause-opens : goal.returns-in_default-clause-opens
returns-in_default-clause-opens g c = made.not_opened Memory refl (inl (record { told = λ tells. refl; unwritten = refl; unfailed = refl }, refl))
