use Rattle.std.proofs.Common.{ℕ, sym, ap, ◌∙◌, arith}
use Rattle.std.proofs.lemmas.Result.{IfOk-weaker}
use Rattle.mss_base.specs.declared.place.UnitNo.{UnitNo}
use Rattle.mss_files.proofs.transfer.read_once.Goals as goal

pub returns-in_default-2-clause-end : goal.returns-in_default-2-clause-end
returns-in_default-2-clause-end g c = λ told. IfOk-weaker c.read_some.result _ _ (λ n h none some place far.
    sym (ap (λ (b : UnitNo → ℕ → ℕ). b c.args.unit.now place) (c.loop.invariant.kept told)) ∙ h none (omega (arith, some, c.loop.invariant.same)) place far) (c.read_some.ensures.end told)
