use Rattle.std.proofs.Common.{arith, ap, ◌∙◌, Some}
use Rattle.mss_base.proofs.FirstFacts.{none_yet}
use Rattle.mss_audit.specs.declared.finding.Finding.{Finding}
use Rattle.mss_audit.specs.Findings.{difference}
use Rattle.mss_audit.proofs.Differing.{differs_here, same_here}
use Rattle.mss_audit.proofs.copies.first_difference.Goals as goal

pub loop-number-init : goal.loop-number-init
loop-number-init c = none_yet (difference c.args.volume c.args.a.now c.args.b.now)

pub returns-then-a-at : goal.returns-then-a-at
returns-then-a-at c =
    ap (λ (f : Finding). Some f) c.differs.ensures
    ∙ differs_here c.args.volume c.loop-number.number c.from-at.result c.args.a.now c.args.b.now c.from-at.ensures c.loop-number.invariant
    (omega (arith, c.loop-number-test.true)) c.if-a-at.true

pub loop-number-preserved : goal.loop-number-preserved
loop-number-preserved c =
    same_here c.args.volume c.loop-number.number c.from-at.result c.args.a.now c.args.b.now c.from-at.ensures c.loop-number.invariant c.if-a-at.false
