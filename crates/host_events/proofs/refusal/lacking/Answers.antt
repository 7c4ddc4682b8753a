use Rattle.std.proofs.Common.{◌∙◌, length, arith, ap}
use Rattle.host_events.proofs.RefusedCalls.{refused_full, refused_memory}
use Rattle.host_events.proofs.refusal.lacking.Goals as goal

pub returns-then-as_slice-ge-ENTRY_LIMIT-clause-event : goal.returns-then-as_slice-ge-ENTRY_LIMIT-clause-event
returns-then-as_slice-ge-ENTRY_LIMIT-clause-event g c = λ h call.
    let same = ap length (c.as_slice.ensures ∙ c.history.ensures) in
    refused_full g.S.Site c.args.core.now c.requires.going (omega (arith, same, c.if-as_slice-ge-ENTRY_LIMIT.true)) h call

pub returns-clause-event : goal.returns-clause-event
returns-clause-event g c = λ h call.
    let same = ap length (c.as_slice.ensures ∙ c.history.ensures) in
    refused_memory g.S.Site c.args.core.now c.look.ensures.kept c.requires.going (omega (arith, same, c.if-as_slice-ge-ENTRY_LIMIT.false)) h call
