use Rattle.std.proofs.Common.{◌≡◌, ◌∙◌, sym, arith, rules}
use Rattle.work_events.proofs.GoingCore.{going_core}
use Rattle.work_events.proofs.PickFacts.{some_candidate, no_candidate}
use Rattle.work_events.proofs.choices.has_candidate.Goals as goal

pub returns-then-is_candidate : goal.returns-then-is_candidate
returns-then-is_candidate g c =
    let now = c.args.core.now in
    let core = going_core _ now c.core.view_is c.core.invariant.whole.kept c.requires.going in
    let frame : c.unwrap-frame.result ≡ c.loop-number.number = search rules in
    let count : c.frame_count-number-end.result ≡ now.config.frames = search rules in
    sym (some_candidate now core c.unwrap-frame.result (let lt = c.loop-number-test.true in omega (arith, lt, frame, count)) (sym c.is_candidate.ensures ∙ c.if-is_candidate.true))

pub returns : goal.returns
returns g c =
    let now = c.args.core.now in
    let core = going_core _ now c.core.view_is c.core.invariant.whole.kept c.requires.going in
    let count : c.frame_count-number-end.result ≡ now.config.frames = search rules in
    sym (no_candidate now core (λ frame below. c.loop-number.invariant frame (let past = c.loop-number-test.false in omega (arith, past, below, count))))
