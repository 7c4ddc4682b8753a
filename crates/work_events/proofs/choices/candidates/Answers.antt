use Rattle.std.proofs.Common.{◌≡◌, ◌<◌, ◌++◌, ◌∷◌, [], ◌∙◌, sym, ap, List, ℕ, get_or, length, arith, rules}
use Rattle.core_state.specs.Pins.{candidate}
use Rattle.victim_choice.specs.declared.choose.Candidate.{Candidate}
use Rattle.victim_choice.proofs.OrderFacts.{order_below}
use Rattle.work_events.proofs.GoingCore.{going_core}
use Rattle.work_events.proofs.PickFacts.{given_this, given_nothing}
use Rattle.work_events.proofs.choices.candidates.Goals as goal
use Rattle.work_events.proofs.choices.candidates.Goals.{in-Some, in_default}

pub candidate-requires-clause-there : goal.candidate-requires-clause-there
candidate-requires-clause-there g c =
    let now = c.args.core.now in
    let core = going_core _ now c.core.view_is c.core.invariant.whole.kept c.requires.going in
    let whole : c.as_slice-frames.result.now ≡ now.recency = search rules in
    let within : c.loop-frame.frame-index < length now.recency = (let lt = c.loop-frame-test.true in let long = ap (λ (xs : List ℕ). length xs) whole in omega (arith, lt, long)) in
    let at : c.frame-item.result ≡ get_or now.recency c.loop-frame.frame-index c.frame-item.result = c.frame-item.is ∙ ap (λ (xs : List ℕ). get_or xs c.loop-frame.frame-index c.frame-item.result) whole in
    let below = order_below now.config.frames now.recency core.beside.order c.loop-frame.frame-index c.frame-item.result within in
    let long = core.owners_ in
    omega (arith, at, below, long)

pub loop-frame-preserved : goal.loop-frame-preserved
loop-frame-preserved g c =
    let now = c.args.core.now in
    let within = c.loop-frame-test.true in
    let so_far = c.loop-frame.invariant.listed in
    let room = c.loop-frame.invariant.room in
    elim c.match-candidate.branch [
      | in-Some w ↦ record {
        listed = ap (λ list. list.items) w.list-is ∙ w.push.ensures.items ∙ ap (λ (xs : List Candidate). xs ++ w.in-Some.choice ∷ []) so_far
            ∙ sym (given_this (candidate now) c.as_slice-frames.result.now c.loop-frame.frame-index c.frame-item.result within c.frame-item.is w.in-Some.choice (sym c.candidate.ensures ∙ w.in-Some.is));
        room = let e = w.push.ensures.spare in let is = ap (λ list. list.spare) w.list-is in omega (arith, e, is, room);
      }
      | in_default w ↦ record {
        listed = ap (λ list. list.items) w.list-is ∙ so_far
            ∙ sym (given_nothing (candidate now) c.as_slice-frames.result.now c.loop-frame.frame-index c.frame-item.result within c.frame-item.is (sym c.candidate.ensures ∙ w.in_default.is));
        room = let is = ap (λ list. list.spare) w.list-is in omega (arith, is, room);
      }
    ]
