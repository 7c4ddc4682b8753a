use Rattle.std.proofs.Common.{◌∙◌, sym, ap}
use Rattle.std.specs.Prelude.{slice_get}
use Rattle.fault_queue.specs.Requests.{RequestsData}
use Rattle.work_events.proofs.PickLemmas.{picks_end, picks_here, picks_next}
use Rattle.work_events.proofs.rule.first_pick.Goals as goal

pub returns-in_default : goal.returns-in_default
returns-in_default g c =
    let at = c.nth.ensures ∙ ap (λ (requests : RequestsData). slice_get requests c.loop-place.place) c.requests_of-requests.ensures.value in
    sym (sym c.loop-place.invariant ∙ picks_end c.args.core.now c.args.core.now.requests c.loop-place.place (sym at ∙ c.in_default.is))

pub returns-in-Some-pick_for : goal.returns-in-Some-pick_for
returns-in-Some-pick_for g c =
    let at = c.nth.ensures ∙ ap (λ (requests : RequestsData). slice_get requests c.loop-place.place) c.requests_of-requests.ensures.value in
    sym (sym c.loop-place.invariant ∙ picks_here c.args.core.now c.args.core.now.requests c.loop-place.place c.in-Some.asked.0 c.in-Some.asked.1 c.in-Some-pick_for.rule (sym at ∙ c.in-Some.is) (sym c.pick_for.ensures ∙ c.in-Some-pick_for.is))

pub loop-place-preserved : goal.loop-place-preserved
loop-place-preserved g c =
    let at = c.nth.ensures ∙ ap (λ (requests : RequestsData). slice_get requests c.loop-place.place) c.requests_of-requests.ensures.value in
    sym (picks_next c.args.core.now c.args.core.now.requests c.loop-place.place c.in-Some.asked.0 c.in-Some.asked.1 (sym at ∙ c.in-Some.is) (sym c.pick_for.ensures ∙ c.in_default-pick_for.is)) ∙ c.loop-place.invariant
