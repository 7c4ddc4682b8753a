use Rattle.std.proofs.Common.{◌∙◌, sym, ℕ, Bool}
use Rattle.fault_queue.specs.declared.queue.Request.{Request}
use Rattle.core_state.specs.Pins.{is_ready_on}
use Rattle.work_events.proofs.PickLemmas.{any_end, any_here, any_next}
use Rattle.work_events.proofs.choices.is_page_held.Goals as goal

pub returns-in_default : goal.returns-in_default
returns-in_default c =
    let test : ℕ × Request → Bool = λ asked. is_ready_on (c.args.volume, c.args.page) asked.1 in
    sym (sym c.loop-place.invariant ∙ any_end test c.args.requests.now c.loop-place.place (sym c.nth.ensures ∙ c.in_default.is))

pub returns-then-is_ready_on : goal.returns-then-is_ready_on
returns-then-is_ready_on c =
    let test : ℕ × Request → Bool = λ asked. is_ready_on (c.args.volume, c.args.page) asked.1 in
    sym (sym c.loop-place.invariant ∙ any_here test c.args.requests.now c.loop-place.place c.in-Some.asked (sym c.nth.ensures ∙ c.in-Some.is) (sym c.is_ready_on.ensures ∙ c.if-is_ready_on.true))

pub loop-place-preserved : goal.loop-place-preserved
loop-place-preserved c =
    let test : ℕ × Request → Bool = λ asked. is_ready_on (c.args.volume, c.args.page) asked.1 in
    sym (any_next test c.args.requests.now c.loop-place.place c.in-Some.asked (sym c.nth.ensures ∙ c.in-Some.is) (sym c.is_ready_on.ensures ∙ c.if-is_ready_on.false)) ∙ c.loop-place.invariant
