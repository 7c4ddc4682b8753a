use Rattle.std.proofs.Common.{◌≡◌, ℕ, suc, ◌-◌, take, refl, ap, ◌∙◌, arith, List}
use Rattle.ckd_track.specs.Data.{RecordData, cost}
use Rattle.ckd_track.specs.Track.{reading}
use Rattle.ckd_track.proofs.TrackFacts.{front_cost, cost-take-cons, cost-take-nil}
use Rattle.ckd_track.proofs.in_place.cost_of_front.Goals as goal

pub loop-init : goal.loop-init
loop-init c = λ left is.
    let all : left ≡ c.args.count = omega arith in
    let told : c.stored_records-stored.result ≡ reading c.args.block.now = c.stored_records-stored.ensures.all in
    let same : cost (take left c.stored_records-stored.result.records) ≡ cost (take c.args.count (reading c.args.block.now).records) =
    (λ i. cost (take (all i) (told i).records)) in
    omega (arith, same)

pub returns-in_default-clause-cost : goal.returns-in_default-clause-cost
returns-in_default-clause-cost c =
    let left : ℕ = c.args.count - c.loop.counter in
    omega (arith, c.loop.invariant left (omega arith), ap (λ (rs : List RecordData). cost (take left rs)) c.in_default.ensures.steps.0, cost-take-nil left)

pub returns-in_default-clause-within : goal.returns-in_default-clause-within
returns-in_default-clause-within c = omega (arith, c.loop.invariant (c.args.count - c.loop.counter) (omega arith), front_cost c.args.count c.args.block.now)

pub overflow_add-cost : goal.overflow_add-cost
overflow_add-cost c =
    let left : ℕ = c.args.count - c.loop.counter - 1 in
    let so_far = c.loop.invariant (suc left) (omega arith) in
    let next = ap (λ (rs : List RecordData). cost (take (suc left) rs)) c.in-Some.ensures.steps in
    omega (arith, so_far, next, c.cost-cost.ensures, cost-take-cons (suc left) left c.in-Some.record c.next.new.self.records refl, front_cost c.args.count c.args.block.now)

pub loop-preserved : goal.loop-preserved
loop-preserved c = λ left is.
    let so_far = c.loop.invariant (suc left) (omega arith) in
    let next = ap (λ (rs : List RecordData). cost (take (suc left) rs)) c.in-Some.ensures.steps in
    omega (arith, so_far, next, c.cost-cost.ensures, cost-take-cons (suc left) left c.in-Some.record c.next.new.self.records refl)

pub returns-clause-cost : goal.returns-clause-cost
returns-clause-cost c = omega (arith, c.loop.invariant 0 (omega arith))

pub returns-clause-within : goal.returns-clause-within
returns-clause-within c = omega (arith, c.loop.invariant 0 (omega arith), front_cost c.args.count c.args.block.now)
