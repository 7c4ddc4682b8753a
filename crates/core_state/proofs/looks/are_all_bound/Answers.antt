use Rattle.std.proofs.Common.{rules, ◌≡◌, ◌∙◌, sym, ap, ℕ, Bool, true, false, Option}
use Rattle.std.specs.Prelude.{not, is_some}
use Rattle.mss_base.proofs.FirstFacts.{none_yet}
use Rattle.core_state.specs.Pins.{on_page, owner_at, is_volume_bound}
use Rattle.core_state.proofs.LookLemmas.{none_passes, first_passes}
use Rattle.core_state.proofs.looks.are_all_bound.Goals as goal

pub loop-number-init : goal.loop-number-init
loop-number-init c = none_yet _

pub returns-then-not-is_bound : goal.returns-then-not-is_bound
returns-then-not-is_bound c =
    let test : ℕ → Bool = λ frame. not (on_page (λ page. is_volume_bound c.args.hosts.now page.0) (owner_at c.args.frames.now.owners frame)) in
    let frame : c.unwrap-frame.result ≡ c.loop-number.number = search rules in
    let unbound : test c.loop-number.number ≡ true = ap test (sym frame) ∙ ap not (sym c.is_bound.ensures ∙ c.if-not-is_bound.true) in
    ap (λ (o : Option ℕ). not (is_some o)) (sym (first_passes test c.args.count c.loop-number.number c.loop-number-test.true c.loop-number.invariant unbound))

pub loop-number-preserved : goal.loop-number-preserved
loop-number-preserved c =
    let test : ℕ → Bool = λ frame. not (on_page (λ page. is_volume_bound c.args.hosts.now page.0) (owner_at c.args.frames.now.owners frame)) in
    let frame : c.unwrap-frame.result ≡ c.loop-number.number = search rules in
    let bound : test c.loop-number.number ≡ false = ap test (sym frame) ∙ ap not (sym c.is_bound.ensures ∙ c.if-not-is_bound.false) in
    none_passes test c.loop-number.number c.loop-number.invariant bound
