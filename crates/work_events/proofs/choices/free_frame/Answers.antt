use Rattle.std.proofs.Common.{rules, ◌≡◌, ◌<◌, ◌∙◌, sym, ap, ℕ, Bool, true, false, Some, arith}
use Rattle.mss_base.proofs.FirstFacts.{none_yet}
use Rattle.core_state.specs.Pins.{is_free}
use Rattle.core_state.proofs.LookLemmas.{none_passes, first_passes}
use Rattle.work_events.proofs.choices.free_frame.Goals as goal

pub loop-number-init : goal.loop-number-init
loop-number-init g c = none_yet _

pub returns-then-is_free : goal.returns-then-is_free
returns-then-is_free g c =
    let now = c.args.core.now in
    let test : ℕ → Bool = is_free now in
    let frame : c.unwrap-frame.result ≡ c.loop-number.number = search rules in
    let count : c.frame_count-number-end.result ≡ now.config.frames = search rules in
    let free : test c.loop-number.number ≡ true = ap test (sym frame) ∙ sym c.is_free.ensures ∙ c.if-is_free.true in
    let within : c.loop-number.number < now.config.frames = let lt = c.loop-number-test.true in omega (arith, lt, count) in
    ap Some frame ∙ sym (first_passes test now.config.frames c.loop-number.number within c.loop-number.invariant free)

pub loop-number-preserved : goal.loop-number-preserved
loop-number-preserved g c =
    let test : ℕ → Bool = is_free c.args.core.now in
    let frame : c.unwrap-frame.result ≡ c.loop-number.number = search rules in
    let taken : test c.loop-number.number ≡ false = ap test (sym frame) ∙ sym c.is_free.ensures ∙ c.if-is_free.false in
    none_passes test c.loop-number.number c.loop-number.invariant taken
