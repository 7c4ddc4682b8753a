use Rattle.std.proofs.Common.{◌≡◌, ◌+◌, ◌-◌, ℕ, get_or, refl, ◌∙◌, ap, arith}
use Rattle.std.proofs.lemmas.Bool.{eq-eqb}
use Rattle.ckd_track.proofs.format.any_later_open.Goals as goal

pub returns-then-block-place : goal.returns-then-block-place
returns-then-block-place c =
    let number : 128 + (c.loop-place.place - 128) ≡ c.loop-place.place = omega arith in
    let opened = eq-eqb _ _ (ap (λ (p : ℕ). get_or c.args.block.now p 0) number ∙ c.if-block-place.true) in
    (λ _. (c.loop-place.place - 128, omega arith, omega arith, opened), λ _. refl)
