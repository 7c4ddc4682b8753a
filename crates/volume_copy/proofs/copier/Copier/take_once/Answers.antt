use Rattle.std.proofs.Common.{◌≡◌, None, sym, ap, ◌∙◌}
use Rattle.volume_copy.specs.Copies.{CopyData, taken_at}
use Rattle.volume_copy.specs.Steps.{lacked}
use Rattle.volume_copy.proofs.StepFacts.{not_some, on_ok}
use Rattle.volume_copy.proofs.copier.Copier.take_once.Goals as goal

pub returns-clause-takes : goal.returns-clause-takes
returns-clause-takes g c =
    let left : taken_at c.args.self.now.tracks c.args.number ≡ None = ap (λ (x : CopyData). taken_at x.tracks c.args.number) (sym c.self.view_is) ∙ not_some (taken_at c.self.inside.tracks c.args.number) (sym c.if-has.ensures) in
    on_ok c.take_track.result _ _ (λ told. lacked left told) c.take_track.ensures.takes
