use Rattle.std.proofs.Common.{ℕ, List, ap, ◌∙◌}
use Rattle.ckd_track.specs.Track.{reading}
use Rattle.ckd_plain.specs.Index.{Found}
use Rattle.ckd_plain.specs.Effects.{status_of}
use Rattle.track_engine.specs.Found.{found_at}
use Rattle.track_engine.proofs.Updates.{item_behind, update_carried_out, update_failed}
use Rattle.track_engine.proofs.write.update_at.Goals as goal

pub returns-in-Ok-clause-done : goal.returns-in-Ok-clause-done
returns-in-Ok-clause-done g c = λ tells.
    let block : List ℕ = g.S.Site.brought c.args.site.now in
    let found = c.found_in.ensures.found ∙ ap (λ (b : List ℕ). found_at b c.args.at.now) c.brought.ensures in
    update_carried_out c.args.to.now _ _ c.args.at.now c.args.key_too c.args.bytes.now block (c.requires.track tells).good c.requires.may.first c.requires.may.there (c.in-Ok.ensures.moments tells) c.written.result c.status-status.result
    (c.status-status.ensures.value ∙ ap status_of (ap (λ (f : Found). f.item) found ∙ item_behind (reading block).records c.args.at.now.host c.args.at.now.number c.requires.may.first))
    c.written.ensures (c.in-Ok.ensures.done tells) (c.in-Ok.ensures.firm tells)

pub returns-in-Err-clause-done : goal.returns-in-Err-clause-done
returns-in-Err-clause-done g c = λ tells.
    update_failed c.args.to.now _ _ c.args.at.now c.args.key_too c.args.bytes.now (g.S.Site.brought c.args.site.now) (c.requires.track tells).good c.requires.may.first c.requires.may.there (c.in-Err.ensures.moments tells) c.faults.result
