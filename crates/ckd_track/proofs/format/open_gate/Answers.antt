-- Beside a ghost value what is required has no names: `.1.0` is `looked`, `.1.1.0` is `stands`, and `.1.1.1.0` is `fits`.
use Rattle.std.proofs.Common.{inl, arith}
use Rattle.std.proofs.lemmas.Result.{on_ok_weaker}
use Rattle.ckd_track.proofs.StepLemmas.{later_stays, open_moments, open_done}
use Rattle.ckd_track.proofs.LogLemmas.{two_items}
use Rattle.ckd_track.proofs.format.open_gate.Goals as goal

pub returns-clause-moments : goal.returns-clause-moments
returns-clause-moments g c = λ tells.
    let logged = c.write_firm.ensures.logged tells in
    open_moments _ _ _ _ c.args.place.now.before g.block c.args.bytes.now c.requires.1.0.few c.requires.1.0.whole c.requires.1.1.1.0.there (c.requires.1.1.0 tells) c.requires.1.1.1.0.whole c.requires.1.1.1.0.fits logged.0 logged.1 logged.2

pub returns-clause-done : goal.returns-clause-done
returns-clause-done g c = λ tells.
    on_ok_weaker c.write_firm.result
    (λ adds. open_done _ _ _ _ c.args.place.now.before g.block c.args.bytes.now c.requires.1.0.few c.requires.1.0.whole c.requires.1.1.1.0.there (c.requires.1.1.0 tells) c.requires.1.1.1.0.whole c.requires.1.1.1.0.fits adds)
    (c.write_firm.ensures.ok tells)

pub returns-clause-later : goal.returns-clause-later
returns-clause-later g c = λ tells.
    on_ok_weaker c.write_firm.result
    (λ adds. later_stays _ _ _ _ c.args.place.now.before g.block _ _ (inl (omega arith)) (c.requires.1.1.0 tells).later adds)
    (c.write_firm.ensures.ok tells)

pub returns-clause-site_ : goal.returns-clause-site_
returns-clause-site_ g c =
    two_items g.S.Site _ _ c.write_firm.result c.write_firm.ensures.devices (λ tells. (_, (c.write_firm.ensures.logged tells).2)) c.write_firm.ensures.cause c.write_firm.ensures.wrote c.write_firm.ensures.works
