-- Beside a ghost value what is required has no names: `.1.0` is `looked`, and `.1.1.1.0` is `fits`.
use Rattle.std.proofs.Common.{arith}
use Rattle.std.proofs.lemmas.Result.{on_ok_weaker, err_from_is_err_and}
use Rattle.mss_base.proofs.Settling.{settles_then}
use Rattle.ckd_track.proofs.FormatLemmas.{fits_inside}
use Rattle.ckd_track.proofs.StepLemmas.{after_one, after_two, after_three}
use Rattle.ckd_track.proofs.LogLemmas.{writes_then, writes_broken}
use Rattle.ckd_track.proofs.format.format_at.Goals as goal

pub prove-unreachable-requires : goal.prove-unreachable-requires
prove-unreachable-requires g c =
    omega (arith, c.if-prove.true, c.requires.1.0.begins, fits_inside c.args.bytes.now c.requires.1.1.1.0.whole c.args.place.now.before g.block c.requires.1.1.1.0.there c.requires.1.1.1.0.fits)

pub returns-in_err-close_gate-clause-moments : goal.returns-in_err-close_gate-clause-moments
returns-in_err-close_gate-clause-moments g c = λ tells.
    after_one _ _ c.args.place.now.before g.block c.args.bytes.now c.requires.1.0.few c.requires.1.1.1.0.there _ _ (c.close_gate.ensures.moments tells)

pub returns-in_err-put_behind-clause-moments : goal.returns-in_err-put_behind-clause-moments
returns-in_err-put_behind-clause-moments g c = λ tells.
    after_two _ _ c.args.place.now.before g.block c.args.bytes.now c.requires.1.0.few c.requires.1.1.1.0.there _ _ _ (c.in_ok-close_gate.ensures.firm tells) (c.close_gate.ensures.moments tells) (c.put_behind.ensures.moments tells)

pub returns-clause-moments : goal.returns-clause-moments
returns-clause-moments g c = λ tells.
    let firm = c.in_ok-close_gate.ensures.firm tells in
    after_three _ _ c.args.place.now.before g.block c.args.bytes.now c.requires.1.0.few c.requires.1.1.1.0.there _ _ _ _
    firm (settles_then _ _ _ firm (c.in_ok-put_behind.ensures.firm tells)) (c.close_gate.ensures.moments tells) (c.put_behind.ensures.moments tells) (c.open_gate.ensures.moments tells)

pub returns-clause-firm : goal.returns-clause-firm
returns-clause-firm g c = λ tells.
    let before = settles_then _ _ _ (c.in_ok-close_gate.ensures.firm tells) (c.in_ok-put_behind.ensures.firm tells) in
    on_ok_weaker c.open_gate.result (λ firm. settles_then _ _ _ before firm) (c.open_gate.ensures.firm tells)

pub returns-in_err-close_gate-clause-site_ : goal.returns-in_err-close_gate-clause-site_
returns-in_err-close_gate-clause-site_ g c =
    let p = err_from_is_err_and c.from_residual.result c.from_residual.ensures.1 in
    rw p.1 (writes_broken g.S.Site _ _ 2 7 (omega arith) _ _ c.in_err-close_gate.ensures.site_)

pub returns-in_err-put_behind-clause-site_ : goal.returns-in_err-put_behind-clause-site_
returns-in_err-put_behind-clause-site_ g c =
    let p = err_from_is_err_and c.from_residual-in_err-put_behind.result c.from_residual-in_err-put_behind.ensures.1 in
    rw p.1 (writes_broken g.S.Site _ _ 5 7 (omega arith) _ _ (writes_then g.S.Site _ _ _ 2 3 _ _ c.in_ok-close_gate.ensures.site_ c.in_err-put_behind.ensures.site_))

pub returns-clause-site_ : goal.returns-clause-site_
returns-clause-site_ g c =
    writes_then g.S.Site _ _ _ 5 2 _ _ (writes_then g.S.Site _ _ _ 2 3 _ _ c.in_ok-close_gate.ensures.site_ c.in_ok-put_behind.ensures.site_) c.open_gate.ensures.site_
