-- Beside a ghost value what is required has no names: `.1.0` is `looked`, and `.1.1.0` is `told`.
use Rattle.std.proofs.Common.{inl, sym, ◌∙◌, arith}
use Rattle.std.proofs.lemmas.Result.{on_ok_weaker}
use Rattle.mss_base.proofs.Moments.{block_started}
use Rattle.ckd_track.proofs.StepLemmas.{close_moments, closed_by, gate_byte}
use Rattle.ckd_track.proofs.LogLemmas.{two_items}
use Rattle.ckd_track.proofs.format.close_gate.Goals as goal

pub returns-then-place-clause-moments : goal.returns-then-place-clause-moments
returns-then-place-clause-moments g c = λ tells.
    let looked = c.requires.1.0 in
    let logged = c.write_firm.ensures.logged tells in
    close_moments _ _ _ _ _ g.block logged.0 looked.few c.requires.1.0.whole (c.requires.1.1.0 tells) (gate_byte _ g.block (looked.gate ∙ c.if-place.true)) logged.1 logged.2

pub returns-then-place-clause-closed : goal.returns-then-place-clause-closed
returns-then-place-clause-closed g c = λ tells.
    on_ok_weaker c.write_firm.result (λ adds. closed_by _ _ _ _ _ g.block c.requires.1.0.few c.requires.1.0.whole (c.requires.1.1.0 tells) adds) (c.write_firm.ensures.ok tells)

pub returns-then-place-clause-site_ : goal.returns-then-place-clause-site_
returns-then-place-clause-site_ g c =
    two_items g.S.Site _ _ c.write_firm.result c.write_firm.ensures.devices (λ tells. (_, (c.write_firm.ensures.logged tells).2)) c.write_firm.ensures.cause c.write_firm.ensures.wrote c.write_firm.ensures.works

pub returns-clause-moments : goal.returns-clause-moments
returns-clause-moments g c = λ tells. block_started _ _ _ _ (inl (c.requires.1.1.0 tells))
