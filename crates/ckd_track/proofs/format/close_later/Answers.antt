-- Beside a ghost value what is required has no names: `.1.0` is `looked`, and `.1.1.0` is `closed`.
use Rattle.std.proofs.Common.{◌+◌, inl, sym, ◌∙◌, arith}
use Rattle.std.proofs.lemmas.Bool.{true≢false}
use Rattle.std.proofs.lemmas.Result.{on_ok_weaker}
use Rattle.ckd_track.proofs.StepLemmas.{later_closed, later_kept}
use Rattle.ckd_track.proofs.BehindLemmas.{behind_none, gates_written}
use Rattle.ckd_track.proofs.LogLemmas.{one_item}
use Rattle.ckd_track.proofs.format.close_later.Goals as goal

pub returns-then-place-clause-behind : goal.returns-then-place-clause-behind
returns-then-place-clause-behind g c = λ tells.
    let logged = c.write.ensures.logged tells in
    gates_written c.args.place.now.before g.block c.args.at.now _ _ (130 + c.args.place.now.before) logged.0 (omega arith) (omega (arith, logged.1, c.closed_gates.ensures.count, c.requires.1.0.few)) logged.2

pub returns-then-place-clause-later : goal.returns-then-place-clause-later
returns-then-place-clause-later g c = λ tells.
    let ends = (c.requires.1.1.0 tells).ends in
    on_ok_weaker c.write.result
    (λ got. later_closed _ _ _ _ c.args.place.now.before g.block _ (c.requires.1.0.later.0 c.if-place.true) c.closed_gates.ensures.count c.closed_gates.ensures.closed (omega (arith, ends.front.long, c.requires.1.0.whole)) (inl got))
    (c.write.ensures.ok tells)

pub returns-then-place-clause-site_ : goal.returns-then-place-clause-site_
returns-then-place-clause-site_ g c =
    one_item g.S.Site _ _ c.write.result c.write.ensures.spare c.write.ensures.writes c.write.ensures.sound (λ tells. (_, (c.write.ensures.logged tells).2)) c.write.ensures.cause c.write.ensures.works

pub returns-clause-behind : goal.returns-clause-behind
returns-clause-behind g c = λ tells. behind_none c.args.place.now.before g.block c.args.at.now _

pub returns-clause-later : goal.returns-clause-later
returns-clause-later g c = λ tells.
    later_kept c.args.place.now.before g.block _ (c.requires.1.1.0 tells).later (λ some. true≢false (sym (c.requires.1.0.later.1 some) ∙ c.if-place.false))
