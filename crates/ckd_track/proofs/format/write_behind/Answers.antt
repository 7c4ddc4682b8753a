-- Beside a ghost value what is required has no names: `.1.0` is `looked`, `.1.1.0` is `closed`, and `.1.1.1.1.0` is `inside`.
use Rattle.std.proofs.Common.{arith}
use Rattle.std.proofs.lemmas.Result.{on_ok_weaker, err_from_is_err_and}
use Rattle.ckd_track.proofs.BehindLemmas.{record_written, behind_then, stands_behind}
use Rattle.ckd_track.proofs.LogLemmas.{one_item, writes_then, writes_broken}
use Rattle.ckd_track.proofs.format.write_behind.Goals as goal

pub returns-clause-behind : goal.returns-clause-behind
returns-clause-behind g c = λ tells.
    let put = record_written c.args.place.now.before g.block c.args.at.now _ _ c.args.place.now.begins_at _ c.requires.1.0.few c.requires.1.0.begins (c.write.ensures.logged tells).2 in
    behind_then c.args.place.now.before g.block c.args.at.now _ _ _ (c.close_later.ensures.behind tells) put

pub returns-clause-stands : goal.returns-clause-stands
returns-clause-stands g c = λ tells.
    on_ok_weaker c.write.result
    (λ put. stands_behind c.args.place.now.before g.block c.args.at.now c.requires.1.0.few c.requires.1.0.whole c.args.place.now.begins_at c.args.bytes.now c.requires.1.0.begins c.requires.1.1.1.1.0 _ _ _ (c.requires.1.1.0 tells).ends
    (c.close_later.ensures.behind tells) (c.in_ok-close_later.ensures.later tells) put)
    (c.write.ensures.ok tells)

pub returns-in_err-close_later-clause-site_ : goal.returns-in_err-close_later-clause-site_
returns-in_err-close_later-clause-site_ g c =
    let p = err_from_is_err_and c.from_residual.result c.from_residual.ensures.1 in
    rw p.1 (writes_broken g.S.Site _ _ 1 2 (omega arith) _ _ c.in_err-close_later.ensures.site_)

pub returns-clause-site_ : goal.returns-clause-site_
returns-clause-site_ g c =
    let put = one_item g.S.Site _ _ c.write.result c.write.ensures.spare c.write.ensures.writes c.write.ensures.sound (λ tells. (_, (c.write.ensures.logged tells).2)) c.write.ensures.cause c.write.ensures.works in
    writes_then g.S.Site _ _ _ 1 1 _ _ c.in_ok-close_later.ensures.site_ put
