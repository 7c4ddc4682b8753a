-- Beside a ghost value what is required has no names: `.1.0` is `looked`, and `.1.1.0` is `closed`.
use Rattle.std.proofs.Common.{arith}
use Rattle.std.proofs.lemmas.Result.{err_from_is_err_and}
use Rattle.ckd_track.proofs.BehindLemmas.{behind_moments, synced_moments, stands_synced}
use Rattle.ckd_track.proofs.LogLemmas.{either_way, one_item, sync_item, writes_then, writes_broken}
use Rattle.ckd_track.proofs.format.put_behind.Goals as goal

pub returns-in_err-write_behind-clause-moments : goal.returns-in_err-write_behind-clause-moments
returns-in_err-write_behind-clause-moments g c = λ tells.
    behind_moments c.args.place.now.before g.block c.args.at.now c.requires.1.0.few _ _ (c.requires.1.1.0 tells).ends (c.write_behind.ensures.behind tells)

pub returns-clause-moments : goal.returns-clause-moments
returns-clause-moments g c = λ tells.
    synced_moments c.args.place.now.before g.block c.args.at.now c.requires.1.0.few _ _ _ (c.requires.1.1.0 tells).ends
    (c.write_behind.ensures.behind tells) (either_way c.sync.result (c.sync.ensures.ok tells) (c.sync.ensures.err tells))

pub returns-clause-stands : goal.returns-clause-stands
returns-clause-stands g c = λ tells.
    stands_synced c.args.place.now.before g.block c.args.at.now c.sync.result c.args.bytes.now _ _ (c.in_ok-write_behind.ensures.stands tells) (c.sync.ensures.ok tells)

pub returns-in_err-write_behind-clause-site_ : goal.returns-in_err-write_behind-clause-site_
returns-in_err-write_behind-clause-site_ g c =
    let p = err_from_is_err_and c.from_residual.result c.from_residual.ensures.1 in
    rw p.1 (writes_broken g.S.Site _ _ 2 3 (omega arith) _ _ c.in_err-write_behind.ensures.site_)

pub returns-clause-site_ : goal.returns-clause-site_
returns-clause-site_ g c =
    let sync = one_item g.S.Site _ _ c.sync.result c.sync.ensures.spare c.sync.ensures.writes c.sync.ensures.sound (λ tells. sync_item _ _ _ (either_way c.sync.result (c.sync.ensures.ok tells) (c.sync.ensures.err tells))) c.sync.ensures.cause c.sync.ensures.works in
    writes_then g.S.Site _ _ _ 2 1 _ _ c.in_ok-write_behind.ensures.site_ sync
