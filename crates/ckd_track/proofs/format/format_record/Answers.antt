use Rattle.std.proofs.Common.{◌-◌, subst, arith}
use Rattle.ckd_track.specs.Track.{record_at, AreBytes}
use Rattle.ckd_track.proofs.FrontLemmas.{few_fit}
use Rattle.ckd_track.proofs.TrackFacts.{formatted_track}
use Rattle.ckd_track.proofs.LogLemmas.{on_ok_always}
use Rattle.ckd_track.proofs.format.format_record.Goals as goal

pub prove-unreachable-requires : goal.prove-unreachable-requires
prove-unreachable-requires g c =
    let may = c.requires.fits in
    omega (arith, c.if-prove.true, few_fit (c.args.number - 1) (g.S.Site.brought c.args.site.now) (omega (arith, may.first, may.there)) (record_at 0 c.args.count_key_data.now) may.fits)

pub returns-clause-moments : goal.returns-clause-moments
returns-clause-moments g c = λ tells. rw c.format_place-place.ensures.before at (c.format_at.ensures.moments tells)

pub returns-clause-track : goal.returns-clause-track
returns-clause-track g c =
    let may = c.requires.fits in
    let block_bytes = subst AreBytes c.brought.ensures c.format_place-place.ensures.bytes in
    on_ok_always c.format_at.result (formatted_track c.args.count_key_data.now may.whole (c.args.number - 1) (g.S.Site.brought c.args.site.now) block_bytes (λ i. omega (arith, c.type_inv.count_key_data i)) may.fits)
