use Rattle.std.proofs.Common.{◌≡◌, inl, inr, ◌<◌, rules, sym, ◌∙◌, ap, subst, arith}
use Rattle.std.proofs.lemmas.Result.{err_from_is_err_and}
use Rattle.mss_base.specs.declared.place.BlockPlace.{BlockPlace}
use Rattle.volume_table.specs.Row.{state_of}
use Rattle.volume_table.specs.States.{state_number}
use Rattle.table_pair.specs.Reads.{IsReadable}
use Rattle.mss_restart.proofs.TrackReads.{row_on, on_cartridge_stands, in_frame_stands}
use Rattle.mss_restart.proofs.tracks.check_track_of.Goals as goal

pub returns-in-OnCartridge-clause-works : goal.returns-in-OnCartridge-clause-works
returns-in-OnCartridge-clause-works g c = λ reads.
    let y_low : c.args.cylinder < 404 = search rules in
    let h_low : c.args.head < 19 = search rules in
    let state : state_of c.args.row.now c.args.cylinder ≡ 1 = sym c.state.ensures ∙ ap state_number c.in-OnCartridge.is in
    c.check_shown.ensures.works (subst (λ (place : BlockPlace). IsReadable g.S.Site c.args.site.now place.unit) (sym c.on_cartridge-place.ensures)
    (reads c.args.cylinder c.args.head _ (on_cartridge_stands c.args.row.now c.args.cylinder c.args.head y_low h_low (inl state))))

pub returns-in-StagedBlank-clause-works : goal.returns-in-StagedBlank-clause-works
returns-in-StagedBlank-clause-works g c = λ reads.
    let y_low : c.args.cylinder < 404 = search rules in
    let h_low : c.args.head < 19 = search rules in
    let state : state_of c.args.row.now c.args.cylinder ≡ 2 = sym c.state.ensures ∙ ap state_number c.in-StagedBlank.is in
    c.check_blank.ensures.works (subst (λ (place : BlockPlace). IsReadable g.S.Site c.args.site.now place.unit) (sym c.frame_block-place.ensures.place)
    (reads c.args.cylinder c.args.head _ (in_frame_stands c.args.row.now c.args.cylinder c.args.head _ y_low h_low (omega (arith, state)) (sym c.frame_of_staged.ensures))))

pub returns-in_err-check_shown-in-Staged-clause-works : goal.returns-in_err-check_shown-in-Staged-clause-works
returns-in_err-check_shown-in-Staged-clause-works g c = λ reads.
    let p = err_from_is_err_and c.from_residual.result c.from_residual.ensures.1 in
    let y_low : c.args.cylinder < 404 = search rules in
    let h_low : c.args.head < 19 = search rules in
    let state : state_of c.args.row.now c.args.cylinder ≡ 3 = sym c.state.ensures ∙ ap state_number c.in-Staged.is in
    rw (p.1, p.2) (c.in_err-check_shown-in-Staged.ensures.works (subst (λ (place : BlockPlace). IsReadable g.S.Site c.args.site.now place.unit) (sym c.on_cartridge-place-in-Staged.ensures)
    (reads c.args.cylinder c.args.head _ (on_cartridge_stands c.args.row.now c.args.cylinder c.args.head y_low h_low (inr state)))))

pub returns-in_ok-check_shown-in-Staged-clause-works : goal.returns-in_ok-check_shown-in-Staged-clause-works
returns-in_ok-check_shown-in-Staged-clause-works g c = λ reads.
    let now = c.check_shown-in-Staged.new.site in
    let y_low : c.args.cylinder < 404 = search rules in
    let h_low : c.args.head < 19 = search rules in
    let state : state_of c.args.row.now c.args.cylinder ≡ 3 = sym c.state.ensures ∙ ap state_number c.in-Staged.is in
    let later = row_on g.S.Site c.args.site.now now c.in_ok-check_shown-in-Staged.ensures.devices.sound c.args.row.now reads in
    c.check_copy.ensures.works
    (subst (λ (place : BlockPlace). IsReadable g.S.Site now place.unit) (sym c.frame_block-place-in-Staged.ensures.place)
    (later c.args.cylinder c.args.head _ (in_frame_stands c.args.row.now c.args.cylinder c.args.head _ y_low h_low (omega (arith, state)) (sym c.frame_of_staged-in-Staged.ensures))))

pub returns-in-Changed-clause-works : goal.returns-in-Changed-clause-works
returns-in-Changed-clause-works g c = λ reads.
    let y_low : c.args.cylinder < 404 = search rules in
    let h_low : c.args.head < 19 = search rules in
    let state : state_of c.args.row.now c.args.cylinder ≡ 4 = sym c.state.ensures ∙ ap state_number c.in-Changed.is in
    c.check_shown-in-Changed.ensures.works (subst (λ (place : BlockPlace). IsReadable g.S.Site c.args.site.now place.unit) (sym c.frame_block-place-in-Changed.ensures.place)
    (reads c.args.cylinder c.args.head _ (in_frame_stands c.args.row.now c.args.cylinder c.args.head _ y_low h_low (omega (arith, state)) (sym c.frame_of_staged-in-Changed.ensures))))
