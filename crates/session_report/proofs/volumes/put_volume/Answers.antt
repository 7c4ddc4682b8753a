use Rattle.std.proofs.Common.{◌≡◌, ◌++◌, Bool, ℕ, List, Option, ◌∙◌, ap, subst}
use Rattle.std.proofs.lemmas.Result.{err_from_is_err_and}
use Rattle.mss_base.specs.Content.{content}
use Rattle.volume_table.specs.Row.{RowValue}
use Rattle.volume_table.specs.Listed.{row_in_list}
use Rattle.shown_volumes.specs.Shown.{is_marked}
use Rattle.mss_base.specs.Puts.{PutsFront}
use Rattle.mss_base.proofs.Putting.{puts_stops}
use Rattle.report_text.specs.Texts.{heading_text, tracks_text}
use Rattle.session_report.specs.Parts.{row_tracks, CanReadRow, MayFail, PutsTracks, TellsNoRead, block_of}
use Rattle.session_report.proofs.Framing.{grows_by, grows_front, grows_then}
use Rattle.session_report.proofs.Told.{volume_put}
use Rattle.session_report.proofs.volumes.put_volume.Goals as goal

pub returns-in_err-put_heading-clause-bytes : goal.returns-in_err-put_heading-clause-bytes
returns-in_err-put_heading-clause-bytes g c =
    let p = err_from_is_err_and c.from_residual.result c.from_residual.ensures.1 in
    let was = g.O.Sink.told c.args.output.now in
    let mid = g.O.Sink.told c.put_heading.new.output in
    let row = row_in_list c.args.rows.now c.args.volume in
    let heading : Bool → List ℕ = heading_text c.args.volume c.args.serial.now in
    rw (p.1, p.2)
    (λ t. puts_stops was mid (heading (is_marked row))
    (tracks_text (row_tracks (content (g.S.Site.told c.args.site.now)) row) 7676)
    (subst (λ (marked : Bool). PutsFront was mid (heading marked))
    (c.is_marked.ensures ∙ ap is_marked c.row_of-row.ensures) (c.in_err-put_heading.ensures.bytes t.1)))

pub returns-clause-bytes : goal.returns-clause-bytes
returns-clause-bytes g c =
    let both = g.S.Site.tells × g.O.Sink.tells in
    let was = g.O.Sink.told c.args.output.now in
    let mid = g.O.Sink.told c.put_heading.new.output in
    let now = g.O.Sink.told c.put_row.new.output in
    let heading : Bool → List ℕ = heading_text c.args.volume c.args.serial.now in
    subst (λ (row : Option RowValue). PutsTracks both (λ n. MayFail g.S.Site c.args.site.now (block_of row n))
    (heading (is_marked row)) (row_tracks (content (g.S.Site.told c.args.site.now)) row) was now c.put_row.result)
    c.row_of-row.ensures
    (volume_put both _ (heading (is_marked c.row_of-row.result.now)) _ was mid now c.put_row.result
    (λ t. subst (λ (marked : Bool). mid ≡ was ++ heading marked) c.is_marked.ensures
    (c.in_ok-put_heading.ensures.bytes t.1))
    c.put_row.ensures.bytes)

pub returns-clause-works : goal.returns-clause-works
returns-clause-works g c =
    subst (λ (row : Option RowValue). CanReadRow g.S.Site c.args.site.now row → TellsNoRead c.put_row.result)
    c.row_of-row.ensures c.put_row.ensures.works

pub returns-in_err-put_heading-clause-grown : goal.returns-in_err-put_heading-clause-grown
returns-in_err-put_heading-clause-grown g c = λ told. grows_front _ _ _ (c.in_err-put_heading.ensures.bytes told)

pub returns-clause-grown : goal.returns-clause-grown
returns-clause-grown g c = λ told. grows_then _ _ _ (grows_by _ _ _ (c.in_ok-put_heading.ensures.bytes told)) (c.put_row.ensures.grown told)
