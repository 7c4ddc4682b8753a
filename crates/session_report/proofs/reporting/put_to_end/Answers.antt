use Rattle.std.proofs.Common.{List, ◌++◌, ℕ, Ok, Err}
use Rattle.std.specs.Option.{option_map}
use Rattle.mss_base.specs.Content.{content}
use Rattle.mss_base.proofs.Putting.{puts_after}
use Rattle.std.proofs.lemmas.Result.{err_from_is_err_and}
use Rattle.volume_table.specs.Listed.{row_in_list}
use Rattle.shown_volumes.specs.Shown.{shown_by}
use Rattle.ckd_track.specs.Data.{Volumes}
use Rattle.session_report.specs.CopyTexts.{behind_text}
use Rattle.session_report.specs.Reports.{volumes_text, last_text}
use Rattle.session_report.proofs.Framing.{ends_behind, grows_by, grows_front, grows_then}
use Rattle.session_report.proofs.Told.{volumes_fail}
use Rattle.session_report.proofs.reporting.put_to_end.Goals as goal

pub returns-in_err-put_volumes-clause-bytes : goal.returns-in_err-put_volumes-clause-bytes
returns-in_err-put_volumes-clause-bytes g c =
    let p = err_from_is_err_and c.from_residual.result c.from_residual.ensures.1 in
    let behind : List ℕ = behind_text (option_map (λ c. c.now) c.args.copy) in
    rw (p.1, p.2)
    (volumes_fail (g.S.Site.tells × g.O.Sink.tells) _ (shown_by (row_in_list c.args.rows.now) (content (g.S.Site.told c.args.site.now))) c.args.volumes.now behind (behind ++ last_text c.args.last) (g.O.Sink.told c.args.output.now) (g.O.Sink.told c.put_volumes.new.output)
    c.in_err-put_volumes.field-0.0 c.in_err-put_volumes.ensures.bytes)

pub returns-in_err-put_closing-clause-bytes : goal.returns-in_err-put_closing-clause-bytes
returns-in_err-put_closing-clause-bytes g c =
    let p = err_from_is_err_and c.from_residual-in_err-put_closing.result c.from_residual-in_err-put_closing.ensures.1 in
    let shown : Volumes = shown_by (row_in_list c.args.rows.now) (content (g.S.Site.told c.args.site.now)) in
    let behind : List ℕ = behind_text (option_map (λ c. c.now) c.args.copy) in
    rw (p.1, p.2)
    (λ t. puts_after {T = Unit {0}} {E = Unit {0}} (Err tt) (g.O.Sink.told c.args.output.now) (g.O.Sink.told c.put_volumes.new.output) (g.O.Sink.told c.put_closing.new.output) (volumes_text shown c.args.volumes.now) (behind ++ last_text c.args.last)
    (c.in_ok-put_volumes.ensures.bytes t) (c.in_err-put_closing.ensures.bytes t.1))

pub returns-clause-bytes : goal.returns-clause-bytes
returns-clause-bytes g c = λ t.
    let shown : Volumes = shown_by (row_in_list c.args.rows.now) (content (g.S.Site.told c.args.site.now)) in
    let behind : List ℕ = behind_text (option_map (λ c. c.now) c.args.copy) in
    puts_after {T = Unit {0}} {E = Unit {0}} (Ok tt) (g.O.Sink.told c.args.output.now) (g.O.Sink.told c.put_volumes.new.output) (g.O.Sink.told c.put_closing.new.output) (volumes_text shown c.args.volumes.now) (behind ++ last_text c.args.last)
    (c.in_ok-put_volumes.ensures.bytes t) (c.in_ok-put_closing.ensures.bytes t.1)

pub returns-in_err-put_closing-clause-grown : goal.returns-in_err-put_closing-clause-grown
returns-in_err-put_closing-clause-grown g c = λ told. grows_then _ _ _ (c.put_volumes.ensures.grown told) (grows_front _ _ _ (c.in_err-put_closing.ensures.bytes told))

pub returns-clause-grown : goal.returns-clause-grown
returns-clause-grown g c = λ told. grows_then _ _ _ (c.put_volumes.ensures.grown told) (grows_by _ _ _ (c.in_ok-put_closing.ensures.bytes told))

pub returns-clause-ended : goal.returns-clause-ended
returns-clause-ended g c = λ told. ends_behind _ _ _ _ (c.put_volumes.ensures.grown told) (c.in_ok-put_closing.ensures.ended told)
