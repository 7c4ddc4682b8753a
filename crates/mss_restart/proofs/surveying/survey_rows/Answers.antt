use Rattle.std.proofs.Common.{◌≡◌, ℕ, refl, sym, ◌∙◌, ap, subst, Ok, Err, Option, None, Result}
use Rattle.std.proofs.lemmas.Result.{err_from_is_err_and}
use Rattle.mss_base.specs.Content.{Content, content}
use Rattle.mss_base.specs.Configs.{serial_in}
use Rattle.mss_base.specs.Configs.{ConfigData}
use Rattle.shown_volumes.specs.declared.refused.Refused.{Refused}
use Rattle.mss_restart.specs.declared.rows.RowsRead.{RowsRead}
use Rattle.volume_table.specs.Listed.{row_in_list}
use Rattle.mss_restart.specs.Walks.{rest_fault}
use Rattle.mss_restart.specs.Survey.{FindsFault, Surveys, rows_read}
use Rattle.mss_restart.proofs.Surveyed.{rows_survey, good_survey, bad_survey, renamed, read_renamed, later_rows}
use Rattle.mss_restart.proofs.OneTable.{all_read_tracks, loses_on, reads_tracks}
use Rattle.mss_restart.proofs.TrackReads.{rows_on, all_read_table, rows_readable}
use Rattle.mss_restart.proofs.KnownRows.{rows_told, rows_listed}
use Rattle.mss_restart.specs.Survey.{AreRead, CanReadRows}
use Rattle.shown_volumes.specs.Shown.{RowsOf, rows_of}
use Rattle.mss_restart.proofs.surveying.survey_rows.Goals as goal

pub returns-in_err-read-clause-found : goal.returns-in_err-read-clause-found
returns-in_err-read-clause-found g c = λ tells.
    let p = err_from_is_err_and c.from_residual.result c.from_residual.ensures.1 in
    let before = g.S.Site.faults c.args.site.now in
    let now = g.S.Site.faults c.read_rows.new.site in
    let k = content (g.S.Site.told c.args.site.now) in
    let e = c.in_err-read.field-0.0 in
    subst (λ (r : Result RowsRead Refused). Surveys before now c.args.config.now.frames (serial_in c.args.config.now.volumes) k (rows_read r)) (sym (p.1 ∙ ap Err p.2))
    (renamed before now c.config.inside.frames c.args.config.now.frames c.as_slice.result.now c.args.config.now.volumes k k (Err e)
    (ap (λ (x : ConfigData). x.frames) c.config.view_is) (c.as_slice.ensures ∙ ap (λ (x : ConfigData). x.volumes) c.config.view_is) refl
    (rows_survey before now c.config.inside.frames (serial_in c.as_slice.result.now) k e c.in_err-read.ensures.devices.later (c.in_err-read.ensures.read tells)))

pub returns-in_err-check_rows-clause-found : goal.returns-in_err-check_rows-clause-found
returns-in_err-check_rows-clause-found g c = λ tells.
    let p = err_from_is_err_and c.from_residual-in_err-check_rows.result c.from_residual-in_err-check_rows.ensures.1 in
    let before = g.S.Site.faults c.args.site.now in
    let mid = g.S.Site.faults c.read_rows.new.site in
    let now = g.S.Site.faults c.check_rows.new.site in
    let k = content (g.S.Site.told c.args.site.now) in
    let e = c.in_err-check_rows.field-0.0 in
    let rows = c.in_ok-read.read.rows in
    let found = subst (λ (x : Content). FindsFault e (rest_fault c.config.inside.frames (row_in_list rows) x)) (ap content (c.in_ok-read.ensures.devices.log tells))
    (c.in_err-check_rows.ensures.finds tells) in
    let behind = c.in_err-check_rows.ensures.behind in
    subst (λ (r : Result RowsRead Refused). Surveys before now c.args.config.now.frames (serial_in c.args.config.now.volumes) k (rows_read r)) (sym (p.1 ∙ ap Err p.2))
    (renamed before now c.config.inside.frames c.args.config.now.frames c.as_slice.result.now c.args.config.now.volumes k k (Err e)
    (ap (λ (x : ConfigData). x.frames) c.config.view_is) (c.as_slice.ensures ∙ ap (λ (x : ConfigData). x.volumes) c.config.view_is) refl
    (bad_survey before mid now c.config.inside.frames (serial_in c.as_slice.result.now) k rows c.in_ok-read.read.unread (c.in_ok-read.ensures.read tells) c.look.ensures.places e behind found c.in_err-check_rows.ensures.counts))

pub returns-clause-found : goal.returns-clause-found
returns-clause-found g c = λ tells.
    let before = g.S.Site.faults c.args.site.now in
    let mid = g.S.Site.faults c.read_rows.new.site in
    let now = g.S.Site.faults c.check_rows.new.site in
    let k = content (g.S.Site.told c.args.site.now) in
    let rows = c.in_ok-read.read.rows in
    let none = subst (λ (x : Content). rest_fault c.config.inside.frames (row_in_list rows) x ≡ None) (ap content (c.in_ok-read.ensures.devices.log tells))
    (c.in_ok-check_rows.ensures.finds tells) in
    renamed before now c.config.inside.frames c.args.config.now.frames c.as_slice.result.now c.args.config.now.volumes k k (Ok rows)
    (ap (λ (x : ConfigData). x.frames) c.config.view_is) (c.as_slice.ensures ∙ ap (λ (x : ConfigData). x.volumes) c.config.view_is) refl
    (good_survey before mid now c.config.inside.frames (serial_in c.as_slice.result.now) k rows c.in_ok-read.read.unread (c.in_ok-read.ensures.read tells) c.look.ensures.places c.in_ok-check_rows.ensures.counts none)

pub returns-clause-read : goal.returns-clause-read
returns-clause-read g c = λ tells.
    let before = g.S.Site.faults c.args.site.now in
    let mid = g.S.Site.faults c.read_rows.new.site in
    let now = g.S.Site.faults c.check_rows.new.site in
    let k = content (g.S.Site.told c.args.site.now) in
    let rows = c.in_ok-read.read.rows in
    read_renamed before now c.as_slice.result.now c.args.config.now.volumes k rows c.in_ok-read.read.unread (c.as_slice.ensures ∙ ap (λ (x : ConfigData). x.volumes) c.config.view_is)
    (later_rows before mid now c.config.inside.frames (serial_in c.as_slice.result.now) k rows c.in_ok-read.read.unread (c.in_ok-read.ensures.read tells) c.look.ensures.places c.in_ok-check_rows.ensures.counts)

pub returns-in_err-check_rows-clause-works : goal.returns-in_err-check_rows-clause-works
returns-in_err-check_rows-clause-works g c = λ never.
    let p = err_from_is_err_and c.from_residual-in_err-check_rows.result c.from_residual-in_err-check_rows.ensures.1 in
    rw (p.1, p.2) (c.in_err-check_rows.ensures.works (rows_readable g.S.Site c.read_rows.new.site (all_read_tracks g.S.Site c.read_rows.new.site (c.in_ok-read.ensures.devices.sound _ never)) (row_in_list c.in_ok-read.read.rows)))

pub returns-in_err-check_rows-clause-one_copy : goal.returns-in_err-check_rows-clause-one_copy
returns-in_err-check_rows-clause-one_copy g c = λ tells loses paired.
    let p = err_from_is_err_and c.from_residual-in_err-check_rows.result c.from_residual-in_err-check_rows.ensures.1 in
    rw (p.1, p.2)
    (c.in_err-check_rows.ensures.works (rows_readable g.S.Site c.read_rows.new.site (reads_tracks g.S.Site c.read_rows.new.site (loses_on g.S.Site c.args.site.now c.read_rows.new.site c.in_ok-read.ensures.devices.sound loses)) (row_in_list c.in_ok-read.read.rows)))

pub returns-in_err-read-clause-works : goal.returns-in_err-read-clause-works
returns-in_err-read-clause-works g c = λ never.
    let p = err_from_is_err_and c.from_residual.result c.from_residual.ensures.1 in
    rw (p.1, p.2) (c.in_err-read.ensures.works (all_read_table g.S.Site c.args.site.now never))

pub returns-clause-works : goal.returns-clause-works
returns-clause-works g c = λ never. c.in_ok-read.ensures.works (all_read_table g.S.Site c.args.site.now never)

pub returns-in_err-read-clause-reads : goal.returns-in_err-read-clause-reads
returns-in_err-read-clause-reads g c = λ tells table shown.
    let p = err_from_is_err_and c.from_residual.result c.from_residual.ensures.1 in
    rw (p.1, p.2) (c.in_err-read.ensures.works table)

pub returns-in_err-check_rows-clause-reads : goal.returns-in_err-check_rows-clause-reads
returns-in_err-check_rows-clause-reads g c = λ tells table shown.
    let p = err_from_is_err_and c.from_residual-in_err-check_rows.result c.from_residual-in_err-check_rows.ensures.1 in
    let before = g.S.Site.faults c.args.site.now in
    let mid = g.S.Site.faults c.read_rows.new.site in
    let k = content (g.S.Site.told c.args.site.now) in
    let rows = c.in_ok-read.read.rows in
    let none : c.in_ok-read.read.unread ≡ None = c.in_ok-read.ensures.works table in
    let read = subst (λ (u : Option ℕ). AreRead before mid (serial_in c.as_slice.result.now) k rows u) none (c.in_ok-read.ensures.read tells) in
    let are : row_in_list rows ≡ rows_of k = rows_listed rows k c.look.ensures.places (rows_told before mid (serial_in c.as_slice.result.now) k rows read) in
    let later = rows_on g.S.Site c.args.site.now c.read_rows.new.site c.in_ok-read.ensures.devices.sound (rows_of k) shown in
    rw (p.1, p.2) (c.in_err-check_rows.ensures.works (subst (λ (x : RowsOf). CanReadRows g.S.Site c.read_rows.new.site x) (sym are) later))
