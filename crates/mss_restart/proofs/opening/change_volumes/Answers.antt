use Rattle.std.proofs.Common.{◌∙◌, ◌++◌, List, sym, ap, subst, Result, Err}
use Rattle.std.specs.Prelude.{OnOk}
use Rattle.std.proofs.lemmas.Result.{err_from_is_err_and}
use Rattle.mss_base.specs.Content.{content}
use Rattle.volume_table.specs.Listed.{row_in_list}
use Rattle.shown_volumes.specs.declared.refused.Refused.{Refused}
use Rattle.mss_restart.specs.declared.opening.Opened.{Opened}
use Rattle.mss_restart.specs.Opening.{OpeningChange, AreOpened, to_make, to_mark}
use Rattle.mss_restart.specs.Creations.{AreTold, ChangesWhole, OpensVolumes}
use Rattle.mss_restart.specs.Answers.{run_of, steps_of}
use Rattle.mss_restart.proofs.OpenedRows.{creates_all, creates_marks, to_mark_same}
use Rattle.mss_restart.proofs.UsableFacts.{told_opens}
use Rattle.mss_restart.proofs.Settling.{written_firm}
use Rattle.mss_restart.proofs.Completed.{on_ok_too, told_append, moments_more, others_more, moments_behind, others_behind, opened_behind, changes_behind, changes_more}
use Rattle.mss_restart.proofs.opening.change_volumes.Goals as goal

pub returns-in_err-create_volumes-clause-told : goal.returns-in_err-create_volumes-clause-told
returns-in_err-create_volumes-clause-told g c = λ tells.
    let p = err_from_is_err_and c.from_residual.result c.from_residual.ensures.1 in
    let volumes = c.args.volumes.now in
    let before = c.args.opened.now in
    let start = row_in_list before.rows in
    let xs = to_make start volumes in
    let ys = to_mark start volumes in
    let s = g.S.Site.told c.args.site.now in
    let t = g.S.Site.told c.create_volumes.new.site in
    let first = c.create_volumes.ensures.told tells in
    let left : Opened = record { rows = c.create_volumes.new.rows; used = c.create_volumes.new.used; creations = c.create_volumes.new.creations; marks = before.marks } in
    subst (λ (r : Result (Unit {0}) Refused). OpensVolumes ChangesWhole (run_of volumes before left) s t r) (sym (p.1 ∙ ap Err p.2)) (record {
      moments = λ frames sound. moments_more frames xs ys s t (first.moments frames sound);
      others = others_more xs ys s t first.others;
      opened = tt;
      complete =
          changes_more xs ys left.creations.items (steps_of left) start (row_in_list left.rows) (row_in_list left.rows) s t c.in_err-create_volumes.field-0.0 (c.in_err-create_volumes.ensures.told tells).complete;
    })

pub mark_volumes-requires-clause-there : goal.mark_volumes-requires-clause-there
mark_volumes-requires-clause-there g c =
    let volumes = c.args.volumes.now in
    let start = row_in_list c.args.opened.now.rows in
    let last = row_in_list c.create_volumes.new.rows in
    creates_all volumes start last c.requires.rising
    (told_opens (to_make start volumes) c.create_volumes.new.creations.items start last (g.S.Site.writes c.args.site.now) (g.S.Site.writes c.create_volumes.new.site) c.in_ok-create_volumes.ensures.rows)

pub mark_volumes-requires-clause-renewed : goal.mark_volumes-requires-clause-renewed
mark_volumes-requires-clause-renewed g c = λ tells. (c.in_ok-create_volumes.ensures.told tells).opened.renewed

pub returns-clause-told : goal.returns-clause-told
returns-clause-told g c = λ tells.
    let volumes = c.args.volumes.now in
    let before = c.args.opened.now in
    let start = row_in_list before.rows in
    let between = c.create_volumes.new.rows in
    let rows = c.mark_volumes.new.rows in
    let used = c.mark_volumes.new.used.items in
    let a = c.create_volumes.new.creations.items in
    let b = c.mark_volumes.new.marks.items in
    let r = c.mark_volumes.result in
    let xs = to_make start volumes in
    let ys = to_mark start volumes in
    let s = g.S.Site.told c.args.site.now in
    let mid = g.S.Site.told c.create_volumes.new.site in
    let t = g.S.Site.told c.mark_volumes.new.site in
    let first = c.create_volumes.ensures.told tells in
    let made = c.in_ok-create_volumes.ensures.told tells in
    let same = to_mark_same (row_in_list between) start volumes (creates_marks volumes start (row_in_list between) c.requires.rising made.opened.opens) in
    let second = subst (λ (x : List OpeningChange). OpensVolumes ChangesWhole (record { changes = x; before = between; rows = rows; used = used; steps = b }) mid t r) same (c.mark_volumes.ensures.told tells) in
    let firm = written_firm xs a start (row_in_list between) s mid made.complete in
    let used_mid = c.create_volumes.new.used.items in
    record {
      moments = moments_behind xs ys s mid t before.rows between rows used_mid used firm made.opened first.moments second.moments;
      others = others_behind xs ys s mid t before.rows between rows used_mid used firm made.opened first.others second.others;
      opened =
          on_ok_too (AreOpened ys (content mid) (content t) between rows used) (AreOpened (xs ++ ys) (content s) (content t) before.rows rows used)
          (opened_behind xs ys s mid t before.rows between rows used_mid used firm made.opened) r second.opened;
      complete = changes_behind xs ys a b start (row_in_list between) (row_in_list rows) s mid t r made.complete second.complete;
    }

pub returns-clause-rows : goal.returns-clause-rows
returns-clause-rows g c =
    let volumes = c.args.volumes.now in
    let start = row_in_list c.args.opened.now.rows in
    let between = row_in_list c.create_volumes.new.rows in
    let last = row_in_list c.mark_volumes.new.rows in
    let a = c.create_volumes.new.creations.items in
    let b = c.mark_volumes.new.marks.items in
    let xs = to_make start volumes in
    let ys = to_mark start volumes in
    let begun = g.S.Site.writes c.args.site.now in
    let mid = g.S.Site.writes c.create_volumes.new.site in
    let now = g.S.Site.writes c.mark_volumes.new.site in
    let told = c.in_ok-create_volumes.ensures.rows in
    let same = to_mark_same between start volumes (creates_marks volumes start between c.requires.rising (told_opens xs a start between begun mid told)) in
    on_ok_too (AreTold ys b between last mid now) (AreTold (xs ++ ys) (a ++ b) start last begun now) (told_append xs ys a b start between last begun mid now told) c.mark_volumes.result
    (subst (λ (x : List OpeningChange). OnOk c.mark_volumes.result (AreTold x b between last mid now)) same c.mark_volumes.ensures.rows)
