use Rattle.std.proofs.Common.{◌≡◌, length, Result, Err, ◌∙◌, sym, ap, subst, List}
use Rattle.std.proofs.lemmas.Result.{err_from_is_err_and}
use Rattle.std.specs.Prelude.{OnOk}
use Rattle.mss_base.specs.Configs.{ConfigData, VolumeData}
use Rattle.mss_base.specs.Content.{content}
use Rattle.shown_volumes.specs.declared.refused.Refused.{Refused}
use Rattle.shown_volumes.specs.Shown.{volumes_shown}
use Rattle.volume_table.specs.Listed.{row_in_list}
use Rattle.mss_restart.specs.declared.opening.Opened.{Opened}
use Rattle.mss_restart.specs.Opening.{AreOpened, opening_changes}
use Rattle.mss_restart.specs.Creations.{AreTold, ChangesWhole, CompletesWhole, OpensVolumes, account_of}
use Rattle.mss_restart.specs.Answers.{HasNoSteps, run_of, steps_of}
use Rattle.mss_restart.proofs.Creating.{AreRising}
use Rattle.mss_restart.proofs.Repaired.{step_on}
use Rattle.mss_restart.proofs.OtherRows.{others_then, none_of}
use Rattle.mss_restart.proofs.Finishing.{rewrites_complete, changes_complete, told_since}
use Rattle.mss_restart.proofs.Completed.{on_ok_too, no_front, then_opened, opened_since}
use Rattle.mss_restart.proofs.Settling.{rewritten_firm}
use Rattle.mss_restart.proofs.opening.complete_rows.Goals as goal

pub returns-in_err-rewrite_rows-clause-told : goal.returns-in_err-rewrite_rows-clause-told
returns-in_err-rewrite_rows-clause-told g c = λ tells.
    let p = err_from_is_err_and c.from_residual.result c.from_residual.ensures.1 in
    let volumes = c.args.config.now.volumes in
    let before = c.args.opened.now in
    let changes = opening_changes (row_in_list before.rows) volumes in
    let left : Opened = record before { used = c.rewrite_rows.new.used } in
    let old = g.S.Site.told c.args.site.now in
    let new = g.S.Site.told c.rewrite_rows.new.site in
    let rewrites = c.rewrite_rows.ensures.rewrites tells in
    subst (λ (r : Result (Unit {0}) Refused). OpensVolumes CompletesWhole (run_of volumes before left) old new r) (sym (p.1 ∙ ap Err p.2)) (record {
      moments = λ frames sound. no_front frames changes (volumes_shown (content old)) old new (rewrites.moments frames sound);
      others = none_of changes old new rewrites.others;
      opened = tt;
      complete = rewrites_complete (account_of (run_of volumes before left)) old new c.in_err-rewrite_rows.field-0.0 (c.in_err-rewrite_rows.ensures.rewrites tells).complete;
    })

pub change_volumes-requires-clause-none : goal.change_volumes-requires-clause-none
change_volumes-requires-clause-none g c =
    let same : c.as_slice.result.now ≡ c.args.config.now.volumes = c.as_slice.ensures ∙ ap (λ (x : ConfigData). x.volumes) c.config.view_is in
    let none = subst (λ (x : List VolumeData). HasNoSteps c.args.opened.now (length x)) (sym same) c.requires.none in
    record { no_creations = none.no_creations; no_marks = none.no_marks; creations_room = none.creations_room; marks_room = none.marks_room }

pub change_volumes-requires-clause-rising : goal.change_volumes-requires-clause-rising
change_volumes-requires-clause-rising g c = subst AreRising (sym c.as_slice.ensures) c.config.invariant.rising

pub change_volumes-requires-clause-known : goal.change_volumes-requires-clause-known
change_volumes-requires-clause-known g c = λ tells. (c.in_ok-rewrite_rows.ensures.rewrites tells).known_

pub change_volumes-requires-clause-renewed : goal.change_volumes-requires-clause-renewed
change_volumes-requires-clause-renewed g c = λ tells. (c.in_ok-rewrite_rows.ensures.rewrites tells).renewed

pub returns-clause-told : goal.returns-clause-told
returns-clause-told g c = λ tells.
    let volumes = c.args.config.now.volumes in
    let before = c.args.opened.now in
    let between : Opened = record before { used = c.rewrite_rows.new.used } in
    let left = c.change_volumes.new.opened in
    let changes = opening_changes (row_in_list before.rows) volumes in
    let r = c.change_volumes.result in
    let s = g.S.Site.told c.args.site.now in
    let mid = g.S.Site.told c.rewrite_rows.new.site in
    let t = g.S.Site.told c.change_volumes.new.site in
    let same : c.as_slice.result.now ≡ volumes = c.as_slice.ensures ∙ ap (λ (x : ConfigData). x.volumes) c.config.view_is in
    let opens = subst (λ (x : List VolumeData). OpensVolumes ChangesWhole (run_of x between left) mid t r) same (c.change_volumes.ensures.told tells) in
    let rewrites = c.in_ok-rewrite_rows.ensures.rewrites tells in
    let firm = rewritten_firm 32 32 s mid rewrites.complete in
    record {
      moments = then_opened s mid t changes firm rewrites.moments opens.moments;
      others = others_then changes s mid t firm (none_of changes s mid rewrites.others) opens.others;
      opened =
          on_ok_too (AreOpened changes (content mid) (content t) before.rows left.rows left.used.items) (AreOpened changes (content s) (content t) before.rows left.rows left.used.items)
          (opened_since s mid t changes firm rewrites.moments before.rows left.rows left.used.items) r opens.opened;
      complete = changes_complete (account_of (run_of volumes before left)) s mid t r rewrites.complete opens.complete;
    }

pub returns-clause-rows : goal.returns-clause-rows
returns-clause-rows g c =
    let volumes = c.args.config.now.volumes in
    let same : c.as_slice.result.now ≡ volumes = c.as_slice.ensures ∙ ap (λ (x : ConfigData). x.volumes) c.config.view_is in
    let start = row_in_list c.args.opened.now.rows in
    let last = row_in_list c.change_volumes.new.opened.rows in
    let steps = steps_of c.change_volumes.new.opened in
    let begun = g.S.Site.writes c.args.site.now in
    let mid = g.S.Site.writes c.rewrite_rows.new.site in
    let now = g.S.Site.writes c.change_volumes.new.site in
    let changes = opening_changes start volumes in
    on_ok_too (AreTold changes steps start last mid now) (AreTold changes steps start last begun now) (told_since changes steps start last begun mid now c.rewrite_rows.ensures.site_.devices.written) c.change_volumes.result
    (subst (λ (x : List VolumeData). OnOk c.change_volumes.result (AreTold (opening_changes start x) steps start last mid now)) same c.change_volumes.ensures.rows)

pub returns-clause-site_ : goal.returns-clause-site_
returns-clause-site_ g c =
    let first = c.in_ok-rewrite_rows.ensures.site_ in
    step_on g.S.Site c.args.site.now c.rewrite_rows.new.site c.change_volumes.new.site c.change_volumes.result first.devices first.stops c.change_volumes.ensures.site_
