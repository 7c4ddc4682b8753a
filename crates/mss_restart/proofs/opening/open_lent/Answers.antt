use Rattle.std.proofs.Common.{inr, Result, Err, [], refl, sym, ◌∙◌, ap, subst}
use Rattle.std.proofs.lemmas.Result.{err_from_is_err_and}
use Rattle.shown_volumes.specs.declared.refused.Refused.{Refused}
use Rattle.shown_volumes.specs.Shown.{rows_of}
use Rattle.mss_restart.specs.declared.opening.Opened.{Opened}
use Rattle.volume_table.specs.Listed.{row_in_list}
use Rattle.mss_restart.specs.Answers.{Opens, OpensWhole, account_from, steps_of}
use Rattle.mss_restart.proofs.KnownRows.{rows_listed}
use Rattle.mss_restart.proofs.Repaired.{stop_since}
use Rattle.mss_restart.proofs.UsableFacts.{usable_for, told_opens}
use Rattle.mss_restart.proofs.Finishing.{none_complete, stop_refuses, refusal_complete, answer_complete}
use Rattle.mss_base.specs.Configs.{ConfigData, IsConfig}
use Rattle.mss_base.specs.Content.{SiteLog, content}
use Rattle.mss_restart.specs.Opening.{AreOpened, opening_changes}
use Rattle.mss_restart.proofs.Creating.{AreRising, none_shown}
use Rattle.mss_restart.proofs.Completed.{moments_at, others_at, opened}
use Rattle.mss_restart.proofs.OtherRows.{nothing_else}
use Rattle.mss_restart.proofs.opening.open_lent.Goals as goal

pub returns-clause-opens : goal.returns-clause-opens
returns-clause-opens g c = λ tells.
    let now = content (g.S.Site.told c.complete_rows.new.site) in
    let before = c.in_ok-rows.rows in
    let after = c.complete_rows.new.opened.rows in
    let used = c.complete_rows.new.opened.used.items in
    let changes = opening_changes (row_in_list before) c.args.config.now.volumes in
    opened c.args.config.now (content (g.S.Site.told c.args.site.now)) now before after used (subst (λ (x : ConfigData). AreRising x.volumes) c.config.view_is c.config.invariant.rising) c.look.ensures.places
    (c.in_ok-rows.ensures.known tells) (c.in_ok-rows.ensures.faultless tells) c.look-2.ensures.places
    (subst (λ (x : SiteLog). AreOpened changes (content x) now before after used) (c.known_rows.ensures.devices.log tells) (c.in_ok-complete_rows.ensures.told tells).opened)

pub returns-in_err-room-clause-leaves : goal.returns-in_err-room-clause-leaves
returns-in_err-room-clause-leaves g c = λ tells.
    let p = err_from_is_err_and c.from_residual.result c.from_residual.ensures.1 in
    let s = g.S.Site.told c.args.site.now in
    record {
      moments = λ frames sound. none_shown frames (opening_changes (rows_of (content s)) c.args.config.now.volumes) _ _ refl sound;
      others = nothing_else (opening_changes (rows_of (content s)) c.args.config.now.volumes) s s refl;
      complete = subst (λ (r : Result Opened Refused). OpensWhole c.args.config.now s s r) (sym p.1) (none_complete (account_from c.args.config.now s s []) s s p.0 refl);
    }

pub returns-in_err-rows-clause-leaves : goal.returns-in_err-rows-clause-leaves
returns-in_err-rows-clause-leaves g c = λ tells.
    let p = err_from_is_err_and c.from_residual-in_err-rows.result c.from_residual-in_err-rows.ensures.1 in
    let s = g.S.Site.told c.args.site.now in
    let new = g.S.Site.told c.known_rows.new.site in
    let same = c.known_rows.ensures.devices.log tells in
    record {
      moments = λ frames sound. none_shown frames (opening_changes (rows_of (content s)) c.args.config.now.volumes) _ _ same sound;
      others = nothing_else (opening_changes (rows_of (content s)) c.args.config.now.volumes) s new same;
      complete = subst (λ (r : Result Opened Refused). OpensWhole c.args.config.now s new r) (sym p.1) (none_complete (account_from c.args.config.now s new []) s new p.0 same);
    }

pub returns-in_err-complete_rows-clause-opens : goal.returns-in_err-complete_rows-clause-opens
returns-in_err-complete_rows-clause-opens g c = λ tells.
    let p = err_from_is_err_and c.from_residual-in_err-complete_rows.result c.from_residual-in_err-complete_rows.ensures.1 in
    let s = g.S.Site.told c.args.site.now in
    let now = g.S.Site.told c.complete_rows.new.site in
    let before = g.S.Site.faults c.args.site.now in
    let after = g.S.Site.faults c.complete_rows.new.site in
    subst (λ (r : Result Opened Refused). Opens before after c.args.config.now s now r) (sym (p.1 ∙ ap Err p.2))
    (stop_refuses before after c.args.config.now s now c.in_ok-rows.rows c.in_err-complete_rows.field-0.0 (c.in_ok-rows.ensures.known tells) (c.in_ok-rows.ensures.faultless tells)
    (stop_since before (g.S.Site.faults c.known_rows.new.site) after c.in_err-complete_rows.field-0.0 c.in_ok-rows.ensures.kept c.in_err-complete_rows.ensures.site_.stops))

pub returns-in_err-complete_rows-clause-leaves : goal.returns-in_err-complete_rows-clause-leaves
returns-in_err-complete_rows-clause-leaves g c = λ tells.
    let p = err_from_is_err_and c.from_residual-in_err-complete_rows.result c.from_residual-in_err-complete_rows.ensures.1 in
    let s = g.S.Site.told c.args.site.now in
    let mid = g.S.Site.told c.known_rows.new.site in
    let now = g.S.Site.told c.complete_rows.new.site in
    let rows = c.in_ok-rows.rows in
    let volumes = c.args.config.now.volumes in
    let same = c.known_rows.ensures.devices.log tells in
    let places = c.look.ensures.places in
    let known = c.in_ok-rows.ensures.known tells in
    record {
      moments = moments_at s mid now rows volumes same places known (c.complete_rows.ensures.told tells).moments;
      others = others_at s mid now rows volumes same places known (c.complete_rows.ensures.told tells).others;
      complete =
          subst (λ (r : Result Opened Refused). OpensWhole c.args.config.now s now r) (sym (p.1 ∙ ap Err p.2))
          (refusal_complete c.args.config.now (steps_of c.complete_rows.new.opened) (row_in_list rows) (row_in_list c.complete_rows.new.opened.rows) s mid now c.in_err-complete_rows.field-0.0 same
          (rows_listed rows (content s) places known) (c.in_err-complete_rows.ensures.told tells).complete);
    }

pub returns-clause-leaves : goal.returns-clause-leaves
returns-clause-leaves g c = λ tells.
    let s = g.S.Site.told c.args.site.now in
    let mid = g.S.Site.told c.known_rows.new.site in
    let now = g.S.Site.told c.complete_rows.new.site in
    let rows = c.in_ok-rows.rows in
    let after = c.complete_rows.new.opened.rows in
    let volumes = c.args.config.now.volumes in
    let same = c.known_rows.ensures.devices.log tells in
    let places = c.look.ensures.places in
    let known = c.in_ok-rows.ensures.known tells in
    record {
      moments = moments_at s mid now rows volumes same places known (c.complete_rows.ensures.told tells).moments;
      others = others_at s mid now rows volumes same places known (c.complete_rows.ensures.told tells).others;
      complete =
          answer_complete c.args.config.now (steps_of c.complete_rows.new.opened) (row_in_list rows) (row_in_list after) s mid now same
          (rows_listed rows (content s) places known) (rows_listed after (content now) c.look-2.ensures.places (c.in_ok-complete_rows.ensures.told tells).opened.known.told)
          (c.in_ok-complete_rows.ensures.told tells).complete;
    }

pub returns-in_err-complete_rows-clause-untouched : goal.returns-in_err-complete_rows-clause-untouched
returns-in_err-complete_rows-clause-untouched g c = λ tells. inr (c.in_ok-rows.ensures.faultless tells)

pub returns-clause-untouched : goal.returns-clause-untouched
returns-clause-untouched g c = λ tells. inr (c.in_ok-rows.ensures.faultless tells)

pub returns-clause-usable : goal.returns-clause-usable
returns-clause-usable g c = record {
  rows_ = usable_for c.args.config.now c.in_ok-rows.rows c.complete_rows.new.opened.rows (subst IsConfig c.config.view_is c.config.invariant) c.look.ensures.places c.in_ok-rows.ensures.usable
      (told_opens _ _ _ _ _ _ c.in_ok-complete_rows.ensures.rows);
  used_ = c.complete_rows.ensures.places;
}
