use Rattle.std.proofs.Common.{◌≡◌, refl, sym, ◌∙◌, ap, subst, arith, rules, Ok, Err, List, Option, None, Result, ℕ, ◌+◌, set}
use Rattle.std.specs.Option.{option_or}
use Rattle.std.proofs.lemmas.Result.{err_from_is_err_and}
use Rattle.mss_base.specs.Content.{Content, content}
use Rattle.mss_base.specs.Configs.{serial_in}
use Rattle.volume_table.specs.Row.{RowValue}
use Rattle.table_pair.proofs.SiteLemmas.{reads_none, reads_then}
use Rattle.shown_volumes.specs.Faults.{serial_fault}
use Rattle.shown_volumes.specs.Sound.{HasSerialsAsked}
use Rattle.shown_volumes.specs.declared.refused.Refused.{Refused}
use Rattle.mss_restart.specs.declared.rows.RowsRead.{RowsRead}
use Rattle.volume_table.specs.Listed.{row_in_list}
use Rattle.mss_restart.specs.Survey.{ReadsRows, KeepsFirst, KeepsRows}
use Rattle.mss_restart.proofs.RowLemmas.{cause_since}
use Rattle.mss_restart.proofs.TrackReads.{table_on}
use Rattle.mss_restart.proofs.ReadRows.{SoFar, none_read, all_read, row_read, row_ends, rows_end, named, first_kept, serials_on, no_serials}
use Rattle.mss_restart.specs.OneCopy.{IsPaired}
use Rattle.mss_restart.proofs.OneTable.{loses_on}
use Rattle.mss_restart.proofs.rows.read_rows.Goals as goal

pub loop-number-init : goal.loop-number-init
loop-number-init g c = record {
  read = λ tells. none_read (g.S.Site.faults c.args.site.now) (serial_in c.args.volumes.now) (content (g.S.Site.told c.args.site.now)) _;
  serials = no_serials (serial_in c.args.volumes.now) c.in_ok-rows.rows c.in_ok-rows.ensures;
  counts = refl;
  works = λ never. refl;
  devices = reads_none g.S.Site c.args.site.now;
}

pub returns-in_err-read-clause-read : goal.returns-in_err-read-clause-read
returns-in_err-read-clause-read g c = λ tells.
    let p = err_from_is_err_and c.from_residual-in_err-read.result c.from_residual-in_err-read.ensures.1 in
    let known = c.loop-number.invariant in
    let begun = g.S.Site.faults c.args.site.now in
    let mid = g.S.Site.faults c.loop-number.site in
    let now = g.S.Site.faults c.read_volume.new.site in
    let n = c.loop-number.number in
    let asked = serial_in c.args.volumes.now in
    let k = content (g.S.Site.told c.args.site.now) in
    let e = c.in_err-read.field-0.0 in
    let one = named mid now c.volume_at-volume.result n c.serial_asked-asked.result (asked n) (content (g.S.Site.told c.loop-number.site)) k (Err e) c.volume_at-volume.ensures
    (c.serial_asked-asked.ensures ∙ ap asked c.volume_at-volume.ensures) (ap content (known.devices.log tells)) (c.in_err-read.ensures.read tells) in
    subst (λ (r : Result RowsRead Refused). ReadsRows begun now asked k r) (sym (p.1 ∙ ap Err p.2))
    (rows_end begun now asked k e
    (row_ends begun mid now n asked k c.loop-number.rows c.loop-number.unread (known.read tells) (omega (arith, c.loop-number-test.true)) (Err e) one e one.tells))

pub returns-in_err-read-clause-counts : goal.returns-in_err-read-clause-counts
returns-in_err-read-clause-counts g c =
    let p = err_from_is_err_and c.from_residual-in_err-read.result c.from_residual-in_err-read.ensures.1 in
    let begun = g.S.Site.faults c.args.site.now in
    let now = g.S.Site.faults c.read_volume.new.site in
    let e = c.in_err-read.field-0.0 in
    subst (λ (r : Result RowsRead Refused). KeepsRows begun now r) (sym (p.1 ∙ ap Err p.2))
    (cause_since begun (g.S.Site.faults c.loop-number.site) now e c.loop-number.invariant.devices.later c.in_err-read.ensures.counts)

pub loop-number-preserved : goal.loop-number-preserved
loop-number-preserved g c =
    let known = c.loop-number.invariant in
    let begun = g.S.Site.faults c.args.site.now in
    let mid = g.S.Site.faults c.loop-number.site in
    let now = g.S.Site.faults c.read_volume.new.site in
    let n = c.loop-number.number in
    let asked = serial_in c.args.volumes.now in
    let k = content (g.S.Site.told c.args.site.now) in
    let read = c.in_ok-read.read in
    let asked_is = c.serial_asked-asked.ensures ∙ ap asked c.volume_at-volume.ensures in
    let none : serial_fault n read.row (asked n) ≡ None = (λ i. serial_fault (sym c.volume_at-volume.ensures i) read.row (sym asked_is i)) ∙ c.in_ok-read.ensures.serial in
    let put : c.put.new.self ≡ set c.loop-number.rows n read.row = c.put.ensures.rows ∙ ap (λ (v : ℕ). set c.loop-number.rows v read.row) c.volume_at-volume.ensures in
    record {
      read = λ tells.
          let one = named mid now c.volume_at-volume.result n c.serial_asked-asked.result (asked n) (content (g.S.Site.told c.loop-number.site)) k (Ok read) c.volume_at-volume.ensures
          asked_is (ap content (known.devices.log tells)) (c.in_ok-read.ensures.read tells) in
          subst (λ (rows : List (Option RowValue)). SoFar begun now (n + 1) asked k rows c.or-unread.result) (sym put)
          (subst (λ (u : Option ℕ). SoFar begun now (n + 1) asked k (set c.loop-number.rows n read.row) u) (sym c.or-unread.ensures)
          (row_read begun mid now n asked k c.loop-number.rows c.loop-number.unread (known.read tells) (omega (arith, c.loop-number-test.true)) (Ok read) one read one.tells c.put.ensures.places c.in_ok-read.ensures.counts));
      serials = subst (λ (rows : List (Option RowValue)). HasSerialsAsked asked (row_in_list rows)) (sym put) (serials_on asked c.loop-number.rows n read.row c.put.ensures.places (omega (arith, c.loop-number-test.true)) known.serials none);
      counts = subst (λ (u : Option ℕ). KeepsFirst begun now u) (sym c.or-unread.ensures) (first_kept begun mid now c.loop-number.unread read.unread known.counts known.devices.later c.in_ok-read.ensures.devices.later c.in_ok-read.ensures.counts);
      works = λ never. c.or-unread.ensures ∙ (λ i. option_or (known.works never i) (c.in_ok-read.ensures.works (table_on g.S.Site c.args.site.now c.loop-number.site known.devices.sound never) i));
      devices = reads_then g.S.Site c.args.site.now c.loop-number.site c.read_volume.new.site known.devices c.in_ok-read.ensures.devices;
    }

pub returns-clause-read : goal.returns-clause-read
returns-clause-read g c = λ tells.
    let n : c.loop-number.number ≡ 32 = search rules in
    all_read (g.S.Site.faults c.args.site.now) (g.S.Site.faults c.loop-number.site) (serial_in c.args.volumes.now) (content (g.S.Site.told c.args.site.now)) c.loop-number.rows c.loop-number.unread
    (subst (λ (m : ℕ). SoFar (g.S.Site.faults c.args.site.now) (g.S.Site.faults c.loop-number.site) m (serial_in c.args.volumes.now) (content (g.S.Site.told c.args.site.now)) c.loop-number.rows c.loop-number.unread) n (c.loop-number.invariant.read tells))

pub returns-in_err-read-clause-one_copy : goal.returns-in_err-read-clause-one_copy
returns-in_err-read-clause-one_copy g c = λ tells loses paired.
    let p = err_from_is_err_and c.from_residual-in_err-read.result c.from_residual-in_err-read.ensures.1 in
    let known = c.loop-number.invariant in
    let k = content (g.S.Site.told c.args.site.now) in
    let here : IsPaired c.volume_at-volume.result (content (g.S.Site.told c.loop-number.site)) =
    subst (λ (q : ℕ × Content). IsPaired q.0 q.1) (λ i. (sym c.volume_at-volume.ensures i, content (sym (known.devices.log tells) i))) (paired c.loop-number.number (omega (arith, c.loop-number-test.true))) in
    rw (p.1, p.2) (c.in_err-read.ensures.one_copy tells (loses_on g.S.Site c.args.site.now c.loop-number.site known.devices.sound loses) here)
