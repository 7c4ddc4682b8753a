use Rattle.std.proofs.Common.{rules, ◌≡◌, ◌∙◌, refl, sym, Err, Result, ap, subst, arith, ◌+◌, List, [], ◌∷◌, drop, not, Option}
use Rattle.std.specs.Prelude.{is_some}
use Rattle.std.proofs.Math.ListN.{drop_of_length-le}
use Rattle.std.proofs.lemmas.Bool.{cond-true, cond-false}
use Rattle.std.proofs.lemmas.Result.{err_from_is_err_and}
use Rattle.mss_base.specs.Configs.{VolumeData}
use Rattle.volume_table.specs.Row.{RowValue}
use Rattle.volume_table.specs.Listed.{row_in_list}
use Rattle.shown_volumes.specs.declared.refused.Refused.{Refused}
use Rattle.shown_volumes.specs.Shown.{RowsOf}
use Rattle.mss_restart.specs.Opening.{made, to_make}
use Rattle.mss_restart.specs.Creations.{OpeningRun, OpensVolumes, ChangesWhole, StepsOn}
use Rattle.mss_restart.proofs.Creating.{AreRising, nothing_opened, rest_is, rising_first, opening_as, to_make_past, moments_on, others_on, opened_too, all_opened}
use Rattle.mss_restart.proofs.Counting.{none_coming, none_logged, coming_as, coming_on, logged_as, logged_on, all_come, all_logged, memory_changes}
use Rattle.mss_restart.proofs.Repaired.{nothing_written, written_on, step_fails}
use Rattle.mss_restart.proofs.creations.create_volumes.Goals as goal
use Rattle.mss_restart.proofs.creations.create_volumes.Goals.{then-missing+in_ok-create_volume, else-missing}

pub loop-entry-init : goal.loop-entry-init
loop-entry-init g c =
    let start = row_in_list c.args.rows.now in
    let all = to_make start c.args.volumes.now in
    record {
      opening = λ tells. nothing_opened all (g.S.Site.told c.args.site.now) c.args.rows.now c.args.used.now.items (c.requires.known tells) (c.requires.renewed tells);
      places = c.requires.places;
      rising = c.requires.rising;
      coming = none_coming all start (g.S.Site.writes c.args.site.now) c.args.creations.now.items c.requires.none;
      logged = λ tells. none_logged all start (g.S.Site.told c.args.site.now) c.args.creations.now.items c.requires.none;
      room = omega (arith, c.requires.room);
      count = refl;
      devices = nothing_written g.S.Site c.args.site.now;
    }

pub returns-in_err-create_volume-clause-told : goal.returns-in_err-create_volume-clause-told
returns-in_err-create_volume-clause-told g c = λ tells.
    let p = err_from_is_err_and c.from_residual.result c.from_residual.ensures.1 in
    let volumes = c.args.volumes.now in
    let start = row_in_list c.args.rows.now in
    let all = to_make start volumes in
    let begun = g.S.Site.told c.args.site.now in
    let mid = g.S.Site.told c.loop-entry.site in
    let now = g.S.Site.told c.create_volume.new.site in
    let rows = c.loop-entry.rows in
    let used = c.loop-entry.used.items in
    let steps = c.loop-entry.creations.items in
    let run : OpeningRun = record { changes = all; before = c.args.rows.now; rows = c.create_volume.new.rows; used = c.loop-entry.used.items; steps = steps } in
    let behind : List VolumeData = drop (c.loop-entry.entry-index + 1) volumes in
    let v : VolumeData = c.entry-item.result in
    let known = c.loop-entry.invariant in
    let rest = rest_is volumes c.loop-entry.entry-index v (omega (arith, c.loop-entry-test.true)) c.entry-item.is in
    let fresh = (ap (λ (o : Option RowValue). is_some o) (sym c.row.ensures) ∙ c.is_none-missing.ensures ∙ ap not c.if-missing.true) in
    let change = made v.0 v.1 in
    let next : to_make (row_in_list rows) (drop c.loop-entry.entry-index volumes) ≡ change ∷ to_make (row_in_list rows) behind = ap (to_make (row_in_list rows)) rest ∙ cond-false _ _ _ fresh in
    let opening = opening_as (known.opening tells) next in
    let does = c.create_volume.ensures.does tells in
    subst (λ (r : Result (Unit {0}) Refused). OpensVolumes ChangesWhole run begun now r) (sym (p.1 ∙ ap Err p.2)) (record {
      moments = moments_on all start begun mid rows used change (to_make (row_in_list rows) behind) opening now does.moments;
      others = others_on all start begun mid rows used change (to_make (row_in_list rows) behind) opening now does.others;
      opened = tt;
      complete =
          memory_changes all start (row_in_list rows) (row_in_list c.create_volume.new.rows) begun mid now steps steps (to_make (row_in_list rows) (drop c.loop-entry.entry-index volumes)) c.in_err-create_volume.field-0.0
          (known.logged tells) (λ is. (c.in_err-create_volume.ensures.memory (ap Err is)).log tells);
    })

pub loop-entry-preserved : goal.loop-entry-preserved
loop-entry-preserved g c =
    let volumes = c.args.volumes.now in
    let start = row_in_list c.args.rows.now in
    let all = to_make start volumes in
    let begun = g.S.Site.told c.args.site.now in
    let mid = g.S.Site.told c.loop-entry.site in
    let rows = c.loop-entry.rows in
    let used = c.loop-entry.used.items in
    let behind : List VolumeData = drop (c.loop-entry.entry-index + 1) volumes in
    let v : VolumeData = c.entry-item.result in
    let known = c.loop-entry.invariant in
    let rest = rest_is volumes c.loop-entry.entry-index v (omega (arith, c.loop-entry-test.true)) c.entry-item.is in
    let rising = rising_first v behind (subst AreRising rest known.rising) in
    let change = made v.0 v.1 in
    elim c.if-missing.branch [
      | then-missing+in_ok-create_volume w ↦ rw (w.site-is, w.rows-is, w.used-is, w.creations-is) (
          let one = w.in_ok-create_volume.ensures.row in
          let fresh = (ap (λ (o : Option RowValue). is_some o) (sym c.row.ensures) ∙ c.is_none-missing.ensures ∙ ap not w.if-missing.true) in
          let next : to_make (row_in_list rows) (drop c.loop-entry.entry-index volumes) ≡ change ∷ to_make (row_in_list rows) behind = ap (to_make (row_in_list rows)) rest ∙ cond-false _ _ _ fresh in
          let after : to_make (row_in_list rows) behind ≡ to_make (row_in_list w.create_volume.new.rows) behind =
          sym (ap (λ (r : RowsOf). to_make r behind) one.now ∙ to_make_past v.0 one.row (row_in_list rows) behind rising.0) in
          record {
            opening = λ tells.
                let does = w.create_volume.ensures.does tells in
                opening_as (opened_too all start begun mid rows used change (to_make (row_in_list rows) behind) (opening_as (known.opening tells) next) (g.S.Site.told w.create_volume.new.site) does.moments
                does.others (w.in_ok-create_volume.ensures.does tells).complete.firm w.create_volume.new.rows w.put_none.new.used.items (w.in_ok-create_volume.ensures.does tells).done_ known.places w.put_none.ensures) after;
            coming =
                coming_as (coming_on all start (row_in_list rows) c.loop-entry.creations.items change (to_make (row_in_list rows) behind) (g.S.Site.writes c.args.site.now) (g.S.Site.writes c.loop-entry.site) (coming_as known.coming next)
                (row_in_list w.create_volume.new.rows) w.push.new.self.items (g.S.Site.writes w.create_volume.new.site) w.in_ok-create_volume.field-0 w.push.ensures.items one w.create_volume.ensures.site_.devices.written) after;
            logged = λ tells.
                logged_as (logged_on all start (row_in_list rows) c.loop-entry.creations.items change (to_make (row_in_list rows) behind) begun mid (logged_as (known.logged tells) next)
                (row_in_list w.create_volume.new.rows) w.push.new.self.items (g.S.Site.told w.create_volume.new.site) w.in_ok-create_volume.field-0 w.push.ensures.items (w.in_ok-create_volume.ensures.does tells).complete) after;
            places = search rules;
            rising = rising.1;
            room = omega (arith, known.room, w.push.ensures.spare);
            count = w.in_ok-create_volume.ensures.site_.stops ∙ known.count;
            devices = written_on g.S.Site c.args.site.now c.loop-entry.site w.create_volume.new.site known.devices w.create_volume.ensures.site_.devices;
          })
      | else-missing w ↦ rw (w.site-is, w.rows-is, w.used-is, w.creations-is) (
          let has = (ap (λ (o : Option RowValue). is_some o) (sym c.row.ensures) ∙ c.is_none-missing.ensures ∙ ap not w.if-missing.false) in
          let next : to_make (row_in_list rows) (drop c.loop-entry.entry-index volumes) ≡ to_make (row_in_list rows) behind = ap (to_make (row_in_list rows)) rest ∙ cond-true _ _ _ has in
          record {
            opening = λ tells. opening_as (known.opening tells) next;
            coming = coming_as known.coming next;
            logged = λ tells. logged_as (known.logged tells) next;
            places = known.places;
            rising = rising.1;
            room = omega (arith, known.room);
            count = known.count;
            devices = known.devices;
          })
    ]

pub returns-in_err-create_volume-clause-site_ : goal.returns-in_err-create_volume-clause-site_
returns-in_err-create_volume-clause-site_ g c =
    let p = err_from_is_err_and c.from_residual.result c.from_residual.ensures.1 in
    subst (λ (r : Result (Unit {0}) Refused). StepsOn g.S.Site c.args.site.now c.create_volume.new.site r) (sym (p.1 ∙ ap Err p.2))
    (step_fails g.S.Site c.args.site.now c.loop-entry.site c.create_volume.new.site c.in_err-create_volume.field-0.0 c.loop-entry.invariant.devices c.loop-entry.invariant.count c.in_err-create_volume.ensures.site_)

pub returns-clause-told : goal.returns-clause-told
returns-clause-told g c = λ tells.
    let start = row_in_list c.args.rows.now in
    let all = to_make start c.args.volumes.now in
    let rows = c.loop-entry.rows in
    let none : drop c.loop-entry.entry-index c.args.volumes.now ≡ [] = drop_of_length-le c.args.volumes.now {i = c.loop-entry.entry-index} (omega (arith, c.loop-entry-test.false)) in
    let ended = ap (to_make (row_in_list rows)) none in
    let begun = g.S.Site.told c.args.site.now in
    let now = g.S.Site.told c.loop-entry.site in
    let known = c.loop-entry.invariant in
    record {
      moments = (known.opening tells).moments;
      others = (known.opening tells).others;
      opened = all_opened all begun now c.args.rows.now rows c.loop-entry.used.items (opening_as (known.opening tells) ended);
      complete = all_logged all start (row_in_list rows) begun now c.loop-entry.creations.items (logged_as (known.logged tells) ended);
    }

pub returns-clause-rows : goal.returns-clause-rows
returns-clause-rows g c =
    let start = row_in_list c.args.rows.now in
    let rows = row_in_list c.loop-entry.rows in
    let none : drop c.loop-entry.entry-index c.args.volumes.now ≡ [] = drop_of_length-le c.args.volumes.now {i = c.loop-entry.entry-index} (omega (arith, c.loop-entry-test.false)) in
    all_come (to_make start c.args.volumes.now) start rows (g.S.Site.writes c.args.site.now) (g.S.Site.writes c.loop-entry.site) c.loop-entry.creations.items (coming_as c.loop-entry.invariant.coming (ap (to_make rows) none))

pub returns-clause-site_ : goal.returns-clause-site_
returns-clause-site_ g c = record { devices = c.loop-entry.invariant.devices; stops = c.loop-entry.invariant.count; works = λ never. tt }
