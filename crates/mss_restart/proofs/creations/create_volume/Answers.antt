use Rattle.std.proofs.Common.{rules, [], ◌∷◌, ◌<◌, ◌∙◌, refl, sym, subst, Result}
use Rattle.std.proofs.lemmas.Result.{err_from_is_err_and}
use Rattle.mss_base.specs.Content.{SiteLog, Settles, content, Writes}
use Rattle.table_pair.specs.Pair.{ChangesRow, NoneOrNew}
use Rattle.table_pair.specs.Migrating.{AreNew}
use Rattle.table_pair.specs.Slots.{IsChanged, no_slots}
use Rattle.volume_table.specs.Listed.{row_in_list}
use Rattle.shown_volumes.specs.declared.refused.Refused.{Refused}
use Rattle.mss_restart.specs.Opening.{made}
use Rattle.mss_restart.specs.Creations.{DoesChange}
use Rattle.mss_restart.specs.declared.steps.OpeningStep.{OpeningStep}
use Rattle.mss_restart.proofs.CreatedFacts.{moments_of, created_of, makes_new, now_set, on_ok}
use Rattle.mss_restart.proofs.Counting.{new_row}
use Rattle.mss_restart.proofs.Creating.{none_made}
use Rattle.mss_restart.proofs.OtherRows.{made_others, nothing_else}
use Rattle.mss_restart.proofs.creations.create_volume.Goals as goal

pub returns-then-is_err-clause-does : goal.returns-then-is_err-clause-does
returns-then-is_err-clause-does g c = λ tells.
    let s = g.S.Site.told c.args.site.now in
    let t = g.S.Site.told c.create_row.new.site in
    let volume = c.args.volume in
    let row = c.in_ok-row.row in
    let w = subst (λ (x : SiteLog). Writes (ChangesRow volume (NoneOrNew volume row) (content x)) x t) (c.reserve.ensures.told tells) (c.create_row.ensures.moments tells) in
    record {
      moments = moments_of c.args.rows.now s t (c.requires.told tells) c.look.ensures.places volume c.lowest_free-first.result c.lowest_free-second.result c.args.serial row
          (let low : volume < 32 = search rules in low) c.requires.none c.lowest_free-first.ensures c.lowest_free-second.ensures c.in_ok-row.ensures w;
      others = made_others volume c.args.serial (NoneOrNew volume row) s t w;
      done_ = tt;
      complete = tt;
    }

pub returns-clause-does : goal.returns-clause-does
returns-clause-does g c = λ tells.
    let s = g.S.Site.told c.args.site.now in
    let t = g.S.Site.told c.create_row.new.site in
    let before = c.args.rows.now in
    let volume = c.args.volume in
    let row = c.in_ok-row.row in
    let low : volume < 32 = search rules in
    let w = subst (λ (x : SiteLog). Writes (ChangesRow volume (NoneOrNew volume row) (content x)) x t) (c.reserve.ensures.told tells) (c.create_row.ensures.moments tells) in
    let changed = on_ok (IsChanged row no_slots volume (g.S.Site.told c.reserve.new.self) t) c.create_row.result (sym c.is_err.ensures.value ∙ c.if-is_err.false) (c.create_row.ensures.done tells) in
    let new = on_ok (AreNew volume (content t)) c.create_row.result (sym c.is_err.ensures.value ∙ c.if-is_err.false) (c.create_row.ensures.new tells) in
    let done = created_of before s t (c.requires.told tells) c.look.ensures.places volume c.lowest_free-first.result c.lowest_free-second.result c.args.serial row
    low c.requires.none c.lowest_free-first.ensures c.lowest_free-second.ensures c.in_ok-row.ensures w changed.holds changed.slots_ new c.put.new.self c.put.ensures.rows in
    record {
      moments = moments_of before s t (c.requires.told tells) c.look.ensures.places volume c.lowest_free-first.result c.lowest_free-second.result c.args.serial row
          low c.requires.none c.lowest_free-first.ensures c.lowest_free-second.ensures c.in_ok-row.ensures w;
      others = made_others volume c.args.serial (NoneOrNew volume row) s t w;
      done_ = done;
      complete = record {
        row = row;
        is_row = new_row (row_in_list before) c.lowest_free-first.result c.lowest_free-second.result c.args.serial row c.lowest_free-first.ensures c.lowest_free-second.ensures c.in_ok-row.ensures;
        now = now_set before c.put.new.self volume row c.look.ensures.places low c.put.ensures.rows;
        moments = w;
        held = changed.holds;
        firm = subst (λ (x : SiteLog). Settles x t) (c.reserve.ensures.told tells) changed.firm;
        tells = record { volume_ = refl; change_ = search rules };
        count = c.writes.ensures ∙ g.met.S.Site.counted c.create_row.new.site tells;
      };
    }

pub returns-clause-row : goal.returns-clause-row
returns-clause-row g c =
    let before = c.args.rows.now in
    makes_new before c.put.new.self c.args.volume c.args.serial c.in_ok-row.row _ _ c.look.ensures.places (let low : c.args.volume < 32 = search rules in low)
    (new_row (row_in_list before) c.lowest_free-first.result c.lowest_free-second.result c.args.serial c.in_ok-row.row c.lowest_free-first.ensures c.lowest_free-second.ensures c.in_ok-row.ensures)
    c.put.ensures.rows refl (search rules) c.writes.ensures

pub returns-in_err-row-clause-does : goal.returns-in_err-row-clause-does
returns-in_err-row-clause-does g c = λ tells.
    let p = err_from_is_err_and c.from_residual.result c.from_residual.ensures.1 in
    let change = made c.args.volume c.args.serial in
    let s = g.S.Site.told c.args.site.now in
    subst (λ (r : Result OpeningStep Refused). DoesChange change c.args.rows.now c.args.rows.now s s r) (sym p.1) (record {
      moments = λ frames sound. none_made frames change s s refl sound;
      others = nothing_else (change ∷ []) s s refl;
      done_ = tt;
      complete = tt;
    })

pub returns-in_err-reserve-clause-does : goal.returns-in_err-reserve-clause-does
returns-in_err-reserve-clause-does g c = λ tells.
    let p = err_from_is_err_and c.from_residual-in_err-reserve.result c.from_residual-in_err-reserve.ensures.1 in
    let change = made c.args.volume c.args.serial in
    let s = g.S.Site.told c.args.site.now in
    let t = g.S.Site.told c.reserve.new.self in
    let same = c.reserve.ensures.told tells in
    subst (λ (r : Result OpeningStep Refused). DoesChange change c.args.rows.now c.args.rows.now s t r) (sym p.1) (record {
      moments = λ frames sound. none_made frames change s t same sound;
      others = nothing_else (change ∷ []) s t same;
      done_ = tt;
      complete = tt;
    })
