use Rattle.std.proofs.Common.{rules, ◌≡◌, ◌<◌, ◌∙◌, [], ◌∷◌, refl, sym, ap, subst, Option, Some, Result, set, get_or}
use Rattle.std.proofs.lemmas.Result.{err_from_is_err_and}
use Rattle.std.specs.Option.{option_map}
use Rattle.mss_base.specs.Content.{SiteLog, content, Writes}
use Rattle.table_pair.specs.Pair.{ChangesRow, OldOrNew}
use Rattle.table_pair.specs.Repairs.{KeepsMarks}
use Rattle.table_pair.specs.declared.copy.SlotsUsed.{SlotsUsed}
use Rattle.table_pair.specs.Migrating.{AreNew}
use Rattle.table_pair.specs.Slots.{IsChanged, no_slots, used_after, used_at}
use Rattle.volume_table.specs.Row.{RowValue}
use Rattle.volume_table.specs.Changes.{effect, with_mark}
use Rattle.volume_table.specs.declared.changes.Change.TheVariants.{Protect}
use Rattle.shown_volumes.specs.declared.refused.Refused.{Refused}
use Rattle.mss_restart.specs.Opening.{marked}
use Rattle.mss_restart.specs.Creations.{DoesChange}
use Rattle.mss_restart.specs.declared.steps.OpeningStep.{OpeningStep}
use Rattle.mss_restart.proofs.CreatedFacts.{now_set}
use Rattle.mss_restart.proofs.MarkedFacts.{moments_of, marked_of, marking_due}
use Rattle.mss_restart.proofs.Creating.{none_made}
use Rattle.mss_restart.proofs.OtherRows.{marked_others, nothing_else}
use Rattle.mss_restart.proofs.marks.mark_volume.Goals as goal

pub returns-in_err-reserve-clause-does : goal.returns-in_err-reserve-clause-does
returns-in_err-reserve-clause-does g c = λ tells.
    let p = err_from_is_err_and c.from_residual.result c.from_residual.ensures.1 in
    let change = marked c.args.volume c.args.on in
    let s = g.S.Site.told c.args.site.now in
    let t = g.S.Site.told c.reserve.new.self in
    let same = c.reserve.ensures.told tells in
    subst (λ (r : Result OpeningStep Refused). DoesChange change c.args.rows.now c.args.rows.now s t r) (sym p.1) (record {
      moments = λ frames sound. none_made frames change s t same sound;
      others = nothing_else (change ∷ []) s t same;
      done_ = tt;
      complete = tt;
    })

pub returns-in_default-change_row-clause-does : goal.returns-in_default-change_row-clause-does
returns-in_default-change_row-clause-does g c = λ tells.
    let s = g.S.Site.told c.args.site.now in
    let t = g.S.Site.told c.change_row.new.site in
    let volume = c.args.volume in
    let on = c.args.on in
    let there = c.requires.there in
    let o : ◌≡◌ {A = Option RowValue} (Some c.in-Some.row) (Some (with_mark on there.0)) = sym c.in-Some.is ∙ c.row.ensures ∙ c.change.ensures.row ∙ ap (option_map (effect (Protect on))) there.1 in
    let row : c.in-Some.row ≡ with_mark on there.0 = cc in
    let w = subst (λ (x : SiteLog × RowValue). Writes (ChangesRow volume (OldOrNew volume x.1 (content x.0)) (content x.0)) x.0 t) (λ i. (c.reserve.ensures.told tells i, row i)) (c.change_row.ensures.moments tells) in
    record {
      moments = moments_of c.args.rows.now c.args.used.now.items s t (c.requires.known tells) c.look.ensures.places volume on there.0 (let low : volume < 32 = search rules in low) there.1 w;
      others = marked_others volume on (OldOrNew volume (with_mark on there.0) (content s)) s t w
          (subst (λ (x : SiteLog). Writes (KeepsMarks volume (content x)) x t) (c.reserve.ensures.told tells) (c.change_row.ensures.marks tells));
      done_ = tt;
      complete = tt;
    }

pub returns-clause-does : goal.returns-clause-does
returns-clause-does g c = λ tells.
    let s = g.S.Site.told c.args.site.now in
    let mid = g.S.Site.told c.reserve.new.self in
    let t = g.S.Site.told c.change_row.new.site in
    let before = c.args.rows.now in
    let volume = c.args.volume in
    let on = c.args.on in
    let there = c.requires.there in
    let low : volume < 32 = search rules in
    let o : ◌≡◌ {A = Option RowValue} (Some c.in-Some.row) (Some (with_mark on there.0)) = sym c.in-Some.is ∙ c.row.ensures ∙ c.change.ensures.row ∙ ap (option_map (effect (Protect on))) there.1 in
    let row : c.in-Some.row ≡ with_mark on there.0 = cc in
    let w = subst (λ (x : SiteLog × RowValue). Writes (ChangesRow volume (OldOrNew volume x.1 (content x.0)) (content x.0)) x.0 t) (λ i. (c.reserve.ensures.told tells i, row i)) (c.change_row.ensures.moments tells) in
    let set_is : c.change.new.self ≡ set before volume (Some (with_mark on there.0)) =
    c.change.ensures.rows ∙ ap (λ (x : Option RowValue). set before volume (option_map (effect (Protect on)) x)) there.1 in
    let slots : get_or c.as_slice.result.now c.from-at.result no_slots ≡ used_at c.args.used.now.items volume = λ i. get_or (c.as_slice.ensures i) ((c.from-at.ensures ∙ c.get.ensures.value) i) no_slots in
    let changed = subst (λ (x : SiteLog × (RowValue × SlotsUsed)). IsChanged x.1.0 (used_after x.1.1) volume x.0 t) (λ i. (c.reserve.ensures.told tells i, (row i, slots i))) (c.in-Ok.ensures.done tells) in
    let stays_new = subst (λ (x : SiteLog). AreNew volume (content x) → AreNew volume (content t)) (c.reserve.ensures.told tells) (c.in-Ok.ensures.new tells) in
    record {
      moments = moments_of before c.args.used.now.items s t (c.requires.known tells) c.look.ensures.places volume on there.0 low there.1 w;
      others = marked_others volume on (OldOrNew volume (with_mark on there.0) (content s)) s t w
          (subst (λ (x : SiteLog). Writes (KeepsMarks volume (content x)) x t) (c.reserve.ensures.told tells) (c.change_row.ensures.marks tells));
      done_ = marked_of before c.args.used.now.items s t (c.requires.known tells) c.look.ensures.places volume on there.0 low there.1 w there.2 changed.holds changed.slots_ stays_new c.change.new.self set_is;
      complete = record {
        row = with_mark on there.0;
        is_row = record { old = there.0; there = there.1; other = there.2; becomes = (λ i. with_mark on there.0) };
        now = now_set before c.change.new.self volume (with_mark on there.0) c.look.ensures.places low set_is;
        moments = w;
        held = changed.holds;
        firm = changed.firm;
        tells = record { volume_ = refl; change_ = refl };
        count = c.writes.ensures ∙ g.met.S.Site.counted c.change_row.new.site tells;
      };
    }

pub change-requires : goal.change-requires
change-requires g c = c.requires.there

pub change_row-requires-clause-due : goal.change_row-requires-clause-due
change_row-requires-clause-due g c = λ tells.
    let on = c.args.on in
    let there = c.requires.there in
    let o : ◌≡◌ {A = Option RowValue} (Some c.in-Some.row) (Some (with_mark on there.0)) = sym c.in-Some.is ∙ c.row.ensures ∙ c.change.ensures.row ∙ ap (option_map (effect (Protect on))) there.1 in
    let row : c.in-Some.row ≡ with_mark on there.0 = cc in
    marking_due c.args.rows.now c.args.used.now.items _ _ (c.reserve.ensures.told tells) (c.requires.known tells) c.args.volume on there.0 _ _ (let low : c.args.volume < 32 = search rules in low) there.1 there.2 row
    (λ i. get_or (c.as_slice.ensures i) ((c.from-at.ensures ∙ c.get.ensures.value) i) no_slots)

pub returns-clause-row : goal.returns-clause-row
returns-clause-row g c =
    let before = c.args.rows.now in
    let volume = c.args.volume in
    let on = c.args.on in
    let there = c.requires.there in
    let low : volume < 32 = search rules in
    record {
      row = with_mark on there.0;
      is_row = record { old = there.0; there = there.1; other = there.2; becomes = refl };
      now = now_set before c.change.new.self volume (with_mark on there.0) c.look.ensures.places low
          (c.change.ensures.rows ∙ ap (λ (x : Option RowValue). set before volume (option_map (effect (Protect on)) x)) there.1);
      tells = record { volume_ = refl; change_ = refl };
      count = c.writes.ensures;
    }
