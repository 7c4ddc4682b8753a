use Rattle.std.proofs.Common.{◌≡◌, ◌∙◌, ℕ, true, false, sym, ap, subst, Option, Err}
use Rattle.std.proofs.lemmas.Result.{err_from_is_err_and}
use Rattle.mss_base.specs.Counts.{Rises}
use Rattle.mss_base.specs.Content.{SiteLog, content}
use Rattle.table_pair.specs.Pair.{row_of}
use Rattle.table_pair.specs.declared.repairs.Stale.{Stale}
use Rattle.table_pair.specs.declared.copy.Repaired.{Repaired}
use Rattle.table_pair.specs.declared.copy.SlotsUsed.{SlotsUsed}
use Rattle.table_pair.specs.Slots.{HasSlots}
use Rattle.table_pair.specs.Repairs.{NeedsNoRepair, IsStaleOn, MayBeStale}
use Rattle.table_pair.proofs.PairLemmas.{copy_a, copy_b}
use Rattle.table_pair.proofs.SiteLemmas.{room_may, room_leaves, room_write}
use Rattle.table_pair.proofs.RepairLemmas.{found_new, found_slots, unwritten, no_marks, none_firm, none_settled, none_cleared, equal_hold, since, clear_since, marks_since, firm_since, memory_count, never_err}
use Rattle.table_pair.proofs.repairs.repair.Goals as goal

pub returns-in_err-stale-clause-moments : goal.returns-in_err-stale-clause-moments
returns-in_err-stale-clause-moments g c = λ tells.
    unwritten c.args.volume _ _ (c.find_stale.ensures.reads.log tells)

pub returns-in_err-stale-clause-marks : goal.returns-in_err-stale-clause-marks
returns-in_err-stale-clause-marks g c = λ tells.
    no_marks c.args.volume _ _ (c.find_stale.ensures.reads.log tells)

pub returns-in_err-stale-clause-untouched : goal.returns-in_err-stale-clause-untouched
returns-in_err-stale-clause-untouched g c = λ tells.
    λ _. c.find_stale.ensures.reads.log tells

pub returns-in_err-stale-clause-devices : goal.returns-in_err-stale-clause-devices
returns-in_err-stale-clause-devices g c =
    room_may g.S.Site 7 c.args.site.now c.find_stale.new.site c.find_stale.ensures.reads

pub returns-in_default-clause-moments : goal.returns-in_default-clause-moments
returns-in_default-clause-moments g c = λ tells.
    unwritten c.args.volume _ _ (c.find_stale.ensures.reads.log tells)

pub returns-in_default-clause-marks : goal.returns-in_default-clause-marks
returns-in_default-clause-marks g c = λ tells.
    no_marks c.args.volume _ _ (c.find_stale.ensures.reads.log tells)

pub returns-in_default-clause-untouched : goal.returns-in_default-clause-untouched
returns-in_default-clause-untouched g c = λ tells.
    λ _. c.find_stale.ensures.reads.log tells

pub returns-in_default-clause-devices : goal.returns-in_default-clause-devices
returns-in_default-clause-devices g c =
    room_may g.S.Site 7 c.args.site.now c.find_stale.new.site c.find_stale.ensures.reads

pub returns-in_err-stale-clause-memory : goal.returns-in_err-stale-clause-memory
returns-in_err-stale-clause-memory g c = λ is.
    let p = err_from_is_err_and c.from_residual.result c.from_residual.ensures.1 in
    let told : c.from_residual.result ≡ Err c.in_err-stale.field-0.0 = p.1 ∙ (λ i. Err (p.2 i)) in
    room_leaves g.S.Site c.args.site.now c.find_stale.new.site c.find_stale.ensures.reads (memory_count {T = Repaired} _ _ (Err c.in_err-stale.field-0.0) (sym told ∙ is) c.in_err-stale.ensures.kept)

pub returns-in_default-clause-done : goal.returns-in_default-clause-done
returns-in_default-clause-done g c = λ tells.
    let log = c.find_stale.ensures.reads.log tells in
    let found = c.in_ok-stale.ensures.found tells in
    let none =
    subst (λ (o : Option Stale). MayBeStale o (copy_a c.args.volume (g.S.Site.told c.args.site.now)) (copy_b c.args.volume (g.S.Site.told c.args.site.now))) c.in_default.is found.stale in
    record {
      held = equal_hold c.args.volume _ _ none log;
      slots_ = found_slots _ c.args.volume _ _ log found;
      are_new = found_new _ c.args.volume _ _ log found;
      settled = none_settled c.args.volume _ _ none log;
      clear = none_cleared c.args.volume _ (g.S.Site.told c.find_stale.new.site) _ log;
      firm = none_firm c.args.volume _ _ log;
    }

pub follow-requires-clause-stale : goal.follow-requires-clause-stale
follow-requires-clause-stale g c = λ tells.
    let r : g.S.Site.told c.find_stale.new.site ≡ g.S.Site.told c.args.site.now = c.find_stale.ensures.reads.log tells in
    subst (λ (q : SiteLog). IsStaleOn c.in-Some.stale c.args.volume (content q)) (sym r)
    (subst (λ (o : Option Stale). MayBeStale o (copy_a c.args.volume (g.S.Site.told c.args.site.now)) (copy_b c.args.volume (g.S.Site.told c.args.site.now))) c.in-Some.is (c.in_ok-stale.ensures.found tells).stale)

pub returns-in-Ok-clause-moments : goal.returns-in-Ok-clause-moments
returns-in-Ok-clause-moments g c = λ tells.
    let r : g.S.Site.told c.find_stale.new.site ≡ g.S.Site.told c.args.site.now = c.find_stale.ensures.reads.log tells in
    since c.args.volume (g.S.Site.told c.args.site.now) _ _ r (c.follow.ensures.moments tells)

pub returns-in-Ok-clause-marks : goal.returns-in-Ok-clause-marks
returns-in-Ok-clause-marks g c = λ tells.
    let r : g.S.Site.told c.find_stale.new.site ≡ g.S.Site.told c.args.site.now = c.find_stale.ensures.reads.log tells in
    marks_since c.args.volume (g.S.Site.told c.args.site.now) _ _ r (c.follow.ensures.marks tells)

pub returns-in-Ok-clause-untouched : goal.returns-in-Ok-clause-untouched
returns-in-Ok-clause-untouched g c = λ tells.
    let r : g.S.Site.told c.find_stale.new.site ≡ g.S.Site.told c.args.site.now = c.find_stale.ensures.reads.log tells in
    λ none. absurd (c.follow.ensures.needed tells (subst (λ (q : SiteLog). NeedsNoRepair c.args.volume (content q)) (sym r) none))

pub returns-in-Ok-clause-devices : goal.returns-in-Ok-clause-devices
returns-in-Ok-clause-devices g c =
    room_write g.S.Site 7 c.args.site.now c.find_stale.new.site c.follow.new.site c.find_stale.ensures.reads c.follow.ensures.site_.devices

pub returns-clause-moments : goal.returns-clause-moments
returns-clause-moments g c = λ tells.
    let r : g.S.Site.told c.find_stale.new.site ≡ g.S.Site.told c.args.site.now = c.find_stale.ensures.reads.log tells in
    since c.args.volume (g.S.Site.told c.args.site.now) _ _ r (c.follow.ensures.moments tells)

pub returns-clause-marks : goal.returns-clause-marks
returns-clause-marks g c = λ tells.
    let r : g.S.Site.told c.find_stale.new.site ≡ g.S.Site.told c.args.site.now = c.find_stale.ensures.reads.log tells in
    marks_since c.args.volume (g.S.Site.told c.args.site.now) _ _ r (c.follow.ensures.marks tells)

pub returns-clause-untouched : goal.returns-clause-untouched
returns-clause-untouched g c = λ tells.
    let r : g.S.Site.told c.find_stale.new.site ≡ g.S.Site.told c.args.site.now = c.find_stale.ensures.reads.log tells in
    λ none. absurd (c.follow.ensures.needed tells (subst (λ (q : SiteLog). NeedsNoRepair c.args.volume (content q)) (sym r) none))

pub returns-clause-devices : goal.returns-clause-devices
returns-clause-devices g c =
    room_write g.S.Site 7 c.args.site.now c.find_stale.new.site c.follow.new.site c.find_stale.ensures.reads c.follow.ensures.site_.devices

pub returns-in-Ok-clause-done : goal.returns-in-Ok-clause-done
returns-in-Ok-clause-done g c = λ tells.
    let r : g.S.Site.told c.find_stale.new.site ≡ g.S.Site.told c.args.site.now = c.find_stale.ensures.reads.log tells in
    let slots = found_slots _ c.args.volume _ _ r (c.in_ok-stale.ensures.found tells) in
    record {
      held = λ row told. c.in-Ok.ensures.done tells row (ap (λ (q : SiteLog). row_of (content q) c.args.volume) r ∙ told);
      slots_ = subst (λ (u : SlotsUsed). HasSlots u c.args.volume (content (g.S.Site.told c.follow.new.site))) (sym c.without.ensures) (c.in-Ok.ensures.emptied tells _ slots);
      are_new = λ none. let e : true ≡ false = none in cc;
      settled = c.in-Ok.ensures.settled tells;
      clear = clear_since _ c.args.volume (g.S.Site.told c.args.site.now) _ (g.S.Site.told c.follow.new.site) r (c.in-Ok.ensures.clear tells _);
      firm = firm_since (g.S.Site.told c.args.site.now) _ _ r (c.in-Ok.ensures.firm tells);
    }

pub returns-in-Ok-clause-kept : goal.returns-in-Ok-clause-kept
returns-in-Ok-clause-kept g c =
    c.in-Ok.ensures.site_.cause.same ∙ c.in_ok-stale.ensures.kept

pub returns-clause-kept : goal.returns-clause-kept
returns-clause-kept g c =
    record { count = c.faults.ensures; rises = subst (λ (n : ℕ). Rises n (g.S.Site.faults c.follow.new.site)) c.in_ok-stale.ensures.kept c.in-Err.ensures.site_.cause.failed }

pub returns-clause-works : goal.returns-clause-works
returns-clause-works g c = λ a_readable _.
    never_err (Unit {0}) c.in-Err.field-0 ⊥ (c.in-Err.ensures.site_.works a_readable.0 (c.find_stale.ensures.reads.sound a_readable.0 a_readable.1))
