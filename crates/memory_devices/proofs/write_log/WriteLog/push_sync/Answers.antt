use Rattle.std.proofs.Common.{◌≡◌, ◌∙◌, ℕ, List, subst, sym, ap, arith, ◌++◌, ◌∷◌, []}
use Rattle.std.proofs.lemmas.List.{append-nil}
use Rattle.std.specs.List.{AllByRecursion}
use Rattle.mss_base.specs.Content.{Item}
use Rattle.mss_base.proofs.AllFacts.{all_push}
use Rattle.memory_devices.specs.Logged.{LogValue, IsInside, items_of, span, sync_as, sync_of, total_length}
use Rattle.memory_devices.specs.declared.write_log.LoggedItem.{LoggedItem}
use Rattle.memory_devices.specs.declared.write_log.SyncKind.{SyncKind}
use Rattle.memory_devices.proofs.LoggedLemmas.{items_of-push, total_length-push, span_of_sync, inside_of_sync, item_of_sync}
use Rattle.memory_devices.proofs.write_log.WriteLog.push_sync.Goals.{in-OfUnit, in-OfAll, in-Failed}
use Rattle.memory_devices.proofs.write_log.WriteLog.push_sync.Goals as goal

pub invariant_of-self : goal.invariant_of-self
invariant_of-self c =
    let unit = c.args.at.now.unit in
    let is : c.match-how.sync ≡ sync_as c.args.how unit = elim c.match-how.branch [
      | in-OfUnit w ↦ w.sync-is ∙ ap (λ (h : SyncKind). sync_as h unit) (sym w.in-OfUnit.is)
      | in-OfAll w ↦ w.sync-is ∙ ap (λ (h : SyncKind). sync_as h unit) (sym w.in-OfAll.is)
      | in-Failed w ↦ w.sync-is ∙ ap (λ (h : SyncKind). sync_as h unit) (sym w.in-Failed.is)
    ] in
    let none : span c.match-how.sync ≡ 0 = ap span is ∙ span_of_sync c.args.how unit in
    record {
      whole = ap total_length c.put.ensures.items ∙ total_length-push c.self.inside.entries.items c.match-how.sync ∙ omega (arith, none, c.self.invariant.whole);
      entry_room = omega arith;
      byte_room = omega arith;
      inside = subst (λ (es : List LoggedItem). AllByRecursion IsInside es) (sym c.put.ensures.items) (all_push IsInside c.self.inside.entries.items c.match-how.sync c.self.invariant.inside (subst IsInside (sym is) (inside_of_sync c.args.how unit)));
    }

pub returns-clause-items : goal.returns-clause-items
returns-clause-items c =
    let unit = c.args.at.now.unit in
    let is : c.match-how.sync ≡ sync_as c.args.how unit = elim c.match-how.branch [
      | in-OfUnit w ↦ w.sync-is ∙ ap (λ (h : SyncKind). sync_as h unit) (sym w.in-OfUnit.is)
      | in-OfAll w ↦ w.sync-is ∙ ap (λ (h : SyncKind). sync_as h unit) (sym w.in-OfAll.is)
      | in-Failed w ↦ w.sync-is ∙ ap (λ (h : SyncKind). sync_as h unit) (sym w.in-Failed.is)
    ] in
    let es = c.self.inside.entries.items in
    let bytes : List ℕ = c.self.inside.bytes.items in
    (λ i. items_of ((c.put.ensures.items ∙ ap (λ (x : LoggedItem). es ++ x ∷ []) is) i) (sym (append-nil bytes) i))
    ∙ items_of-push es bytes (sync_as c.args.how unit) [] c.self.invariant.whole (sym (span_of_sync c.args.how unit))
    ∙ ap (λ (x : Item). items_of es bytes ++ x ∷ []) (item_of_sync c.args.how unit)
    ∙ ap (λ (v : LogValue). v.items ++ sync_of c.args.how unit ∷ []) c.self.view_is
