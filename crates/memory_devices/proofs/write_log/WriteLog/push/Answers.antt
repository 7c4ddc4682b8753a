use Rattle.std.proofs.Common.{◌≡◌, ◌+◌, ◌∙◌, List, subst, sym, ap, refl, length, arith, ◌++◌, ◌∷◌, [], length-append}
use Rattle.mss_base.specs.Content.{Write, wrote}
use Rattle.memory_devices.specs.Logged.{LogValue, IsInside, items_of, total_length}
use Rattle.memory_devices.specs.declared.write_log.LoggedItem.{LoggedItem}
use Rattle.std.specs.List.{AllByRecursion}
use Rattle.mss_base.proofs.AllFacts.{all_push}
use Rattle.memory_devices.proofs.LoggedLemmas.{items_of-push, total_length-push}
use Rattle.memory_devices.proofs.write_log.WriteLog.push.Goals as goal

pub invariant_of-self : goal.invariant_of-self
invariant_of-self c =
    let lengths : length c.put_all.new.to.items ≡ length c.self.inside.bytes.items + length c.args.bytes.now = ap length c.put_all.ensures.items ∙ length-append c.self.inside.bytes.items c.args.bytes.now in
    record {
      whole = ap total_length c.put.ensures.items ∙ total_length-push c.self.inside.entries.items _ ∙ omega (arith, lengths);
      entry_room = omega arith;
      byte_room = omega arith;
      inside = subst (λ (es : List LoggedItem). AllByRecursion IsInside es) (sym c.put.ensures.items) (all_push IsInside c.self.inside.entries.items _ c.self.invariant.inside (omega (arith, c.requires.inside)));
    }

pub returns-clause-items : goal.returns-clause-items
returns-clause-items c =
    let w : Write = record { unit = c.args.place.now.unit; block = c.args.place.now.block; offset = c.args.offset; bytes = c.args.bytes.now } in
    (λ i. items_of (c.put.ensures.items i) (c.put_all.ensures.items i))
    ∙ items_of-push c.self.inside.entries.items c.self.inside.bytes.items _ c.args.bytes.now c.self.invariant.whole refl
    ∙ ap (λ (v : LogValue). v.items ++ wrote w ∷ []) c.self.view_is
