use Rattle.std.proofs.Common.{◌≡◌, ◌≤◌, ◌∙◌, List, sym, ap, subst, length, take, arith}
use Rattle.std.specs.Prelude.{OnOk}
use Rattle.std.proofs.lemmas.List.{length-take-le}
use Rattle.mss_base.specs.Content.{Content, Item}
use Rattle.memory_devices.specs.Memory.{content_in}
use Rattle.memory_devices.specs.Logged.{LogValue, total_length, items_of}
use Rattle.memory_devices.specs.Redone.{redone}
use Rattle.memory_devices.proofs.LoggedLemmas.{length-items_of, total_length-take, items_of-take, redone_items}
use Rattle.memory_devices.proofs.write_log.WriteLog.replay.Goals as goal

pub slice_bounds-redo_all-end : goal.slice_bounds-redo_all-end
slice_bounds-redo_all-end c =
    let seen = ap (λ (v : LogValue). length v.items) c.self.view_is in
    let long = length-items_of c.self.inside.entries.items c.self.inside.bytes.items in
    let here = ap length c.deref.ensures.value in
    sym (length-take-le c.args.count c.deref.result.now (omega (arith, seen, long, here, c.requires.within)))

pub redo_all-requires-clause-whole : goal.redo_all-requires-clause-whole
redo_all-requires-clause-whole c =
    let front : total_length (take c.args.count c.deref.result.now) ≤ total_length c.deref.result.now = total_length-take c.args.count c.deref.result.now in
    omega (arith, front, ap total_length c.deref.ensures.value, ap length c.deref-2.ensures.value, c.self.invariant.whole)

pub returns : goal.returns
returns c =
    let es = c.self.inside.entries.items in
    let bytes = c.self.inside.bytes.items in
    let first : items_of (take c.args.count c.deref.result.now) c.deref-2.result.now ≡ take c.args.count c.args.self.now.items =
    (λ i. items_of (take c.args.count (c.deref.ensures.value i)) (c.deref-2.ensures.value i)) ∙ items_of-take c.args.count es bytes ∙ ap (λ (v : LogValue). take c.args.count v.items) c.self.view_is in
    let start = content_in c.args.blocks.now in
    let made = redone_items c.args.how start (take c.args.count c.deref.result.now) c.deref-2.result.now ∙ ap (λ (ws : List Item). redone c.args.how start ws) first in
    subst (λ (d : Content). OnOk c.redo_all.result (content_in c.redo_all.new.blocks ≡ d)) made c.redo_all.ensures
