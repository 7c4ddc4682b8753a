use Rattle.std.proofs.Common.{◌≡◌, ◌∙◌, sym, subst, Err}
use Rattle.std.proofs.lemmas.Result.{err_from_is_err_and}
use Rattle.mss_base.specs.declared.place.BlockPlace.{BlockPlace}
use Rattle.mss_base.specs.declared.place.UnitNo.TheVariants.{TableA, TableB}
use Rattle.table_pair.specs.Copies.{copy_at, copy_on}
use Rattle.table_pair.specs.Places.{place_of}
use Rattle.table_pair.specs.Reads.{IsReadable}
use Rattle.table_pair.specs.Repairs.{KeepsRepairFault}
use Rattle.table_pair.specs.declared.copy.TableCopy.TheVariants as copy
use Rattle.table_pair.proofs.SiteLemmas.{got_room, room_read, readable_on}
use Rattle.table_pair.proofs.RepairLemmas.{found_on, kept_since, never_err}
use Rattle.table_pair.proofs.repairs.find_stale.Goals as goal

pub returns-clause-found : goal.returns-clause-found
returns-clause-found g c = λ tells.
    let s = g.S.Site.told c.args.site.now in
    let volume = c.args.volume in
    let r0 : g.S.Site.told c.reserve.new.self ≡ s = c.reserve.ensures.told tells in
    let r1 : g.S.Site.told c.read_block.new.site ≡ s = c.read_block.ensures.devices.log tells ∙ r0 in
    let is_a : copy_at c.read_block.new.block ≡ copy_on s (place_of copy.A volume) = c.in_ok-read_block.ensures.copy tells ∙ (λ i. copy_on (r0 i) (c.place_of.ensures i)) in
    let is_b : copy_at c.read_block-2.new.block ≡ copy_on s (place_of copy.B volume) = c.in_ok-read_block-2.ensures.copy tells ∙ (λ i. copy_on (r1 i) (c.place_of-2.ensures i)) in
    found_on _ volume s _ _ is_a is_b c.in_ok-found.ensures

pub returns-in_err-read_block-2-clause-kept : goal.returns-in_err-read_block-2-clause-kept
returns-in_err-read_block-2-clause-kept g c =
    let before = g.S.Site.faults c.args.site.now in
    let now = g.S.Site.faults c.read_block-2.new.site in
    let result = c.from_residual-in_err-read_block-2.result in
    let p = err_from_is_err_and result c.from_residual-in_err-read_block-2.ensures.1 in
    let is : result ≡ Err c.in_err-read_block-2.field-0.0 = p.1 ∙ (λ i. Err (p.2 i)) in
    let same : g.S.Site.faults c.read_block.new.site ≡ before = c.in_ok-read_block.ensures.kept ∙ c.reserve.ensures.faults in
    subst (KeepsRepairFault before now) (sym is) (kept_since {T = Unit {0}} before (g.S.Site.faults c.read_block.new.site) now (Err c.in_err-read_block-2.field-0.0) same c.in_err-read_block-2.ensures.kept)

pub returns-in_err-read_block-clause-works : goal.returns-in_err-read_block-clause-works
returns-in_err-read_block-clause-works g c = λ a_readable _.
    let later = readable_on g.S.Site c.args.site.now c.reserve.new.self c.reserve.ensures.sound TableA a_readable in
    let there = subst (λ (at : BlockPlace). IsReadable g.S.Site c.reserve.new.self at.unit) (sym c.place_of.ensures) later in
    never_err (Unit {0}) c.in_err-read_block.field-0.0 _ (c.in_err-read_block.ensures.works there)

pub returns-in_err-read_block-2-clause-works : goal.returns-in_err-read_block-2-clause-works
returns-in_err-read_block-2-clause-works g c = λ _ b_readable.
    let r0 = got_room g.S.Site c.args.site.now c.reserve.new.self c.reserve.ensures.told c.reserve.ensures.spare c.reserve.ensures.writes c.reserve.ensures.faults c.reserve.ensures.sound in
    let r1 = room_read g.S.Site c.args.site.now c.reserve.new.self c.read_block.new.site r0 c.read_block.ensures.devices in
    let later = readable_on g.S.Site c.args.site.now c.read_block.new.site r1.sound TableB b_readable in
    let there = subst (λ (at : BlockPlace). IsReadable g.S.Site c.read_block.new.site at.unit) (sym c.place_of-2.ensures) later in
    never_err (Unit {0}) c.in_err-read_block-2.field-0.0 _ (c.in_err-read_block-2.ensures.works there)

pub returns-in_err-reserve-clause-reads : goal.returns-in_err-reserve-clause-reads
returns-in_err-reserve-clause-reads g c =
    let r0 = got_room g.S.Site c.args.site.now c.reserve.new.self c.reserve.ensures.told c.reserve.ensures.spare c.reserve.ensures.writes c.reserve.ensures.faults c.reserve.ensures.sound in
    r0

pub returns-in_err-read_block-clause-reads : goal.returns-in_err-read_block-clause-reads
returns-in_err-read_block-clause-reads g c =
    let r0 = got_room g.S.Site c.args.site.now c.reserve.new.self c.reserve.ensures.told c.reserve.ensures.spare c.reserve.ensures.writes c.reserve.ensures.faults c.reserve.ensures.sound in
    let r1 = room_read g.S.Site c.args.site.now c.reserve.new.self c.read_block.new.site r0 c.read_block.ensures.devices in
    r1

pub returns-in_err-read_block-2-clause-reads : goal.returns-in_err-read_block-2-clause-reads
returns-in_err-read_block-2-clause-reads g c =
    let r0 = got_room g.S.Site c.args.site.now c.reserve.new.self c.reserve.ensures.told c.reserve.ensures.spare c.reserve.ensures.writes c.reserve.ensures.faults c.reserve.ensures.sound in
    let r1 = room_read g.S.Site c.args.site.now c.reserve.new.self c.read_block.new.site r0 c.read_block.ensures.devices in
    let r2 = room_read g.S.Site c.args.site.now c.read_block.new.site c.read_block-2.new.site r1 c.read_block-2.ensures.devices in
    r2

pub returns-in_err-found-clause-reads : goal.returns-in_err-found-clause-reads
returns-in_err-found-clause-reads g c =
    let r0 = got_room g.S.Site c.args.site.now c.reserve.new.self c.reserve.ensures.told c.reserve.ensures.spare c.reserve.ensures.writes c.reserve.ensures.faults c.reserve.ensures.sound in
    let r1 = room_read g.S.Site c.args.site.now c.reserve.new.self c.read_block.new.site r0 c.read_block.ensures.devices in
    let r2 = room_read g.S.Site c.args.site.now c.read_block.new.site c.read_block-2.new.site r1 c.read_block-2.ensures.devices in
    r2

pub returns-clause-reads : goal.returns-clause-reads
returns-clause-reads g c =
    let r0 = got_room g.S.Site c.args.site.now c.reserve.new.self c.reserve.ensures.told c.reserve.ensures.spare c.reserve.ensures.writes c.reserve.ensures.faults c.reserve.ensures.sound in
    let r1 = room_read g.S.Site c.args.site.now c.reserve.new.self c.read_block.new.site r0 c.read_block.ensures.devices in
    let r2 = room_read g.S.Site c.args.site.now c.read_block.new.site c.read_block-2.new.site r1 c.read_block-2.ensures.devices in
    r2
