use Rattle.std.proofs.Common.{◌≢◌, ◌∙◌, sym, ap, subst, refl, false, Err}
use Rattle.std.proofs.lemmas.Result.{err_from_is_err_and}
use Rattle.mss_base.specs.Content.{content}
use Rattle.mss_base.specs.declared.place.BlockPlace.{BlockPlace}
use Rattle.mss_base.specs.declared.place.UnitNo.TheVariants.{TableB}
use Rattle.table_pair.specs.Pair.{closed, unread}
use Rattle.table_pair.specs.Reads.{read_of_copy, IsReadable, IsReadOf}
use Rattle.table_pair.proofs.ReadLemmas.{memory_row, memory_later, open_row, both_row, there_keeps, memory_keeps, memory_misses, closed_there, open_there, shut_alone}
use Rattle.table_pair.proofs.SiteLemmas.{readable_on, reads_then}
use Rattle.table_pair.proofs.read.read_row.Goals as goal

pub returns-in_err-a-clause-row : goal.returns-in_err-a-clause-row
returns-in_err-a-clause-row g c = λ tells.
    let p = err_from_is_err_and c.from_residual.result c.from_residual.ensures.1 in
    memory_row _ _ _ c.args.volume (content (g.S.Site.told c.args.site.now)) _ c.in_err-a.ensures.kept (p.1 ∙ (λ i. Err (p.2 i)))

pub returns-then-is_open-clause-row : goal.returns-then-is_open-clause-row
returns-then-is_open-clause-row g c = λ tells.
    let before = g.S.Site.faults c.args.site.now in
    let now = g.S.Site.faults c.read_copy.new.site in
    let old = content (g.S.Site.told c.args.site.now) in
    let read = subst (λ (at : BlockPlace). IsReadOf before now (old at.unit at.block) (read_of_copy c.in_ok-a.a)) c.place_of.ensures (c.in_ok-a.ensures.copy tells) in
    open_row _ before now c.args.volume old c.by_table.result (read_of_copy c.in_ok-a.a) (closed false) c.read_copy.ensures.devices.later read (sym c.if-is_open.ensures) c.by_table.ensures.told

pub returns-then-is_open-clause-kept : goal.returns-then-is_open-clause-kept
returns-then-is_open-clause-kept g c =
    let now = g.S.Site.faults c.read_copy.new.site in
    c.by_table.ensures.kept (g.S.Site.faults c.args.site.now) now (record {
      between = now;
      later = c.read_copy.ensures.devices.later;
      a_kept = c.in_ok-a.ensures.kept;
      b_kept = refl;
      alone = λ _. refl;
    })

pub returns-in_err-b-clause-row : goal.returns-in_err-b-clause-row
returns-in_err-b-clause-row g c = λ tells.
    let before = g.S.Site.faults c.args.site.now in
    let mid = g.S.Site.faults c.read_copy.new.site in
    let old = content (g.S.Site.told c.args.site.now) in
    let p = err_from_is_err_and c.from_residual-in_err-b.result c.from_residual-in_err-b.ensures.1 in
    let a = subst (λ (at : BlockPlace). IsReadOf before mid (old at.unit at.block) (read_of_copy c.in_ok-a.a)) c.place_of.ensures (c.in_ok-a.ensures.copy tells) in
    let there = subst (λ (at : BlockPlace). IsReadable g.S.Site c.args.site.now at.unit → read_of_copy c.in_ok-a.a ≢ unread) c.place_of.ensures c.in_ok-a.ensures.works in
    memory_later _ before _ c.args.volume old _ mid (read_of_copy c.in_ok-a.a) c.read_copy.ensures.devices.later c.in_err-b.ensures.kept a there (p.1 ∙ (λ i. Err (p.2 i)))

pub returns-clause-row : goal.returns-clause-row
returns-clause-row g c = λ tells.
    let before = g.S.Site.faults c.args.site.now in
    let mid = g.S.Site.faults c.read_copy.new.site in
    let now = g.S.Site.faults c.read_copy-2.new.site in
    let old = content (g.S.Site.told c.args.site.now) in
    let then = content (g.S.Site.told c.read_copy.new.site) in
    let a = subst (λ (at : BlockPlace). IsReadOf before mid (old at.unit at.block) (read_of_copy c.in_ok-a.a)) c.place_of.ensures (c.in_ok-a.ensures.copy tells) in
    let b = subst (λ (at : BlockPlace). IsReadOf mid now (then at.unit at.block) (read_of_copy c.in_ok-b.b)) c.place_of-2.ensures (c.in_ok-b.ensures.copy tells) in
    let a_there = subst (λ (at : BlockPlace). IsReadable g.S.Site c.args.site.now at.unit → read_of_copy c.in_ok-a.a ≢ unread) c.place_of.ensures c.in_ok-a.ensures.works in
    let b_there = subst (λ (at : BlockPlace). IsReadable g.S.Site c.read_copy.new.site at.unit → read_of_copy c.in_ok-b.b ≢ unread) c.place_of-2.ensures c.in_ok-b.ensures.works in
    both_row _ before now c.args.volume old c.by_table-2.result mid then (read_of_copy c.in_ok-a.a) (read_of_copy c.in_ok-b.b) c.read_copy.ensures.devices.later c.read_copy-2.ensures.devices.later (ap content (c.read_copy.ensures.devices.log tells)) a b a_there
    (λ readable. b_there (readable_on g.S.Site c.args.site.now c.read_copy.new.site c.read_copy.ensures.devices.sound TableB readable)) c.by_table-2.ensures.told

pub returns-clause-kept : goal.returns-clause-kept
returns-clause-kept g c =
    c.by_table-2.ensures.kept (g.S.Site.faults c.args.site.now) (g.S.Site.faults c.read_copy-2.new.site) (record {
      between = g.S.Site.faults c.read_copy.new.site;
      later = c.read_copy.ensures.devices.later;
      a_kept = c.in_ok-a.ensures.kept;
      b_kept = c.in_ok-b.ensures.kept;
      alone = shut_alone (read_of_copy c.in_ok-a.a) _ (sym c.if-is_open.ensures);
    })

pub returns-in_err-b-clause-kept : goal.returns-in_err-b-clause-kept
returns-in_err-b-clause-kept g c =
    let p = err_from_is_err_and c.from_residual-in_err-b.result c.from_residual-in_err-b.ensures.1 in
    memory_keeps (g.S.Site.faults c.args.site.now) (g.S.Site.faults c.read_copy.new.site) _ c.in_ok-a.a _ c.in_ok-a.ensures.kept c.in_err-b.ensures.kept (p.1 ∙ (λ i. Err (p.2 i)))

pub returns-then-is_open-clause-works : goal.returns-then-is_open-clause-works
returns-then-is_open-clause-works g c = λ _ _.
    let there = open_there (read_of_copy c.in_ok-a.a) (sym c.if-is_open.ensures) in
    record { none = c.by_table.ensures.there there (closed_there false); count = there_keeps _ _ c.in_ok-a.a there c.in_ok-a.ensures.kept }

pub returns-in_err-b-clause-works : goal.returns-in_err-b-clause-works
returns-in_err-b-clause-works g c = λ a_readable _.
    let p = err_from_is_err_and c.from_residual-in_err-b.result c.from_residual-in_err-b.ensures.1 in
    let there = subst (λ (at : BlockPlace). IsReadable g.S.Site c.args.site.now at.unit → read_of_copy c.in_ok-a.a ≢ unread) c.place_of.ensures c.in_ok-a.ensures.works in
    record { none = memory_misses _ (p.1 ∙ (λ i. Err (p.2 i))); count = c.in_err-b.ensures.kept ∙ there_keeps _ _ c.in_ok-a.a (there a_readable) c.in_ok-a.ensures.kept }

pub returns-in_err-b-clause-devices : goal.returns-in_err-b-clause-devices
returns-in_err-b-clause-devices g c =
    reads_then g.S.Site c.args.site.now c.read_copy.new.site c.read_copy-2.new.site c.read_copy.ensures.devices c.read_copy-2.ensures.devices

pub returns-clause-works : goal.returns-clause-works
returns-clause-works g c = λ a_readable b_readable.
    let a_there = subst (λ (at : BlockPlace). IsReadable g.S.Site c.args.site.now at.unit → read_of_copy c.in_ok-a.a ≢ unread) c.place_of.ensures c.in_ok-a.ensures.works a_readable in
    let later = readable_on g.S.Site c.args.site.now c.read_copy.new.site c.read_copy.ensures.devices.sound TableB b_readable in
    let b_there = subst (λ (at : BlockPlace). IsReadable g.S.Site c.read_copy.new.site at.unit → read_of_copy c.in_ok-b.b ≢ unread) c.place_of-2.ensures c.in_ok-b.ensures.works later in
    record { none = c.by_table-2.ensures.there a_there b_there; count = there_keeps _ _ c.in_ok-b.b b_there c.in_ok-b.ensures.kept ∙ there_keeps _ _ c.in_ok-a.a a_there c.in_ok-a.ensures.kept }

pub returns-clause-devices : goal.returns-clause-devices
returns-clause-devices g c =
    reads_then g.S.Site c.args.site.now c.read_copy.new.site c.read_copy-2.new.site c.read_copy.ensures.devices c.read_copy-2.ensures.devices
