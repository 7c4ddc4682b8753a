use Rattle.std.proofs.Common.{◌≡◌, sym, subst}
use Rattle.std.specs.Prelude.{OnOk}
use Rattle.mss_base.specs.Content.{content}
use Rattle.mss_base.specs.declared.place.BlockPlace.{BlockPlace}
use Rattle.volume_table.specs.Grammar.{body}
use Rattle.table_pair.specs.Copies.{copy_on, filled_copy, HasGates, IsRewriting, WritesCopy}
use Rattle.table_pair.specs.declared.copy.SlotsUsed.{SlotsUsed}
use Rattle.table_pair.specs.Slots.{ClearsWritten}
use Rattle.table_pair.specs.Repairs.{HoldsToldRow, LosesSlots, NeedsNoRepair}
use Rattle.table_pair.proofs.PairLemmas.{held_settled}
use Rattle.table_pair.proofs.FollowLemmas.{on_ok_gives}
use Rattle.table_pair.proofs.RepairLemmas.{gates_on, follow_moments, follow_marks, follow_holds, follow_slots, follow_clear, follow_told, follow_needed}
use Rattle.table_pair.proofs.repairs.follow.Goals as goal

pub rewrite_copy-requires-clause-told : goal.rewrite_copy-requires-clause-told
rewrite_copy-requires-clause-told g c = λ tells.
    let s = g.S.Site.told c.args.site.now in
    let stale = c.args.stale.now in
    subst (λ (at : BlockPlace). HasGates stale.gates (copy_on s at)) (sym c.place_of-at.ensures) (gates_on stale.copy c.args.volume s stale.gates (c.requires.stale tells).gates)

pub returns-clause-moments : goal.returns-clause-moments
returns-clause-moments g c = λ tells.
    let s = g.S.Site.told c.args.site.now in
    let t = g.S.Site.told c.rewrite_copy.new.site in
    let stale = c.args.stale.now in
    let bytes = body c.encode_row.new.into in
    let w = subst (λ (at : BlockPlace). WritesCopy at (IsRewriting bytes (copy_on s at)) s t) c.place_of-at.ensures (c.rewrite_copy.ensures.moments tells) in
    follow_moments c.args.volume s t stale.row bytes c.encode_row.ensures.again stale.copy (c.requires.stale tells).behind w

pub returns-clause-marks : goal.returns-clause-marks
returns-clause-marks g c = λ tells.
    let s = g.S.Site.told c.args.site.now in
    let t = g.S.Site.told c.rewrite_copy.new.site in
    let stale = c.args.stale.now in
    let bytes = body c.encode_row.new.into in
    let w = subst (λ (at : BlockPlace). WritesCopy at (IsRewriting bytes (copy_on s at)) s t) c.place_of-at.ensures (c.rewrite_copy.ensures.moments tells) in
    follow_marks c.args.volume s t stale.row bytes c.encode_row.ensures.again stale.copy w

pub returns-clause-done : goal.returns-clause-done
returns-clause-done g c = λ tells.
    let volume = c.args.volume in
    let s = g.S.Site.told c.args.site.now in
    let t = g.S.Site.told c.rewrite_copy.new.site in
    let stale = c.args.stale.now in
    let bytes = body c.encode_row.new.into in
    let behind = (c.requires.stale tells).behind in
    let w = subst (λ (at : BlockPlace). WritesCopy at (IsRewriting bytes (copy_on s at)) s t) c.place_of-at.ensures (c.rewrite_copy.ensures.moments tells) in
    let done : OnOk c.rewrite_copy.result (copy_on t c.place_of-at.result ≡ filled_copy bytes (copy_on s c.place_of-at.result)) = c.rewrite_copy.ensures.done tells in
    on_ok_gives c.rewrite_copy.result _ (HoldsToldRow volume (content s) (content t)) (λ is.
    let there = subst (λ (at : BlockPlace). copy_on t at ≡ filled_copy bytes (copy_on s at)) c.place_of-at.ensures is in
    follow_told volume s t stale.row bytes c.encode_row.ensures.again stale.copy behind (follow_holds volume s t stale.row bytes c.encode_row.ensures.again stale.copy behind w there)) done

pub returns-clause-emptied : goal.returns-clause-emptied
returns-clause-emptied g c = λ tells.
    let volume = c.args.volume in
    let s = g.S.Site.told c.args.site.now in
    let t = g.S.Site.told c.rewrite_copy.new.site in
    let stale = c.args.stale.now in
    let bytes = body c.encode_row.new.into in
    let w = subst (λ (at : BlockPlace). WritesCopy at (IsRewriting bytes (copy_on s at)) s t) c.place_of-at.ensures (c.rewrite_copy.ensures.moments tells) in
    let done : OnOk c.rewrite_copy.result (copy_on t c.place_of-at.result ≡ filled_copy bytes (copy_on s c.place_of-at.result)) = c.rewrite_copy.ensures.done tells in
    on_ok_gives c.rewrite_copy.result _ (LosesSlots stale.copy volume (content s) (content t)) (λ is.
    let there = subst (λ (at : BlockPlace). copy_on t at ≡ filled_copy bytes (copy_on s at)) c.place_of-at.ensures is in
    follow_slots volume s t stale.row bytes c.encode_row.ensures.again stale.copy w there) done

pub returns-clause-clear : goal.returns-clause-clear
returns-clause-clear g c = λ tells.
    let volume = c.args.volume in
    let s = g.S.Site.told c.args.site.now in
    let t = g.S.Site.told c.rewrite_copy.new.site in
    let stale = c.args.stale.now in
    let bytes = body c.encode_row.new.into in
    let w = subst (λ (at : BlockPlace). WritesCopy at (IsRewriting bytes (copy_on s at)) s t) c.place_of-at.ensures (c.rewrite_copy.ensures.moments tells) in
    let done : OnOk c.rewrite_copy.result (copy_on t c.place_of-at.result ≡ filled_copy bytes (copy_on s c.place_of-at.result)) = c.rewrite_copy.ensures.done tells in
    on_ok_gives c.rewrite_copy.result _ ((used : SlotsUsed) → ClearsWritten used volume (content s) (content t)) (λ is.
    let there = subst (λ (at : BlockPlace). copy_on t at ≡ filled_copy bytes (copy_on s at)) c.place_of-at.ensures is in
    follow_clear volume s t stale.row bytes c.encode_row.ensures.again stale.copy w there) done

pub returns-clause-settled : goal.returns-clause-settled
returns-clause-settled g c = λ tells.
    let volume = c.args.volume in
    let s = g.S.Site.told c.args.site.now in
    let t = g.S.Site.told c.rewrite_copy.new.site in
    let stale = c.args.stale.now in
    let bytes = body c.encode_row.new.into in
    let behind = (c.requires.stale tells).behind in
    let w = subst (λ (at : BlockPlace). WritesCopy at (IsRewriting bytes (copy_on s at)) s t) c.place_of-at.ensures (c.rewrite_copy.ensures.moments tells) in
    let done : OnOk c.rewrite_copy.result (copy_on t c.place_of-at.result ≡ filled_copy bytes (copy_on s c.place_of-at.result)) = c.rewrite_copy.ensures.done tells in
    on_ok_gives c.rewrite_copy.result _ (NeedsNoRepair volume (content t)) (λ is.
    let there = subst (λ (at : BlockPlace). copy_on t at ≡ filled_copy bytes (copy_on s at)) c.place_of-at.ensures is in
    held_settled stale.row volume (content t) (follow_holds volume s t stale.row bytes c.encode_row.ensures.again stale.copy behind w there)) done

pub returns-clause-needed : goal.returns-clause-needed
returns-clause-needed g c = λ tells.
    let s = g.S.Site.told c.args.site.now in
    let stale = c.args.stale.now in
    follow_needed c.args.volume s s stale.row (body c.encode_row.new.into) c.encode_row.ensures.again stale.copy (c.requires.stale tells).behind
