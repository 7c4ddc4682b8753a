use Rattle.std.proofs.Common.{◌≡◌, ◌<◌, ℕ, List, length, ap, arith}
use Rattle.table_journal.specs.Slots.{slots}
use Rattle.table_pair.proofs.FrontLemmas.{front_read}
use Rattle.table_pair.proofs.front.read_copy_block.Goals as goal

pub returns-then-used-lt-FRONT_SLOTS-clause-copy : goal.returns-then-used-lt-FRONT_SLOTS-clause-copy
returns-then-used-lt-FRONT_SLOTS-clause-copy g c = λ tells.
    let now = c.read_front.new.self in
    let shown : c.as_slice.result.now ≡ now = c.as_slice.ensures.bytes in
    let long : length now ≡ 16384 = c.as_slice.ensures.whole in
    let few : length (slots now) < 64 = omega (arith, ap (λ (l : List ℕ). length (slots l)) shown, c.read_slots-used.ensures.count, c.if-used-lt-FRONT_SLOTS.true) in
    front_read c.args.block.now _ now (g.met.S.Site.whole c.args.site.now c.args.at.now.unit c.args.at.now.block tells) long (c.in_ok-read_front.ensures.block tells) few
