use Rattle.std.proofs.Common.{◌≡◌, ◌∙◌, refl}
use Rattle.std.specs.List.{refill}
use Rattle.mss_base.proofs.block.Block.as_mut_slice.Goals as goal

pub returns : goal.returns
returns c =
    let count : c.self.inside.bytes.len ≡ 16384 = c.self.inside.bytes.ok.0 ∙ c.self.invariant in
    let same : c.self.inside.bytes.items ≡ c.args.self.now = c.self.view_is in
    let lent = c.deref_mut.ensures in (
      (refl, λ w i. refill (count i) (same i) w),
      record {
        lent = lent.writes_back;
        value = lent.value ∙ same;
        whole = lent.len ∙ count;
      },
    )
