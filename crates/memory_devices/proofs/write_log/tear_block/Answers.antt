use Rattle.std.proofs.Common.{◌≡◌, ◌++◌, ◌-◌, ◌∙◌, sym, ap, subst, List, ℕ, length, take, replicate, arith}
use Rattle.std.specs.Prelude.{OnOk}
use Rattle.mss_base.specs.Content.{Content, fitted_bytes, write_at, with_write}
use Rattle.mss_base.proofs.ContentLemmas.{padded_fits}
use Rattle.memory_devices.specs.Memory.{content_in}
use Rattle.memory_devices.specs.Redone.{covered_range}
use Rattle.memory_devices.specs.declared.tearing.Tear.{Tear as TestTear}
use Rattle.memory_devices.proofs.write_log.tear_block.Goals as goal

pub returns-in-Write : goal.returns-in-Write
returns-in-Write c =
    let n = c.args.length in
    let start = content_in c.args.blocks.now in
    let bytes : List ℕ = c.in-Write.bytes.items in
    let given : c.as_slice.result.now ≡ bytes = c.as_slice.ensures in
    let left : c.as_slice-in-Write.result.now ≡ fitted_bytes n bytes =
    c.as_slice-in-Write.ensures ∙ c.in_ok-left-in-Write.ensures ∙ ap (λ (l : List ℕ). take n l ++ replicate (n - length l) 0) given ∙ padded_fits n n bytes (omega arith) in
    subst (λ (d : Content). OnOk c.grow_block.result (content_in c.grow_block.new.blocks ≡ d))
    (ap (λ (l : List ℕ). with_write start (write_at c.args.place.now c.args.offset l)) left ∙ ap (λ (t : TestTear). covered_range start c.args.place.now c.args.offset n t) (sym c.in-Write.is))
    c.grow_block.ensures.written
