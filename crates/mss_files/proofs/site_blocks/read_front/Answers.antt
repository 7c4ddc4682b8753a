use Rattle.std.proofs.Common.{◌≡◌, ℕ, List, ◌++◌, length, min, ap₂, ◌∙◌, rules}
use Rattle.mss_files.proofs.ShortFacts.{cut_short}
use Rattle.mss_files.proofs.site_blocks.read_front.Goals as goal

pub returns : goal.returns
returns c =
    let least : c.min-count.result ≡ min (length c.args.into.now) 1024 = search rules in
    ap₂ (λ (a b : List ℕ). a ++ b) c.copy_from_slice.ensures.after c.blank.ensures
    ∙ cut_short (length c.args.into.now) c.min-count.result _ c.args.front.now least c.split_at_mut-first.ensures.back_len c.requires.front c.requires.into
