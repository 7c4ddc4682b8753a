use Rattle.std.proofs.Common.{◌≡◌, ◌∙◌, ◌+◌, ◌++◌, [], ◌∷◌, sym, ap, ℕ, List, None, take, map, get_or, arith}
use Rattle.std.proofs.lemmas.List.{map_more, get_or_read, length-map, length-take}
use Rattle.mss_base.specs.Content.{splice}
use Rattle.volume_table.specs.Grammar.{page_byte}
use Rattle.volume_table.proofs.SpellingLemmas.{more, splice_none}
use Rattle.volume_table.proofs.encode.put_pages.Goals as goal

pub loop-page-init : goal.loop-page-init
loop-page-init c = sym (splice_none c.args.at c.args.into.now)

pub loop-page-preserved : goal.loop-page-preserved
loop-page-preserved c =
    let pages = c.args.pages.now in
    let i = c.loop-page.page in
    let byte : c.page_byte.result ≡ page_byte (get_or pages i None) = c.page_byte.ensures ∙ ap page_byte (get_or_read pages i c.index-pages-page.result (omega arith) c.index-pages-page.is None) in
    let front = map page_byte (take i pages) in
    more c.args.at (c.args.at + i) front (c.page_byte.result ∷ []) c.args.into.now c.loop-page.into c.put.new.into c.loop-page.invariant c.put.ensures (omega (arith, length-map (take i pages) page_byte, length-take i pages)) (omega arith)
    ∙ ap (λ (l : List ℕ). splice c.args.at l c.args.into.now) (ap (λ (b : ℕ). front ++ b ∷ []) byte ∙ sym (map_more page_byte pages i None (omega arith)))
