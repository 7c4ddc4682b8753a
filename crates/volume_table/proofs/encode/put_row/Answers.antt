use Rattle.std.proofs.Common.{◌≡◌, ◌∙◌, [], ◌∷◌, ap, ℕ, List, Option, map}
use Rattle.std.specs.Int.{w16, to_be_bytes}
use Rattle.mss_base.specs.Content.{splice}
use Rattle.volume_table.specs.States.{state_number}
use Rattle.volume_table.specs.declared.state.CylinderState.{CylinderState}
use Rattle.volume_table.specs.Row.{RowValue}
use Rattle.volume_table.specs.RowInside.{row_value}
use Rattle.volume_table.specs.Grammar.{spelling, two, page_byte}
use Rattle.volume_table.proofs.SpellingLemmas.{written, two_bytes}
use Rattle.volume_table.proofs.encode.put_row.Goals as goal

pub returns : goal.returns
returns c =
    let r : RowValue = row_value c.row.inside in
    let first : c.to_be_bytes.result ≡ two r.first = c.to_be_bytes.ensures ∙ ap (to_be_bytes w16) c.get.ensures.value ∙ two_bytes r.first c.row.invariant.first in
    let second : c.to_be_bytes-2.result ≡ two r.second = c.to_be_bytes-2.ensures ∙ ap (to_be_bytes w16) c.get-2.ensures.value ∙ two_bytes r.second c.row.invariant.second in
    written r c.args.into.now c.put.new.into c.put-2.new.into c.put-3.new.into c.put-4.new.into c.put_pages.new.into c.put-5.new.into c.put_states.new.into c.put-6.new.into c.row.invariant c.requires
    c.put.ensures
    (c.put-2.ensures ∙ ap (λ (b : List ℕ). splice 2 b c.put.new.into) c.as_slice.ensures.value)
    (c.put-3.ensures ∙ ap (λ (b : List ℕ). splice 8 b c.put-2.new.into) first)
    (c.put-4.ensures ∙ ap (λ (b : List ℕ). splice 10 b c.put-3.new.into) second)
    (c.put_pages.ensures ∙ ap (λ (ps : List (Option ℕ)). splice 12 (map page_byte ps) c.put-4.new.into) c.as_slice-2.ensures)
    (c.put-5.ensures ∙ ap (λ (b : ℕ). splice 63 (b ∷ []) c.put_pages.new.into) c.mark_byte.ensures)
    (c.put_states.ensures ∙ ap (λ (xs : List CylinderState). splice 64 (map state_number xs) c.put-5.new.into) c.as_slice-3.ensures)
    c.put-6.ensures
    ∙ ap (λ (v : RowValue). splice 1 (spelling v) c.args.into.now) c.row.view_is
