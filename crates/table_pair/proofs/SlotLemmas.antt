-- The slots of a copy's block, as they are read.
use Rattle.std.proofs.Common.{◌≡◌, ℕ, zero, suc, ◌+◌, ◌*◌, List, ◌∷◌, length, take, drop, refl, sym, ◌∙◌, ap, arith}
use Rattle.std.proofs.lemmas.List.{drop-drop}
use Rattle.volume_table.specs.Slots.{slots_from as read_from}
use Rattle.table_journal.specs.Slots.{slot_body, slots}
use Rattle.table_journal.proofs.SlotFacts.{bodies, slots_are_bodies}

-- slots that are read behind the row are those of the block
read_body : (n : ℕ) (block : List ℕ) → take 7 (drop (suc (8 * n)) (drop 512 block)) ≡ slot_body n block
read_body n block =
    let at : 512 + suc (8 * n) ≡ suc (512 + 8 * n) = omega arith in
    ap (take 7) (drop-drop (suc (8 * n)) 512 block ∙ ap (λ (k : ℕ). drop k block) at)

read_bodies : (count n : ℕ) (block : List ℕ) → read_from count n (drop 512 block) ≡ bodies count n block
read_bodies zero n block = refl
read_bodies (suc count) n block = λ i. read_body n block i ∷ read_bodies count (suc n) block i

-- so the slots in use are those that are read, so many of them
pub slots_read : (block : List ℕ) → read_from (length (slots block)) 0 (drop 512 block) ≡ slots block
slots_read block = read_bodies (length (slots block)) 0 block ∙ sym (slots_are_bodies block)
