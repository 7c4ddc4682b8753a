use Rattle.std.proofs.Common.{◌≡◌, ◌≢◌, ◌∙◌, refl, sym, ap, arith, get_or, not, ◌==◌, take, drop, length, List, ℕ, Bool, Result}
use Rattle.std.proofs.lemmas.Bool.{eq-eqb, ne_eqb}
use Rattle.volume_table.specs.Row.{RowValue}
use Rattle.volume_table.specs.Grammar.{body}
use Rattle.volume_table.specs.Slots.{told_by, slots_from as read_from}
use Rattle.volume_table.specs.declared.fault.RowFault.{RowFault}
use Rattle.table_journal.specs.Slots.{slots}
use Rattle.table_pair.specs.Copies.{copy_at}
use Rattle.table_pair.specs.Pair.{opened, closed, read_of}
use Rattle.table_pair.proofs.SlotLemmas.{slots_read}
use Rattle.table_pair.proofs.CopyLemmas.{gate_of, mark_of, spelled_of, slots_of, body_front}
use Rattle.table_pair.proofs.PairFacts.{open_read, closed_read}
use Rattle.table_pair.proofs.read.copy_state.Goals as goal

-- the row of a body in front and of so many slots behind
told_front : (block front rest : List ℕ) (count : ℕ) → front ≡ take 512 block → rest ≡ drop 512 block → count ≡ length (slots block) → told_by (body front) (read_from count 0 rest) ≡ told_by (copy_at block).spelled (copy_at block).slots
told_front block front rest count is behind counted =
    (λ i. told_by (body (is i)) (read_from (counted i) 0 (behind i)))
    ∙ (λ i. told_by (body_front block i) (slots_read block i))
    ∙ (λ i. told_by (sym (spelled_of block) i) (sym (slots_of block) i))

open_is : (block front rest : List ℕ) (count : ℕ) (row : Result RowValue RowFault) → front ≡ take 512 block → rest ≡ drop 512 block → count ≡ length (slots block)
    → get_or block 0 0 ≡ 193 → told_by (body front) (read_from count 0 rest) ≡ row → opened row ≡ read_of (copy_at block)
open_is block front rest count row is behind counted gate found =
    sym (open_read (copy_at block) (gate_of block ∙ eq-eqb (get_or block 0 0) 193 gate) ∙ ap (λ (r : Result RowValue RowFault). opened r) (sym (told_front block front rest count is behind counted) ∙ found))

closed_is : (block : List ℕ) (made : Bool) → get_or block 0 0 ≢ 193 → made ≡ not (get_or block 511 0 == 0) → closed made ≡ read_of (copy_at block)
closed_is block made is mark = ap closed (mark ∙ sym (mark_of block)) ∙ sym (closed_read (copy_at block) (gate_of block ∙ ne_eqb (get_or block 0 0) 193 is))

-- the bytes that are read are those of the block
of_block : (bytes block : List ℕ) → bytes ≡ block → read_of (copy_at bytes) ≡ read_of (copy_at block)
of_block bytes block same = ap (λ (b : List ℕ). read_of (copy_at b)) same

pub returns-then-block : goal.returns-then-block
returns-then-block c =
    let bytes = c.as_slice-block.result.now in
    closed_is bytes _ c.if-block.true refl ∙ of_block bytes c.args.block.now c.as_slice-block.ensures.bytes

pub returns-in-Ok : goal.returns-in-Ok
returns-in-Ok c =
    let bytes = c.as_slice-block.result.now in
    open_is bytes _ _ _ _ c.split_at.ensures.front c.split_at.ensures.back c.read_slots.ensures.count (omega arith) c.in-Ok.ensures ∙ of_block bytes c.args.block.now c.as_slice-block.ensures.bytes

pub returns-in-Err-Bad : goal.returns-in-Err-Bad
returns-in-Err-Bad c =
    let bytes = c.as_slice-block.result.now in
    open_is bytes _ _ _ _ c.split_at.ensures.front c.split_at.ensures.back c.read_slots.ensures.count (omega arith) (rw c.in-Err-Bad.field-0-is at c.in-Err-Bad.ensures) ∙ of_block bytes c.args.block.now c.as_slice-block.ensures.bytes
