-- One copy of a row, and what it may be while it is written.
use Rattle.std.specs.Prelude.{◌≡◌, ◌⊎◌, ℕ, Bool, true, false, not, ◌==◌, List, [], slice_index}
use Rattle.mss_base.specs.Blocks.{WritesBlock, block_of}
use Rattle.mss_base.specs.Content.{SiteLog}
use Rattle.mss_base.specs.declared.place.BlockPlace.{BlockPlace}
use Rattle.mss_base.specs.Geometry.{open_gate, row_gate_at, made_mark_at, slots_at}
use Rattle.volume_table.specs.Grammar.{body}
use Rattle.table_journal.specs.Slots.{slots}
use Rattle.table_pair.specs.declared.write.Gates.{Gates}

-- what counts of a copy's block: its gate, the body that spells a row, the slots in use, which change it, its made
-- mark, and whether the gate of slot 0 is 00, as it is where there are no slots and nothing was torn
pub record CopyView : Type 0 where
  pub is_open : Bool
  pub spelled : List ℕ
  pub slots : List (List ℕ)
  pub is_made : Bool
  pub is_clear : Bool

-- an open gate alone is C1; the made mark is 00 until the volume is created
unfoldable pub copy_at : List ℕ → CopyView
copy_at block = record {
  is_open = slice_index block row_gate_at == open_gate;
  spelled = body block;
  slots = slots block;
  is_made = not (slice_index block made_mark_at == 0);
  is_clear = slice_index block slots_at == 0;
}

-- a copy after its gate was closed, after it was marked, with a body and no slot, the gate of slot 0 at 00, and open so
abbrev pub shut_copy : CopyView → CopyView
shut_copy c = record c { is_open = false }

abbrev pub marked_copy : CopyView → CopyView
marked_copy c = record c { is_made = true }

abbrev pub emptied_copy : List ℕ → CopyView → CopyView
emptied_copy bytes c = record c { spelled = bytes; slots = []; is_clear = true }

abbrev pub filled_copy : List ℕ → CopyView → CopyView
filled_copy bytes c = record c { is_open = true; spelled = bytes; slots = []; is_clear = true }

-- whether a copy is open is known, and whether the gate of its slot 0 is known to be 00
pub record HasGates (gates : Gates) (c : CopyView) : Type 0 where
  pub own : c.is_open ≡ gates.is_open
  pub clear : gates.is_clear ≡ true → c.is_clear ≡ true

-- a copy while its made mark is set: as it was, or with the mark
abbrev pub IsMarking : CopyView → CopyView → Type 0
IsMarking old now = (now ≡ old) ⊎ (now ≡ marked_copy old)

-- a copy while a body is written behind its closed gate, and the gate then opened: closed, or open with that body alone
pub record IsFilling (bytes : List ℕ) (old now : CopyView) : Type 0 where
  pub made : now.is_made ≡ old.is_made
  pub gate : (now.is_open ≡ false) ⊎ (now ≡ filled_copy bytes old)

-- a copy while it is rewritten: as it was, or being filled
abbrev pub IsRewriting : List ℕ → CopyView → CopyView → Type 0
IsRewriting bytes old now = (now ≡ old) ⊎ IsFilling bytes old now

-- the byte at a place of a block of a site, and the copy in the block
abbrev pub byte_on : SiteLog → BlockPlace → ℕ → ℕ
byte_on s at place = slice_index (block_of s at) place

abbrev pub copy_on : SiteLog → BlockPlace → CopyView
copy_on s at = copy_at (block_of s at)

-- the log got writes into this block alone, and P holds of the copy in it at each moment since
abbrev pub WritesCopy : BlockPlace → (CopyView → Type 0) → SiteLog → SiteLog → Type 0
WritesCopy at P old new = WritesBlock at (λ block. P (copy_at block)) old new
