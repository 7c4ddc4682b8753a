-- Blocks, or fronts of blocks, that lie one behind the other in a list of bytes.
use Rattle.std.specs.Prelude.{◌≡◌, ◌⊎◌, ℕ, ◌+◌, ◌-◌, ◌≤◌, List, length, take, drop}
use Rattle.std.proofs.Common.{sym, subst}
use Rattle.std.proofs.Math.Nat.{le_trans, le-add_right, add-sub_of_le}
use Rattle.std.proofs.Math.Arith.{add-le_cancel_left}
use Rattle.std.proofs.lemmas.List.{length-take-le, length-drop}

-- the block of so many bytes that begins at a place
unfoldable pub block_from : ℕ → ℕ → List ℕ → List ℕ
block_from size from bytes = take size (drop from bytes)

pub length-block_from : (size from : ℕ) (bytes : List ℕ) → from + size ≤ length bytes → length (block_from size from bytes) ≡ size
unfolding block_from
length-block_from size from bytes inside =
    let within : from ≤ length bytes = le_trans (le-add_right from size) inside in
    let joined : from + size ≤ from + (length bytes - from) = subst (λ (n : ℕ). from + size ≤ n) (sym (add-sub_of_le within)) inside in
    length-take-le size (drop from bytes) (subst (λ (n : ℕ). size ≤ n) (sym (length-drop from bytes)) (add-le_cancel_left from joined))

-- no block changed but the one that begins at `from`, and none is gone
pub record ChangesBlock (size from : ℕ) (old new : List ℕ) : Type 0 where
  pub long : length old ≤ length new
  pub others : (other : ℕ) → other + size ≤ length old
      → (other + size ≤ from) ⊎ (from + size ≤ other)
      → block_from size other new ≡ block_from size other old
