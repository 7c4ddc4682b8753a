-- What a write into a block does to the copy in it.
use Rattle.std.proofs.Common.{◌≡◌, ℕ, zero, suc, ◌+◌, ◌≤◌, Bool, true, not, ◌==◌, List, [], ◌∷◌, length, get_or, take, drop, refl, sym, ◌∙◌, ap, arith}
use Rattle.std.proofs.lemmas.Bool.{eqb-true}
use Rattle.std.proofs.lemmas.List.{take-take}
use Rattle.mss_base.specs.Content.{splice}
use Rattle.mss_base.proofs.ContentLemmas.{get_or-splice_below, get_or-splice_above, get_or-splice_in}
use Rattle.volume_table.specs.Grammar.{body}
use Rattle.volume_table.proofs.SpellingLemmas.{body_splice}
use Rattle.table_journal.specs.Slots.{slots}
use Rattle.table_journal.proofs.SlotFacts.{slots_behind, slots_cleared, zero_opens_none}
use Rattle.table_pair.specs.Copies.{CopyView, copy_at, HasGates}

drop-splice : (at n : ℕ) (bytes block : List ℕ) → at + length bytes ≤ n → drop n (splice at bytes block) ≡ drop n block
unfolding splice
drop-splice zero n [] block le = refl
drop-splice zero zero (b ∷ bytes) block le = absurd (omega arith)
drop-splice zero (suc n) (b ∷ bytes) [] le = refl
drop-splice zero (suc n) (b ∷ bytes) (x ∷ block) le = drop-splice zero n bytes block (omega arith)
drop-splice (suc at) zero bytes block le = absurd (omega arith)
drop-splice (suc at) (suc n) bytes [] le = refl
drop-splice (suc at) (suc n) bytes (x ∷ block) le = drop-splice at n bytes block (omega arith)

take-splice : (at n : ℕ) (bytes block : List ℕ) → n ≤ at → take n (splice at bytes block) ≡ take n block
unfolding splice
take-splice at zero bytes block le = refl
take-splice zero (suc n) bytes block le = absurd (omega arith)
take-splice (suc at) (suc n) bytes [] le = refl
take-splice (suc at) (suc n) bytes (x ∷ block) le = ap (λ (l : List ℕ). x ∷ l) (take-splice at n bytes block (omega arith))

drop_one-splice : (at : ℕ) (bytes block : List ℕ) → drop 1 (splice (suc at) bytes block) ≡ splice at bytes (drop 1 block)
unfolding splice
drop_one-splice zero [] [] = refl
drop_one-splice zero (b ∷ bytes) [] = refl
drop_one-splice (suc at) bytes [] = refl
drop_one-splice at bytes (x ∷ block) = refl

module _ (left block : List ℕ) (whole : length block ≡ 16384) where
  -- the gate is written
  pub gate_written : length left ≡ 1 → copy_at (splice 0 left block) ≡ record (copy_at block) { is_open = get_or left 0 0 == 193 }
  unfolding copy_at
  gate_written one = λ i. record {
    is_open = get_or-splice_in 0 left block 0 0 refl (omega arith) (omega arith) i == 193;
    spelled = take 510 (drop-splice 0 1 left block (omega arith) i);
    slots = slots_behind 0 left block (omega arith) i;
    is_made = not (get_or-splice_above 0 left block 511 (omega arith) i == 0);
    is_clear = get_or-splice_above 0 left block 512 (omega arith) i == 0;
  }

  -- the body is written
  pub body_written : length left ≡ 510 → copy_at (splice 1 left block) ≡ record (copy_at block) { spelled = left }
  unfolding copy_at
  body_written full = λ i. record {
    is_open = get_or-splice_below 1 left block 0 (omega arith) i == 193;
    spelled = body_splice left block full (omega arith) i;
    slots = slots_behind 1 left block (omega arith) i;
    is_made = not (get_or-splice_above 1 left block 511 (omega arith) i == 0);
    is_clear = get_or-splice_above 1 left block 512 (omega arith) i == 0;
  }

  -- the made mark is written
  pub mark_written : length left ≡ 1 → copy_at (splice 511 left block) ≡ record (copy_at block) { is_made = not (get_or left 0 0 == 0) }
  unfolding copy_at
  mark_written one = λ i. record {
    is_open = get_or-splice_below 511 left block 0 (omega arith) i == 193;
    spelled = (ap (take 510) (drop_one-splice 510 left block) ∙ take-splice 510 510 left (drop 1 block) (omega arith)) i;
    slots = slots_behind 511 left block (omega arith) i;
    is_made = not (get_or-splice_in 511 left block 511 0 refl (omega arith) (omega arith) i == 0);
    is_clear = get_or-splice_above 511 left block 512 (omega arith) i == 0;
  }

  -- the gate of slot 0 becomes 00
  pub slot_shut : copy_at (splice 512 (0 ∷ []) block) ≡ record (copy_at block) { slots = []; is_clear = true }
  unfolding copy_at
  slot_shut = λ i. record {
    is_open = get_or-splice_below 512 (0 ∷ []) block 0 (omega arith) i == 193;
    spelled = (ap (take 510) (drop_one-splice 511 (0 ∷ []) block) ∙ take-splice 511 510 (0 ∷ []) (drop 1 block) (omega arith)) i;
    slots = slots_cleared (0 ∷ []) block (omega arith) (omega arith) refl i;
    is_made = not (get_or-splice_below 512 (0 ∷ []) block 511 (omega arith) i == 0);
    is_clear = get_or-splice_in 512 (0 ∷ []) block 512 0 refl (omega arith) (omega arith) i == 0;
  }

-- a copy with the gate that it has
pub same_gate : (c : CopyView) (flag : Bool) → c.is_open ≡ flag → record c { is_open = flag } ≡ c
same_gate c flag is = λ i. record c { is_open = sym is i }

pub same_mark : (c : CopyView) (flag : Bool) → c.is_made ≡ flag → record c { is_made = flag } ≡ c
same_mark c flag is = λ i. record c { is_made = sym is i }

-- what the bytes of a block say of its gate and of its mark
pub gate_of : (block : List ℕ) → (copy_at block).is_open ≡ (get_or block 0 0 == 193)
unfolding copy_at
gate_of block = refl

pub mark_of : (block : List ℕ) → (copy_at block).is_made ≡ not (get_or block 511 0 == 0)
unfolding copy_at
mark_of block = refl

pub spelled_of : (block : List ℕ) → (copy_at block).spelled ≡ body block
unfolding copy_at
spelled_of block = refl

pub slots_of : (block : List ℕ) → (copy_at block).slots ≡ slots block
unfolding copy_at
slots_of block = refl

-- slots that were counted in a block are those of its copy
pub counted : (block : List ℕ) (n : ℕ) → n ≡ length (slots block) → length (copy_at block).slots ≡ n
counted block n is = ap (λ (xs : List (List ℕ)). length xs) (slots_of block) ∙ sym is

pub clear_of : (block : List ℕ) → (copy_at block).is_clear ≡ (get_or block 512 0 == 0)
unfolding copy_at
clear_of block = refl

-- where the gate of slot 0 is 00 there are no slots
pub clear_slots : (block : List ℕ) → (copy_at block).is_clear ≡ true → (copy_at block).slots ≡ []
clear_slots block is = slots_of block ∙ zero_opens_none block (eqb-true (get_or block 512 0) 0 (sym (clear_of block) ∙ is))

-- the gates of a copy whose block was read
pub gates_read : (block : List ℕ) → HasGates (record { is_open = get_or block 0 0 == 193; is_clear = get_or block 512 0 == 0 }) (copy_at block)
gates_read block = record { own = gate_of block; clear = λ is. clear_of block ∙ is }

-- a copy without slots
pub no_slot : (c : CopyView) → c.slots ≡ [] → record c { slots = [] } ≡ c
no_slot c none = λ i. record c { slots = sym none i }

-- the front of a block has its body
pub body_front : (block : List ℕ) → body (take 512 block) ≡ body block
body_front [] = refl
body_front (x ∷ block) = take-take 510 511 block (omega arith)
