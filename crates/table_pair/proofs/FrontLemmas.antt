-- Blocks with the same front hold the same copy.
use Rattle.std.proofs.Common.{◌≡◌, ℕ, ◌<◌, not, ◌==◌, List, ◌++◌, length, take, drop, get_or, sym, ◌∙◌, ap, arith}
use Rattle.std.proofs.lemmas.List.{get_or-take, take-take, take_at, length-take}
use Rattle.volume_table.specs.Grammar.{body}
use Rattle.table_journal.specs.Slots.{slots}
use Rattle.table_journal.proofs.SlotFacts.{same_front_slots}
use Rattle.table_pair.specs.Copies.{copy_at}
use Rattle.table_pair.proofs.CopyLemmas.{body_front}

-- of blocks of so many bytes that have the same front, in which a gate is closed
module _ (a b : List ℕ) (long : length b ≡ length a) (same : take 1024 b ≡ take 1024 a) where
  front_byte : (i : ℕ) → i < 1024 → get_or b i 0 ≡ get_or a i 0
  front_byte i low = sym (get_or-take 1024 b i 0 low) ∙ ap (λ (l : List ℕ). get_or l i 0) same ∙ get_or-take 1024 a i 0 low

  front_row : take 512 b ≡ take 512 a
  front_row = sym (take-take 512 1024 b (omega arith)) ∙ ap (take 512) same ∙ take-take 512 1024 a (omega arith)

  pub front_body : body b ≡ body a
  front_body = sym (body_front b) ∙ ap body front_row ∙ body_front a

  pub same_copy : length (slots a) < 64 → copy_at b ≡ copy_at a
  unfolding copy_at
  same_copy few = λ i. record {
    is_open = front_byte 0 (omega arith) i == 193;
    spelled = front_body i;
    slots = same_front_slots 1024 a b long same (omega arith) (omega arith) i;
    is_made = not (front_byte 511 (omega arith) i == 0);
    is_clear = front_byte 512 (omega arith) i == 0;
  }

-- a block whose front was read over that of another one
pub front_read : (old block now : List ℕ) → length block ≡ 16384 → length now ≡ 16384 → now ≡ take 1024 block ++ drop 1024 old → length (slots now) < 64 → copy_at now ≡ copy_at block
front_read old block now whole long read few =
    let front : take 1024 now ≡ take 1024 block = ap (take 1024) read ∙ take_at (take 1024 block) (drop 1024 old) 1024 (omega (arith, length-take 1024 block, whole)) in
    sym (same_copy now block (omega arith) (sym front) few)
