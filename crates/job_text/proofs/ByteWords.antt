-- A word of one pair of digits, and the bytes of a word of many.
use Rattle.std.proofs.Common.{◌≡◌, ℕ, Bool, true, false, List, Some, None, refl}
use Rattle.std.specs.Prelude.{if◌then◌else◌}
use Rattle.job_text.specs.Words.{byte_of, byte_word, is_hex_byte}

-- a word that says a byte
pub byte_read : (word : List ℕ) (b : ℕ) → byte_word word ≡ Some b → (is_hex_byte word ≡ true) × (b ≡ byte_of word)
byte_read word b read = by (is_hex_byte word) refl read
  where
    by : (t : Bool) → is_hex_byte word ≡ t → (if t then Some (byte_of word) else None) ≡ Some b → (is_hex_byte word ≡ true) × (b ≡ byte_of word)
    by true test same = (test, (let same_ : Some (byte_of word) ≡ Some b = same in cc))
    by false test same = absurd cc

-- a word that says none
pub byte_unread : (word : List ℕ) → byte_word word ≡ None → is_hex_byte word ≡ false
byte_unread word read = by (is_hex_byte word) refl read
  where
    by : (t : Bool) → is_hex_byte word ≡ t → (if t then Some (byte_of word) else None) ≡ None → is_hex_byte word ≡ false
    by true test same = absurd cc
    by false test same = test
