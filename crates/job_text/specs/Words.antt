-- The lines of a text, the words of a line, and how words are spelled.
use Rattle.std.specs.Prelude.{ℕ, ◌+◌, ◌*◌, ◌%◌, ◌==◌, nat_le, Bool, ◌&&◌, ◌||◌, not, List, [], ◌∷◌}
use Rattle.std.specs.Prelude.{length, slice_index, Option, Some, None, unwrap_or, if◌then◌else◌}
use Rattle.std.specs.List.{slice_split, list_all}
use Rattle.mss_base.specs.Decimal.{is_digit, number_of}
use Rattle.mss_base.specs.Serial.{is_serial_byte}
use Rattle.hex.specs.Hex.{is_hex_digit, hex_digit_value}

-- Each line ends with a line feed; a last line without one counts. So an empty last part is no line.
abbrev pub lines_of_parts : List (List ℕ) → List (List ℕ)
lines_of_parts [] = []
lines_of_parts ([] ∷ []) = []
lines_of_parts ((b ∷ part) ∷ []) = (b ∷ part) ∷ []
lines_of_parts (part ∷ next ∷ parts) = part ∷ lines_of_parts (next ∷ parts)

abbrev pub lines_of : List ℕ → List (List ℕ)
lines_of text = lines_of_parts (slice_split (λ b. b == 10) text)

-- the words of a line: exactly one space stands between two, so two spaces have an empty word between them
abbrev pub words_of : List ℕ → List (List ℕ)
words_of line = slice_split (λ b. b == 32) line

-- an empty line, and one that begins with `#`
abbrev pub is_skipped : List ℕ → Bool
is_skipped line = length line == 0 || slice_index line 0 == 0x23

abbrev pub is_printable : ℕ → Bool
is_printable b = nat_le 0x20 b && nat_le b 0x7E

-- `0`, or one to five digits without a leading zero
abbrev pub is_number : List ℕ → Bool
is_number word = nat_le 1 (length word) && nat_le (length word) 5 && list_all is_digit word && (length word == 1 || not (slice_index word 0 == 48))

-- six characters of `A` to `Z` and `0` to `9`
abbrev pub is_serial : List ℕ → Bool
is_serial word = length word == 6 && list_all is_serial_byte word

-- pairs of hexadecimal digits in either case, at least one
abbrev pub is_hex : List ℕ → Bool
is_hex word = nat_le 1 (length word) && length word % 2 == 0 && list_all is_hex_digit word

-- the bytes that the pairs say
abbrev pub bytes_of : List ℕ → List ℕ
bytes_of [] = []
bytes_of (digit ∷ []) = []
bytes_of (high ∷ low ∷ word) = (unwrap_or (hex_digit_value high) 0 * 16 + unwrap_or (hex_digit_value low) 0) ∷ bytes_of word

abbrev pub is_hex_byte : List ℕ → Bool
is_hex_byte word = length word == 2 && is_hex word

abbrev pub byte_of : List ℕ → ℕ
byte_of word = slice_index (bytes_of word) 0

-- what the word says as a number, a byte or bytes, where it is spelled so
abbrev pub number_word : List ℕ → Option ℕ
number_word word = if is_number word then Some (number_of word) else None

abbrev pub byte_word : List ℕ → Option ℕ
byte_word word = if is_hex_byte word then Some (byte_of word) else None
