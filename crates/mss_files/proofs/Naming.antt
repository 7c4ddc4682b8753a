-- Names of units' files.
use Rattle.std.proofs.Common.{rules, ◌≡◌, ℕ, ◌<◌, ◌≤◌, List, ◌++◌, take, drop, get_or, refl, sym, ◌∙◌, ap, subst, arith}
use Rattle.std.specs.Prelude.{Option, Some, Result, codes, decimal}
use Rattle.std.specs.Result.{result_ok}
use Rattle.std.specs.Str.Parse.{ParsesUnsigned}
use Rattle.std.specs.Str.Pattern.{StripsPrefix, FindsTextPrefix}
use Rattle.std.proofs.Math.Seq.{drop-append_seam}
use Rattle.std.specs.Str.{IsUtf8, IsAscii}
use Rattle.std.proofs.lemmas.Str.{IsAscii-append, IsUtf8-from_ascii}
use Rattle.std.proofs.lemmas.Str.Ascii.{IsAscii-from_all}
use Rattle.std.proofs.lemmas.Fmt.{IsAscii-decimal, parse-decimal}
use Rattle.mss_base.specs.declared.place.UnitNo.{UnitNo}
use Rattle.mss_base.specs.declared.place.UnitNo.TheVariants.{TableA, TableB, Staging, Cartridge}
use Rattle.mss_files.specs.Paths.{unit_name, IsUnit}

byte_at : (k : ℕ) (a b : List ℕ) → a ≡ b → get_or a k 0 ≡ get_or b k 0
byte_at k a b e = ap (λ (l : List ℕ). get_or l k 0) e

-- each name is text
name_is_ascii : (unit : UnitNo) → IsUnit unit → IsAscii (unit_name unit)
name_is_ascii TableA is = IsAscii-from_all (codes "table_a") (search rules)
name_is_ascii TableB is = IsAscii-from_all (codes "table_b") (search rules)
name_is_ascii (Staging n) is = IsAscii-append (codes "staging_") (decimal n) (IsAscii-from_all (codes "staging_") (search rules)) (IsAscii-decimal n (omega (arith, is)))
name_is_ascii (Cartridge n) is = IsAscii-append (codes "cartridge_") (decimal n) (IsAscii-from_all (codes "cartridge_") (search rules)) (IsAscii-decimal n (omega (arith, is)))

pub name_is_text : (unit : UnitNo) → IsUnit unit → IsUtf8 (unit_name unit)
name_is_text unit is = IsUtf8-from_ascii (unit_name unit) (name_is_ascii unit is)

-- no other unit has the name of a copy of the table
pub is_table_a : (unit : UnitNo) → codes "table_a" ≡ unit_name unit → TableA ≡ unit
is_table_a TableA e = refl
is_table_a TableB e = let h : 97 ≡ 98 = byte_at 6 (codes "table_a") (codes "table_b") e in absurd (omega (arith, h))
is_table_a (Staging n) e = let h : 116 ≡ 115 = byte_at 0 (codes "table_a") (codes "staging_" ++ decimal n) e in absurd (omega (arith, h))
is_table_a (Cartridge n) e = let h : 116 ≡ 99 = byte_at 0 (codes "table_a") (codes "cartridge_" ++ decimal n) e in absurd (omega (arith, h))

pub is_table_b : (unit : UnitNo) → codes "table_b" ≡ unit_name unit → TableB ≡ unit
is_table_b TableA e = let h : 98 ≡ 97 = byte_at 6 (codes "table_b") (codes "table_a") e in absurd (omega (arith, h))
is_table_b TableB e = refl
is_table_b (Staging n) e = let h : 116 ≡ 115 = byte_at 0 (codes "table_b") (codes "staging_" ++ decimal n) e in absurd (omega (arith, h))
is_table_b (Cartridge n) e = let h : 116 ≡ 99 = byte_at 0 (codes "table_b") (codes "cartridge_" ++ decimal n) e in absurd (omega (arith, h))

-- the other names are read by their numbers
pub is_numbered : (unit : UnitNo) (name : List ℕ) (result : Option UnitNo) → IsUnit unit → name ≡ unit_name unit
    → (name ≡ codes "table_a" → ⊥) → (name ≡ codes "table_b" → ⊥)
    → ((n : ℕ) → n < 256 → name ≡ codes "staging_" ++ decimal n → result ≡ Some (Staging n))
    → ((n : ℕ) → n ≤ 2047 → name ≡ codes "cartridge_" ++ decimal n → result ≡ Some (Cartridge n))
    → result ≡ Some unit
is_numbered TableA name result is e a b staging cartridge = absurd (a e)
is_numbered TableB name result is e a b staging cartridge = absurd (b e)
is_numbered (Staging n) name result is e a b staging cartridge = staging n is e
is_numbered (Cartridge n) name result is e a b staging cartridge = cartridge n is e

-- a name of a cartridge doesn't begin as one of a staging disk does
pub no_staging : (n : ℕ) (name : List ℕ) → name ≡ codes "cartridge_" ++ decimal n → take 8 name ≡ codes "staging_" → ⊥
no_staging n name e front =
    let h : 99 ≡ 115 = byte_at 0 (take 8 (codes "cartridge_" ++ decimal n)) (codes "staging_") (ap (take 8) (sym e) ∙ front) in
    absurd (omega (arith, h))

-- the digits behind a word are read as their number
pub number_read : {E : Type 0} (word name digits : List ℕ) (n : ℕ) (read : Result ℕ E) (told : Option ℕ)
    → StripsPrefix (FindsTextPrefix word) name digits → ParsesUnsigned 16 10 digits read → told ≡ result_ok read
    → n < 65536 → name ≡ word ++ decimal n → told ≡ Some n
number_read word name digits n read told (k, (at, rest, text), is, long) parsed from small e =
    let behind : digits ≡ decimal n = is ∙ ap (drop k) e ∙ ap (λ (m : ℕ). drop m (word ++ decimal n)) at ∙ drop-append_seam word (decimal n) in
    from ∙ ap result_ok (parse-decimal 16 n digits read (omega (arith, small)) (omega (arith, small)) behind parsed)

-- what isn't text is no name
pub not_a_name : (name : List ℕ) (unit : UnitNo) (told : Option UnitNo) → (IsUtf8 name → ⊥) → IsUnit unit → name ≡ unit_name unit → told ≡ Some unit
not_a_name name unit told other is e = absurd (other (subst IsUtf8 (sym e) (name_is_text unit is)))
