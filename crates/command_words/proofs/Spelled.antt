-- A text that begins with a hyphen has a character behind it.
use Rattle.std.proofs.Common.{◌≡◌, ℕ, Bool, true, false, List, [], ◌∷◌, map, Some, None, refl, sym, ap, subst, arith, eqb-true, string_bytes, String, Global}
use Rattle.std.specs.Prelude.{◌==◌, slice_get, if◌then◌else◌}
use Rattle.std.specs.List.{AllByRecursion}
use Rattle.std.specs.Option.{option_and_then}
use Rattle.std.specs.Str.{IsUtf8, chars}
use Rattle.std.proofs.lemmas.Str.{IsCharBoundary-after_ascii, IsUtf8-drop, IsUtf8-string_bytes, encodes-chars}
use lib.Utf8.{encodes}
use Rattle.clap.specs.Lexer.{short_of, short_of_rest}
use Rattle.command_words.specs.Options.{Text}
use Rattle.command_words.proofs.Walks.{IsSpelled}

first_char : (y : ℕ) (ys : Text) → IsUtf8 (y ∷ ys) → (x : ℕ) × (slice_get (chars (y ∷ ys)) 0 ≡ Some x)
first_char y ys u = go (chars (y ∷ ys)) (encodes-chars (y ∷ ys) u)
  where
    go : (cs : List ℕ) → encodes cs ≡ y ∷ ys → (x : ℕ) × (slice_get cs 0 ≡ Some x)
    go [] e = absurd (cc)
    go (c ∷ cs) e = (c, refl)

-- what the test of a short option says of a word
record IsShort (word flags : Text) : Type 0 where
  first : ℕ
  rest : Text
  flags_are : flags ≡ first ∷ rest
  word_is : word ≡ 45 ∷ first ∷ rest

dashed : (x y : ℕ) (ys flags : Text) → x ≡ 45 → (b : Bool) → (if b then None else Some (y ∷ ys)) ≡ Some flags → IsShort (x ∷ y ∷ ys) flags
dashed x y ys flags h true e = absurd (cc)
dashed x y ys flags h false e = record {
  first = y;
  rest = ys;
  flags_are = (let back : Some flags ≡ Some (y ∷ ys) = sym e in cc);
  word_is = ap (λ (n : ℕ). n ∷ y ∷ ys) h;
}

short_parts : (word flags : Text) → short_of word ≡ Some flags → IsShort word flags
short_parts [] flags e = absurd (cc)
short_parts (x ∷ []) flags e = go (x == 45) e
  where
    go : (b : Bool) → option_and_then short_of_rest (if b then Some [] else None) ≡ Some flags → IsShort (x ∷ []) flags
    go true e = absurd (cc)
    go false e = absurd (cc)
short_parts (x ∷ y ∷ ys) flags e = go (x == 45) refl e
  where
    go : (a : Bool) → (x == 45) ≡ a → option_and_then short_of_rest (if a then Some (y ∷ ys) else None) ≡ Some flags → IsShort (x ∷ y ∷ ys) flags
    go true h e = dashed x y ys flags (eqb-true x 45 h) (y == 45) e
    go false h e = absurd (cc)

spelled_text : (word : Text) → IsUtf8 word → IsSpelled word
spelled_text word u flags e =
    let p = short_parts word flags e in
    let w : IsUtf8 (45 ∷ p.first ∷ p.rest) = subst IsUtf8 p.word_is u in
    let behind : IsUtf8 (p.first ∷ p.rest) = IsUtf8-drop (45 ∷ p.first ∷ p.rest) 1 w (IsCharBoundary-after_ascii (45 ∷ p.first ∷ p.rest) 0 w (omega arith) (omega arith)) in
    subst (λ (t : Text). (x : ℕ) × (slice_get (chars t) 0 ≡ Some x)) (sym p.flags_are) (first_char p.first p.rest behind)

pub all_spelled : (words : List (String Global)) → AllByRecursion IsSpelled (map string_bytes words)
all_spelled [] = tt
all_spelled (word ∷ words) = (spelled_text (string_bytes word) (IsUtf8-string_bytes word), all_spelled words)
