-- A line's canonical text is read back, wherever its keyword is allowed.
use Rattle.std.proofs.Common.{◌≡◌, ℕ, suc, ◌+◌, ◌/◌, ◌%◌, ◌^◌, ◌<◌, ◌≤◌, Bool, true, false, List, [], ◌∷◌, ◌++◌, length, drop, Ok, refl, sym, ap, ◌∙◌, arith, inl, inr, ◌⊎◌, le-leb}
use Rattle.std.proofs.lemmas.Bool.{and_from, and_parts, ne_eqb, leb-true, ltb-true, ltb-false, cases_Bool}
use Rattle.std.specs.Prelude.{decimal, ◌&&◌, ◌||◌, ◌==◌, not, nat_lt, Some}
use Rattle.std.specs.Fmt.{digit_glyph}
use Rattle.std.specs.List.{list_all, AllByRecursion, join_with_byte, slice_split, onto_first}
use Rattle.job_text.specs.declared.kind.Keyword.{Keyword}
use Rattle.job_text.specs.declared.kind.Place.{Place}
use Rattle.job_text.specs.declared.kind.Place.TheVariants as place
use Rattle.mss_base.specs.Decimal.{is_digit}
use Rattle.job_text.specs.Words.{is_printable, is_skipped, words_of, is_serial}
use Rattle.mss_base.specs.Serial.{is_serial_byte}
use Rattle.job_text.specs.Lines.{LineData, mss, volume, host, done, mount, demount, program, ccw, tic, end, spelling, keyword_at, line_of}
use Rattle.job_text.specs.Grammar.{SoFar, after_line, line_of_words, spoken_by, ◌>>=◌, is_after, line_after}
use Rattle.job_text.specs.Canonical.{keyword_of, words_said, IsLine, IsAllowed, line_bytes, hex}
use Rattle.job_text.proofs.Spelling.{digits_of_decimal}
use Rattle.job_text.proofs.LineBack.{line_back}

-- a byte of a word
abbrev pub plain : ℕ → Bool
plain b = is_printable b && not (b == 32)

pub plain_between : (b : ℕ) → 33 ≤ b → b ≤ 126 → plain b ≡ true
plain_between b low high = and_from _ _ (and_from _ _ (le-leb 32 b (omega arith)) (le-leb b 126 high)) (ap not (ne_eqb b 32 (λ (e : b ≡ 32). omega arith)))

pub all_more : (p q : ℕ → Bool) → ((b : ℕ) → p b ≡ true → q b ≡ true) → (xs : List ℕ) → list_all p xs ≡ true → list_all q xs ≡ true
all_more p q f [] h = refl
all_more p q f (x ∷ xs) h = let t = and_parts _ _ h in and_from _ _ (f x t.0) (all_more p q f xs t.1)

digit_plain : (b : ℕ) → is_digit b ≡ true → plain b ≡ true
digit_plain b h = let t = and_parts _ _ h in let low = leb-true 48 b t.0 in let high = leb-true b 57 t.1 in plain_between b (omega arith) (omega arith)

either : (a b : Bool) → (a || b) ≡ true → (a ≡ true) ⊎ (b ≡ true)
either true b h = inl refl
either false b h = inr h

serial_plain : (b : ℕ) → is_serial_byte b ≡ true → plain b ≡ true
serial_plain b h =
    elim (either _ _ h) [
      | inl letter ↦ (let t = and_parts _ _ letter in let low = leb-true 65 b t.0 in let high = leb-true b 90 t.1 in plain_between b (omega arith) (omega arith))
      | inr digit ↦ digit_plain b digit
    ]

glyph_plain : (d : ℕ) → d < 16 → plain (digit_glyph true d) ≡ true
glyph_plain d h =
    elim (cases_Bool (nat_lt d 10)) [
      | inl t ↦ (let lt = ltb-true d 10 t in rw t (plain_between (48 + d) (omega arith) (omega arith)))
      | inr f ↦ (let ge = ltb-false d 10 f in rw f (plain_between (55 + d) (omega arith) (omega arith)))
    ]

hex_plain : (bytes : List ℕ) → AllByRecursion (λ b. b < 256) bytes → list_all plain (hex bytes) ≡ true
hex_plain [] h = refl
hex_plain (b ∷ bytes) h = and_from _ _ (glyph_plain (b / 16) (omega (arith, h.0))) (and_from _ _ (glyph_plain (b % 16) (omega (arith, h.0))) (hex_plain bytes h.1))

number_plain : (n : ℕ) → n < 2 ^ 64 → list_all plain (decimal n) ≡ true
number_plain n h = all_more is_digit plain digit_plain (decimal n) (digits_of_decimal n h)

word_plain : (s : List ℕ) → is_serial s ≡ true → list_all plain s ≡ true
word_plain s h = all_more is_serial_byte plain serial_plain s (and_parts _ _ h).1

abbrev pub ArePlain : List (List ℕ) → Type 0
ArePlain words = AllByRecursion (λ w. list_all plain w ≡ true) words

pub words_plain : (line : LineData) → IsLine line → ArePlain (spelling (keyword_of line) ∷ words_said line)
words_plain (mss f r) h = (refl, (refl, (refl, (number_plain f (omega (arith, h.1)), (refl, (number_plain r (omega (arith, h.3)), tt))))))
words_plain (volume n s true) h = (refl, (number_plain n (omega (arith, h.0)), (word_plain s h.1, (refl, tt))))
words_plain (volume n s false) h = (refl, (number_plain n (omega (arith, h.0)), (word_plain s h.1, tt)))
words_plain (host n) h = (refl, (number_plain n (omega (arith, h.1)), tt))
words_plain done h = (refl, tt)
words_plain (mount s true) h = (refl, (word_plain s h, (refl, tt)))
words_plain (mount s false) h = (refl, (word_plain s h, tt))
words_plain demount h = (refl, tt)
words_plain program h = (refl, tt)
words_plain (ccw code []) h = (refl, (hex_plain (code ∷ []) (h.0, tt), tt))
words_plain (ccw code (b ∷ argument)) h = (refl, (hex_plain (code ∷ []) (h.0, tt), (hex_plain (b ∷ argument) h.1, tt)))
words_plain (tic n) h = (refl, (number_plain n (omega (arith, h)), tt))
words_plain end h = (refl, tt)

not_true : (b : Bool) → not b ≡ true → b ≡ false
not_true true h = sym h
not_true false h = refl

split_word : (w rest : List ℕ) → list_all plain w ≡ true → slice_split (λ b. b == 32) (w ++ 32 ∷ rest) ≡ w ∷ slice_split (λ b. b == 32) rest
split_word [] rest h = refl
split_word (x ∷ w) rest h =
    let t = and_parts _ _ h in
    let e : (x == 32) ≡ false = not_true _ (and_parts _ _ t.0).1 in
    rw e (ap (onto_first x) (split_word w rest t.1))

split_last : (w : List ℕ) → list_all plain w ≡ true → slice_split (λ b. b == 32) w ≡ w ∷ []
split_last [] h = refl
split_last (x ∷ w) h =
    let t = and_parts _ _ h in
    let e : (x == 32) ≡ false = not_true _ (and_parts _ _ t.0).1 in
    rw e (ap (onto_first x) (split_last w t.1))

pub split_join : (w : List ℕ) (ws : List (List ℕ)) → ArePlain (w ∷ ws) → words_of (join_with_byte 32 (w ∷ ws)) ≡ w ∷ ws
split_join w [] h = split_last w h.0
split_join w (v ∷ ws) h = split_word w (join_with_byte 32 (v ∷ ws)) h.0 ∙ ap (λ (r : List (List ℕ)). w ∷ r) (split_join v ws h.1)

printable_append : (a b : List ℕ) → list_all plain a ≡ true → list_all is_printable b ≡ true → list_all is_printable (a ++ b) ≡ true
printable_append [] b h i = i
printable_append (x ∷ a) b h i = let t = and_parts _ _ h in and_from _ _ (and_parts _ _ t.0).0 (printable_append a b t.1 i)

pub printable_join : (w : List ℕ) (ws : List (List ℕ)) → ArePlain (w ∷ ws) → list_all is_printable (join_with_byte 32 (w ∷ ws)) ≡ true
printable_join w [] h = all_more plain is_printable (λ b p. (and_parts _ _ p).0) w h.0
printable_join w (v ∷ ws) h = printable_append w (32 ∷ join_with_byte 32 (v ∷ ws)) h.0 (printable_join v ws h.1)

pub not_skipped : (b : ℕ) (rest : List ℕ) → (b == 0x23) ≡ false → is_skipped (b ∷ rest) ≡ false
not_skipped b rest h = rw (ne_eqb (suc (length rest)) 0 (λ (e : suc (length rest) ≡ 0). omega arith), h) refl

said_not_skipped : (line : LineData) → is_skipped (line_bytes line) ≡ false
said_not_skipped (mss f r) = not_skipped 109 (drop 1 (line_bytes (mss f r))) refl
said_not_skipped (volume n s true) = not_skipped 118 (drop 1 (line_bytes (volume n s true))) refl
said_not_skipped (volume n s false) = not_skipped 118 (drop 1 (line_bytes (volume n s false))) refl
said_not_skipped (host n) = not_skipped 104 (drop 1 (line_bytes (host n))) refl
said_not_skipped done = not_skipped 100 (drop 1 (line_bytes done)) refl
said_not_skipped (mount s true) = not_skipped 109 (drop 1 (line_bytes (mount s true))) refl
said_not_skipped (mount s false) = not_skipped 109 (drop 1 (line_bytes (mount s false))) refl
said_not_skipped demount = not_skipped 100 (drop 1 (line_bytes demount)) refl
said_not_skipped program = not_skipped 112 (drop 1 (line_bytes program)) refl
said_not_skipped (ccw code []) = not_skipped 99 (drop 1 (line_bytes (ccw code []))) refl
said_not_skipped (ccw code (b ∷ argument)) = not_skipped 99 (drop 1 (line_bytes (ccw code (b ∷ argument)))) refl
said_not_skipped (tic n) = not_skipped 116 (drop 1 (line_bytes (tic n))) refl
said_not_skipped end = not_skipped 101 (drop 1 (line_bytes end)) refl

not_after : (p : Place) (word : List ℕ) (k : Keyword) → keyword_at p word ≡ Some k → is_after p ≡ false
not_after place.Head word k h = refl
not_after place.Volumes word k h = refl
not_after place.Host word k h = refl
not_after place.Program word k h = refl
not_after place.After word k h = cc

pub line_steps : (s : SoFar) (text : List ℕ) (words : List (List ℕ)) → is_skipped text ≡ false → list_all is_printable text ≡ true → is_after s.place ≡ false → words_of text ≡ words → line_after s text ≡ line_of_words s words
line_steps s text words a b c d = rw (a, b, c, d) refl

pub spoken_steps : (s : SoFar) (first : List ℕ) (rest : List (List ℕ)) (k : Keyword) (line : LineData) → keyword_at s.place first ≡ Some k → line_of k rest ≡ Ok line → line_of_words s (first ∷ rest) ≡ after_line s line
spoken_steps s first rest k line e f = ap (λ o. spoken_by s o rest) e ∙ ap (λ r. r >>= after_line s) f

pub text_back : (s : SoFar) (line : LineData) → IsLine line → IsAllowed s.place (keyword_of line) → line_after s (line_bytes line) ≡ after_line s line
text_back s line h allowed =
    let first = spelling (keyword_of line) in
    let words = words_said line in
    let p = words_plain line h in
    line_steps s (line_bytes line) (first ∷ words) (said_not_skipped line) (printable_join first words p) (not_after s.place first (keyword_of line) allowed) (split_join first words p)
    ∙ spoken_steps s first words (keyword_of line) line allowed (line_back line h)
