-- Commands that stand at the head of a text, as the grammar reads them.
use Rattle.std.proofs.Common.{◌≡◌, ℕ, ◌≤◌, true, false, List, [], ◌∷◌, ◌++◌, length, length-append, Ok, refl, sym, ap, ◌∙◌, arith, inl, inr}
use Rattle.std.specs.Prelude.{codes, Some}
use Rattle.std.specs.List.{list_all, slice_split, join_with_byte}
use Rattle.std.proofs.lemmas.Bool.{and_from, and_parts, cases_Bool}
use Rattle.std.proofs.lemmas.Bool.Decides.{nat_tests}
use Rattle.hex.specs.Hex.{is_hex_digit}
use Rattle.job_text.specs.declared.kind.Keyword.TheVariants.{Ccw}
use Rattle.job_text.specs.declared.kind.Place.{Place}
use Rattle.job_text.specs.declared.kind.Place.TheVariants as place
use Rattle.job_text.specs.Words.{lines_of, lines_of_parts, is_printable, is_hex, is_hex_byte, byte_of, byte_word, bytes_of}
use Rattle.job_text.specs.Lines.{LineData, ccw, byte, hex, line_of, keyword_at}
use Rattle.job_text.specs.Grammar.{SoFar, after_line, is_after, line_after}
use Rattle.job_text.specs.FirstLine.{BeginsWith}
use Rattle.job_text.proofs.Parts.{is_feed, before_others, some_parts}
use Rattle.job_text.proofs.LineBack.{good}
use Rattle.job_text.proofs.LinesBack.{split_line}
use Rattle.job_text.proofs.TextBack.{plain, plain_between, all_more, ArePlain, split_join, printable_join, not_skipped, line_steps, spoken_steps}

digit_between : (b : ℕ) → is_hex_digit b ≡ true → (33 ≤ b) × (b ≤ 126)
digit_between b h = (grind (arith, nat_tests), grind (arith, nat_tests))

digit_plain : (b : ℕ) → is_hex_digit b ≡ true → plain b ≡ true
digit_plain b h = let t = digit_between b h in plain_between b t.0 t.1

digits_plain : (word : List ℕ) → is_hex word ≡ true → list_all plain word ≡ true
digits_plain word h = all_more is_hex_digit plain digit_plain word (and_parts _ _ h).1

-- what a word of one pair says
pair_is : (word : List ℕ) (code : ℕ) → byte_word word ≡ Some code → (is_hex_byte word ≡ true) × (byte_of word ≡ code) × (list_all plain word ≡ true)
pair_is word code h = elim (cases_Bool (is_hex_byte word)) [
  | inl is ↦ (is, (let said : Some (byte_of word) ≡ Some code = rw is at h in cc), digits_plain word (and_parts _ _ is).1)
  | inr isnt ↦ absurd (let said = rw isnt at h in cc)
]

-- in a program a line of these words says a command
command_said : (s : SoFar) (words : List (List ℕ)) (says : LineData) → s.place ≡ place.Program → ArePlain (codes "ccw" ∷ words) → line_of Ccw words ≡ Ok says
    → line_after s (join_with_byte 32 (codes "ccw" ∷ words)) ≡ after_line s says
command_said s [] says at plain_ is = absurd (cc)
command_said s (word ∷ words) says at plain_ is =
    let line : List ℕ = join_with_byte 32 (codes "ccw" ∷ word ∷ words) in
    let before : is_after s.place ≡ false = ap is_after at in
    let first : keyword_at s.place (codes "ccw") ≡ Some Ccw = ap (λ (p : Place). keyword_at p (codes "ccw")) at in
    line_steps s line (codes "ccw" ∷ word ∷ words) (not_skipped 99 (99 ∷ 119 ∷ 32 ∷ join_with_byte 32 (word ∷ words)) refl)
    (printable_join (codes "ccw") (word ∷ words) plain_) before (split_join (codes "ccw") (word ∷ words) plain_)
    ∙ spoken_steps s (codes "ccw") (word ∷ words) Ccw says first is

-- a line in front of a line feed is the first
line_first : (line behind : List ℕ) → list_all is_printable line ≡ true → lines_of (line ++ 10 ∷ behind) ≡ line ∷ lines_of behind
line_first line behind h = ap lines_of_parts (split_line line behind h) ∙ before_others line (slice_split is_feed behind) (some_parts behind)

-- a text whose first line is of these words
begins : (text behind : List ℕ) (words : List (List ℕ)) (says : LineData) → text ≡ join_with_byte 32 (codes "ccw" ∷ words) ++ 10 ∷ behind
    → ArePlain (codes "ccw" ∷ words) → line_of Ccw words ≡ Ok says → BeginsWith says text behind
begins text behind words says whole plain_ is =
    let line : List ℕ = join_with_byte 32 (codes "ccw" ∷ words) in
    record {
      line = line;
      lines = ap lines_of whole ∙ line_first line behind (printable_join (codes "ccw") words plain_);
      means = λ s at. command_said s words says at plain_ is;
      shorter = (let size = ap length whole in let parts = length-append line (10 ∷ behind) in omega arith);
    }

pub bare_command : (text behind argument : List ℕ) (high low next code : ℕ) → text ≡ codes "ccw " ++ high ∷ low ∷ next ∷ behind → next ≡ 10
    → byte_word (high ∷ low ∷ []) ≡ Some code → argument ≡ [] → BeginsWith (ccw code argument) text behind
bare_command text behind argument high low next code head feed said none =
    let pair : List ℕ = high ∷ low ∷ [] in
    let p = pair_is pair code said in
    let spelled : line_of Ccw (pair ∷ []) ≡ Ok (ccw (byte_of pair) []) = good (byte pair ∷ []) (ccw (byte_of pair) []) (and_from _ _ p.0 refl) refl in
    let is : line_of Ccw (pair ∷ []) ≡ Ok (ccw code argument) = spelled ∙ (λ i. Ok (ccw (p.1 i) (sym none i))) in
    let whole : text ≡ codes "ccw " ++ high ∷ low ∷ 10 ∷ behind = head ∙ ap (λ (b : ℕ). codes "ccw " ++ high ∷ low ∷ b ∷ behind) feed in
    begins text behind (pair ∷ []) (ccw code argument) whole (refl, (p.2, tt)) is

pub argued_command : (text rest digits behind argument : List ℕ) (high low next code : ℕ) → text ≡ codes "ccw " ++ high ∷ low ∷ next ∷ rest → next ≡ 32
    → rest ≡ digits ++ 10 ∷ behind → byte_word (high ∷ low ∷ []) ≡ Some code → is_hex digits ≡ true → argument ≡ bytes_of digits
    → BeginsWith (ccw code argument) text behind
argued_command text rest digits behind argument high low next code head space last said pairs bytes =
    let pair : List ℕ = high ∷ low ∷ [] in
    let p = pair_is pair code said in
    let spelled : line_of Ccw (pair ∷ digits ∷ []) ≡ Ok (ccw (byte_of pair) (bytes_of digits)) =
    good (byte pair ∷ hex digits ∷ []) (ccw (byte_of pair) (bytes_of digits)) (and_from _ _ p.0 (and_from _ _ pairs refl)) refl in
    let is : line_of Ccw (pair ∷ digits ∷ []) ≡ Ok (ccw code argument) = spelled ∙ (λ i. Ok (ccw (p.1 i) (sym bytes i))) in
    let whole : text ≡ codes "ccw " ++ high ∷ low ∷ 32 ∷ (digits ++ 10 ∷ behind) = head ∙ (λ i. codes "ccw " ++ high ∷ low ∷ space i ∷ last i) in
    begins text behind (pair ∷ digits ∷ []) (ccw code argument) whole (refl, (p.2, (digits_plain digits pairs, tt))) is
