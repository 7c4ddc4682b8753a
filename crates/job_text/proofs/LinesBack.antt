-- The canonical texts of lines are read as what the lines say.
use Rattle.std.proofs.Common.{◌≡◌, ℕ, ◌+◌, ◌≤◌, true, false, List, [], ◌∷◌, ◌++◌, length, map, Ok, refl, sym, subst, ap, ◌∙◌, arith, append_assoc}
use Rattle.std.proofs.lemmas.Bool.{and_parts, ne_eqb, leb-true, le-ltb}
use Rattle.std.specs.Prelude.{◌==◌, nat_lt}
use Rattle.std.specs.List.{list_all, AllByRecursion, slice_split, onto_first, flat_map}
use Rattle.job_text.specs.Words.{is_printable, lines_of, lines_of_parts}
use Rattle.job_text.specs.Lines.{LineData, spelling}
use Rattle.job_text.specs.Grammar.{SoFar, TEXT_LIMIT, nothing, with_line_number, is_after, lines_after, job, job_of, job_of_reading}
use Rattle.job_text.specs.Canonical.{keyword_of, words_said, IsLine, line_bytes, line_text, LeadsTo}
use Rattle.job_text.proofs.Parts.{last_empty}
use Rattle.job_text.proofs.TextBack.{text_back, printable_join, words_plain}

no_feed : (b : ℕ) → is_printable b ≡ true → (b == 10) ≡ false
no_feed b h = let low = leb-true 32 b (and_parts _ _ h).0 in ne_eqb b 10 (λ (e : b ≡ 10). omega arith)

pub split_line : (line rest : List ℕ) → list_all is_printable line ≡ true → slice_split (λ b. b == 10) (line ++ 10 ∷ rest) ≡ line ∷ slice_split (λ b. b == 10) rest
split_line [] rest h = refl
split_line (x ∷ line) rest h =
    let t = and_parts _ _ h in
    rw (no_feed x t.0) (ap (onto_first x) (split_line line rest t.1))

pub are_lines : (s : SoFar) (lines : List LineData) (t : SoFar) → LeadsTo s lines t → AllByRecursion IsLine lines
are_lines s [] t h = tt
are_lines s (line ∷ lines) t h = (h.0, are_lines h.2 lines t h.4)

pub split_lines : (lines : List LineData) → AllByRecursion IsLine lines → slice_split (λ b. b == 10) (flat_map line_text lines) ≡ map line_bytes lines ++ [] ∷ []
split_lines [] h = refl
split_lines (line ∷ lines) h =
    let rest = flat_map line_text lines in
    ap (slice_split (λ b. b == 10)) (append_assoc (line_bytes line) (10 ∷ []) rest)
    ∙ split_line (line_bytes line) rest (printable_join (spelling (keyword_of line)) (words_said line) (words_plain line h.0))
    ∙ ap (λ (ls : List (List ℕ)). line_bytes line ∷ ls) (split_lines lines h.1)

pub run_back : (s : SoFar) (n : ℕ) (lines : List LineData) (t : SoFar) → LeadsTo s lines t → is_after t.place ≡ true → lines_after s n (map line_bytes lines) ≡ Ok t
run_back s n [] t h done = subst (λ x. lines_after x n [] ≡ Ok t) (sym h) (rw done refl)
run_back s n (line ∷ lines) t h done =
    ap (λ r. with_line_number n r (λ s'. lines_after s' (n + 1) (map line_bytes lines))) (text_back s line h.0 h.1 ∙ h.3) ∙ run_back h.2 (n + 1) lines t h.4 done

pub lines_back : (lines : List LineData) (t : SoFar) → LeadsTo nothing lines t → is_after t.place ≡ true → length (flat_map line_text lines) ≤ TEXT_LIMIT → job_of (flat_map line_text lines) ≡ Ok (job t)
lines_back lines t h done small =
    let few : nat_lt TEXT_LIMIT (length (flat_map line_text lines)) ≡ false = le-ltb TEXT_LIMIT (length (flat_map line_text lines)) small in
    let split : lines_of (flat_map line_text lines) ≡ map line_bytes lines = ap lines_of_parts (split_lines lines (are_lines nothing lines t h)) ∙ last_empty (map line_bytes lines) in
    rw few (ap (λ ls. job_of_reading (lines_after nothing 1 ls)) split ∙ ap job_of_reading (run_back nothing 1 lines t h done))
