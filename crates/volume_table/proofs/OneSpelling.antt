-- A body of version 2 that is read as a row is the row's spelling.
use Rattle.std.proofs.Common.{◌≡◌, ℕ, zero, suc, ◌+◌, ◌*◌, ◌/◌, ◌%◌, ◌<◌, inl, inr, Bool, true, false, nat_lt, ◌==◌, ◌||◌, List, [], ◌∷◌, ◌++◌, length, get_or, take, drop, map, replicate, Option, Some, None, Ok, refl, sym, ◌∙◌, ap, subst, arith}
use Rattle.std.proofs.Math.Seq.{drop-cons}
use Rattle.std.proofs.lemmas.List.{length-take, length-drop, drop-drop, take-append-drop, take_all}
use Rattle.std.proofs.lemmas.Bool.{cases_Bool, eqb-true, cond-true, cond-false}
use Rattle.volume_table.specs.Row.{RowValue, IsRow}
use Rattle.volume_table.specs.declared.fault.RowFault.{RowFault}
use Rattle.volume_table.specs.Grammar.{first_fault, row_at, page_of, page_byte, is_page_byte, mark_byte, is_old, two, two_at, decode, row_or_fault, spelling, serial_part, pages_part, states_part, spares_part}
use Rattle.volume_table.proofs.GrammarLemmas.{row_good, version_is, mark_good, page_each, spare_each}

second_byte : (b : ℕ) → nat_lt b 200 ≡ false → is_page_byte b ≡ true → b ≡ 255
second_byte b big good = eqb-true b 255 (sym (ap (λ (t : Bool). t || (b == 255)) big) ∙ good)

page_back : (b : ℕ) → is_page_byte b ≡ true → page_byte (page_of b) ≡ b
page_back b good = elim (cases_Bool (nat_lt b 200)) [
  | inl small ↦ ap page_byte (cond-true _ (Some b) None small)
  | inr big ↦ ap page_byte (cond-false _ (Some b) None big) ∙ sym (second_byte b big good)
]

pages_back : (bytes : List ℕ) → ((k : ℕ) → k < length bytes → is_page_byte (get_or bytes k 0) ≡ true) → map page_byte (map page_of bytes) ≡ bytes
pages_back [] good = refl
pages_back (b ∷ bytes) good = λ i. page_back b (good zero (omega arith)) i ∷ pages_back bytes (λ k lt. good (suc k) (omega arith)) i

zeros_back : (n : ℕ) (bytes : List ℕ) → length bytes ≡ n → ((k : ℕ) → k < length bytes → get_or bytes k 0 ≡ 0) → replicate n 0 ≡ bytes
zeros_back zero [] long each = refl
zeros_back zero (b ∷ bytes) long each = absurd (omega arith)
zeros_back (suc n) [] long each = absurd (omega arith)
zeros_back (suc n) (b ∷ bytes) long each = λ i. sym (each zero (omega arith)) i ∷ zeros_back n bytes (omega arith) (λ k lt. each (suc k) (omega arith)) i

two_back : (a b : ℕ) → b < 256 → two (256 * a + b) ≡ a ∷ b ∷ []
two_back a b small =
    let high : (256 * a + b) / 256 ≡ a = omega arith in
    let low : (256 * a + b) % 256 ≡ b = omega arith in
    λ i. high i ∷ low i ∷ []

-- a list from a place on is so many items and the list behind them
split : (n from to : ℕ) (xs : List ℕ) → from + n ≡ to → drop from xs ≡ take n (drop from xs) ++ drop to xs
split n from to xs is = sym (take-append-drop n (drop from xs)) ∙ ap (λ (rest : List ℕ). take n (drop from xs) ++ rest) (drop-drop n from xs ∙ ap (λ (k : ℕ). drop k xs) is)

one : (at : ℕ) (xs : List ℕ) → at < length xs → drop at xs ≡ get_or xs at 0 ∷ drop (suc at) xs
one at xs lt = drop-cons xs at 0 lt

mark_back : (b : ℕ) → b < 2 → mark_byte (b == 1) ≡ b
mark_back zero lt = refl
mark_back (suc zero) lt = refl
mark_back (suc (suc b)) lt = absurd (omega arith)

module _ (body : List ℕ) (long : length body ≡ 510) (small : (i : ℕ) → get_or body i 0 < 256)
    (new : is_old body ≡ false) (good : first_fault body ≡ None) where
  version : drop 0 body ≡ 2 ∷ drop 1 body
  version = one 0 body (omega arith) ∙ ap (λ (b : ℕ). b ∷ drop 1 body) (version_is body long good new)

  serial : drop 1 body ≡ serial_part body ++ drop 7 body
  serial = split 6 1 7 body refl

  first : drop 7 body ≡ two (two_at 7 body) ++ drop 9 body
  first = one 7 body (omega arith) ∙ ap (λ (l : List ℕ). get_or body 7 0 ∷ l) (one 8 body (omega arith)) ∙ ap (λ (l : List ℕ). l ++ drop 9 body) (sym (two_back (get_or body 7 0) (get_or body 8 0) (small 8)))

  second : drop 9 body ≡ two (two_at 9 body) ++ drop 11 body
  second = one 9 body (omega arith) ∙ ap (λ (l : List ℕ). get_or body 9 0 ∷ l) (one 10 body (omega arith)) ∙ ap (λ (l : List ℕ). l ++ drop 11 body) (sym (two_back (get_or body 9 0) (get_or body 10 0) (small 10)))

  pages : drop 11 body ≡ map page_byte (map page_of (pages_part body)) ++ drop 62 body
  pages = split 51 11 62 body refl ∙ ap (λ (l : List ℕ). l ++ drop 62 body) (sym (pages_back (pages_part body) (page_each body long good)))

  mark : drop 62 body ≡ mark_byte (get_or body 62 0 == 1) ∷ drop 63 body
  mark =
      one 62 body (omega arith)
      ∙ ap (λ (b : ℕ). b ∷ drop 63 body) (sym (mark_back (get_or body 62 0) (mark_good body long good new)))

  states : drop 63 body ≡ states_part body ++ drop 467 body
  states = split 404 63 467 body refl

  spares : drop 467 body ≡ replicate 43 0
  spares =
      sym (take_all 43 (drop 467 body) (omega (arith, length-drop 467 body))) ∙ sym (zeros_back 43 (spares_part body) (simp (length-take, length-drop) (omega arith)) (spare_each body long good))

  pub spelled_as : body ≡ spelling (row_at body)
  unfolding spelling
  spelled_as =
      version ∙ ap (λ (l : List ℕ). 2 ∷ l) (serial ∙ ap (λ (l : List ℕ). serial_part body ++ l)
      (first ∙ ap (λ (l : List ℕ). two (two_at 7 body) ++ l) (second ∙ ap (λ (l : List ℕ). two (two_at 9 body) ++ l)
      (pages ∙ ap (λ (l : List ℕ). map page_byte (map page_of (pages_part body)) ++ l) (mark ∙ ap (λ (l : List ℕ). mark_byte (get_or body 62 0 == 1) ∷ l) (states ∙ ap (λ (l : List ℕ). states_part body ++ l) spares))))))

-- what was decoded had no fault
decoded_good : (fault : Option RowFault) (found row : RowValue) → row_or_fault fault found ≡ Ok row → (fault ≡ None) × (found ≡ row)
decoded_good None found row is = (refl, cc)
decoded_good (Some f) found row is = absurd cc

pub spelled_once : (body : List ℕ) (row : RowValue) → length body ≡ 510 → ((i : ℕ) → get_or body i 0 < 256)
    → is_old body ≡ false → decode body ≡ Ok row → body ≡ spelling row
spelled_once body row long small new is =
    let p = decoded_good (first_fault body) (row_at body) row is in
    spelled_as body long small new p.0 ∙ ap spelling p.1

pub decoded_row : (body : List ℕ) (row : RowValue) → length body ≡ 510 → decode body ≡ Ok row → IsRow row
decoded_row body row long is = let p = decoded_good (first_fault body) (row_at body) row is in subst IsRow p.1 (row_good body long p.0)
