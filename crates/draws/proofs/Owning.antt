-- The programs of a host, one after the other, and at the end of the words.
use Rattle.std.proofs.Common.{◌≡◌, ℕ, ◌+◌, ◌-◌, ◌<◌, ◌≤◌, List, [], ◌∷◌, ◌++◌, length, refl, sym, ap, ◌∙◌, arith, append_assoc}
use Rattle.std.specs.Prelude.{drop, slice_index, take}
use Rattle.std.proofs.lemmas.List.{append-nil, take_all}
use Rattle.channel_program.specs.Script.{ItemData}
use Rattle.draws.specs.Load.{own_program, programs_from}

-- fewer words than a program takes have none
none_left : (host number : ℕ) (words : List ℕ) → length words < 3 → programs_from host number words ≡ []
none_left host number [] few = refl
none_left host number (a ∷ []) few = refl
none_left host number (a ∷ b ∷ []) few = refl
none_left host number (a ∷ b ∷ c ∷ words) few = absurd (omega (arith, few))

pub all_owned : (host number : ℕ) (words : List ℕ) (items all : List ItemData) → length words < 3
    → items ++ programs_from host number words ≡ all → items ≡ all
all_owned host number words items all few whole =
    sym (append-nil items) ∙ ap (λ (rest : List ItemData). items ++ rest) (sym (none_left host number words few)) ∙ whole

-- the words behind the first three
behind_three : (words : List ℕ) → 3 ≤ length words → take (length words - 3) (drop 3 words) ≡ drop 3 words
behind_three [] many = absurd (omega (arith, many))
behind_three (a ∷ []) many = absurd (omega (arith, many))
behind_three (a ∷ b ∷ []) many = absurd (omega (arith, many))
behind_three (a ∷ b ∷ c ∷ words) many = take_all _ words (omega arith)

first_three : (host number : ℕ) (words : List ℕ) → 3 ≤ length words
    → programs_from host number words
    ≡ own_program host number (slice_index words 0) (slice_index words 1) (slice_index words 2) ++ programs_from host (number + 1) (drop 3 words)
first_three host number [] many = absurd (omega (arith, many))
first_three host number (a ∷ []) many = absurd (omega (arith, many))
first_three host number (a ∷ b ∷ []) many = absurd (omega (arith, many))
first_three host number (a ∷ b ∷ c ∷ words) many = refl

-- one more program was put, if it is the host's
pub owned_more : (host number : ℕ) (words : List ℕ) (items more all : List ItemData) → 3 ≤ length words
    → more ≡ items ++ own_program host number (slice_index words 0) (slice_index words 1) (slice_index words 2)
    → items ++ programs_from host number words ≡ all
    → more ++ programs_from host (number + 1) (take (length words - 3) (drop 3 words)) ≡ all
owned_more host number words items more all many put whole =
    ap (λ (rest : List ℕ). more ++ programs_from host (number + 1) rest) (behind_three words many)
    ∙ ap (λ (m : List ItemData). m ++ programs_from host (number + 1) (drop 3 words)) put
    ∙ append_assoc items _ (programs_from host (number + 1) (drop 3 words))
    ∙ ap (λ (rest : List ItemData). items ++ rest) (sym (first_three host number words many)) ∙ whole

pub fewer_words : (number total : ℕ) (words : List ℕ) → 3 ≤ length words → number + length words ≤ total
    → number + 1 + length (take (length words - 3) (drop 3 words)) ≤ total
fewer_words number total [] many few = absurd (omega (arith, many))
fewer_words number total (a ∷ []) many few = absurd (omega (arith, many))
fewer_words number total (a ∷ b ∷ []) many few = absurd (omega (arith, many))
fewer_words number total (a ∷ b ∷ c ∷ words) many few =
    let same = ap (λ (rest : List ℕ). length rest) (behind_three (a ∷ b ∷ c ∷ words) many) in omega (arith, same, few)
