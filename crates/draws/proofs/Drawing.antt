-- Draws that are made one after the other.
use Rattle.std.proofs.Common.{◌≡◌, ◌≤◌, ◌<◌, ℕ, zero, suc, length, map, refl, List, [], ◌∷◌, ◌++◌, sym, ap, ◌∙◌, append_assoc}
use Rattle.std.specs.Prelude.{◌%◌}
use Rattle.std.specs.List.{AllByRecursion}
use Rattle.std.proofs.lemmas.List.{append-nil}
use Rattle.std.proofs.lemmas.Nat.{mod_below}
use Rattle.rand_core.specs.Steps.{first_words}
use Rattle.rand_pcg.specs.Lcg.{Lcg}
use Rattle.rand_pcg.specs.Pcg.{pcg32}

-- one more word was drawn
pub draw_next : (items all : List ℕ) (left word : ℕ) (g h : Lcg) → (word, h) ≡ pcg32 g
    → items ++ first_words pcg32 (suc left) g ≡ all → (items ++ word ∷ []) ++ first_words pcg32 left h ≡ all
unfolding first_words
draw_next items all left word g h drawn whole =
    append_assoc items (word ∷ []) (first_words pcg32 left h)
    ∙ ap (λ (p : ℕ × Lcg). items ++ p.0 ∷ first_words pcg32 left p.1) drawn ∙ whole

-- no word is left to draw
pub draw_end : (items all : List ℕ) (g : Lcg) → items ++ first_words pcg32 0 g ≡ all → items ≡ all
unfolding first_words
draw_end items all g whole = sym (append-nil items) ∙ whole

pub length-draws : (count : ℕ) (g : Lcg) → length (first_words pcg32 count g) ≡ count
unfolding first_words
length-draws zero g = refl
length-draws (suc count) g = ap suc (length-draws count (pcg32 g).1)

pub all_below : (actors : ℕ) → 1 ≤ actors → (words : List ℕ) → AllByRecursion (λ actor. actor < actors) (map (λ word. word % actors) words)
all_below actors some [] = tt
all_below actors some (word ∷ words) = (mod_below word actors some, all_below actors some words)
