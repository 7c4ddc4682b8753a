-- Copies of a byte, put piece by piece.
use Rattle.std.proofs.Common.{◌≡◌, ℕ, ◌+◌, ◌≤◌, List, ◌++◌, take, refl, ap, ◌∙◌, append_assoc}
use Rattle.std.specs.Prelude.{replicate}
use Rattle.std.proofs.lemmas.List.{replicate-append-replicate, take-replicate}

-- after one piece more
pub copies_more : (old now new : List ℕ) (m n all b : ℕ) → m + n ≡ all → now ≡ old ++ replicate m b → new ≡ now ++ replicate n b → new ≡ old ++ replicate all b
copies_more old now new m n all b sum so_far put =
    put ∙ ap (λ l. l ++ replicate n b) so_far ∙ append_assoc old (replicate m b) (replicate n b)
    ∙ ap (λ l. old ++ l) (replicate-append-replicate m n b) ∙ ap (λ k. old ++ replicate k b) sum

-- behind the front of a piece
pub copies_end : (old now : List ℕ) (m n r all b : ℕ) → r ≤ n → m + r ≡ all → now ≡ old ++ replicate m b → now ++ take r (replicate n b) ≡ old ++ replicate all b
copies_end old now m n r all b front sum so_far =
    ap (λ l. now ++ l) (take-replicate r n b front) ∙ copies_more old now (now ++ replicate r b) m r all b sum so_far refl
