-- Bytes that are written piece by piece to a writer.
use Rattle.std.proofs.Common.{◌≡◌, ℕ, ◌+◌, List, ◌++◌, take, drop, Option, sym, ◌∙◌, ap, subst, take-add}
use Rattle.std.proofs.KnownBytes.{Appends-trans}
use Rattle.std.specs.Io.KnownBytes.{Appends}

-- one more piece was written
pub appends_more : (a b c : Option (List ℕ)) (done count : ℕ) (bytes rest : List ℕ) → rest ≡ drop done bytes
    → Appends a b (take done bytes) → Appends b c (take count rest) → Appends a c (take (done + count) bytes)
appends_more a b c done count bytes rest is front next =
    subst (Appends a c) (ap (λ (l : List ℕ). take done bytes ++ take count l) is ∙ sym (take-add done count bytes))
    (Appends-trans a b c (take done bytes) (take count rest) front next)
