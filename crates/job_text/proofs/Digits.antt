-- The table of digits has the value of each.
use Rattle.std.proofs.Common.{◌≡◌, ◌≢◌, ℕ, zero, suc, ◌<◌, Bool, true, false, refl, ap, subst, arith, inl, inr, get_or}
use Rattle.std.proofs.lemmas.Bool.{and_parts, eqb-true, cases_Bool, ltb-true, ltb-false}
use Rattle.std.specs.Prelude.{nat_lt, ◌&&◌, Option, Some, None, ◌==◌}
use Rattle.hex.specs.Hex.{hex_digit_value}
use Rattle.job_text.specs.declared.words.TheConstants.{DIGIT_VALUES}

agrees : ℕ → Option ℕ → Bool
agrees v None = v == 255
agrees v (Some d) = v == d && nat_lt v 16

all_agree : ℕ → Bool
all_agree zero = true
all_agree (suc k) = agrees (get_or DIGIT_VALUES k 0) (hex_digit_value k) && all_agree k

last : (k b : ℕ) → b < suc k → nat_lt b k ≡ false → k ≡ b
last k b h ge = omega (arith, ltb-false b k ge)

agree_below : (k b : ℕ) → all_agree k ≡ true → b < k → agrees (get_or DIGIT_VALUES b 0) (hex_digit_value b) ≡ true
unfolding all_agree
agree_below zero b t h = absurd (omega arith)
agree_below (suc k) b t h =
    let p = and_parts _ _ t in
    elim (cases_Bool (nat_lt b k)) [
      | inl lt ↦ agree_below k b p.1 (ltb-true b k lt)
      | inr ge ↦ subst (λ n. agrees (get_or DIGIT_VALUES n 0) (hex_digit_value n) ≡ true) (last k b h ge) p.0
    ]

looked : (b : ℕ) → b < 256 → agrees (get_or DIGIT_VALUES b 0) (hex_digit_value b) ≡ true
unfolding all_agree agrees
looked b h = agree_below 256 b refl h

too_much : (v : ℕ) → v ≡ 255 → v < 16 → ⊥
too_much v e small = omega arith

no_digit : (v : ℕ) (o : Option ℕ) → agrees v o ≡ true → v ≡ 255 → None ≡ o
unfolding agrees
no_digit v None t e = refl
no_digit v (Some d) t e = absurd (too_much v e (ltb-true v 16 (and_parts _ _ t).1))

digit : (v : ℕ) (o : Option ℕ) → agrees v o ≡ true → v ≢ 255 → (Some v ≡ o) × (v < 16)
unfolding agrees
digit v None t ne = absurd (ne (eqb-true v 255 t))
digit v (Some d) t ne = let p = and_parts _ _ t in (ap (λ n. Some n) (eqb-true v d p.0), ltb-true v 16 p.1)

pub looked_none : (b : ℕ) → b < 256 → get_or DIGIT_VALUES b 0 ≡ 255 → None ≡ hex_digit_value b
looked_none b h e = no_digit (get_or DIGIT_VALUES b 0) (hex_digit_value b) (looked b h) e

pub looked_some : (b : ℕ) → b < 256 → get_or DIGIT_VALUES b 0 ≢ 255 → (Some (get_or DIGIT_VALUES b 0) ≡ hex_digit_value b) × (get_or DIGIT_VALUES b 0 < 16)
looked_some b h ne = digit (get_or DIGIT_VALUES b 0) (hex_digit_value b) (looked b h) ne
