-- The test of a serial's word, and what a serial is.
use Rattle.std.proofs.Common.{◌≡◌, ℕ, zero, suc, true, false, List, [], ◌∷◌, length, Option, Some, None, refl, sym, subst, ◌∙◌, arith, inl, inr}
use Rattle.std.specs.Prelude.{IsSome, IfSome, MatchOption, slice_index, EachIndex, ◌↔◌}
use Rattle.std.specs.List.{list_all}
use Rattle.std.proofs.lemmas.Bool.{and_from, and_parts, eqb-true, eq-eqb, cases_Bool}
use Rattle.mss_base.specs.Serial.{IsSerial, is_serial_byte}
use Rattle.job_text.specs.Words.{is_serial}

all_from_each : (w : List ℕ) → EachIndex w (λ i. is_serial_byte (slice_index w i) ≡ true) → list_all is_serial_byte w ≡ true
all_from_each [] each = refl
all_from_each (b ∷ w) each = and_from _ _ (each 0 (omega arith)) (all_from_each w (λ i inside. each (suc i) (omega arith)))

each_from_all : (w : List ℕ) → list_all is_serial_byte w ≡ true → EachIndex w (λ i. is_serial_byte (slice_index w i) ≡ true)
each_from_all [] all i inside = absurd (omega arith)
each_from_all (b ∷ w) all zero inside = (and_parts _ _ all).0
each_from_all (b ∷ w) all (suc i) inside = each_from_all w (and_parts _ _ all).1 i (omega arith)

pub from_serial : (w : List ℕ) → IsSerial w → is_serial w ≡ true
from_serial w is = and_from _ _ (eq-eqb (length w) 6 is.six) (all_from_each w is.each)

pub to_serial : (w : List ℕ) → is_serial w ≡ true → IsSerial w
to_serial w is = let t = and_parts _ _ is in record { six = eqb-true (length w) 6 t.0; each = each_from_all w t.1 }

-- a serial made of a word's bytes
pub serial_of : (o : Option (List ℕ)) (bytes word : List ℕ) → bytes ≡ word → (IsSome o ↔ IsSerial bytes) → IfSome o (λ s. s ≡ bytes)
    → MatchOption o (is_serial word ≡ false) (λ s. (is_serial word ≡ true) × (s ≡ word))
serial_of (Some s) bytes word same known value = (subst (λ (w : List ℕ). is_serial w ≡ true) same (from_serial bytes (known.0 refl)), value ∙ same)
serial_of None bytes word same known value = elim (cases_Bool (is_serial word)) [
  | inl is ↦ (let none : IsSome {T = List ℕ} None = known.1 (to_serial bytes (subst (λ (w : List ℕ). is_serial w ≡ true) (sym same) is)) in absurd (cc))
  | inr isnt ↦ isnt
]
