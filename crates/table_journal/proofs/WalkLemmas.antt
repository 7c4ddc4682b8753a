-- The walk over the slots of a block.
use Rattle.std.proofs.Common.{◌≡◌, ◌⊎◌, inl, inr, ℕ, zero, suc, ◌+◌, ◌*◌, ◌≤◌, ◌<◌, true, false, ◌==◌, List, [], ◌∷◌, ◌++◌, length, take, drop, get_or, slice_get, Some, refl, sym, ◌∙◌, ap, subst, arith}
use Rattle.std.proofs.lemmas.List.{ext_get_or, get_or-take, get_or-drop, length-take, length-drop}
use Rattle.std.proofs.lemmas.Bool.{cases_Bool, cond-true, cond-false}
use Rattle.table_journal.specs.Slots.{is_slot_open, slot_body, slots_from}

-- one slot, where its gate is open, and none, where it is closed
pub open_step : (count number : ℕ) (b : List ℕ) → is_slot_open number b ≡ true → slots_from (suc count) number b ≡ slot_body number b ∷ slots_from count (suc number) b
unfolding slots_from
open_step count number b opened = cond-true (is_slot_open number b) (slot_body number b ∷ slots_from count (suc number) b) [] opened

pub shut_step : (count number : ℕ) (b : List ℕ) → is_slot_open number b ≡ false → slots_from (suc count) number b ≡ []
unfolding slots_from
shut_step count number b shut = cond-false (is_slot_open number b) (slot_body number b ∷ slots_from count (suc number) b) [] shut

pub none_left : (number : ℕ) (b : List ℕ) → slots_from zero number b ≡ []
unfolding slots_from
none_left number b = refl

-- no slot where none is left, or the gate is closed
pub none_from : (count number : ℕ) (b : List ℕ) → (count ≡ 0) ⊎ (is_slot_open number b ≡ false) → slots_from count number b ≡ []
none_from zero number b end = none_left number b
none_from (suc count) number b (inl none_is) = absurd (omega arith)
none_from (suc count) number b (inr shut) = shut_step count number b shut

-- no more slots than were asked for
pub few_from : (count number : ℕ) (b : List ℕ) → length (slots_from count number b) ≤ count
few_from zero number b = subst (λ (xs : List (List ℕ)). length xs ≤ 0) (sym (none_left number b)) (omega arith)
few_from (suc count) number b = elim (cases_Bool (is_slot_open number b)) [
  | inl opened ↦
      let rest = few_from count (suc number) b in
      subst (λ (xs : List (List ℕ)). length xs ≤ suc count) (sym (open_step count number b opened)) (omega (arith, rest))
  | inr shut ↦ subst (λ (xs : List (List ℕ)). length xs ≤ suc count) (sym (shut_step count number b shut)) (omega arith)
]

-- the gate behind the slots in use is closed
pub shut_behind : (count number : ℕ) (b : List ℕ) → length (slots_from count number b) < count → is_slot_open (number + length (slots_from count number b)) b ≡ false
shut_behind zero number b fewer = absurd (omega arith)
shut_behind (suc count) number b fewer = elim (cases_Bool (is_slot_open number b)) [
  | inl opened ↦
      let step = open_step count number b opened in
      let rest = shut_behind count (suc number) b (omega (arith, ap (λ (xs : List (List ℕ)). length xs) step)) in
      let at : number + length (slots_from (suc count) number b) ≡ suc number + length (slots_from count (suc number) b) = omega (arith, ap (λ (xs : List (List ℕ)). length xs) step) in
      ap (λ (k : ℕ). is_slot_open k b) at ∙ rest
  | inr shut ↦
      let at : number + length (slots_from (suc count) number b) ≡ number = omega (arith, ap (λ (xs : List (List ℕ)). length xs) (shut_step count number b shut)) in
      ap (λ (k : ℕ). is_slot_open k b) at ∙ shut
]

-- the body of each slot in use
body_on : (rest : List (List ℕ)) (number : ℕ) (b : List ℕ) → ((i : ℕ) → i < length rest → slice_get rest i ≡ Some (slot_body (suc number + i) b))
    → (index : ℕ) → index < suc (length rest) → slice_get (slot_body number b ∷ rest) index ≡ Some (slot_body (number + index) b)
body_on rest number b each zero lt = let here : number ≡ number + 0 = omega arith in ap (λ (k : ℕ). Some (slot_body k b)) here
body_on rest number b each (suc i) lt = let there : suc number + i ≡ number + suc i = omega arith in each i (omega arith) ∙ ap (λ (k : ℕ). Some (slot_body k b)) there

pub body_from : (count number : ℕ) (b : List ℕ) (index : ℕ) → index < length (slots_from count number b) → slice_get (slots_from count number b) index ≡ Some (slot_body (number + index) b)
body_from zero number b index fewer = absurd (omega (arith, ap (λ (xs : List (List ℕ)). length xs) (none_left number b)))
body_from (suc count) number b index fewer = elim (cases_Bool (is_slot_open number b)) [
  | inl opened ↦
      let step = open_step count number b opened in
      subst (λ (xs : List (List ℕ)). slice_get xs index ≡ Some (slot_body (number + index) b)) (sym step)
      (body_on (slots_from count (suc number) b) number b (body_from count (suc number) b) index (omega (arith, ap (λ (xs : List (List ℕ)). length xs) step)))
  | inr shut ↦ absurd (omega (arith, ap (λ (xs : List (List ℕ)). length xs) (shut_step count number b shut)))
]

-- b has the bytes of a in this range
abbrev pub SameBytes : ℕ → ℕ → List ℕ → List ℕ → Type 0
SameBytes from to a b = (i : ℕ) → from ≤ i → i < to → get_or b i 0 ≡ get_or a i 0

-- the same gate, and the same body
pub same_gate : (number : ℕ) (a b : List ℕ) → get_or b (512 + 8 * number) 0 ≡ get_or a (512 + 8 * number) 0 → is_slot_open number b ≡ is_slot_open number a
same_gate number a b same = ap (λ (x : ℕ). x == 193) same

pub same_body : (number : ℕ) (a b : List ℕ) → length b ≡ length a → SameBytes (513 + 8 * number) (520 + 8 * number) a b → slot_body number b ≡ slot_body number a
same_body number a b long same =
    let p : ℕ = suc (512 + 8 * number) in
    ext_get_or 0 (take 7 (drop p b)) (take 7 (drop p a)) (omega (arith, length-take 7 (drop p b), length-take 7 (drop p a), length-drop p b, length-drop p a))
    (λ k lt.
    let inside : k < 7 = omega (arith, length-take 7 (drop p b)) in
    get_or-take 7 (drop p b) k 0 inside ∙ get_or-drop p b k 0 ∙ same (p + k) (omega arith) (omega arith) ∙ sym (get_or-drop p a k 0) ∙ sym (get_or-take 7 (drop p a) k 0 inside))

-- A walk over a block that has the bytes of these slots, of another one, and on behind them.
abbrev pub Walks : List ℕ → List ℕ → ℕ → ℕ → ℕ → List (List ℕ) → Type 0
Walks a b count number left xs =
    length xs + left ≡ count → SameBytes (512 + 8 * number) (512 + 8 * (number + length xs)) a b → slots_from count number b ≡ xs ++ slots_from left (number + length xs) b

module _ (a b : List ℕ) (long : length b ≡ length a) (number left : ℕ) where
  walks_none : Walks a b 0 number left []
  walks_none counts same = let end : left ≡ 0 = omega arith in none_left number b ∙ sym (none_from left (number + 0) b (inl end))

  walks_shut : (count : ℕ) → Walks a b (suc count) number left []
  walks_shut count counts same = let all : suc count ≡ left = omega arith in let here : number ≡ number + 0 = omega arith in λ i. slots_from (all i) (here i) b

  walks_open : (count : ℕ) → is_slot_open number a ≡ true → Walks a b count (suc number) left (slots_from count (suc number) a)
      → Walks a b (suc count) number left (slot_body number a ∷ slots_from count (suc number) a)
  walks_open count opened rest counts same =
      let there : suc number + length (slots_from count (suc number) a) ≡ number + suc (length (slots_from count (suc number) a)) = omega arith in
      let body = same_body number a b long (λ i from to. same i (omega arith) (omega arith)) in
      let behind = rest (omega arith) (λ i from to. same i (omega arith) (omega arith)) in
      open_step count number b (same_gate number a b (same (512 + 8 * number) (omega arith) (omega arith)) ∙ opened)
      ∙ (λ i. body i ∷ behind i)
      ∙ ap (λ (k : ℕ). slot_body number a ∷ (slots_from count (suc number) a ++ slots_from left k b)) there

pub walked : (a b : List ℕ) → length b ≡ length a → (count number left : ℕ) → Walks a b count number left (slots_from count number a)
walked a b long zero number left = subst (Walks a b 0 number left) (sym (none_left number a)) (walks_none a b long number left)
walked a b long (suc count) number left = elim (cases_Bool (is_slot_open number a)) [
  | inl opened ↦ subst (Walks a b (suc count) number left) (sym (open_step count number a opened)) (walks_open a b long number left count opened (walked a b long count (suc number) left))
  | inr shut ↦ subst (Walks a b (suc count) number left) (sym (shut_step count number a shut)) (walks_shut a b long number left count)
]
