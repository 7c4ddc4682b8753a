-- Which slots of a block are in use, and what writes elsewhere make of them. Layers above cite these lemmas.
use Rattle.std.proofs.Common.{◌≡◌, inl, inr, ℕ, zero, suc, ◌+◌, ◌*◌, ◌≤◌, ◌<◌, false, ◌==◌, cond, List, [], ◌∷◌, length, take, drop, get_or, refl, sym, ◌∙◌, ap, arith}
use Rattle.std.proofs.lemmas.List.{drop-drop, get_or-drop, get_or-take}
use Rattle.std.proofs.lemmas.Bool.{cases_Bool}
use Rattle.mss_base.specs.Content.{splice}
use Rattle.mss_base.proofs.ContentLemmas.{get_or-splice_in}
use Rattle.table_journal.specs.Slots.{is_slot_open, slot_body, slots_from, slots}
use Rattle.table_journal.proofs.WalkLemmas.{open_step, shut_step, none_left, same_gate}
use Rattle.table_journal.proofs.SlotLemmas.{gate_is_shut, slots_stay}

-- no slot is in use where the first gate is closed, and the first gate is closed where none is
pub no_slots : (b : List ℕ) → is_slot_open 0 b ≡ false → slots b ≡ []
unfolding slots
no_slots b shut = shut_step 1983 0 b shut

pub first_is_shut : (b : List ℕ) → slots b ≡ [] → is_slot_open 0 b ≡ false
first_is_shut b none = gate_is_shut 0 b (ap (λ (xs : List (List ℕ)). length xs) none) (omega arith)

-- as of a block with a zero there
pub zero_opens_none : (b : List ℕ) → get_or b 512 0 ≡ 0 → slots b ≡ []
zero_opens_none b is_zero = no_slots b (ap (λ (x : ℕ). x == 193) is_zero)

-- two blocks with the same front have the same slots in use, where these and the closed gate behind them stand in it
pub same_front_slots : (n : ℕ) (a b : List ℕ) → length b ≡ length a → take n b ≡ take n a → length (slots a) < 1984 → 512 + 8 * length (slots a) < n → slots b ≡ slots a
same_front_slots n a b long same few within =
    let used : ℕ = length (slots a) in
    let each : (i : ℕ) → i < n → get_or b i 0 ≡ get_or a i 0 = λ i low. sym (get_or-take n b i 0 low) ∙ ap (λ (l : List ℕ). get_or l i 0) same ∙ get_or-take n a i 0 low in
    slots_stay used a refl b long (λ i from to. each i (omega arith)) (inr (same_gate used a b (each (512 + 8 * used) within) ∙ gate_is_shut used a refl few))

-- the bodies of so many slots, whatever their gates are
abbrev pub bodies : ℕ → ℕ → List ℕ → List (List ℕ)
bodies zero number b = []
bodies (suc count) number b = slot_body number b ∷ bodies count (suc number) b

bodies_from : (count number : ℕ) (b : List ℕ) → slots_from count number b ≡ bodies (length (slots_from count number b)) number b
bodies_from zero number b = none_left number b ∙ ap (λ (xs : List (List ℕ)). bodies (length xs) number b) (sym (none_left number b))
bodies_from (suc count) number b = elim (cases_Bool (is_slot_open number b)) [
  | inl opened ↦
      let step = open_step count number b opened in
      step ∙ ap (λ (xs : List (List ℕ)). slot_body number b ∷ xs) (bodies_from count (suc number) b) ∙ ap (λ (xs : List (List ℕ)). bodies (length xs) number b) (sym step)
  | inr shut ↦
      let step = shut_step count number b shut in
      step ∙ ap (λ (xs : List (List ℕ)). bodies (length xs) number b) (sym step)
]

-- those of the slots in use are their bodies, from the first on
pub slots_are_bodies : (b : List ℕ) → slots b ≡ bodies (length (slots b)) 0 b
unfolding slots
slots_are_bodies b = bodies_from 1984 0 b

-- the slots in use are told by what stands behind the first 512 bytes
module _ (a b : List ℕ) (rest : drop 512 b ≡ drop 512 a) where
  rest_gate : (number : ℕ) → is_slot_open number b ≡ is_slot_open number a
  rest_gate number = same_gate number a b (sym (get_or-drop 512 b (8 * number) 0) ∙ ap (λ (l : List ℕ). get_or l (8 * number) 0) rest ∙ get_or-drop 512 a (8 * number) 0)

  rest_body : (number : ℕ) → slot_body number b ≡ slot_body number a
  rest_body number =
      let at : suc (512 + 8 * number) ≡ 512 + suc (8 * number) = omega arith in
      ap (λ (n : ℕ). take 7 (drop n b)) at ∙ ap (take 7) (sym (drop-drop (suc (8 * number)) 512 b) ∙ ap (drop (suc (8 * number))) rest ∙ drop-drop (suc (8 * number)) 512 a)
      ∙ ap (λ (n : ℕ). take 7 (drop n a)) (sym at)

  rest_from : (count number : ℕ) → slots_from count number b ≡ slots_from count number a
  unfolding slots_from
  rest_from zero number = refl
  rest_from (suc count) number = λ i. cond (rest_gate number i) (rest_body number i ∷ rest_from count (suc number) i) []

  pub same_rest : slots b ≡ slots a
  unfolding slots
  same_rest = rest_from 1984 0

drop-splice : (at n : ℕ) (bytes block : List ℕ) → at + length bytes ≤ n → drop n (splice at bytes block) ≡ drop n block
unfolding splice
drop-splice zero n [] block le = refl
drop-splice zero zero (x ∷ bytes) block le = absurd (omega arith)
drop-splice zero (suc n) (x ∷ bytes) [] le = refl
drop-splice zero (suc n) (x ∷ bytes) (y ∷ block) le = drop-splice zero n bytes block (omega arith)
drop-splice (suc at) zero bytes block le = absurd (omega arith)
drop-splice (suc at) (suc n) bytes [] le = refl
drop-splice (suc at) (suc n) bytes (y ∷ block) le = drop-splice at n bytes block (omega arith)

-- so a write into the first 512 bytes leaves them
pub slots_behind : (at : ℕ) (bytes b : List ℕ) → at + length bytes ≤ 512 → slots (splice at bytes b) ≡ slots b
slots_behind at bytes b before = same_rest b (splice at bytes b) (drop-splice at 512 bytes b before)

-- and one that closes the first gate leaves none
pub slots_cleared : (bytes b : List ℕ) → 1 ≤ length bytes → 512 < length b → (get_or bytes 0 0 == 193) ≡ false → slots (splice 512 bytes b) ≡ []
slots_cleared bytes b some inside shut = no_slots (splice 512 bytes b) (ap (λ (x : ℕ). x == 193) (get_or-splice_in 512 bytes b 512 0 (omega arith) (omega arith) (omega arith)) ∙ shut)

-- while a slot is appended each byte before all slots stays
pub byte_before : (a b : List ℕ) → take 512 b ≡ take 512 a → (i : ℕ) → i < 512 → get_or b i 0 ≡ get_or a i 0
byte_before a b head i lt = sym (get_or-take 512 b i 0 lt) ∙ ap (λ (l : List ℕ). get_or l i 0) head ∙ get_or-take 512 a i 0 lt
