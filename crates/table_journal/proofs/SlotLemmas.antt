-- The slots of a block, and what the writes of an appending make of them.
use Rattle.std.proofs.Common.{◌≡◌, ◌⊎◌, inl, inr, ℕ, zero, suc, ◌+◌, ◌*◌, ◌-◌, ◌≤◌, ◌<◌, true, false, ◌==◌, List, [], ◌∷◌, ◌++◌, length, take, drop, get_or, slice_get, Some, refl, sym, ◌∙◌, ap, arith, length-append}
use Rattle.std.proofs.lemmas.List.{append-nil, ext_get_or, get_or-take, get_or-drop, get_or_at, length-take, length-drop, take-take, take_at}
use Rattle.std.proofs.lemmas.Bool.{cases_lt, cases_Bool}
use Rattle.mss_base.specs.Content.{splice, length-splice}
use Rattle.mss_base.proofs.ContentLemmas.{get_or-splice_below, get_or-splice_above, get_or-splice_in}
use Rattle.table_journal.specs.Slots.{is_slot_open, slot_body, slots_from, slots, IsAppending}
use Rattle.table_journal.specs.Appending.{KeepsSlots, IsNextClosed}
use Rattle.table_journal.proofs.WalkLemmas.{SameBytes, open_step, none_from, few_from, shut_behind, body_from, same_gate, same_body, walked}

-- ---- what is in use

-- no more slots are in use than there are
pub few_slots : (b : List ℕ) → length (slots b) ≤ 1984
unfolding slots
few_slots b = few_from 1984 0 b

-- the bodies of the slots in use are those that stand in the block
pub slot_in_use : (b : List ℕ) (index : ℕ) → index < length (slots b) → slice_get (slots b) index ≡ Some (slot_body index b)
unfolding slots
slot_in_use b index used = let here : 0 + index ≡ index = omega arith in body_from 1984 0 b index used ∙ ap (λ (k : ℕ). Some (slot_body k b)) here

-- so many were counted up to this slot, and all before it are in use
abbrev pub IsCounted : ℕ → List ℕ → Type 0
IsCounted number b = number + length (slots_from (1984 - number) number b) ≡ length (slots b)

pub count_begins : (b : List ℕ) → IsCounted 0 b
unfolding slots
count_begins b = omega arith

pub count_goes_on : (number : ℕ) (b : List ℕ) → number < 1984 → is_slot_open number b ≡ true → IsCounted number b → IsCounted (number + 1) b
count_goes_on number b below opened counted =
    let more : 1984 - number ≡ suc (1984 - (number + 1)) = omega arith in
    let next : number + 1 ≡ suc number = omega arith in
    let here = ap (λ (n : ℕ). length (slots_from n number b)) more ∙ ap (λ (xs : List (List ℕ)). length xs) (open_step (1984 - (number + 1)) number b opened) in
    let there = ap (λ (n : ℕ). length (slots_from (1984 - (number + 1)) n b)) next in
    omega (arith, counted, here, there)

pub count_ends : (number : ℕ) (b : List ℕ) → (1984 ≤ number) ⊎ (is_slot_open number b ≡ false) → IsCounted number b → number ≡ length (slots b)
count_ends number b (inl all) counted =
    let none : 1984 - number ≡ 0 = omega arith in
    omega (arith, counted, ap (λ (xs : List (List ℕ)). length xs) (none_from (1984 - number) number b (inl none)))
count_ends number b (inr shut) counted = omega (arith, counted, ap (λ (xs : List (List ℕ)). length xs) (none_from (1984 - number) number b (inr shut)))

-- ---- other bytes

module _ (used : ℕ) (a : List ℕ) (counts : length (slots a) ≡ used) where
  -- the gate behind the slots in use is closed
  pub gate_is_shut : used < 1984 → is_slot_open used a ≡ false
  unfolding slots
  gate_is_shut few =
      let here : used ≡ 0 + length (slots_from 1984 0 a) = omega (arith, counts) in
      ap (λ (k : ℕ). is_slot_open k a) here ∙ shut_behind 1984 0 a (omega (arith, counts))

  module _ (b : List ℕ) (long : length b ≡ length a) (same : SameBytes 512 (512 + 8 * used) a b) where
    -- a block with the bytes of the slots in use, and those that it has behind them
    pub slots_same : slots b ≡ slots a ++ slots_from (1984 - used) used b
    unfolding slots
    slots_same =
        let here : 0 + length (slots_from 1984 0 a) ≡ used = omega (arith, counts) in
        let few = few_from 1984 0 a in
        walked a b long 1984 0 (1984 - used) (omega (arith, counts, few)) (λ i from to. same i from (omega (arith, here)))
        ∙ ap (λ (k : ℕ). slots_from 1984 0 a ++ slots_from (1984 - used) k b) here

    -- none, where the next gate is closed
    pub slots_stay : (1984 ≤ used) ⊎ (is_slot_open used b ≡ false) → slots b ≡ slots a
    slots_stay (inl full) = let none : 1984 - used ≡ 0 = omega arith in slots_same ∙ ap (λ (xs : List (List ℕ)). slots a ++ xs) (none_from (1984 - used) used b (inl none)) ∙ append-nil (slots a)
    slots_stay (inr shut) = slots_same ∙ ap (λ (xs : List (List ℕ)). slots a ++ xs) (none_from (1984 - used) used b (inr shut)) ∙ append-nil (slots a)

    -- one, where its gate is open, and the one behind it closed
    pub slots_grow : used < 1984 → is_slot_open used b ≡ true → IsNextClosed used b → slots b ≡ slots a ++ slot_body used b ∷ []
    slots_grow few opened next =
        let one : 1984 - used ≡ suc (1983 - used) = omega arith in
        slots_same ∙ ap (λ (xs : List (List ℕ)). slots a ++ xs)
        (ap (λ (n : ℕ). slots_from n used b) one ∙ open_step (1983 - used) used b opened ∙ ap (λ (xs : List (List ℕ)). slot_body used b ∷ xs) (none_from (1983 - used) (suc used) b end))
      where
        end : (1983 - used ≡ 0) ⊎ (is_slot_open (suc used) b ≡ false)
        end = elim (cases_lt (suc used) 1984) [
          | inl there ↦ inr (next there)
          | inr last ↦ inl (omega arith)
        ]

-- ---- writes

-- a write leaves what stands before it
pub take-splice : (at n : ℕ) (bytes block : List ℕ) → n ≤ at → take n (splice at bytes block) ≡ take n block
unfolding splice
take-splice at zero bytes block le = refl
take-splice zero (suc n) bytes block le = absurd (omega arith)
take-splice (suc at) (suc n) bytes [] le = refl
take-splice (suc at) (suc n) bytes (x ∷ block) le = ap (λ (l : List ℕ). x ∷ l) (take-splice at n bytes block (omega arith))

-- the body that was written
pub body_put : (number at : ℕ) (bytes a : List ℕ) → at ≡ 513 + 8 * number → 7 ≤ length bytes → at + length bytes ≤ length a → slot_body number (splice at bytes a) ≡ take 7 bytes
body_put number at bytes a place some inside =
    let p : ℕ = suc (512 + 8 * number) in
    let b : List ℕ = splice at bytes a in
    ext_get_or 0 (take 7 (drop p b)) (take 7 bytes) (omega (arith, length-take 7 (drop p b), length-take 7 bytes, length-drop p b, length-splice at bytes a))
    (λ k lt.
    let within : k < 7 = omega (arith, length-take 7 (drop p b)) in
    get_or-take 7 (drop p b) k 0 within ∙ get_or-drop p b k 0 ∙ get_or-splice_in at bytes a (p + k) k (omega arith) (omega arith) (omega arith) ∙ sym (get_or-take 7 bytes k 0 within))

-- the next gate, written with it
pub next_put : (number at : ℕ) (bytes a : List ℕ) → at ≡ 513 + 8 * number → 8 ≤ length bytes → at + length bytes ≤ length a → get_or bytes 7 0 ≡ 0 → is_slot_open (suc number) (splice at bytes a) ≡ false
next_put number at bytes a place some inside shut =
    ap (λ (x : ℕ). x == 193) (get_or-splice_in at bytes a (512 + 8 * suc number) 7 (omega arith) (omega arith) (omega arith) ∙ shut)

-- a body and a closed gate, as far as the block reaches
module _ (body bytes : List ℕ) (long : length body ≡ 7) (whole : bytes ≡ body ++ 0 ∷ []) (n : ℕ) where
  pub put_length : n ≤ 8 → length (take n bytes) ≡ n
  put_length few = omega (arith, length-take n bytes, ap (λ (l : List ℕ). length l) whole, length-append body (0 ∷ []))

  pub put_first : 7 ≤ n → take 7 (take n bytes) ≡ body
  put_first some = take-take 7 n bytes some ∙ ap (λ (l : List ℕ). take 7 l) whole ∙ take_at body (0 ∷ []) 7 long

  pub put_last : 8 ≤ n → get_or (take n bytes) 7 0 ≡ 0
  put_last some = get_or-take n bytes 7 0 (omega arith) ∙ ap (λ (l : List ℕ). get_or l 7 0) whole ∙ get_or_at body 0 [] 0 7 long

pub keeps_same : (a : List ℕ) → KeepsSlots a a
keeps_same a = record { long = refl; head = refl; slots_ = refl }

module _ (used : ℕ) (a : List ℕ) (counts : length (slots a) ≡ used) (few : used < 1984) where
  -- a write behind the gate of the first slot that isn't in use
  pub keeps_behind : (at : ℕ) (left : List ℕ) → 512 + 8 * used < at → KeepsSlots a (splice at left a)
  keeps_behind at left beyond = record {
    long = length-splice at left a;
    head = take-splice at 512 left a (omega arith);
    slots_ = slots_stay used a counts (splice at left a) (length-splice at left a) (λ i from to. get_or-splice_below at left a i (omega arith))
        (inr (same_gate used a (splice at left a) (get_or-splice_below at left a (512 + 8 * used) beyond) ∙ gate_is_shut used a counts few));
  }

  -- that gate is written
  module _ (at : ℕ) (place : at ≡ 512 + 8 * used) (left : List ℕ) (one : length left ≡ 1) (inside : at < length a) where
    before_gate : SameBytes 512 (512 + 8 * used) a (splice at left a)
    before_gate i from to = get_or-splice_below at left a i (omega arith)

    gate_put : is_slot_open used (splice at left a) ≡ (get_or left 0 0 == 193)
    gate_put = ap (λ (x : ℕ). x == 193) (get_or-splice_in at left a (512 + 8 * used) 0 (omega arith) (omega arith) (omega arith))

    pub opened_slots : IsNextClosed used a → (get_or left 0 0 == 193) ≡ true → slots (splice at left a) ≡ slots a ++ slot_body used a ∷ []
    opened_slots next opened =
        let b : List ℕ = splice at left a in
        let long : length b ≡ length a = length-splice at left a in
        let above : (i : ℕ) → at < i → get_or b i 0 ≡ get_or a i 0 = λ i beyond. get_or-splice_above at left a i (omega arith) in
        slots_grow used a counts b long before_gate few (gate_put ∙ opened) (λ there. same_gate (suc used) a b (above (512 + 8 * suc used) (omega arith)) ∙ next there)
        ∙ ap (λ (body : List ℕ). slots a ++ body ∷ []) (same_body used a b long (λ i from to. above i (omega arith)))

    pub appending_gate : IsNextClosed used a → IsAppending (slot_body used a) a (splice at left a)
    appending_gate next = record {
      long = length-splice at left a;
      head = take-splice at 512 left a (omega arith);
      slots_ = elim (cases_Bool (get_or left 0 0 == 193)) [
        | inl opened ↦ inr (opened_slots next opened)
        | inr shut ↦ inl (slots_stay used a counts (splice at left a) (length-splice at left a) before_gate (inr (gate_put ∙ shut)))
      ];
    }

-- the slots stay, and then one is appended
pub appending_none : (body a b : List ℕ) → KeepsSlots a b → IsAppending body a b
appending_none body a b kept = record { long = kept.long; head = kept.head; slots_ = inl kept.slots_ }

pub appending_then : (body a b c : List ℕ) → KeepsSlots a b → IsAppending body b c → IsAppending body a c
appending_then body a b c kept on = record {
  long = on.long ∙ kept.long;
  head = on.head ∙ kept.head;
  slots_ = elim on.slots_ [
    | inl same ↦ inl (same ∙ kept.slots_)
    | inr more ↦ inr (more ∙ ap (λ (xs : List (List ℕ)). xs ++ body ∷ []) kept.slots_)
  ];
}
