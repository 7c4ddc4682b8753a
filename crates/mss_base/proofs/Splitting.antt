-- What is loose behind items was loose before them, or is loose by them. Layers above cite these lemmas.
use Rattle.std.proofs.Common.{◌≡◌, ◌⊎◌, inl, inr, ℕ, Bool, true, ◌&&◌, ◌||◌, List, [], ◌∷◌, Option, Some, None}
use Rattle.std.specs.Prelude.{not}
use Rattle.std.proofs.lemmas.Bool.{and_from, and_parts, or_cases, or_left, or_right, false≢true}
use Rattle.mss_base.specs.declared.place.UnitNo.{UnitNo}
use Rattle.mss_base.specs.Content.{Item, wrote, synced, synced_all, unsynced, Places, nowhere, in_range, same_unit, loose_with, loose_after, open_with}

-- places that are those of two sets together, where the second lies within them
pub record Splits (all was some : Places) : Type 0 where
  pub parts : (u : UnitNo) (b i : ℕ) → all u b i ≡ true → (was u b i ≡ true) ⊎ (some u b i ≡ true)
  pub within : (u : UnitNo) (b i : ℕ) → some u b i ≡ true → all u b i ≡ true

pub split_none : (p : Places) → Splits p p nowhere
split_none p = record { parts = λ u b i is. inl is; within = λ u b i is. absurd (false≢true is) }

or_parts : (all was some x : Bool) → (all ≡ true → (was ≡ true) ⊎ (some ≡ true)) → (all || x) ≡ true → (was ≡ true) ⊎ ((some || x) ≡ true)
or_parts all was some x parts is = elim (or_cases all x is) [
  | inl old ↦ elim (parts old) [ inl before ↦ inl before | inr since ↦ inr (or_left some x since) ]
  | inr now ↦ inr (or_right some x now)
]

or_within : (all some x : Bool) → (some ≡ true → all ≡ true) → (some || x) ≡ true → (all || x) ≡ true
or_within all some x within is = elim (or_cases some x is) [ inl old ↦ or_left all x (within old) | inr now ↦ or_right all x now ]

still_parts : (all was some x : Bool) → (all ≡ true → (was ≡ true) ⊎ (some ≡ true)) → (all && x) ≡ true → (was ≡ true) ⊎ ((some && x) ≡ true)
still_parts all was some x parts is =
    let both = and_parts all x is in
    elim (parts both.0) [ inl before ↦ inl before | inr since ↦ inr (and_from some x since both.1) ]

still_within : (all some x : Bool) → (some ≡ true → all ≡ true) → (some && x) ≡ true → (all && x) ≡ true
still_within all some x within is = let both = and_parts some x is in and_from all x (within both.0) both.1

pub split_with : (all was some : Places) (x : Item) → Splits all was some → Splits (loose_with all x) was (loose_with some x)
split_with all was some (wrote w) s = record {
  parts = λ u b i is. or_parts (all u b i) (was u b i) (some u b i) (in_range w u b i) (s.parts u b i) is;
  within = λ u b i is. or_within (all u b i) (some u b i) (in_range w u b i) (s.within u b i) is;
}
split_with all was some (synced v) s = record {
  parts = λ u b i is. still_parts (all u b i) (was u b i) (some u b i) (not (same_unit v u)) (s.parts u b i) is;
  within = λ u b i is. still_within (all u b i) (some u b i) (not (same_unit v u)) (s.within u b i) is;
}
split_with all was some synced_all s = record { parts = λ u b i is. absurd (false≢true is); within = λ u b i is. absurd (false≢true is) }
split_with all was some unsynced s = record { parts = s.parts; within = s.within }

pub split_after : (all was some : Places) (xs : List Item) → Splits all was some → Splits (loose_after all xs) was (loose_after some xs)
split_after all was some [] s = s
split_after all was some (x ∷ xs) s = split_after (loose_with all x) was (loose_with some x) xs (split_with all was some x s)

-- and while an item is under way
pub split_open : (all was some : Places) (next : Option Item) → Splits all was some → Splits (open_with all next) was (open_with some next)
split_open all was some (Some (wrote w)) s = split_with all was some (wrote w) s
split_open all was some (Some (synced v)) s = s
split_open all was some (Some synced_all) s = s
split_open all was some (Some unsynced) s = s
split_open all was some None s = s
