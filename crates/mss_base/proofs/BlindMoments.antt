-- A run of items within some places of one block, of which what is said sees nothing. Layers above cite `block_blind`.
use Rattle.std.proofs.Common.{◌≡◌, ℕ, zero, suc, ◌+◌, ◌≤◌, Bool, true, false, ◌&&◌, ◌==◌, inl, inr, List, [], ◌∷◌, length, take, slice_get, get_or, Some, refl, sym, ◌∙◌, ap, subst}
use Rattle.std.specs.Prelude.{nat_le, nat_lt}
use Rattle.std.proofs.lemmas.Bool.{and_left, and_right, cases_lt, false≢true, or_from}
use Rattle.mss_base.specs.declared.place.UnitNo.{UnitNo}
use Rattle.mss_base.specs.Content.{Content, Write, Item, wrote, synced, synced_all, unsynced, with_item, after, SiteLog, content, same_unit, splice, with_write, Places, nowhere, in_range, loose_with, loose_after, open_with, Tear, with_tear, Got, IsWithin, AreWithin, Writes, ChangesBlock, length-with_write}
use Rattle.mss_base.proofs.ContentLemmas.{written_here, written_elsewhere, get_or-splice_below, get_or-splice_above}
use Rattle.mss_base.proofs.TornLemmas.{above_range, below_range, get_or-torn, length-torn, torn_shut}

-- a content that is another one but for these places of a block
record Agrees (unit : UnitNo) (block : ℕ) (places : ℕ → Bool) (c d : Content) : Type 0 where
  others : (u : UnitNo) (b : ℕ) → (same_unit unit u && (block == b)) ≡ false → d u b ≡ c u b
  long : length (d unit block) ≡ length (c unit block)
  outside : (i : ℕ) → places i ≡ false → get_or (d unit block) i 0 ≡ get_or (c unit block) i 0

-- open places that are among these places of a block
record IsOpenIn (unit : UnitNo) (block : ℕ) (places : ℕ → Bool) (is_open : Places) : Type 0 where
  others : (u : UnitNo) (b : ℕ) → (same_unit unit u && (block == b)) ≡ false → (i : ℕ) → is_open u b i ≡ false
  outside : (i : ℕ) → places i ≡ false → is_open unit block i ≡ false

module _ (w : Write) (places : ℕ → Bool) (covers : (i : ℕ) → w.offset ≤ i → suc i ≤ w.offset + length w.bytes → places i ≡ true) where
  agrees_here : (c d : Content) → Agrees w.unit w.block places c d → Agrees w.unit w.block places c (with_write d w)
  agrees_here c d agrees = record {
    others = λ u b other. written_elsewhere d w u b other ∙ agrees.others u b other;
    long = length-with_write d w w.unit w.block ∙ agrees.long;
    outside = λ i shut. ap (λ (l : List ℕ). get_or l i 0) (written_here d w) ∙ past i shut ∙ agrees.outside i shut;
  }
    where
      past : (i : ℕ) → places i ≡ false → get_or (splice w.offset w.bytes (d w.unit w.block)) i 0 ≡ get_or (d w.unit w.block) i 0
      past i shut = elim (cases_lt i w.offset) [
        | inl below ↦ get_or-splice_below w.offset w.bytes (d w.unit w.block) i below
        | inr from ↦ elim (cases_lt i (w.offset + length w.bytes)) [
          | inl to ↦ absurd (false≢true (sym shut ∙ covers i from to))
          | inr above ↦ get_or-splice_above w.offset w.bytes (d w.unit w.block) i above
        ]
      ]

  open_here : (p : Places) → IsOpenIn w.unit w.block places p → IsOpenIn w.unit w.block places (loose_with p (wrote w))
  open_here p inside = record {
    others = λ u b other i. or_from (p u b i) (in_range w u b i) (inside.others u b other i) (and_left _ _ other);
    outside = λ i shut. or_from (p w.unit w.block i) (in_range w w.unit w.block i) (inside.outside i shut) (and_right _ _ (past i shut));
  }
    where
      past : (i : ℕ) → places i ≡ false → (nat_le w.offset i && nat_lt i (w.offset + length w.bytes)) ≡ false
      past i shut = elim (cases_lt i w.offset) [
        | inl below ↦ below_range w.offset (length w.bytes) i below
        | inr from ↦ elim (cases_lt i (w.offset + length w.bytes)) [
          | inl to ↦ absurd (false≢true (sym shut ∙ covers i from to))
          | inr above ↦ above_range w.offset (length w.bytes) i above
        ]
      ]

module _ (unit : UnitNo) (block : ℕ) (places : ℕ → Bool) where
  agrees_written : (w : Write) → IsWithin unit block places (wrote w) → (c d : Content) → Agrees unit block places c d → Agrees unit block places c (with_write d w)
  agrees_written w within c d =
      subst (λ (u : UnitNo). Agrees u block places c d → Agrees u block places c (with_write d w)) within.0
      (subst (λ (b : ℕ). Agrees w.unit b places c d → Agrees w.unit b places c (with_write d w)) within.1
      (agrees_here w places within.2 c d))

  open_written : (w : Write) → IsWithin unit block places (wrote w) → (p : Places) → IsOpenIn unit block places p → IsOpenIn unit block places (loose_with p (wrote w))
  open_written w within p =
      subst (λ (u : UnitNo). IsOpenIn u block places p → IsOpenIn u block places (loose_with p (wrote w))) within.0
      (subst (λ (b : ℕ). IsOpenIn w.unit b places p → IsOpenIn w.unit b places (loose_with p (wrote w))) within.1
      (open_here w places within.2 p))

  agrees_with : (x : Item) → IsWithin unit block places x → (c d : Content) → Agrees unit block places c d → Agrees unit block places c (with_item d x)
  agrees_with (wrote w) within c d agrees = agrees_written w within c d agrees
  agrees_with (synced u) within c d agrees = agrees
  agrees_with synced_all within c d agrees = agrees
  agrees_with unsynced within c d agrees = agrees

  loose_in : (x : Item) → IsWithin unit block places x → (p : Places) → IsOpenIn unit block places p → IsOpenIn unit block places (loose_with p x)
  loose_in (wrote w) within p inside = open_written w within p inside
  loose_in (synced v) within p inside = record {
    others = λ u b other i. and_left _ _ (inside.others u b other i);
    outside = λ i shut. and_left _ _ (inside.outside i shut);
  }
  loose_in synced_all within p inside = record { others = λ u b other i. refl; outside = λ i shut. refl }
  loose_in unsynced within p inside = record { others = inside.others; outside = inside.outside }

  open_in : (x : Item) → IsWithin unit block places x → (p : Places) → IsOpenIn unit block places p → IsOpenIn unit block places (open_with p (Some x))
  open_in (wrote w) within p inside = open_written w within p inside
  open_in (synced v) within p inside = inside
  open_in synced_all within p inside = inside
  open_in unsynced within p inside = inside

  -- after the first k of these items
  agrees_after : (xs : List Item) → AreWithin unit block places xs → (k : ℕ) (c d : Content) → Agrees unit block places c d → Agrees unit block places c (after d (take k xs))
  agrees_after xs within zero c d agrees = agrees
  agrees_after [] within (suc k) c d agrees = agrees
  agrees_after (x ∷ xs) within (suc k) c d agrees = agrees_after xs within.1 k c (with_item d x) (agrees_with x within.0 c d agrees)

  open_after : (xs : List Item) → AreWithin unit block places xs → (k : ℕ) (p : Places) → IsOpenIn unit block places p
      → IsOpenIn unit block places (open_with (loose_after p (take k xs)) (slice_get xs k))
  open_after [] within zero p inside = inside
  open_after [] within (suc k) p inside = inside
  open_after (x ∷ xs) within zero p inside = open_in x within.0 p inside
  open_after (x ∷ xs) within (suc k) p inside = open_after xs within.1 k (loose_with p x) (loose_in x within.0 p inside)

  agrees_torn : (c d : Content) (is_open : Places) (tear : Tear) → Agrees unit block places c d → IsOpenIn unit block places is_open → Agrees unit block places c (with_tear d is_open tear)
  agrees_torn c d is_open tear agrees inside = record {
    others = λ u b other. torn_shut (is_open u b) (tear u b) (d u b) (inside.others u b other) ∙ agrees.others u b other;
    long = length-torn (is_open unit block) (tear unit block) (d unit block) ∙ agrees.long;
    outside = λ i shut. get_or-torn (is_open unit block) (tear unit block) (d unit block) i (inside.outside i shut) ∙ agrees.outside i shut;
  }

-- a run on one block, of which P sees nothing but what lies outside some places
pub block_blind : (unit : UnitNo) (block : ℕ) (P : List ℕ → Type 0) (places : ℕ → Bool) (items : List Item) (old new : SiteLog)
    → Got items old new → AreWithin unit block places items
    → ((b : List ℕ) → length b ≡ length (content old unit block) → ((i : ℕ) → places i ≡ false → get_or b i 0 ≡ get_or (content old unit block) i 0) → P b)
    → Writes (ChangesBlock unit block P (content old)) old new
block_blind unit block P places items old new got within blind = record {
  items = items;
  grown = got;
  moments = λ k to tear.
      let agrees = agrees_torn unit block places (content old) (after (content old) (take k items)) (open_with (loose_after nowhere (take k items)) (slice_get items k)) tear
      (agrees_after unit block places items within k (content old) (content old) (record { others = λ u b other. refl; long = refl; outside = λ i shut. refl }))
      (open_after unit block places items within k nowhere (record { others = λ u b other i. refl; outside = λ i shut. refl })) in
      record { others = agrees.others; here = blind _ agrees.long agrees.outside };
}
