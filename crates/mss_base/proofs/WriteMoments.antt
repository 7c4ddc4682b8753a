-- What a stop leaves of one write over a content in which nothing is loose: the write of other bytes in its range.
use Rattle.std.proofs.Common.{◌≡◌, ℕ, zero, suc, ◌+◌, ◌≤◌, ◌<◌, inl, inr, Bool, true, false, cond, ◌&&◌, ◌==◌, List, [], ◌∷◌, length, refl, sym, ◌∙◌, ap, subst, arith}
use Rattle.std.specs.Prelude.{not}
use Rattle.std.proofs.lemmas.Bool.{and_left, and_right, and_parts, cases_Bool, cond-true, cond-false, eqb-true}
use Rattle.mss_base.specs.declared.place.UnitNo.{UnitNo}
use Rattle.mss_base.specs.Content.{Content, Write, wrote, synced, unsynced, SiteLog, content, Places, nowhere, loose_with, Tear, torn_block, with_tear, image, since, same_unit, splice, with_write}
use Rattle.mss_base.proofs.ContentLemmas.{is_written, same_unit-true, written_here, written_elsewhere}
use Rattle.mss_base.proofs.TornLemmas.{above_range, below_range, shut_tear, splice_over, torn_range, torn_shut}

firm_here : (same at inside : Bool) → (((same && at) && inside) && not same) ≡ false
firm_here true at inside = and_right ((true && at) && inside) false refl
firm_here false at inside = refl

-- a write is firm behind a sync of its unit
pub firm_behind : (w : Write) (unit : UnitNo) (block place : ℕ) → loose_with (loose_with nowhere (wrote w)) (synced w.unit) unit block place ≡ false
firm_behind w unit block place = firm_here (same_unit w.unit unit) (w.block == block) _

module _ (c : Content) (w : Write) where
  abbrev range : Places
  range = loose_with nowhere (wrote w)

  range_elsewhere : (u : UnitNo) (b : ℕ) → (same_unit w.unit u && (w.block == b)) ≡ false → (i : ℕ) → range u b i ≡ false
  range_elsewhere u b other i = and_left _ _ other

  below : (i : ℕ) → i < w.offset → range w.unit w.block i ≡ false
  below i lt = and_right _ _ (below_range w.offset (length w.bytes) i lt)

  above : (i : ℕ) → w.offset + length w.bytes ≤ i → range w.unit w.block i ≡ false
  above i le = and_right _ _ (above_range w.offset (length w.bytes) i le)

  -- a content whose range is torn, and that else is the first one, is that one after a write of what the tear left
  module _ (d : Content) (tear : Tear) (left : List ℕ) (is : torn_block (range w.unit w.block) (tear w.unit w.block) (d w.unit w.block) ≡ splice w.offset left (c w.unit w.block))
      (others : (u : UnitNo) (b : ℕ) → (same_unit w.unit u && (w.block == b)) ≡ false → d u b ≡ c u b) where
    at : (u : UnitNo) (b : ℕ) → torn_block (range u b) (tear u b) (d u b) ≡ cond (same_unit w.unit u && (w.block == b)) (torn_block (range w.unit w.block) (tear w.unit w.block) (d w.unit w.block)) (d u b)
    at u b = elim (cases_Bool (same_unit w.unit u && (w.block == b))) [
      | inl same ↦
          let parts = and_parts (same_unit w.unit u) (w.block == b) same in
          let x : w.unit ≡ u = same_unit-true w.unit u parts.0 in
          let y : w.block ≡ b = eqb-true w.block b parts.1 in
          sym (λ i. torn_block (range (x i) (y i)) (tear (x i) (y i)) (d (x i) (y i))) ∙ sym (cond-true _ _ _ same)
      | inr other ↦ torn_shut (range u b) (tear u b) (d u b) (range_elsewhere u b other) ∙ sym (cond-false _ _ _ other)
    ]

    is_left : with_tear d range tear ≡ with_write c (record w { bytes = left })
    is_left = is_written c d (with_tear d range tear) (record w { bytes = left }) (torn_block (range w.unit w.block) (tear w.unit w.block) (d w.unit w.block)) is others at

  module _ (P : Content → Type 0) (any : (left : List ℕ) → length left ≡ length w.bytes → P (with_write c (record w { bytes = left }))) where
    under_way : (tear : Tear) → P (with_tear c range tear)
    under_way tear =
        let r = torn_range w.offset (length w.bytes) (range w.unit w.block) (tear w.unit w.block) (c w.unit w.block) below above in
        subst P (sym (is_left c tear r.0 r.2 (λ u b other. refl))) (any r.0 r.1)

    made : (tear : Tear) → P (with_tear (with_write c w) range tear)
    made tear =
        let r = torn_range w.offset (length w.bytes) (range w.unit w.block) (tear w.unit w.block) (splice w.offset w.bytes (c w.unit w.block)) below above in
        subst P (sym (is_left (with_write c w) tear r.0
        (ap (torn_block (range w.unit w.block) (tear w.unit w.block)) (written_here c w) ∙ r.2 ∙ splice_over w.offset r.0 w.bytes (c w.unit w.block) r.1)
        (λ u b other. written_elsewhere c w u b other))) (any r.0 r.1)

    firm : (tear : Tear) → P (with_tear (with_write c w) (loose_with range (synced w.unit)) tear)
    firm tear = subst P (sym (shut_tear (with_write c w) (loose_with range (synced w.unit)) tear (firm_behind w))) (any w.bytes refl)

module _ (P : Content → Type 0) (old : SiteLog) (w : Write) (any : (left : List ℕ) → length left ≡ length w.bytes → P (with_write (content old) (record w { bytes = left }))) where
  -- a write alone
  pub alone_moments : (k : ℕ) → k ≤ length (wrote w ∷ []) → (tear : Tear) → P (image (since old (wrote w ∷ [])) k tear)
  alone_moments zero to tear = under_way (content old) w P any tear
  alone_moments (suc zero) to tear = made (content old) w P any tear
  alone_moments (suc (suc k)) to tear = absurd (omega arith)

  -- a write, and a sync of its unit
  pub firm_moments : (k : ℕ) → k ≤ length (wrote w ∷ synced w.unit ∷ []) → (tear : Tear) → P (image (since old (wrote w ∷ synced w.unit ∷ [])) k tear)
  firm_moments zero to tear = under_way (content old) w P any tear
  firm_moments (suc zero) to tear = made (content old) w P any tear
  firm_moments (suc (suc zero)) to tear = firm (content old) w P any tear
  firm_moments (suc (suc (suc k))) to tear = absurd (omega arith)

  -- a write, and a sync that failed
  pub failed_moments : (k : ℕ) → k ≤ length (wrote w ∷ unsynced ∷ []) → (tear : Tear) → P (image (since old (wrote w ∷ unsynced ∷ [])) k tear)
  failed_moments zero to tear = under_way (content old) w P any tear
  failed_moments (suc zero) to tear = made (content old) w P any tear
  failed_moments (suc (suc zero)) to tear = made (content old) w P any tear
  failed_moments (suc (suc (suc k))) to tear = absurd (omega arith)
