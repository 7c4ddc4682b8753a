-- The moments of a creation.
use Rattle.std.proofs.Common.{◌≡◌, ◌⊎◌, inl, inr, true, false, Bool, List, get_or, length, ℕ, Some, None, Result, Ok, sym, ◌∙◌, ap, subst}
use Rattle.mss_base.specs.declared.place.BlockPlace.{BlockPlace}
use Rattle.mss_base.specs.Content.{Content, SiteLog, content, Settles, Writes}
use Rattle.mss_base.specs.declared.place.UnitNo.TheVariants.{TableA, TableB}
use Rattle.mss_base.proofs.Moments.{then_firm}
use Rattle.mss_base.proofs.Settling.{settles_then}
use Rattle.volume_table.specs.Row.{RowValue}
use Rattle.volume_table.specs.Grammar.{decode}
use Rattle.table_pair.specs.declared.copy.TableCopy.TheVariants as copy
use Rattle.table_pair.specs.Places.{place_of}
use Rattle.table_pair.specs.Copies.{CopyView, byte_on, copy_on, marked_copy, filled_copy, IsFilling, IsMarking, IsRewriting, copy_at, WritesCopy}
use Rattle.table_pair.specs.Pair.{known, row_of_copies, IsOpenWith, HoldsRow, AreClosed, AreMade, AreMarked, StaysCopy, ChangesRow, NoneOrNew}
use Rattle.table_pair.specs.Creating.{MarksCopy, FillsCopy}
use Rattle.table_pair.specs.Order.{IsCreatedInOrder, CreatesInOrder}
use Rattle.table_pair.specs.Slots.{HasSlots, IsChanged, no_slots}
use Rattle.table_pair.proofs.PairFacts.{row_by_a, row_by_none}
use Rattle.table_pair.proofs.PairLemmas.{copy_a, copy_b, ChangesPair, InPair, kept_a, kept_b, from_a, from_b, pair_then, pair_row, block_a_kept, block_b_kept}
use Rattle.table_pair.proofs.StayLemmas.{stays, stays_as, stays_marked, stays_filled, stays_rewriting, stays_since, rewriting_made}
use Rattle.table_pair.proofs.OrderLemmas.{while_a, while_b, done_by}
use Rattle.table_pair.proofs.WriteLemmas.{copy_weaker}
use Rattle.table_pair.proofs.ChangingLemmas.{open_filled, open_as}

-- a copy was marked to its end
pub record Marked (at : BlockPlace) (s t : SiteLog) : Type 0 where
  pub moments : WritesCopy at (IsMarking (copy_on s at)) s t
  pub done : copy_on t at ≡ marked_copy (copy_on s at)
  pub firm : Settles s t

-- a copy was rewritten, or filled, to its end
pub record Rewritten (at : BlockPlace) (bytes : List ℕ) (s t : SiteLog) : Type 0 where
  pub moments : WritesCopy at (IsRewriting bytes (copy_on s at)) s t
  pub done : copy_on t at ≡ filled_copy bytes (copy_on s at)
  pub firm : Settles s t

stays_marking : (old now : CopyView) → IsMarking old now → StaysCopy old now
stays_marking old now is = elim is [ inl same ↦ stays_as old now same | inr made ↦ stays_marked old now made ]

gate_marking : (old now : CopyView) → IsMarking old now → now.is_open ≡ old.is_open
gate_marking old now is = elim is [ inl same ↦ ap (λ (c : CopyView). c.is_open) same | inr made ↦ ap (λ (c : CopyView). c.is_open) made ]

-- a filling is a rewriting
pub as_rewriting : (at : BlockPlace) (bytes : List ℕ) (s t : SiteLog) → WritesCopy at (IsFilling bytes (copy_on s at)) s t → WritesCopy at (IsRewriting bytes (copy_on s at)) s t
as_rewriting at bytes s t w = copy_weaker at (IsFilling bytes (copy_on s at)) (IsRewriting bytes (copy_on s at)) (λ c is. inr is) s t w

module _ (volume : ℕ) (row : RowValue) (bytes : List ℕ) (spelled : decode bytes ≡ Ok row) (s : SiteLog) (none : AreClosed volume (content s)) where
  abbrev a : CopyView
  a = copy_a volume s

  abbrev b : CopyView
  b = copy_b volume s

  abbrev Row : CopyView → CopyView → Type 0
  Row x y = (row_of_copies x y ≡ known None false) ⊎ ((row_of_copies x y ≡ known (Some row) false) × (x.is_made ≡ true) × (y.is_made ≡ true))

  abbrev Pair : SiteLog → SiteLog → SiteLog → Type 0
  Pair from t u = Writes (ChangesPair volume (InPair a b Row) (content from)) t u

  no_row : (x y : CopyView) → x.is_open ≡ false → y.is_open ≡ false → Row x y
  no_row x y shut_x shut_y = inl (row_by_none x y shut_x shut_y)

  pub to_row : (u : SiteLog) → Pair s s u → Writes (ChangesRow volume (NoneOrNew volume row) (content s)) s u
  to_row u w = pair_row volume Row (NoneOrNew volume row) s u (λ c is. elim is [ inl gone ↦ inl gone | inr new ↦ inr (new.0, record { a = new.1; b = new.2 }) ]) w

  -- the mark of copy A
  pub first_pair : (s1 : SiteLog) → WritesCopy (place_of copy.A volume) (IsMarking a) s s1 → Pair s s s1
  first_pair s1 w = from_a volume (IsMarking a) (InPair a b Row) s s1 (λ x is. record { stays_a = stays_marking a x is; stays_b = stays b; here = no_row x b (gate_marking a x is ∙ none.a) none.b }) w

  module _ (s1 : SiteLog) (first : Marked (place_of copy.A volume) s s1) where
    b1 : copy_b volume s1 ≡ b
    b1 = kept_b volume (IsMarking a) s s1 first.moments

    -- the mark of copy B
    within_two : (y : CopyView) → IsMarking (copy_b volume s1) y → InPair a b Row (copy_a volume s1) y
    within_two y was =
        let is : IsMarking b y = subst (λ (c : CopyView). IsMarking c y) b1 was in
        record {
          stays_a = stays_marked a (copy_a volume s1) first.done;
          stays_b = stays_marking b y is;
          here = no_row (copy_a volume s1) y (ap (λ (c : CopyView). c.is_open) first.done ∙ none.a) (gate_marking b y is ∙ none.b);
        }

    pub second_pair : (s2 : SiteLog) → WritesCopy (place_of copy.B volume) (IsMarking (copy_b volume s1)) s1 s2 → Pair s s s2
    second_pair s2 w = pair_then volume (InPair a b Row) s s1 s2 first.firm (first_pair s1 first.moments) (from_b volume (IsMarking (copy_b volume s1)) (InPair a b Row) s1 s2 within_two w)

    module _ (s2 : SiteLog) (second : Marked (place_of copy.B volume) s1 s2) where
      b2 : copy_b volume s2 ≡ marked_copy b
      b2 = second.done ∙ ap marked_copy b1

      a2 : copy_a volume s2 ≡ marked_copy a
      a2 = kept_a volume (IsMarking (copy_b volume s1)) s1 s2 second.moments ∙ first.done

      pub a_closed : (copy_a volume s2).is_open ≡ false
      a_closed = ap (λ (c : CopyView). c.is_open) a2 ∙ none.a

      pub a_clear : (copy_a volume s2).is_clear ≡ a.is_clear
      a_clear = ap (λ (c : CopyView). c.is_clear) a2

      b_shut : (copy_b volume s2).is_open ≡ false
      b_shut = ap (λ (c : CopyView). c.is_open) b2 ∙ none.b

      b_made : (copy_b volume s2).is_made ≡ true
      b_made = ap (λ (c : CopyView). c.is_made) b2

      firm_two : Settles s s2
      firm_two = settles_then s s1 s2 first.firm second.firm

      -- copy A is filled
      row_three : (x : CopyView) → IsRewriting bytes (marked_copy a) x → Row x (copy_b volume s2)
      row_three x is = elim is [
        | inl same ↦ no_row x (copy_b volume s2) (ap (λ (c : CopyView). c.is_open) same ∙ none.a) b_shut
        | inr filling ↦ elim filling.gate [
          | inl closed ↦ no_row x (copy_b volume s2) closed b_shut
          | inr full ↦ inr (row_by_a row x (copy_b volume s2) (open_as row x (filled_copy bytes (marked_copy a)) full (open_filled row bytes (marked_copy a) spelled)), filling.made, b_made)
        ]
      ]

      within_three : (x : CopyView) → IsRewriting bytes (copy_a volume s2) x → InPair a b Row x (copy_b volume s2)
      within_three x was =
          let is : IsRewriting bytes (marked_copy a) x = subst (λ (c : CopyView). IsRewriting bytes c x) a2 was in
          record { stays_a = stays_since a x (stays_rewriting bytes (marked_copy a) x is); stays_b = stays_marked b (copy_b volume s2) b2; here = row_three x is }

      pub third_pair : (s3 : SiteLog) → WritesCopy (place_of copy.A volume) (IsRewriting bytes (copy_a volume s2)) s2 s3 → Pair s s s3
      third_pair s3 w = pair_then volume (InPair a b Row) s s2 s3 firm_two (second_pair s2 second.moments) (from_a volume (IsRewriting bytes (copy_a volume s2)) (InPair a b Row) s2 s3 within_three w)

      module _ (s3 : SiteLog) (third : Rewritten (place_of copy.A volume) bytes s2 s3) where
        a3 : copy_a volume s3 ≡ filled_copy bytes (marked_copy a)
        a3 = third.done ∙ ap (filled_copy bytes) a2

        b3 : copy_b volume s3 ≡ marked_copy b
        b3 = kept_b volume (IsRewriting bytes (copy_a volume s2)) s2 s3 third.moments ∙ b2

        pub b_closed : (copy_b volume s3).is_open ≡ false
        b_closed = ap (λ (c : CopyView). c.is_open) b3 ∙ none.b

        pub b_clear : (copy_b volume s3).is_clear ≡ (copy_b volume s1).is_clear
        b_clear = ap (λ (c : CopyView). c.is_clear) (b3 ∙ ap marked_copy (sym b1))

        firm_three : Settles s s3
        firm_three = settles_then s s2 s3 firm_two third.firm

        -- copy B is filled
        within_four : (y : CopyView) → IsRewriting bytes (copy_b volume s3) y → InPair a b Row (copy_a volume s3) y
        within_four y was =
            let is : IsRewriting bytes (marked_copy b) y = subst (λ (c : CopyView). IsRewriting bytes c y) b3 was in
            record {
              stays_a = stays_since a (copy_a volume s3) (subst (StaysCopy (marked_copy a)) (sym a3) (stays_filled bytes (marked_copy a)));
              stays_b = stays_since b y (stays_rewriting bytes (marked_copy b) y is);
              here = inr (
                row_by_a row (copy_a volume s3) y (open_as row (copy_a volume s3) (filled_copy bytes (marked_copy a)) a3 (open_filled row bytes (marked_copy a) spelled)),
                ap (λ (c : CopyView). c.is_made) a3,
                rewriting_made bytes b y is,
              );
            }

        pub fourth_pair : (s4 : SiteLog) → WritesCopy (place_of copy.B volume) (IsRewriting bytes (copy_b volume s3)) s3 s4 → Pair s s s4
        fourth_pair s4 w = pair_then volume (InPair a b Row) s s3 s4 firm_three (third_pair s3 third.moments) (from_b volume (IsRewriting bytes (copy_b volume s3)) (InPair a b Row) s3 s4 within_four w)

        module _ (s4 : SiteLog) (fourth : Rewritten (place_of copy.B volume) bytes s3 s4) where
          a4 : copy_a volume s4 ≡ filled_copy bytes (marked_copy a)
          a4 = kept_a volume (IsRewriting bytes (copy_b volume s3)) s3 s4 fourth.moments ∙ a3

          b4 : copy_b volume s4 ≡ filled_copy bytes (marked_copy b)
          b4 = fourth.done ∙ ap (filled_copy bytes) b3

          both_hold : HoldsRow row volume (content s4)
          both_hold = record {
            a = open_as row (copy_a volume s4) (filled_copy bytes (marked_copy a)) a4 (open_filled row bytes (marked_copy a) spelled);
            b = open_as row (copy_b volume s4) (filled_copy bytes (marked_copy b)) b4 (open_filled row bytes (marked_copy b) spelled);
          }

          pub both_made : AreMade volume (content s4)
          both_made = record { a = ap (λ (c : CopyView). c.is_made) a4; b = ap (λ (c : CopyView). c.is_made) b4 }

          pub none_used : HasSlots no_slots volume (content s4)
          none_used = record { a = ap (λ (c : CopyView). length c.slots) a4; b = ap (λ (c : CopyView). length c.slots) b4 }

          pub all_firm : Settles s s4
          all_firm = settles_then s s3 s4 firm_three fourth.firm

          pub is_created : IsChanged row no_slots volume s s4
          is_created = record {
            holds = both_hold;
            slots_ = none_used;
            clear = record { a = λ _. inr (ap (λ (c : CopyView). c.is_clear) a4); b = λ _. inr (ap (λ (c : CopyView). c.is_clear) b4) };
            firm = all_firm;
          }

-- what becomes of the two marks, from one write to the next
module _ (volume : ℕ) (P1 P2 P3 P4 : CopyView → Type 0) (s s1 s2 s3 s4 : SiteLog)
    (w1 : WritesCopy (place_of copy.A volume) P1 s s1) (w2 : WritesCopy (place_of copy.B volume) P2 s1 s2)
    (w3 : WritesCopy (place_of copy.A volume) P3 s2 s3) (w4 : WritesCopy (place_of copy.B volume) P4 s3 s4) where
  abbrev A : SiteLog → ℕ
  A t = byte_on t (place_of copy.A volume) 511

  abbrev B : SiteLog → ℕ
  B t = byte_on t (place_of copy.B volume) 511

  abbrev mark_in : List ℕ → ℕ
  mark_in block = get_or block 511 0

  pub both_marked : (A s ≡ 0 → A s1 ≡ 77) → (B s1 ≡ 0 → B s2 ≡ 77) → A s3 ≡ A s2 → B s4 ≡ B s3 → AreMade volume (content s4) → AreMarked volume (content s) (content s4)
  both_marked first second third fourth made = record {
    made = made;
    a = λ none. ap mark_in (block_a_kept volume P4 s3 s4 w4) ∙ third ∙ ap mark_in (block_a_kept volume P2 s1 s2 w2) ∙ first none;
    b = λ none. fourth ∙ ap mark_in (block_b_kept volume P3 s2 s3 w3) ∙ second (ap mark_in (block_b_kept volume P1 s s1 w1) ∙ none);
  }

-- ---- the order of a creation: the two marks, then copy A, then copy B
module _ (row : RowValue) (volume : ℕ) (bytes : List ℕ) (spelled : decode bytes ≡ Ok row) (s s1 : SiteLog) (first : WritesCopy (place_of copy.A volume) (IsMarking (copy_a volume s)) s s1) where
  abbrev InOrder : SiteLog → Content → Type 0
  InOrder u = IsCreatedInOrder row volume (content s) (content u)

  -- the mark of copy A
  pub ordered_one : (u : SiteLog) → Writes (InOrder u) s s1
  ordered_one u = while_a volume (IsMarking (copy_a volume s)) (InOrder u) s s1 (λ c is same. record { mark_a = inl same; mark_b = inl is; row_a = inl (inl (ap copy_at same)) }) first

  module _ (firm_one : Settles s s1) (a1 : copy_a volume s1 ≡ marked_copy (copy_a volume s)) (s2 : SiteLog) (second : WritesCopy (place_of copy.B volume) (IsMarking (copy_b volume s1)) s1 s2) where
    b1_kept : copy_b volume s1 ≡ copy_b volume s
    b1_kept = kept_b volume (IsMarking (copy_a volume s)) s s1 first

    -- that of copy B
    pub ordered_two : (u : SiteLog) → Writes (InOrder u) s s2
    ordered_two u = then_firm (InOrder u) s s1 s2 firm_one (ordered_one u) (while_b volume (IsMarking (copy_b volume s1)) (InOrder u) s1 s2 (λ c is same.
        let a_is : copy_at (c TableA volume) ≡ marked_copy (copy_a volume s) = ap copy_at same ∙ a1 in
        record { mark_a = inr (ap (λ (x : CopyView). x.is_made) a_is); mark_b = inl (inr a_is); row_a = inl (subst (λ (x : CopyView). IsMarking x (copy_at (c TableB volume))) b1_kept is) }) second)

    module _ (firm_two : Settles s1 s2) (b2 : copy_b volume s2 ≡ marked_copy (copy_b volume s1)) (s3 : SiteLog) (third : WritesCopy (place_of copy.A volume) (IsFilling bytes (copy_a volume s2)) s2 s3) where
      a2_made : (copy_a volume s2).is_made ≡ true
      a2_made = ap (λ (x : CopyView). x.is_made) (kept_a volume (IsMarking (copy_b volume s1)) s1 s2 second ∙ a1)

      b2_is : copy_b volume s2 ≡ marked_copy (copy_b volume s)
      b2_is = b2 ∙ ap marked_copy b1_kept

      -- copy A
      pub ordered_three : (u : SiteLog) → Writes (InOrder u) s s3
      ordered_three u = then_firm (InOrder u) s s2 s3 (settles_then s s1 s2 firm_one firm_two) (ordered_two u) (while_a volume (IsFilling bytes (copy_a volume s2)) (InOrder u) s2 s3 (λ c is same.
          let b_is : copy_at (c TableB volume) ≡ marked_copy (copy_b volume s) = ap copy_at same ∙ b2_is in
          record { mark_a = inr (is.made ∙ a2_made); mark_b = inr (ap (λ (x : CopyView). x.is_made) b_is); row_a = inl (inr b_is) }) third)

      -- copy B
      pub ordered_four : Settles s2 s3 → copy_a volume s3 ≡ filled_copy bytes (copy_a volume s2) → (u : SiteLog) → WritesCopy (place_of copy.B volume) (IsFilling bytes (copy_b volume s3)) s3 u → Writes (InOrder u) s u
      ordered_four firm_three a3 u fourth =
          let b3_made : (copy_b volume s3).is_made ≡ true = ap (λ (x : CopyView). x.is_made) (kept_b volume (IsFilling bytes (copy_a volume s2)) s2 s3 third ∙ b2_is) in
          let a3_made : (copy_a volume s3).is_made ≡ true = ap (λ (x : CopyView). x.is_made) a3 ∙ a2_made in
          let holds : IsOpenWith row (copy_a volume s3) = open_as row (copy_a volume s3) (filled_copy bytes (copy_a volume s2)) a3 (open_filled row bytes (copy_a volume s2) spelled) in
          then_firm (InOrder u) s s3 u (settles_then s s2 s3 (settles_then s s1 s2 firm_one firm_two) firm_three) (ordered_three u) (while_b volume (IsFilling bytes (copy_b volume s3)) (InOrder u) s3 u (λ c is same.
          record { mark_a = inr (ap (λ (b : List ℕ). (copy_at b).is_made) same ∙ a3_made); mark_b = inr (is.made ∙ b3_made); row_a = inr (done_by row volume (IsFilling bytes (copy_b volume s3)) s3 u holds fourth c same) }) fourth)

-- ---- so where a row is created, call by call

marked_by : {E : Type 0} {at : BlockPlace} {s t : SiteLog} {has : Bool} → MarksCopy {E = E} at s t (Ok has) → Marked at s t
marked_by is = record { moments = is.moments; done = is.done; firm = is.firm }

filled_by : {T E : Type 0} {at : BlockPlace} {bytes : List ℕ} {s t : SiteLog} {value : T} → FillsCopy {T = T} {E = E} bytes at s t (Ok value) → Rewritten at bytes s t
filled_by {at = at} {bytes = bytes} {s = s} {t = t} is = record { moments = as_rewriting at bytes s t is.moments; done = is.done; firm = is.firm }

-- a copy was written at a place that was told
pub marks_at : {E : Type 0} {at p : BlockPlace} {s t : SiteLog} {r : Result Bool E} → MarksCopy at s t r → at ≡ p → MarksCopy p s t r
marks_at {s = s} {t = t} {r = r} marks is = subst (λ (q : BlockPlace). MarksCopy q s t r) is marks

pub fills_at : {T E : Type 0} {bytes : List ℕ} {at p : BlockPlace} {s t : SiteLog} {r : Result T E} → FillsCopy bytes at s t r → at ≡ p → FillsCopy bytes p s t r
fills_at {bytes = bytes} {s = s} {t = t} {r = r} fills is = subst (λ (q : BlockPlace). FillsCopy bytes q s t r) is fills

abbrev pub Creates : ℕ → RowValue → SiteLog → SiteLog → Type 0
Creates volume row s t = Writes (ChangesRow volume (NoneOrNew volume row) (content s)) s t

module _ {volume : ℕ} {row : RowValue} (bytes : List ℕ) (spelled : decode bytes ≡ Ok row) {E : Type 0} (s : SiteLog) (none : AreClosed volume (content s)) where
  pub marking_a : {s1 : SiteLog} {r : Result Bool E} → MarksCopy (place_of copy.A volume) s s1 r → Creates volume row s s1
  marking_a {s1} is = to_row volume row bytes spelled s none s1 (first_pair volume row bytes spelled s none s1 is.moments)

  pub in_order_a : {s1 : SiteLog} {r : Result Bool E} → MarksCopy (place_of copy.A volume) s s1 r → CreatesInOrder row volume s s1
  in_order_a {s1} is = ordered_one row volume bytes spelled s s1 is.moments s1

  module _ {s1 : SiteLog} {has_a : Bool} (first : MarksCopy {E = E} (place_of copy.A volume) s s1 (Ok has_a)) where
    pub marking_b : {s2 : SiteLog} {r : Result Bool E} → MarksCopy (place_of copy.B volume) s1 s2 r → Creates volume row s s2
    marking_b {s2} is = to_row volume row bytes spelled s none s2 (second_pair volume row bytes spelled s none s1 (marked_by first) s2 is.moments)

    pub in_order_b : {s2 : SiteLog} {r : Result Bool E} → MarksCopy (place_of copy.B volume) s1 s2 r → CreatesInOrder row volume s s2
    in_order_b {s2} is = ordered_two row volume bytes spelled s s1 first.moments first.firm first.done s2 is.moments s2

    module _ {s2 : SiteLog} {has_b : Bool} (second : MarksCopy {E = E} (place_of copy.B volume) s1 s2 (Ok has_b)) where
      pub closed_a : (copy_a volume s2).is_open ≡ false
      closed_a = a_closed volume row bytes spelled s none s1 (marked_by first) s2 (marked_by second)

      pub clear_a : has_a ≡ true → (copy_a volume s2).is_clear ≡ true
      clear_a is = a_clear volume row bytes spelled s none s1 (marked_by first) s2 (marked_by second) ∙ first.clear is

      pub filling_a : {T : Type 0} {s3 : SiteLog} {r : Result T E} → FillsCopy bytes (place_of copy.A volume) s2 s3 r → Creates volume row s s3
      filling_a {s3 = s3} is = to_row volume row bytes spelled s none s3
          (third_pair volume row bytes spelled s none s1 (marked_by first) s2 (marked_by second) s3 (as_rewriting (place_of copy.A volume) bytes s2 s3 is.moments))

      pub in_order_filling : {T : Type 0} {s3 : SiteLog} {r : Result T E} → FillsCopy bytes (place_of copy.A volume) s2 s3 r → CreatesInOrder row volume s s3
      in_order_filling {s3 = s3} is = ordered_three row volume bytes spelled s s1 first.moments first.firm first.done s2 second.moments second.firm second.done s3 is.moments s3

      module _ {T : Type 0} {s3 : SiteLog} {value : T} (third : FillsCopy {T = T} {E = E} bytes (place_of copy.A volume) s2 s3 (Ok value)) where
        pub closed_b : (copy_b volume s3).is_open ≡ false
        closed_b = b_closed volume row bytes spelled s none s1 (marked_by first) s2 (marked_by second) s3 (filled_by third)

        pub clear_b : has_b ≡ true → (copy_b volume s3).is_clear ≡ true
        clear_b is = b_clear volume row bytes spelled s none s1 (marked_by first) s2 (marked_by second) s3 (filled_by third) ∙ second.clear is

        pub filling_b : {s4 : SiteLog} {r : Result T E} → FillsCopy bytes (place_of copy.B volume) s3 s4 r → Creates volume row s s4
        filling_b {s4} is = to_row volume row bytes spelled s none s4
            (fourth_pair volume row bytes spelled s none s1 (marked_by first) s2 (marked_by second) s3 (filled_by third) s4 (as_rewriting (place_of copy.B volume) bytes s3 s4 is.moments))

        pub in_order_filled : {s4 : SiteLog} {r : Result T E} → FillsCopy bytes (place_of copy.B volume) s3 s4 r → CreatesInOrder row volume s s4
        in_order_filled {s4} is =
            ordered_four row volume bytes spelled s s1 first.moments first.firm first.done s2 second.moments second.firm second.done s3 third.moments third.firm third.done s4 is.moments

        module _ {s4 : SiteLog} {other : T} (fourth : FillsCopy {T = T} {E = E} bytes (place_of copy.B volume) s3 s4 (Ok other)) where
          pub created : IsChanged row no_slots volume s s4
          created = is_created volume row bytes spelled s none s1 (marked_by first) s2 (marked_by second) s3 (filled_by third) s4 (filled_by fourth)

          pub created_marks : AreMarked volume (content s) (content s4)
          created_marks =
              both_marked volume (IsMarking (copy_a volume s)) (IsMarking (copy_b volume s1)) (IsFilling bytes (copy_a volume s2)) (IsFilling bytes (copy_b volume s3)) s s1 s2 s3 s4 first.moments second.moments third.moments fourth.moments first.mark second.mark third.mark fourth.mark
              (both_made volume row bytes spelled s none s1 (marked_by first) s2 (marked_by second) s3 (filled_by third) s4 (filled_by fourth))
