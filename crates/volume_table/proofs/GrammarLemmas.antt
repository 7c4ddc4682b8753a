-- Looking for the first fault, as a loop does, and what a body without a fault spells.
use Rattle.std.proofs.Common.{◌≡◌, ℕ, zero, suc, ◌+◌, ◌/◌, ◌≤◌, ◌<◌, inl, inr, Bool, true, false, ◌||◌, nat_lt, ◌==◌, List, [], ◌∷◌, length, get_or, drop, map, Option, Some, None, refl, sym, ◌∙◌, ap, subst, arith, add-one, add-zero, zero-add, length-drop}
use Rattle.std.specs.Prelude.{IfSome, IsSome, is_some, slice_index}
use Rattle.std.proofs.Math.Seq.{drop-cons}
use Rattle.std.proofs.lemmas.List.{nil_from_length, length-take, length-map, get_or-map, get_or_past}
use Rattle.std.proofs.lemmas.Bool.{cases_Bool, cases_lt, cond-true, cond-false, ltb-true, eqb-true}
use Rattle.mss_base.specs.Serial.{IsSerial}
use Rattle.volume_table.specs.Row.{IsRow, frame_of}
use Rattle.volume_table.specs.declared.fault.RowField.{RowField}
use Rattle.volume_table.specs.declared.fault.RowField.TheVariants as field
use Rattle.volume_table.specs.declared.fault.RowFault.{RowFault}
use Rattle.volume_table.specs.Grammar.{◌then◌, first_in, first_fault, unless, row_at, page_of, two_at, serial_part, pages_part, states_part, spares_part, serial_fault, cartridge_fault, page_fault, is_state, state_fault, spare_fault, version_fault, mark_fault, is_old, is_page_byte}
use Rattle.volume_table.proofs.StateLemmas.{state_passed}

module _ (fault : ℕ → ℕ → Option RowFault) (n i : ℕ) (bytes : List ℕ) (total : Option RowFault) (so_far : total ≡ first_in fault n (drop i bytes)) where
  opened : i < length bytes → total ≡ (fault n (get_or bytes i 0) then first_in fault (suc n) (drop (suc i) bytes))
  opened lt = so_far ∙ ap (first_in fault n) (drop-cons bytes i 0 lt)

  pub goes_on : i < length bytes → fault n (get_or bytes i 0) ≡ None → total ≡ first_in fault (n + 1) (drop (i + 1) bytes)
  goes_on lt none =
      opened lt ∙ ap (λ (f : Option RowFault). f then first_in fault (suc n) (drop (suc i) bytes)) none ∙ (λ k. first_in fault (sym (add-one n) k) (drop (sym (add-one i) k) bytes))

  pub found : (f : RowFault) → i < length bytes → fault n (get_or bytes i 0) ≡ Some f → total ≡ Some f
  found f lt some = opened lt ∙ ap (λ (g : Option RowFault). g then first_in fault (suc n) (drop (suc i) bytes)) some

  pub not_found : length bytes ≤ i → total ≡ None
  not_found le = so_far ∙ ap (first_in fault n) (nil_from_length (drop i bytes) (omega (arith, length-drop i bytes)))

then_none : (a b : Option RowFault) → (a then b) ≡ None → (a ≡ None) × (b ≡ None)
then_none None b is = (refl, is)
then_none (Some f) b is = absurd cc

unless_none : (b : Bool) (f : RowField) (value : ℕ) → unless b f value ≡ None → b ≡ true
unless_none true f value is = refl
unless_none false f value is = absurd cc

-- where none is at fault
first_none : (fault : ℕ → ℕ → Option RowFault) (n : ℕ) (bytes : List ℕ) → first_in fault n bytes ≡ None → (k : ℕ) → k < length bytes → fault (n + k) (get_or bytes k 0) ≡ None
first_none fault n [] is k lt = absurd (omega arith)
first_none fault n (b ∷ bytes) is zero lt = ap (λ (m : ℕ). fault m b) (add-zero n) ∙ (then_none (fault n b) (first_in fault (suc n) bytes) is).0
first_none fault n (b ∷ bytes) is (suc k) lt =
    let e : n + suc k ≡ suc n + k = omega arith in
    ap (λ (m : ℕ). fault m (get_or bytes k 0)) e ∙ first_none fault (suc n) bytes (then_none (fault n b) (first_in fault (suc n) bytes) is).1 k (omega arith)

pub first_all : (fault : ℕ → ℕ → Option RowFault) (n : ℕ) (bytes : List ℕ) → ((k : ℕ) → k < length bytes → fault (n + k) (get_or bytes k 0) ≡ None) → first_in fault n bytes ≡ None
first_all fault n [] each = refl
first_all fault n (b ∷ bytes) each =
    let here : fault n b ≡ None = ap (λ (m : ℕ). fault m b) (sym (add-zero n)) ∙ each zero (omega arith) in
    let rest = first_all fault (suc n) bytes (λ k lt. let e : suc n + k ≡ n + suc k = omega arith in ap (λ (m : ℕ). fault m (get_or bytes k 0)) e ∙ each (suc k) (omega arith)) in
    ap (λ (f : Option RowFault). f then first_in fault (suc n) bytes) here ∙ rest

abbrev SmallFrame : Option ℕ → Type 0
SmallFrame o = IfSome o (λ f. f < 200)

page_small : (b : ℕ) → SmallFrame (page_of b)
page_small b = elim (cases_Bool (nat_lt b 200)) [
  | inl small ↦ subst SmallFrame (sym (cond-true _ (Some b) None small)) (ltb-true b 200 small)
  | inr big ↦ subst SmallFrame (sym (cond-false _ (Some b) None big)) tt
]

page_has_frame : (b : ℕ) → is_some (page_of b) ≡ nat_lt b 200
page_has_frame b = elim (cases_Bool (nat_lt b 200)) [
  | inl small ↦ ap is_some (cond-true _ (Some b) None small) ∙ sym small
  | inr big ↦ ap is_some (cond-false _ (Some b) None big) ∙ sym big
]

abbrev EachNone : (a b c d e f g h : Option RowFault) → Type 0
EachNone a b c d e f g h = (a ≡ None) × (b ≡ None) × (c ≡ None) × (d ≡ None) × (e ≡ None) × (f ≡ None) × (g ≡ None) × (h ≡ None)

each_none : (a b c d e f g h : Option RowFault) → (a then b then c then d then e then f then g then h) ≡ None → EachNone a b c d e f g h
each_none a b c d e f g h is =
    let p1 = then_none a (b then c then d then e then f then g then h) is in
    let p2 = then_none b (c then d then e then f then g then h) p1.1 in
    let p3 = then_none c (d then e then f then g then h) p2.1 in
    let p4 = then_none d (e then f then g then h) p3.1 in
    let p5 = then_none e (f then g then h) p4.1 in
    let p6 = then_none f (g then h) p5.1 in
    let p7 = then_none g h p6.1 in
    (p1.0, p2.0, p3.0, p4.0, p5.0, p6.0, p7.0, p7.1)

-- the parts of a body that is in the grammar
module _ (body : List ℕ) (long : length body ≡ 510) (good : first_fault body ≡ None) where
  abbrev pages : List ℕ
  pages = pages_part body

  abbrev states : List ℕ
  states = states_part body

  parts : EachNone (version_fault (slice_index body 0)) (first_in serial_fault 0 (serial_part body))
      (cartridge_fault field.First (two_at 7 body)) (cartridge_fault field.Second (two_at 9 body))
      (first_in page_fault 0 pages) (mark_fault (is_old body) (slice_index body 62))
      (first_in (state_fault pages) 0 states) (first_in spare_fault 1 (spares_part body))
  unfolding first_fault
  parts = each_none _ _ _ _ _ _ _ _ good

  pub serial_good : IsSerial (serial_part body)
  serial_good = record {
    six = simp (length-take, length-drop) (omega arith);
    each = λ i lt. unless_none _ (field.Serial i) _ (subst (λ (k : ℕ). serial_fault k (get_or (serial_part body) i 0) ≡ None) (zero-add i) (first_none serial_fault 0 (serial_part body) parts.1 i lt));
  }

  pub first_good : two_at 7 body < 2048
  first_good = ltb-true _ _ (unless_none _ field.First _ parts.2)

  pub second_good : two_at 9 body < 2048
  second_good = ltb-true _ _ (unless_none _ field.Second _ parts.3)

  -- of a body that isn't of version 1
  pub version_is : is_old body ≡ false → slice_index body 0 ≡ 2
  version_is new =
      let known : (is_old body || (slice_index body 0 == 2)) ≡ true = unless_none _ field.Version _ parts.0 in
      eqb-true _ _ (sym (ap (λ (t : Bool). t || (slice_index body 0 == 2)) new) ∙ known)

  pub mark_good : is_old body ≡ false → slice_index body 62 < 2
  mark_good new =
      let none : mark_fault false (slice_index body 62) ≡ None =
      subst (λ (t : Bool). mark_fault t (slice_index body 62) ≡ None) new parts.5 in
      ltb-true _ _ (unless_none _ field.Mark _ none)

  pub page_each : (k : ℕ) → k < length pages → is_page_byte (get_or pages k 0) ≡ true
  page_each k lt = unless_none _ (field.Page (0 + k)) _ (first_none page_fault 0 pages parts.4 k lt)

  pub spare_each : (k : ℕ) → k < length (spares_part body) → get_or (spares_part body) k 0 ≡ 0
  spare_each k lt = eqb-true _ _ (unless_none _ (field.Spare (1 + k)) _ (first_none spare_fault 1 (spares_part body) parts.7 k lt))

  length-pages : length pages ≡ 51
  length-pages = simp (length-take, length-drop) (omega arith)

  length-states : length states ≡ 404
  length-states = simp (length-take, length-drop) (omega arith)

  frame_is : (page : ℕ) → page < 51 → frame_of (row_at body) page ≡ page_of (get_or pages page 0)
  frame_is page lt = get_or-map page_of pages page 0 None (omega (arith, length-pages))

  state_is : (c : ℕ) → c < 404 → is_state (is_some (frame_of (row_at body) (c / 8))) (get_or states c 0) ≡ true
  state_is c lt =
      let has : is_some (frame_of (row_at body) (c / 8)) ≡ nat_lt (get_or pages (c / 8) 0) 200 = ap is_some (frame_is (c / 8) (omega arith)) ∙ page_has_frame (get_or pages (c / 8) 0) in
      let none : state_fault pages c (get_or states c 0) ≡ None = subst (λ (k : ℕ). state_fault pages k (get_or states c 0) ≡ None) (zero-add c) (first_none (state_fault pages) 0 states parts.6 c (omega (arith, length-states))) in
      ap (λ (b : Bool). is_state b (get_or states c 0)) has ∙ unless_none _ (field.State c) _ none

  state_good : (c : ℕ) → (get_or states c 0 ≤ 4) × (2 ≤ get_or states c 0 → IsSome (frame_of (row_at body) (c / 8)))
  state_good c = elim (cases_lt c 404) [
    | inl lt ↦ state_passed (frame_of (row_at body) (c / 8)) (get_or states c 0) (state_is c lt)
    | inr past ↦
        let none : get_or states c 0 ≡ 0 = get_or_past states c 0 (omega (arith, length-states)) in
        (omega arith, λ high. absurd (omega arith))
  ]

  pub row_good : IsRow (row_at body)
  row_good = record {
    serial = serial_good;
    first = first_good;
    second = second_good;
    pages = length-map pages page_of ∙ length-pages;
    frames = λ page. elim (cases_lt page 51) [
      | inl lt ↦ subst SmallFrame (sym (frame_is page lt)) (page_small (get_or pages page 0))
      | inr past ↦ subst SmallFrame (sym (get_or_past (map page_of pages) page None (omega (arith, length-map pages page_of, length-pages)))) tt
    ];
    states = length-states;
    numbers = λ c. (state_good c).0;
    staged = λ c. (state_good c).1;
  }

pub six_at : (body : List ℕ) → 7 ≤ length body → serial_part body ≡ get_or body 1 0 ∷ get_or body 2 0 ∷ get_or body 3 0 ∷ get_or body 4 0 ∷ get_or body 5 0 ∷ get_or body 6 0 ∷ []
six_at (x ∷ a ∷ b ∷ c ∷ d ∷ e ∷ f ∷ rest) le = refl
six_at body le = absurd (omega arith)
