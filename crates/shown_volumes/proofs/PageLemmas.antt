-- The walk over the pages finds nothing exactly where each frame is below the number, and stands in one page.
use Rattle.std.proofs.Common.{◌≡◌, inl, inr, ℕ, ◌<◌, nat_lt, true, Option, Some, None, sym, ◌∙◌, ap, arith}
use Rattle.std.specs.Prelude.{not}
use Rattle.std.specs.Option.{option_map}
use Rattle.std.proofs.lemmas.Bool.{cases_lt, ltb-true, lt-ltb, not-false}
use Rattle.shown_volumes.specs.declared.refused.Refused.{Refused}
use Rattle.shown_volumes.specs.declared.refused.Refused.TheVariants.{FrameGone, FrameTwice}
use Rattle.shown_volumes.specs.Shown.{RowsOf}
use Rattle.shown_volumes.specs.Sound.{frame_in, HasFramesBelow, HasFramesOnce}
use Rattle.mss_base.specs.Firsts.{first_below, where_so}
use Rattle.shown_volumes.specs.Faults.{is_number, page_with, earlier_page, frame_fault, page_fault, pages_fault}
use Rattle.mss_base.proofs.FirstFacts.{or_none, both_none, none_below, all_none, none_where, where_none, chained_none, chain_none, map_none}
use Rattle.shown_volumes.proofs.WalkFacts.{number_is, is_that_number}

abbrev gone : ℕ → ℕ → Option Refused
gone frames f = where_so (not (nat_lt f frames)) (FrameGone f)

abbrev twice : RowsOf → ℕ → ℕ → ℕ → Option Refused
twice rows v p f = option_map (λ first. FrameTwice f first (v, p)) (earlier_page rows f v p)

abbrev lower_rows : RowsOf → ℕ → ℕ → Option (ℕ × ℕ)
lower_rows rows f v = first_below 51 (page_with rows f v)

module _ (frames : ℕ) (rows : RowsOf) where
  module _ (few : (v p f : ℕ) → frame_in rows v p ≡ Some f → v < 32) (none : (v : ℕ) → v < 32 → pages_fault frames rows v ≡ None) where
    at_frame : (v p f : ℕ) → p < 51 → frame_in rows v p ≡ Some f → (gone frames f ≡ None) × (twice rows v p f ≡ None)
    at_frame v p f low is =
        or_none (gone frames f) (twice rows v p f) (chained_none (frame_fault frames rows v p) (frame_in rows v p) (none_below 51 (page_fault frames rows v) (none v (few v p f is)) p low) f is)

    pub frames_below : HasFramesBelow frames rows
    frames_below v p low f is = ltb-true f frames (not-false (nat_lt f frames) (none_where (not (nat_lt f frames)) (FrameGone f) (at_frame v p f low is).0))

    none_earlier : (v p f : ℕ) → p < 51 → frame_in rows v p ≡ Some f → earlier_page rows f v p ≡ None
    none_earlier v p f low is = map_none (λ first. FrameTwice f first (v, p)) (earlier_page rows f v p) (at_frame v p f low is).1

    absent : (f v p : ℕ) → page_with rows f v p ≡ None → frame_in rows v p ≡ Some f → ⊥
    absent f v p gone is =
        let no = none_where {A = ℕ × ℕ} (is_number (frame_in rows v p) f) (v, p) gone in
        let yes = is_that_number (frame_in rows v p) f is in
        cc

    not_below : (f v w p q : ℕ) → v < w → p < 51 → q < 51 → frame_in rows v p ≡ Some f → frame_in rows w q ≡ Some f → ⊥
    not_below f v w p q lt p_low q_low first second =
        let earlier = or_none (first_below w (lower_rows rows f)) (first_below q (page_with rows f w)) (none_earlier w q f q_low second) in
        absent f v p (none_below 51 (page_with rows f v) (none_below w (lower_rows rows f) earlier.0 v lt) p p_low) first

    not_before : (f v p q : ℕ) → p < q → q < 51 → frame_in rows v p ≡ Some f → frame_in rows v q ≡ Some f → ⊥
    not_before f v p q lt q_low first second =
        let earlier = or_none (first_below v (lower_rows rows f)) (first_below q (page_with rows f v)) (none_earlier v q f q_low second) in
        absent f v p (none_below q (page_with rows f v) earlier.1 p lt) first

    pub frames_once : HasFramesOnce rows
    frames_once v w p q f p_low q_low first second = elim (cases_lt v w) [
      | inl lt ↦ absurd (not_below f v w p q lt p_low q_low first second)
      | inr le ↦ elim (cases_lt w v) [
        | inl gt ↦ absurd (not_below f w v q p gt q_low p_low second first)
        | inr ge ↦
            let e : v ≡ w = omega arith in
            let second_v : frame_in rows v q ≡ Some f = ap (λ (x : ℕ). frame_in rows x q) e ∙ second in
            elim (cases_lt p q) [
              | inl less ↦ absurd (not_before f v p q less q_low first second_v)
              | inr at_least ↦ elim (cases_lt q p) [
                | inl more ↦ absurd (not_before f v q p more p_low second_v first)
                | inr at_most ↦ (e, omega arith)
              ]
            ]
      ]
    ]

  module _ (below : HasFramesBelow frames rows) (once : HasFramesOnce rows) where
    none_with : (f v w p q : ℕ) → p < 51 → q < 51 → frame_in rows w q ≡ Some f → ((v ≡ w) × (p ≡ q) → ⊥) → page_with rows f v p ≡ None
    none_with f v w p q p_low q_low is apart = where_none {A = ℕ × ℕ} _ (v, p) (λ same. apart (once v w p q f p_low q_low (number_is (frame_in rows v p) f same) is))

    first_page : (f w q : ℕ) → q < 51 → frame_in rows w q ≡ Some f → earlier_page rows f w q ≡ None
    first_page f w q q_low is =
        both_none (first_below w (lower_rows rows f)) (first_below q (page_with rows f w))
        (all_none w (lower_rows rows f) (λ v lt. all_none 51 (page_with rows f v) (λ p p_low. none_with f v w p q p_low q_low is (λ e. let same : v ≡ w = e.0 in omega arith))))
        (all_none q (page_with rows f w) (λ p lt. none_with f w w p q (omega arith) q_low is (λ e. let same : p ≡ q = e.1 in omega arith)))

    page_good : (v p : ℕ) → p < 51 → page_fault frames rows v p ≡ None
    page_good v p low =
        chain_none (frame_fault frames rows v p) (frame_in rows v p)
        (λ f is. both_none (gone frames f) (twice rows v p f)
        (where_none _ (FrameGone f) (λ no. let yes : nat_lt f frames ≡ true = lt-ltb f frames (below v p low f is) in let e : not true ≡ true = ap not (sym yes) ∙ no in cc))
        (ap (λ (o : Option (ℕ × ℕ)). option_map (λ first. FrameTwice f first (v, p)) o) (first_page f v p low is)))

    pub pages_good : (v : ℕ) → pages_fault frames rows v ≡ None
    pages_good v = all_none 51 (page_fault frames rows v) (page_good v)
