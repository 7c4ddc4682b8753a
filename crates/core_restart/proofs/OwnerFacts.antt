-- A frame belongs to the page that has it: page by page.
use Rattle.std.proofs.Common.{◌≡◌, inl, inr, ℕ, ◌+◌, ◌<◌, List, length, set, replicate, Option, Some, None, refl, sym, ◌∙◌, ap, arith}
use Rattle.std.specs.Option.{option_and_then}
use Rattle.std.proofs.lemmas.Bool.{cases_lt}
use Rattle.std.proofs.lemmas.Bool.Decides.{eqb_tells}
use Rattle.std.proofs.lemmas.List.{get_or-set_same, get_or-set_other, get_or-replicate, get_or_past, length-replicate}
use Rattle.volume_table.specs.Row.{RowValue, frame_of}
use Rattle.volume_table.specs.Listed.{row_in_list}
use Rattle.shown_volumes.specs.Shown.{RowsOf}
use Rattle.shown_volumes.specs.Sound.{frame_in}
use Rattle.mss_restart.proofs.UsableFacts.{few_listed}
use Rattle.core_state.specs.Pins.{owner_at}
use Rattle.core_state.proofs.CoreWork.{AreOwned}
use Rattle.core_restart.specs.Owners.{HaveFrames, AreOwners, AreOwnersBefore}

none_some : {A : Type 0} (x : A) → ◌≡◌ {A = Option A} None (Some x) → ⊥
none_some x is = cc

some_is : (x y : ℕ) → Some x ≡ Some y → x ≡ y
some_is x y is = cc

pair_is : (x y : ℕ × ℕ) → Some x ≡ Some y → x ≡ y
pair_is x y is = cc

row_with : (f : RowValue → Option ℕ) (o : Option RowValue) (y : ℕ) → option_and_then f o ≡ Some y → (r : RowValue) × (o ≡ Some r) × (f r ≡ Some y)
row_with f None y is = absurd (none_some y is)
row_with f (Some r) y is = (r, refl, is)

no_owner : (n frame : ℕ) → owner_at (replicate n None) frame ≡ None
no_owner n frame = elim (cases_lt frame n) [
  | inl low ↦ get_or-replicate n frame None None low
  | inr past ↦ get_or_past (replicate n None) frame None (let l = length-replicate {A = Option (ℕ × ℕ)} n None in omega (arith, l, past))
]

pub none_own : (rows : RowsOf) (n : ℕ) → AreOwnersBefore rows (replicate n None) 0 0
none_own rows n = record {
  owns = λ frame v p is. absurd (none_some (v, p) (sym (no_owner n frame) ∙ is));
  owned = λ frame v p is before. elim before [ inl low ↦ absurd (omega (arith, low)) | inr here ↦ let low = here.1 in absurd (omega (arith, low)) ];
}

module _ (frames : ℕ) (rows : List (Option RowValue)) (have : HaveFrames frames rows) where
  page_low : (v p f : ℕ) → frame_in (row_in_list rows) v p ≡ Some f → p < 51
  page_low v p f is = elim (cases_lt p 51) [
    | inl low ↦ low
    | inr past ↦
        let r = row_with (λ (r : RowValue). frame_of r p) (row_in_list rows v) f is in
        let long = (have.are_rows v r.0 r.1).pages in
        absurd (none_some f (sym (get_or_past r.0.pages p None (omega (arith, long, past))) ∙ r.2))
  ]

  volume_low : (v p f : ℕ) → frame_in (row_in_list rows) v p ≡ Some f → v < 32
  volume_low v p f is = let r = row_with (λ (r : RowValue). frame_of r p) (row_in_list rows v) f is in few_listed rows have.places v r.0 r.1

  pub frame_low : (v p f : ℕ) → frame_in (row_in_list rows) v p ≡ Some f → f < frames
  frame_low v p f is = have.below v p (page_low v p f is) f is

  module _ (owners : List (Option (ℕ × ℕ))) (volume page : ℕ) (so_far : AreOwnersBefore (row_in_list rows) owners volume page) where
    -- the page has no frame
    pub page_past : frame_in (row_in_list rows) volume page ≡ None → AreOwnersBefore (row_in_list rows) owners volume (page + 1)
    page_past none = record {
      owns = so_far.owns;
      owned = λ frame v p is before. elim before [
        | inl low ↦ so_far.owned frame v p is (inl low)
        | inr here ↦ elim (cases_lt p page) [
          | inl low ↦ so_far.owned frame v p is (inr (here.0, low))
          | inr past ↦
              let low = here.1 in
              let same : p ≡ page = omega (arith, low, past) in
              absurd (none_some frame (sym none ∙ (λ i. frame_in (row_in_list rows) (sym here.0 i) (sym same i)) ∙ is))
        ]
      ];
    }

    -- it has one, and gets it
    module _ (f : ℕ) (has : frame_in (row_in_list rows) volume page ≡ Some f) (long : length owners ≡ frames) where
      abbrev after : List (Option (ℕ × ℕ))
      after = set owners f (Some (volume, page))

      now : owner_at after f ≡ Some (volume, page)
      now = get_or-set_same owners f (Some (volume, page)) None (let low = frame_low volume page f has in omega (arith, low, long))

      pub page_owned : AreOwnersBefore (row_in_list rows) (set owners f (Some (volume, page))) volume (page + 1)
      page_owned = record {
        owns = λ frame v p is. elim (eqb_tells frame f) [
          | inl e ↦
              let same = pair_is (volume, page) (v, p) (sym now ∙ ap (owner_at after) (sym e.1) ∙ is) in
              ap (λ (at : ℕ × ℕ). frame_in (row_in_list rows) at.0 at.1) (sym same) ∙ has ∙ ap (λ (n : ℕ). Some n) (sym e.1)
          | inr e ↦ so_far.owns frame v p (sym (get_or-set_other owners f frame (Some (volume, page)) None (λ same. e.1 same)) ∙ is)
        ];
        owned = λ frame v p is before. elim (eqb_tells frame f) [
          | inl e ↦
              let at : frame_in (row_in_list rows) v p ≡ Some f = is ∙ ap (λ (n : ℕ). Some n) e.1 in
              let same = have.once v volume p page f (page_low v p f at) (page_low volume page f has) at has in
              ap (owner_at after) e.1 ∙ now ∙ (λ i. Some (sym same.0 i, sym same.1 i))
          | inr e ↦
              get_or-set_other owners f frame (Some (volume, page)) None (λ same. e.1 same) ∙ so_far.owned frame v p is (elim before [
                | inl low ↦ inl low
                | inr here ↦ elim (cases_lt p page) [
                  | inl low ↦ inr (here.0, low)
                  | inr past ↦
                      let low = here.1 in
                      let same : p ≡ page = omega (arith, low, past) in
                      let o : Some f ≡ Some frame = sym has ∙ (λ i. frame_in (row_in_list rows) (sym here.0 i) (sym same i)) ∙ is in
                      absurd (e.1 (sym (some_is f frame o)))
                ]
              ])
        ];
      }

  -- all pages of a volume are done, and all volumes
  pub volume_past : (owners : List (Option (ℕ × ℕ))) (volume : ℕ) → AreOwnersBefore (row_in_list rows) owners volume 51 → AreOwnersBefore (row_in_list rows) owners (volume + 1) 0
  volume_past owners volume so_far = record {
    owns = so_far.owns;
    owned = λ frame v p is before. so_far.owned frame v p is (elim before [
      | inl low ↦ elim (cases_lt v volume) [ inl lower ↦ inl lower | inr past ↦ inr ((let same : v ≡ volume = omega (arith, low, past) in same), page_low v p frame is) ]
      | inr here ↦ (let low = here.1 in absurd (omega (arith, low)))
    ]);
  }

  pub all_owned : (owners : List (Option (ℕ × ℕ))) → length owners ≡ frames → AreOwnersBefore (row_in_list rows) owners 32 0 → AreOwners frames (row_in_list rows) owners
  all_owned owners long so_far = record {
    all_ = long;
    owned = λ frame volume page. (so_far.owns frame volume page, λ is. so_far.owned frame volume page is (inl (volume_low volume page frame is)));
  }

  pub are_owned : (owners : List (Option (ℕ × ℕ))) → AreOwners frames (row_in_list rows) owners → AreOwned frames rows owners
  are_owned owners are = record {
    places = have.places;
    are_rows = have.are_rows;
    owners_ = are.all_;
    framed = frame_low;
    owned = λ frame volume page low. are.owned frame volume page;
  }
