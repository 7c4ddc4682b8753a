-- An allowed change whose blocks are ready shows the same.
use Rattle.std.proofs.Common.{◌≡◌, ◌≢◌, ◌⊎◌, inl, inr, ℕ, ◌+◌, ◌/◌, ◌≤◌, ◌<◌, ◌==◌, nat_lt, true, false, set, Option, Some, None, refl, sym, ◌∙◌, ap, subst, arith}
use Rattle.std.specs.Prelude.{IsSome, is_some}
use Rattle.std.proofs.lemmas.Bool.{cases_Bool, cond-true, cond-false, eqb-true, eq-eqb, ltb-true, ltb-false, false≢true}
use Rattle.std.proofs.lemmas.List.{get_or-set_same, get_or-set_other}
use Rattle.mss_base.specs.Content.{Content}
use Rattle.mss_base.specs.Places.{frame_block}
use Rattle.mss_base.specs.declared.place.BlockPlace.{BlockPlace}
use Rattle.volume_table.specs.Row.{RowValue, frame_of, state_of, IsRow}
use Rattle.volume_table.specs.Changes.{IsAllowed, effect, with_frame, with_state, without_frame, unstaged_state}
use Rattle.volume_table.specs.declared.changes.Change.{Change}
use Rattle.volume_table.specs.declared.changes.Change.TheVariants.{Create, Assign, Free, Staged, Changed, Destaged, Protect}
use Rattle.volume_table.proofs.RowFacts.{frame-with_frame, frame-without_frame, state-without_frame}
use Rattle.shown_volumes.specs.Shown.{rows_of, block_at, on_cartridge, in_page}
use Rattle.shown_volumes.specs.Sound.{frame_in, IsStagedAs, IsSoundTrack, IsSound}
use Rattle.shown_volumes.specs.Changing.{IsReady, MayChange}
use Rattle.shown_volumes.proofs.PlaceFacts.{in_frame}
use Rattle.shown_volumes.proofs.RowFacts.{StaysTrack, AreFrames, may_change}
use Rattle.shown_volumes.proofs.StateLemmas.{unstaged as asks_nothing, stays, blank_stays, copy_stays, becomes_changed, becomes_staged, same_everywhere}

pub there_is : {A : Type 0} (o : Option A) → IsSome o → (x : A) × (o ≡ Some x)
there_is None is = absurd cc
there_is (Some x) is = (x, refl)

pub not_equal : (a b : ℕ) → (a == b) ≡ false → a ≢ b
not_equal a b other same = false≢true (sym other ∙ eq-eqb a b same)

zero_or_one : (s : ℕ) → s < 2 → (s ≡ 0) ⊎ (s ≡ 1)
zero_or_one s low = elim (cases_Bool (nat_lt s 1)) [
  | inl none ↦ let e = ltb-true s 1 none in inl (omega arith)
  | inr some ↦ let e = ltb-false s 1 some in inr (omega arith)
]

two_or_three : (s : ℕ) → 2 ≤ s → s < 4 → (s ≡ 2) ⊎ (s ≡ 3)
two_or_three s high low = elim (cases_Bool (nat_lt s 3)) [
  | inl less ↦ let e = ltb-true s 3 less in inl (omega arith)
  | inr more ↦ let e = ltb-false s 3 more in inr (omega arith)
]

module _ (frames v : ℕ) (r : RowValue) (c : Content) (sound : IsSound frames c) (there : rows_of c v ≡ Some r) (row : IsRow r) where
  abbrev Old : ℕ → ℕ → Type 0
  Old p f = ⊥

  -- pages that have no new frame
  no_new : (new : RowValue) → ((p f : ℕ) → frame_of new p ≡ Some f → frame_of r p ≡ Some f) → AreFrames frames c r new Old
  no_new new old = record { from = λ p f low has. inl (old p f has); below = λ p f fresh. absurd fresh; once = λ p q f fresh. absurd fresh; free = λ p f fresh. absurd fresh }

  -- a page gets a frame
  module _ (page frame : ℕ) (none : frame_of r page ≡ None) (below : frame < frames) (free : (w q : ℕ) → q < 51 → frame_in (rows_of c) w q ≢ Some frame) where
    abbrev IsNew : ℕ → ℕ → Type 0
    IsNew p f = (p ≡ page) × (f ≡ frame)

    elsewhere : (p : ℕ) → (p == page) ≡ false → frame_of (with_frame page frame r) p ≡ frame_of r p
    elsewhere p other = get_or-set_other r.pages page p (Some frame) None (not_equal p page other)

    from : (p f : ℕ) → p < 51 → frame_of (with_frame page frame r) p ≡ Some f → (frame_of r p ≡ Some f) ⊎ IsNew p f
    from p f low has = elim (cases_Bool (p == page)) [
      | inl same ↦
          let e : p ≡ page = eqb-true p page same in
          let at : frame_of (with_frame page frame r) p ≡ Some frame = frame-with_frame page frame r p (omega (arith, row.pages, e, low)) ∙ cond-true _ _ _ same in
          let f_is : Some f ≡ Some frame = sym has ∙ at in
          inr (e, cc)
      | inr other ↦ inl (sym (elsewhere p other) ∙ has)
    ]

    held : (y : ℕ) → (frame_of (with_frame page frame r) (y / 8) ≡ frame_of r (y / 8)) ⊎ (state_of r y < 2)
    held y = elim (cases_Bool (y / 8 == page)) [
      | inl same ↦ elim (cases_Bool (nat_lt (state_of r y) 2)) [
        | inl low ↦ inr (ltb-true (state_of r y) 2 low)
        | inr high ↦
            let has : IsSome (frame_of r (y / 8)) = row.staged y (ltb-false (state_of r y) 2 high) in
            let gone : frame_of r (y / 8) ≡ None = ap (frame_of r) (eqb-true (y / 8) page same) ∙ none in
            let e : false ≡ true = sym (ap is_some gone) ∙ has in
            absurd cc
      ]
      | inr other ↦ inl (elsewhere (y / 8) other)
    ]

    assign_may : MayChange frames v (with_frame page frame r) c
    assign_may =
        let each : (y h : ℕ) → y < 404 → h < 19 → StaysTrack c r (with_frame page frame r) y h = λ y h y_low h_low. stays c r (set r.pages page (Some frame)) r.states y h y_low h_low (sound.agree.tracks v y h y_low h_low r there) refl (held y) in
        may_change frames c v r sound there (set r.pages page (Some frame)) r.states IsNew
        (record { from = from; below = λ p f fresh. subst (λ (n : ℕ). n < frames) (sym fresh.1) below; once = λ p q f a b. a.0 ∙ sym b.0; free = λ p f fresh w q low is. free w q low (is ∙ ap (λ (n : ℕ). Some n) fresh.1) })
        each (same_everywhere c r (with_frame page frame r) each)

  -- a page gives its frame back
  module _ (page : ℕ) (unchanged : (y : ℕ) → y / 8 ≡ page → state_of r y ≢ 4) where
    abbrev freed : RowValue
    freed = without_frame page r

    old_frame : (p f : ℕ) → frame_of freed p ≡ Some f → frame_of r p ≡ Some f
    old_frame p f has = elim (cases_Bool (p == page)) [
      | inl same ↦ let e : ◌≡◌ {A = Option ℕ} None (Some f) = sym (frame-without_frame page r p ∙ cond-true _ _ _ same) ∙ has in absurd cc
      | inr other ↦ sym (frame-without_frame page r p ∙ cond-false _ _ _ other) ∙ has
    ]

    freed_stays : (y h : ℕ) → y < 404 → h < 19 → StaysTrack c r freed y h
    freed_stays y h y_low h_low =
        let here = sound.agree.tracks v y h y_low h_low r there in
        elim (cases_Bool (y / 8 == page)) [
          | inr other ↦
              stays c r freed.pages freed.states y h y_low h_low here (state-without_frame page r y ∙ cond-false _ _ _ other) (inl (frame-without_frame page r (y / 8) ∙ cond-false _ _ _ other))
          | inl same ↦
              let now : state_of freed y ≡ unstaged_state (state_of r y) = state-without_frame page r y ∙ cond-true _ _ _ same in
              let changed : state_of r y ≢ 4 = unchanged y (eqb-true (y / 8) page same) in
              let at_most : state_of r y ≤ 4 = row.numbers y in
              elim (cases_Bool (nat_lt (state_of r y) 2)) [
                | inl low ↦
                    let less = ltb-true (state_of r y) 2 low in
                    stays c r freed.pages freed.states y h y_low h_low here (now ∙ elim (zero_or_one (state_of r y) less) [ inl none ↦ ap unstaged_state none ∙ sym none | inr one ↦ ap unstaged_state one ∙ sym one ]) (inr less)
                | inr high ↦ elim (two_or_three (state_of r y) (ltb-false (state_of r y) 2 high) (omega (arith, changed, at_most))) [
                  | inl two ↦
                      let zero_now : state_of freed y ≡ 0 = now ∙ ap unstaged_state two in
                      blank_stays c r freed.pages freed.states y h y_low h_low here (inr two) (inl zero_now) (asks_nothing c (state_of freed y) (in_page freed y h) (on_cartridge r y h) (inl (omega (arith, zero_now))))
                  | inr three ↦
                      let one_now : state_of freed y ≡ 1 = now ∙ ap unstaged_state three in
                      copy_stays c r freed.pages freed.states y h y_low h_low here (inr three) (inl one_now) (asks_nothing c (state_of freed y) (in_page freed y h) (on_cartridge r y h) (inl (omega (arith, one_now))))
                ]
              ]
        ]

    free_may : MayChange frames v freed c
    free_may = may_change frames c v r sound there freed.pages freed.states Old (no_new freed old_frame) freed_stays (same_everywhere c r freed freed_stays)

  -- one cylinder gets another state
  module _ (cylinder state : ℕ) where
    abbrev turned : RowValue
    turned = with_state cylinder state r

    module _ (here : (h : ℕ) → cylinder < 404 → h < 19 → state_of turned cylinder ≡ state → StaysTrack c r turned cylinder h) where
      turned_stays : (y h : ℕ) → y < 404 → h < 19 → StaysTrack c r turned y h
      turned_stays y h y_low h_low = elim (cases_Bool (y == cylinder)) [
        | inl same ↦
            let e : y ≡ cylinder = eqb-true y cylinder same in
            let low : cylinder < 404 = omega (arith, e, y_low) in
            subst (λ (x : ℕ). StaysTrack c r turned x h) (sym e) (here h low h_low (get_or-set_same r.states cylinder state 0 (omega (arith, row.states, low))))
        | inr other ↦
            stays c r r.pages turned.states y h y_low h_low (sound.agree.tracks v y h y_low h_low r there) (get_or-set_other r.states cylinder y state 0 (not_equal y cylinder other)) (inl refl)
      ]

      turned_may : MayChange frames v turned c
      turned_may = may_change frames c v r sound there r.pages turned.states Old (no_new turned (λ p f has. has)) turned_stays (same_everywhere c r turned turned_stays)

  module _ (cylinder : ℕ) where
    abbrev s : ℕ
    s = state_of r cylinder

    at_cylinder : (h : ℕ) → cylinder < 404 → h < 19 → IsSoundTrack c r cylinder h
    at_cylinder h low h_low = sound.agree.tracks v cylinder h low h_low r there

    staged_may : s < 2 → ((h : ℕ) → h < 19 → IsStagedAs c (s + 2) (in_page r cylinder h) (on_cartridge r cylinder h)) → MayChange frames v (with_state cylinder (s + 2) r) c
    staged_may low ready =
        turned_may cylinder (s + 2) (λ h y_low h_low now.
        let held = subst (λ (n : ℕ). IsStagedAs c n (in_page r cylinder h) (on_cartridge r cylinder h)) (sym now) (ready h h_low) in
        elim (zero_or_one s low) [
          | inl none ↦ blank_stays c r r.pages (set r.states cylinder (s + 2)) cylinder h y_low h_low (at_cylinder h y_low h_low) (inl none) (inr (now ∙ ap (λ (n : ℕ). n + 2) none)) held
          | inr one ↦ copy_stays c r r.pages (set r.states cylinder (s + 2)) cylinder h y_low h_low (at_cylinder h y_low h_low) (inl one) (inr (now ∙ ap (λ (n : ℕ). n + 2) one)) held
        ])

    changed_may : (s ≡ 2) ⊎ (s ≡ 3) → MayChange frames v (with_state cylinder 4 r) c
    changed_may staged =
        let high : 2 ≤ s = elim staged [ inl two ↦ omega (arith, two) | inr three ↦ omega (arith, three) ] in
        let has = there_is (frame_of r (cylinder / 8)) (row.staged cylinder high) in
        turned_may cylinder 4 (λ h y_low h_low now. becomes_changed c r r.pages (set r.states cylinder 4) cylinder h y_low h_low (at_cylinder h y_low h_low) has.0 has.1 has.1 high (row.numbers cylinder) now)

    destaged_may : s ≡ 4 → ((h : ℕ) → h < 19 → (place : BlockPlace) → in_page r cylinder h ≡ Some place → block_at c place ≡ block_at c (on_cartridge r cylinder h)) → MayChange frames v (with_state cylinder 3 r) c
    destaged_may four ready =
        let has = there_is (frame_of r (cylinder / 8)) (row.staged cylinder (omega (arith, four))) in
        turned_may cylinder 3 (λ h y_low h_low now. becomes_staged c r r.pages (set r.states cylinder 3) cylinder h y_low h_low (at_cylinder h y_low h_low) has.0 has.1 has.1 four now
        (ready h h_low (frame_block has.0 cylinder h) (in_frame r cylinder h has.0 has.1)))

pub allowed_may : (frames v : ℕ) (change : Change) (r : RowValue) (c : Content) → IsSound frames c → rows_of c v ≡ Some r → IsRow r → IsAllowed change r → IsReady frames change r c → MayChange frames v (effect change r) c
allowed_may frames v (Create serial first second) r c sound there row allowed ready = absurd allowed
allowed_may frames v (Assign page frame) r c sound there row allowed ready = assign_may frames v r c sound there row page frame allowed.0 ready.0 ready.1
allowed_may frames v (Free page) r c sound there row allowed ready = free_may frames v r c sound there row page allowed.1
allowed_may frames v (Staged cylinder) r c sound there row allowed ready = staged_may frames v r c sound there row cylinder allowed.0 ready
allowed_may frames v (Changed cylinder) r c sound there row allowed ready = changed_may frames v r c sound there row cylinder allowed
allowed_may frames v (Destaged cylinder) r c sound there row allowed ready = destaged_may frames v r c sound there row cylinder allowed ready
allowed_may frames v (Protect on) r c sound there row allowed ready = absurd ready
