-- What an allowed change makes a row stand on.
use Rattle.std.proofs.Common.{◌≡◌, ◌⊎◌, inl, inr, ℕ, ◌+◌, ◌/◌, ◌≤◌, ◌<◌, ◌==◌, false, Option, Some, None, sym, ◌∙◌, ap, subst, arith}
use Rattle.std.specs.Option.{option_map, ForSome}
use Rattle.std.proofs.lemmas.Bool.{cases_Bool, cond-true, cond-false, eqb-true}
use Rattle.std.proofs.lemmas.List.{get_or-set_same, get_or-set_other}
use Rattle.mss_base.specs.declared.place.BlockPlace.{BlockPlace}
use Rattle.mss_base.specs.Content.{SiteLog, content}
use Rattle.mss_base.specs.Places.{frame_block}
use Rattle.volume_table.specs.Row.{RowValue, frame_of, state_of, IsRow}
use Rattle.volume_table.specs.Changes.{IsAllowed, effect, with_frame, with_state, without_frame, unstaged_state}
use Rattle.volume_table.specs.declared.changes.Change.{Change}
use Rattle.volume_table.specs.declared.changes.Change.TheVariants.{Create, Assign, Free, Staged, Changed, Destaged, Protect}
use Rattle.volume_table.proofs.RowFacts.{frame-without_frame, state-without_frame}
use Rattle.shown_volumes.specs.Shown.{rows_of, on_cartridge, in_page}
use Rattle.shown_volumes.specs.Sound.{IsSound}
use Rattle.shown_volumes.specs.Changing.{StandsOn, IsReady, IsQuiet, IsQuietUnder, MayWriteRow, IsFirmAt, IsFirmFor}
use Rattle.shown_volumes.proofs.PlaceFacts.{InFrame, OnCartridge, source_cartridge, stands_on}
use Rattle.shown_volumes.proofs.AllowedFacts.{there_is, not_equal, allowed_may}

-- what a cylinder that lost its frame shows from its cartridge it showed from there before
shown_before : (state : ℕ) → (unstaged_state state ≡ 1) ⊎ (unstaged_state state ≡ 3) → (state ≡ 1) ⊎ (state ≡ 3)
shown_before state now = elim (cases_Bool (state == 2)) [
  | inl two ↦
      let e : unstaged_state state ≡ 0 = cond-true _ _ _ two in
      elim now [ inl one ↦ absurd (omega (arith, sym e ∙ one)) | inr three ↦ absurd (omega (arith, sym e ∙ three)) ]
  | inr other ↦ elim (cases_Bool (state == 3)) [
    | inl three ↦ inr (eqb-true state 3 three)
    | inr neither ↦
        let e : unstaged_state state ≡ state = cond-false _ _ _ other ∙ cond-false _ _ _ neither in
        subst (λ (n : ℕ). (n ≡ 1) ⊎ (n ≡ 3)) e now
  ]
]

module _ (v : ℕ) (r : RowValue) (s : SiteLog) (quiet : IsQuiet s) (there : rows_of (content s) v ≡ Some r) where
  -- each place that the new row stands on was stood on, or is firm
  under : (new : RowValue)
      → ((y h : ℕ) (place : BlockPlace) → y < 404 → h < 19 → InFrame new y h place → InFrame r y h place ⊎ IsFirmAt s place)
      → ((y h : ℕ) (place : BlockPlace) → y < 404 → h < 19 → OnCartridge new y h place → OnCartridge r y h place ⊎ IsFirmAt s place) → IsQuietUnder new s
  under new framed on place is y h stands =
      let old : StandsOn r y h place → ⊥ = λ was. (quiet place is).unused v y h r there was in
      elim (stands_on new y h place stands) [
        | inl now ↦ elim (framed y h place stands.cylinder_in stands.head_in now) [
          | inl was ↦ old (record { cylinder_in = stands.cylinder_in; head_in = stands.head_in; there = inr was })
          | inr firm ↦ firm is
        ]
        | inr now ↦ elim (on y h place stands.cylinder_in stands.head_in now) [
          | inl was ↦ old (record { cylinder_in = stands.cylinder_in; head_in = stands.head_in; there = inl (source_cartridge r y h stands.cylinder_in stands.head_in was.0 ∙ ap (λ (p : BlockPlace). Some p) was.1) })
          | inr firm ↦ firm is
        ]
      ]

  page_same : (new : RowValue) (y h : ℕ) → frame_of new (y / 8) ≡ frame_of r (y / 8) → in_page new y h ≡ in_page r y h
  page_same new y h same = ap (λ (o : Option ℕ). option_map (λ f. frame_block f y h) o) same

  module _ (row : IsRow r) where
    -- what is staged stood in its frame before a page got one
    assign_under : (page frame : ℕ) → frame_of r page ≡ None → IsQuietUnder (with_frame page frame r) s
    assign_under page frame none = under (with_frame page frame r) framed (λ y h place y_low h_low now. inl now)
      where
        framed : (y h : ℕ) (place : BlockPlace) → y < 404 → h < 19 → InFrame (with_frame page frame r) y h place → InFrame r y h place ⊎ IsFirmAt s place
        framed y h place y_low h_low now = elim (cases_Bool (y / 8 == page)) [
          | inl same ↦
              let has = there_is (frame_of r (y / 8)) (row.staged y now.0) in
              let e : ◌≡◌ {A = Option ℕ} None (Some has.0) = sym none ∙ ap (frame_of r) (sym (eqb-true (y / 8) page same)) ∙ has.1 in
              absurd cc
          | inr other ↦
              let e = get_or-set_other r.pages page (y / 8) (Some frame) None (not_equal (y / 8) page other) in
              inl (now.0, sym (page_same (with_frame page frame r) y h e) ∙ now.1)
        ]

    -- a page gives its frame back
    module _ (page : ℕ) where
      freed_framed : (y h : ℕ) (place : BlockPlace) → y < 404 → h < 19 → InFrame (without_frame page r) y h place → InFrame r y h place ⊎ IsFirmAt s place
      freed_framed y h place y_low h_low now = elim (cases_Bool (y / 8 == page)) [
        | inl same ↦
            let none : frame_of (without_frame page r) (y / 8) ≡ None = frame-without_frame page r (y / 8) ∙ cond-true _ _ _ same in
            let e : ◌≡◌ {A = Option BlockPlace} None (Some place) = sym (ap (λ (o : Option ℕ). option_map (λ f. frame_block f y h) o) none) ∙ now.1 in
            absurd cc
        | inr other ↦
            let frame_is = frame-without_frame page r (y / 8) ∙ cond-false _ _ _ other in
            let state_is : state_of (without_frame page r) y ≡ state_of r y = state-without_frame page r y ∙ cond-false _ _ _ other in
            inl (subst (λ (n : ℕ). 2 ≤ n) state_is now.0, sym (page_same (without_frame page r) y h frame_is) ∙ now.1)
      ]

      freed_on : (y h : ℕ) (place : BlockPlace) → y < 404 → h < 19 → OnCartridge (without_frame page r) y h place → OnCartridge r y h place ⊎ IsFirmAt s place
      freed_on y h place y_low h_low now = elim (cases_Bool (y / 8 == page)) [
        | inl same ↦
            let state_is : state_of (without_frame page r) y ≡ unstaged_state (state_of r y) = state-without_frame page r y ∙ cond-true _ _ _ same in
            inl (shown_before (state_of r y) (subst (λ (n : ℕ). (n ≡ 1) ⊎ (n ≡ 3)) state_is now.0), now.1)
        | inr other ↦
            let state_is : state_of (without_frame page r) y ≡ state_of r y = state-without_frame page r y ∙ cond-false _ _ _ other in
            inl (subst (λ (n : ℕ). (n ≡ 1) ⊎ (n ≡ 3)) state_is now.0, now.1)
      ]

      free_under : IsQuietUnder (without_frame page r) s
      free_under = under (without_frame page r) freed_framed freed_on

    -- one cylinder gets another state
    module _ (cylinder state : ℕ)
        (framed : (h : ℕ) (place : BlockPlace) → h < 19 → 2 ≤ state → in_page r cylinder h ≡ Some place → InFrame r cylinder h place ⊎ IsFirmAt s place)
        (on : (h : ℕ) → h < 19 → (state ≡ 1) ⊎ (state ≡ 3) → ((state_of r cylinder ≡ 1) ⊎ (state_of r cylinder ≡ 3)) ⊎ IsFirmAt s (on_cartridge r cylinder h)) where
      turned_here : cylinder < 404 → state_of (with_state cylinder state r) cylinder ≡ state
      turned_here low = get_or-set_same r.states cylinder state 0 (omega (arith, row.states, low))

      turned_other : (y : ℕ) → (y == cylinder) ≡ false → state_of (with_state cylinder state r) y ≡ state_of r y
      turned_other y other = get_or-set_other r.states cylinder y state 0 (not_equal y cylinder other)

      turned_framed : (y h : ℕ) (place : BlockPlace) → y < 404 → h < 19 → InFrame (with_state cylinder state r) y h place → InFrame r y h place ⊎ IsFirmAt s place
      turned_framed y h place y_low h_low now = elim (cases_Bool (y == cylinder)) [
        | inl same ↦
            let e : y ≡ cylinder = eqb-true y cylinder same in
            let there_now = subst (λ (n : ℕ). InFrame (with_state cylinder state r) n h place) e now in
            subst (λ (n : ℕ). InFrame r n h place ⊎ IsFirmAt s place) (sym e)
            (framed h place h_low (subst (λ (n : ℕ). 2 ≤ n) (turned_here (subst (λ (n : ℕ). n < 404) e y_low)) there_now.0) there_now.1)
        | inr other ↦ inl (subst (λ (n : ℕ). 2 ≤ n) (turned_other y other) now.0, now.1)
      ]

      turned_on : (y h : ℕ) (place : BlockPlace) → y < 404 → h < 19 → OnCartridge (with_state cylinder state r) y h place → OnCartridge r y h place ⊎ IsFirmAt s place
      turned_on y h place y_low h_low now = elim (cases_Bool (y == cylinder)) [
        | inl same ↦
            let e : y ≡ cylinder = eqb-true y cylinder same in
            let there_now = subst (λ (n : ℕ). OnCartridge (with_state cylinder state r) n h place) e now in
            subst (λ (n : ℕ). OnCartridge r n h place ⊎ IsFirmAt s place) (sym e)
            (elim (on h h_low (subst (λ (n : ℕ). (n ≡ 1) ⊎ (n ≡ 3)) (turned_here (subst (λ (n : ℕ). n < 404) e y_low)) there_now.0)) [
              | inl was ↦ inl (was, there_now.1)
              | inr firm ↦ inr (subst (IsFirmAt s) there_now.1 firm)
            ])
        | inr other ↦ inl (subst (λ (n : ℕ). (n ≡ 1) ⊎ (n ≡ 3)) (turned_other y other) now.0, now.1)
      ]

      turned_under : IsQuietUnder (with_state cylinder state r) s
      turned_under = under (with_state cylinder state r) turned_framed turned_on

    module _ (cylinder : ℕ) where
      staged_under : ((h : ℕ) → h < 19 → ForSome (in_page r cylinder h) (IsFirmAt s)) → IsQuietUnder (with_state cylinder (state_of r cylinder + 2) r) s
      staged_under firm = turned_under cylinder (state_of r cylinder + 2)
          (λ h place low high at. inr (firm h low place at))
          (λ h low state. elim state [ inl one ↦ absurd (omega (arith, one)) | inr three ↦ inl (inl (omega (arith, three))) ])

      changed_under : (state_of r cylinder ≡ 2) ⊎ (state_of r cylinder ≡ 3) → IsQuietUnder (with_state cylinder 4 r) s
      changed_under was = turned_under cylinder 4
          (λ h place low high at. inl (elim was [ inl two ↦ omega (arith, two) | inr three ↦ omega (arith, three) ], at))
          (λ h low state. elim state [ inl one ↦ absurd (omega (arith, one)) | inr three ↦ absurd (omega (arith, three)) ])

      destaged_under : state_of r cylinder ≡ 4 → ((h : ℕ) → h < 19 → IsFirmAt s (on_cartridge r cylinder h)) → IsQuietUnder (with_state cylinder 3 r) s
      destaged_under four firm = turned_under cylinder 3 (λ h place low high at. inl (omega (arith, four), at)) (λ h low state. inr (firm h low))

-- an allowed change stands on nothing loose, where what it names anew is firm
pub allowed_under : (v : ℕ) (change : Change) (r : RowValue) (s : SiteLog) → IsQuiet s → rows_of (content s) v ≡ Some r → IsRow r → IsAllowed change r → IsFirmFor change r s → IsQuietUnder (effect change r) s
allowed_under v (Create serial first second) r s quiet there row allowed firm = absurd allowed
allowed_under v (Assign page frame) r s quiet there row allowed firm = assign_under v r s quiet there row page frame allowed.0
allowed_under v (Free page) r s quiet there row allowed firm = free_under v r s quiet there row page
allowed_under v (Staged cylinder) r s quiet there row allowed firm = staged_under v r s quiet there row cylinder firm
allowed_under v (Changed cylinder) r s quiet there row allowed firm = changed_under v r s quiet there row cylinder allowed
allowed_under v (Destaged cylinder) r s quiet there row allowed firm = destaged_under v r s quiet there row cylinder allowed firm
allowed_under v (Protect on) r s quiet there row allowed firm = λ place loose cylinder head stands.
    (quiet place loose).unused v cylinder head r there (record { cylinder_in = stands.cylinder_in; head_in = stands.head_in; there = stands.there })

pub allowed_write : (frames v : ℕ) (change : Change) (r : RowValue) (s : SiteLog) → IsSound frames (content s) → IsQuiet s → rows_of (content s) v ≡ Some r → IsRow r → IsAllowed change r
    → IsReady frames change r (content s) → IsFirmFor change r s → MayWriteRow frames v (effect change r) s
allowed_write frames v change r s sound quiet there row allowed ready firm = record {
  may = allowed_may frames v change r (content s) sound there row allowed ready;
  quiet = quiet;
  under = allowed_under v change r s quiet there row allowed firm;
}
