-- Where the tracks of a row lie.
use Rattle.std.proofs.Common.{◌≡◌, ◌⊎◌, inl, inr, ℕ, ◌+◌, ◌*◌, ◌/◌, ◌%◌, ◌≤◌, ◌<◌, ◌==◌, nat_lt, false, cond, ◌||◌, Option, Some, None, refl, sym, ◌∙◌, ap, subst, arith}
use Rattle.std.specs.Option.{option_map}
use Rattle.std.proofs.lemmas.Bool.{cases_Bool, cond-true, cond-false, eqb-true, ltb-true, ltb-false, lt-ltb, le-ltb, and_parts, and_from, and_right, or_cases}
use Rattle.mss_base.specs.Places.{cartridge_block, frame_block}
use Rattle.mss_base.specs.declared.place.UnitNo.TheVariants.{Staging, Cartridge}
use Rattle.mss_base.specs.declared.place.BlockPlace.{BlockPlace}
use Rattle.volume_table.specs.Row.{RowValue, frame_of, state_of}
use Rattle.table_pair.specs.Pair.{is_table}
use Rattle.shown_volumes.specs.Shown.{on_cartridge, in_page, source, source_by, is_on_volume}
use Rattle.shown_volumes.specs.Changing.{StandsOn}

-- a place in the page's frame, and one on the cartridge of a cylinder that is shown there
abbrev pub InFrame : RowValue → ℕ → ℕ → BlockPlace → Type 0
InFrame r y h place = (2 ≤ state_of r y) × (in_page r y h ≡ Some place)

abbrev pub OnCartridge : RowValue → ℕ → ℕ → BlockPlace → Type 0
OnCartridge r y h place = ((state_of r y ≡ 1) ⊎ (state_of r y ≡ 3)) × (on_cartridge r y h ≡ place)

by_state : (state : ℕ) (framed : Option BlockPlace) (cartridge place : BlockPlace) → source_by state framed cartridge ≡ Some place
    → ((state ≡ 4) × (framed ≡ Some place)) ⊎ (((state ≡ 1) ⊎ (state ≡ 3)) × (cartridge ≡ place))
by_state state framed cartridge place is = elim (cases_Bool (state == 4)) [
  | inl four ↦ inl (eqb-true state 4 four, sym (cond-true _ _ _ four) ∙ is)
  | inr other ↦ elim (cases_Bool ((state == 1) || (state == 3))) [
    | inl on ↦
        let e : Some cartridge ≡ Some place = sym (cond-true _ _ _ on) ∙ sym (cond-false _ _ _ other) ∙ is in
        inr (elim (or_cases (state == 1) (state == 3) on) [ inl one ↦ inl (eqb-true state 1 one) | inr three ↦ inr (eqb-true state 3 three) ], cc)
    | inr blank ↦ let e : ◌≡◌ {A = Option BlockPlace} None (Some place) = sym (cond-false _ _ _ blank) ∙ sym (cond-false _ _ _ other) ∙ is in absurd cc
  ]
]

module _ (r : RowValue) (y h : ℕ) where
  pub source_is : y < 404 → h < 19 → source r y h ≡ source_by (state_of r y) (in_page r y h) (on_cartridge r y h)
  source_is y_low h_low = cond-true _ _ _ (and_from (nat_lt y 404) (nat_lt h 19) (lt-ltb y 404 y_low) (lt-ltb h 19 h_low))

  pub source_past : 19 ≤ h → source r y h ≡ None
  source_past high = cond-false _ _ _ (and_right (nat_lt y 404) (nat_lt h 19) (le-ltb h 19 high))

  pub source_on_volume : (place : BlockPlace) → source r y h ≡ Some place → (y < 404) × (h < 19)
  source_on_volume place is = elim (cases_Bool (is_on_volume y h)) [
    | inl low ↦ let parts = and_parts (nat_lt y 404) (nat_lt h 19) low in (ltb-true y 404 parts.0, ltb-true h 19 parts.1)
    | inr high ↦ let e : ◌≡◌ {A = Option BlockPlace} None (Some place) = sym (cond-false _ _ _ high) ∙ is in absurd cc
  ]

  -- the shown place of a cylinder by its state
  pub source_blank : (state_of r y ≡ 0) ⊎ (state_of r y ≡ 2) → source r y h ≡ None
  source_blank state = elim (cases_Bool (is_on_volume y h)) [
    | inl low ↦ cond-true _ _ _ low ∙ elim state [
      | inl zero_ ↦ ap (λ (s : ℕ). source_by s (in_page r y h) (on_cartridge r y h)) zero_
      | inr two ↦ ap (λ (s : ℕ). source_by s (in_page r y h) (on_cartridge r y h)) two
    ]
    | inr high ↦ cond-false _ _ _ high
  ]

  pub source_cartridge : y < 404 → h < 19 → (state_of r y ≡ 1) ⊎ (state_of r y ≡ 3) → source r y h ≡ Some (on_cartridge r y h)
  source_cartridge y_low h_low state = source_is y_low h_low ∙ elim state [
    | inl one ↦ ap (λ (s : ℕ). source_by s (in_page r y h) (on_cartridge r y h)) one
    | inr three ↦ ap (λ (s : ℕ). source_by s (in_page r y h) (on_cartridge r y h)) three
  ]

  pub source_frame : y < 404 → h < 19 → state_of r y ≡ 4 → source r y h ≡ in_page r y h
  source_frame y_low h_low four = source_is y_low h_low ∙ ap (λ (s : ℕ). source_by s (in_page r y h) (on_cartridge r y h)) four

  -- a block that a track stands on is in the frame of a staged cylinder, or on the cartridge that shows it
  pub stands_on : (place : BlockPlace) → StandsOn r y h place → InFrame r y h place ⊎ OnCartridge r y h place
  stands_on place s = elim s.there [
    | inr framed ↦ inl framed
    | inl shown_there ↦ elim (by_state (state_of r y) (in_page r y h) (on_cartridge r y h) place (sym (source_is s.cylinder_in s.head_in) ∙ shown_there)) [
      | inl frame ↦ let e : state_of r y ≡ 4 = frame.0 in inl (omega arith, frame.1)
      | inr on ↦ inr on
    ]
  ]

-- a place, where there is one
abbrev place_or : Option BlockPlace → BlockPlace
place_or None = record { unit = Staging 0; block = 0 }
place_or (Some p) = p

-- a place in a frame
pub paged : (frame : Option ℕ) (y h : ℕ) (place : BlockPlace) → option_map (λ f. frame_block f y h) frame ≡ Some place → (f : ℕ) × ((frame ≡ Some f) × (frame_block f y h ≡ place))
paged None y h place is = absurd cc
paged (Some f) y h place is = (f, (refl, ap place_or is))

pub in_frame : (r : RowValue) (y h f : ℕ) → frame_of r (y / 8) ≡ Some f → in_page r y h ≡ Some (frame_block f y h)
in_frame r y h f has = ap (λ (o : Option ℕ). option_map (λ g. frame_block g y h) o) has

-- places in frames are the same only for the same frame, cylinder of the page, and head
pub frame_apart : (f g y c h d : ℕ) → h < 19 → d < 19 → frame_block f y h ≡ frame_block g c d → (f ≡ g) × (y % 8 ≡ c % 8) × (h ≡ d)
frame_apart f g y c h d h_low d_low same =
    let unit_is : Staging (f / 50) ≡ Staging (g / 50) = ap (λ (p : BlockPlace). p.unit) same in
    let disk_is : f / 50 ≡ g / 50 = cc in
    let block_is : (f % 50 * 8 + y % 8) * 19 + h ≡ (g % 50 * 8 + c % 8) * 19 + d = ap (λ (p : BlockPlace). p.block) same in
    let row_is : f % 50 * 8 + y % 8 ≡ g % 50 * 8 + c % 8 = omega arith in
    (omega arith, omega arith, omega arith)

-- places on one cartridge half are the same only for the same cylinder and head
pub cartridge_apart : (y c h d : ℕ) → y < 404 → c < 404 → h < 19 → d < 19 → nat_lt y 202 ≡ nat_lt c 202 → cartridge_block y h ≡ cartridge_block c d → y ≡ c
cartridge_apart y c h d y_low c_low h_low d_low half is = elim (cases_Bool (nat_lt y 202)) [
  | inl first ↦ let p = ltb-true y 202 first in let q = ltb-true c 202 (sym half ∙ first) in omega arith
  | inr second ↦ let p = ltb-false y 202 second in let q = ltb-false c 202 (sym half ∙ second) in omega arith
]

-- frames, cartridges and tables are different units
pub frame_no_cartridge : (f y h : ℕ) (r : RowValue) (c d : ℕ) → frame_block f y h ≡ on_cartridge r c d → ⊥
frame_no_cartridge f y h r c d same = let e : Staging (f / 50) ≡ Cartridge (cond (nat_lt c 202) r.first r.second) = ap (λ (p : BlockPlace). p.unit) same in cc

pub no_table : (r : RowValue) (y h : ℕ) (place : BlockPlace) → StandsOn r y h place → is_table place.unit ≡ false
no_table r y h place s = elim (stands_on r y h place s) [
  | inl framed ↦ let at = paged (frame_of r (y / 8)) y h place framed.1 in subst (λ (p : BlockPlace). is_table p.unit ≡ false) at.1.1 refl
  | inr on ↦ subst (λ (p : BlockPlace). is_table p.unit ≡ false) on.1 refl
]
