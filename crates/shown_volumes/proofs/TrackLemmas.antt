-- The walk over the tracks finds nothing exactly where each is sound.
use Rattle.std.proofs.Common.{◌≡◌, inl, inr, ℕ, ◌<◌, ◌==◌, Bool, true, false, ◌&&◌, [], length, Option, Some, None, refl, sym, ◌∙◌, ap, subst}
use Rattle.std.specs.Prelude.{not, is_some}
use Rattle.std.specs.Option.{ForSome}
use Rattle.std.specs.Cmp.Lexicographic.{bytes_decides}
use Rattle.std.proofs.lemmas.Bool.{cases_Bool, cond-true, cond-false, eqb-true, eq-eqb, and_parts, not-false, not-true, not_from_true}
use Rattle.std.proofs.lemmas.List.{nil_from_length}
use Rattle.mss_base.specs.Content.{Content}
use Rattle.mss_base.specs.declared.place.BlockPlace.{BlockPlace}
use Rattle.ckd_track.specs.Track.{Reading, reading, reading_of}
use Rattle.volume_table.specs.Row.{RowValue, state_of}
use Rattle.shown_volumes.specs.declared.refused.Refused.{Refused}
use Rattle.shown_volumes.specs.declared.refused.Refused.TheVariants.{TornTrack, StagedDiffers}
use Rattle.shown_volumes.specs.Shown.{RowsOf, block_at, on_cartridge, in_page, source}
use Rattle.shown_volumes.specs.Sound.{IsTrackAt, IsBlankAt, IsSameAt, IsStagedAs, IsSoundTrack}
use Rattle.mss_base.specs.Firsts.{where_so}
use Rattle.shown_volumes.specs.Faults.{is_same_list, is_torn, is_blank, differs, row_track_fault, track_fault, cylinder_fault, tracks_fault}
use Rattle.mss_base.proofs.FirstFacts.{or_none, both_none, none_below, all_none, none_where, where_none, chained_none, chain_none, none_is}

blank_is : (r : Reading) → is_blank r ≡ true → r ≡ reading_of []
blank_is r is =
    let parts = and_parts (length r.records == 0) (not (is_some r.bad)) is in
    let none : r.bad ≡ None = none_is r.bad (not-true (is_some r.bad) parts.1) in
    let nil : r.records ≡ [] = nil_from_length r.records (eqb-true _ 0 parts.0) in
    λ i. record { records = nil i; bad = none i }

is_that_blank : (r : Reading) → r ≡ reading_of [] → is_blank r ≡ true
is_that_blank r is = ap is_blank is

module _ (c : Content) where
  track_here : (o : Option BlockPlace) → is_torn c o ≡ false → ForSome o (IsTrackAt c)
  track_here None is = λ place at. absurd cc
  track_here (Some p) is = λ place at. let e : p ≡ place = cc in subst (IsTrackAt c) e (none_is _ is)

  not_torn : (o : Option BlockPlace) → ForSome o (IsTrackAt c) → is_torn c o ≡ true → ⊥
  not_torn None each torn = cc
  not_torn (Some p) each torn = let e : false ≡ true = sym (ap is_some (each p refl)) ∙ torn in cc

  -- the tests of a staged block, where its state is known
  abbrev unlike : ℕ → BlockPlace → BlockPlace → Bool
  unlike state cartridge p = (state == 3) && not (is_same_list (block_at c p) (block_at c cartridge))

  for_two : (state : ℕ) (cartridge p : BlockPlace) → state ≡ 2 → differs c state (Some p) cartridge ≡ not (is_blank (reading (block_at c p)))
  for_two state cartridge p two = cond-true (state == 2) (not (is_blank (reading (block_at c p)))) (unlike state cartridge p) (eq-eqb state 2 two)

  for_three : (state : ℕ) (cartridge p : BlockPlace) → state ≡ 3 → differs c state (Some p) cartridge ≡ not (is_same_list (block_at c p) (block_at c cartridge))
  for_three state cartridge p three = ap (λ (n : ℕ). differs c n (Some p) cartridge) three

  module _ (state : ℕ) (cartridge : BlockPlace) where
    blank_here : (o : Option BlockPlace) → differs c state o cartridge ≡ false → state ≡ 2 → ForSome o (IsBlankAt c)
    blank_here None is two = λ place at. absurd cc
    blank_here (Some p) is two = λ place at.
        let e : p ≡ place = cc in
        subst (IsBlankAt c) e (blank_is _ (not-false _ (sym (for_two state cartridge p two) ∙ is)))

    same_here : (o : Option BlockPlace) → differs c state o cartridge ≡ false → state ≡ 3 → ForSome o (IsSameAt c cartridge)
    same_here None is three = λ place at. absurd cc
    same_here (Some p) is three = λ place at.
        let e : p ≡ place = cc in
        subst (IsSameAt c cartridge) e ((bytes_decides (block_at c p) (block_at c cartridge)).0 (not-false _ (sym (for_three state cartridge p three) ∙ is)))

    pub staged_here : (o : Option BlockPlace) → differs c state o cartridge ≡ false → IsStagedAs c state o cartridge
    staged_here o is = record { blank = blank_here o is; copied = same_here o is }

    pub stands_for : (o : Option BlockPlace) → IsStagedAs c state o cartridge → differs c state o cartridge ≡ false
    stands_for None staged = refl
    stands_for (Some p) staged = elim (cases_Bool (state == 2)) [
      | inl two ↦
          let e : state ≡ 2 = eqb-true state 2 two in
          for_two state cartridge p e ∙ not_from_true _ (is_that_blank (reading (block_at c p)) (staged.blank e p refl))
      | inr other ↦ elim (cases_Bool (state == 3)) [
        | inl three ↦
            let e : state ≡ 3 = eqb-true state 3 three in
            for_three state cartridge p e ∙ not_from_true _ ((bytes_decides (block_at c p) (block_at c cartridge)).1 (staged.copied e p refl))
        | inr neither ↦
            cond-false (state == 2) (not (is_blank (reading (block_at c p)))) (unlike state cartridge p) other
            ∙ ap (λ (b : Bool). b && not (is_same_list (block_at c p) (block_at c cartridge))) neither
      ]
    ]

  abbrev torn : ℕ → ℕ → ℕ → RowValue → Option Refused
  torn v y h r = where_so (is_torn c (source r y h)) (TornTrack v y h)

  abbrev unlike_staged : ℕ → ℕ → ℕ → RowValue → Option Refused
  unlike_staged v y h r = where_so (differs c (state_of r y) (in_page r y h) (on_cartridge r y h)) (StagedDiffers v y h)

  pub sound_track : (v y h : ℕ) (r : RowValue) → row_track_fault c v y h r ≡ None → IsSoundTrack c r y h
  sound_track v y h r none =
      let parts = or_none (torn v y h r) (unlike_staged v y h r) none in
      record {
        shown = track_here (source r y h) (none_where _ (TornTrack v y h) parts.0);
        staged = staged_here (state_of r y) (on_cartridge r y h) (in_page r y h) (none_where _ (StagedDiffers v y h) parts.1);
      }

  pub no_track_fault : (v y h : ℕ) (r : RowValue) → IsSoundTrack c r y h → row_track_fault c v y h r ≡ None
  no_track_fault v y h r sound =
      both_none (torn v y h r) (unlike_staged v y h r) (where_none _ (TornTrack v y h) (not_torn (source r y h) sound.shown))
      (ap (λ (b : Bool). where_so b (StagedDiffers v y h)) (stands_for (state_of r y) (on_cartridge r y h) (in_page r y h) sound.staged))

  module _ (rows : RowsOf) where
    pub tracks_sound : (v : ℕ) → tracks_fault rows c v ≡ None → (y h : ℕ) → y < 404 → h < 19 → ForSome (rows v) (λ r. IsSoundTrack c r y h)
    tracks_sound v none y h y_low h_low r is =
        sound_track v y h r (chained_none (row_track_fault c v y h) (rows v) (none_below 19 (track_fault rows c v y) (none_below 404 (cylinder_fault rows c v) none y y_low) h h_low) r is)

    pub tracks_good : (v : ℕ) → ((y h : ℕ) → y < 404 → h < 19 → ForSome (rows v) (λ r. IsSoundTrack c r y h)) → tracks_fault rows c v ≡ None
    tracks_good v sound =
        all_none 404 (cylinder_fault rows c v)
        (λ y y_low. all_none 19 (track_fault rows c v y) (λ h h_low. chain_none (row_track_fault c v y h) (rows v) (λ r is. no_track_fault v y h r (sound y h y_low h_low r is))))
