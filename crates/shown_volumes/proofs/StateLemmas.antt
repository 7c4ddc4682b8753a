-- A cylinder whose state changes, and shows the same.
use Rattle.std.proofs.Common.{◌≡◌, ◌⊎◌, inl, inr, ℕ, ◌/◌, ◌≤◌, ◌<◌, ◌&&◌, nat_lt, cond, List, Option, Some, None, sym, ◌∙◌, ap, subst, arith}
use Rattle.std.specs.Option.{option_map, ForSome}
use Rattle.std.proofs.lemmas.Bool.{cases_Bool, cond-false, ltb-true, ltb-false, and_parts}
use Rattle.mss_base.specs.Content.{Content}
use Rattle.mss_base.specs.Places.{frame_block}
use Rattle.mss_base.specs.declared.place.BlockPlace.{BlockPlace}
use Rattle.ckd_track.specs.Track.{Reading, reading}
use Rattle.volume_table.specs.Row.{RowValue, frame_of, state_of}
use Rattle.shown_volumes.specs.Shown.{block_at, on_cartridge, in_page, source, source_by, is_on_volume, track_at}
use Rattle.shown_volumes.specs.Sound.{IsTrackAt, IsSameAt, IsStagedAs, IsSoundTrack}
use Rattle.shown_volumes.proofs.PlaceFacts.{source_is, source_blank, source_cartridge, source_frame, in_frame}
use Rattle.shown_volumes.proofs.FrameFacts.{staged_reading}
use Rattle.shown_volumes.proofs.RowFacts.{StaysTrack}

-- a state below 2 asks nothing of the frame
pub unstaged : (c : Content) (state : ℕ) (framed : Option BlockPlace) (cartridge : BlockPlace) → (state < 2) ⊎ (state ≡ 4) → IsStagedAs c state framed cartridge
unstaged c state framed cartridge low = record {
  blank = λ two. elim low [ inl less ↦ absurd (omega arith) | inr four ↦ absurd (omega arith) ];
  copied = λ three. elim low [ inl less ↦ absurd (omega arith) | inr four ↦ absurd (omega arith) ];
}

low_source : (state : ℕ) (a b : Option BlockPlace) (cartridge : BlockPlace) → state < 2 → source_by state a cartridge ≡ source_by state b cartridge
low_source state a b cartridge low = elim which [
  | inl none ↦ (λ i. source_by (none i) a cartridge) ∙ (λ i. source_by (sym none i) b cartridge)
  | inr one ↦ (λ i. source_by (one i) a cartridge) ∙ (λ i. source_by (sym one i) b cartridge)
]
  where
    which : (state ≡ 0) ⊎ (state ≡ 1)
    which = elim (cases_Bool (nat_lt state 1)) [
      | inl none ↦ let e = ltb-true state 1 none in inl (omega arith)
      | inr some ↦ let e = ltb-false state 1 some in inr (omega arith)
    ]

module _ (c : Content) (r : RowValue) (pages : List (Option ℕ)) (states : List ℕ) (y h : ℕ) (y_low : y < 404) (h_low : h < 19) (sound : IsSoundTrack c r y h) where
  abbrev new : RowValue
  new = record r { pages = pages; states = states }

  -- the same place is shown
  by_source : source new y h ≡ source r y h → IsStagedAs c (state_of new y) (in_page new y h) (on_cartridge r y h) → StaysTrack c r new y h
  by_source same staged = (record { shown = subst (λ (o : Option BlockPlace). ForSome o (IsTrackAt c)) (sym same) sound.shown; staged = staged }, ap (track_at c) same)

  -- state and frame stay, or the state stays below 2
  pub stays : state_of new y ≡ state_of r y → (frame_of new (y / 8) ≡ frame_of r (y / 8)) ⊎ (state_of r y < 2) → StaysTrack c r new y h
  stays state held = elim held [
    | inl framed ↦
        let page : in_page new y h ≡ in_page r y h = ap (λ (o : Option ℕ). option_map (λ f. frame_block f y h) o) framed in
        by_source (λ i. cond (nat_lt y 404 && nat_lt h 19) (source_by (state i) (page i) (on_cartridge r y h)) None) (subst (λ (o : Option BlockPlace). IsStagedAs c (state_of new y) o (on_cartridge r y h)) (sym page)
        (subst (λ (s : ℕ). IsStagedAs c s (in_page r y h) (on_cartridge r y h)) (sym state) sound.staged))
    | inr low ↦
        by_source (source_is new y h y_low h_low ∙ ap (λ (s : ℕ). source_by s (in_page new y h) (on_cartridge r y h)) state ∙ low_source (state_of r y) (in_page new y h) (in_page r y h) (on_cartridge r y h) low
        ∙ sym (source_is r y h y_low h_low)) (unstaged c (state_of new y) (in_page new y h) (on_cartridge r y h) (inl (omega (arith, state, low))))
  ]

  -- the frame is taken away, or given back
  pub blank_stays : (state_of r y ≡ 0) ⊎ (state_of r y ≡ 2) → (state_of new y ≡ 0) ⊎ (state_of new y ≡ 2) → IsStagedAs c (state_of new y) (in_page new y h) (on_cartridge r y h) → StaysTrack c r new y h
  blank_stays was now staged = by_source (source_blank new y h now ∙ sym (source_blank r y h was)) staged

  pub copy_stays : (state_of r y ≡ 1) ⊎ (state_of r y ≡ 3) → (state_of new y ≡ 1) ⊎ (state_of new y ≡ 3) → IsStagedAs c (state_of new y) (in_page new y h) (on_cartridge r y h) → StaysTrack c r new y h
  copy_stays was now staged = by_source (source_cartridge new y h y_low h_low now ∙ sym (source_cartridge r y h y_low h_low was)) staged

  -- a staged cylinder is changed: its frame holds what is shown
  pub becomes_changed : (f : ℕ) → frame_of r (y / 8) ≡ Some f → frame_of new (y / 8) ≡ Some f → 2 ≤ state_of r y → state_of r y ≤ 4 → state_of new y ≡ 4 → StaysTrack c r new y h
  becomes_changed f has still high low four =
      let held = staged_reading c r y h f y_low h_low has sound high low in
      let at : source new y h ≡ Some (frame_block f y h) = source_frame new y h y_low h_low four ∙ in_frame new y h f still in (
        record {
          shown = subst (λ (o : Option BlockPlace). ForSome o (IsTrackAt c)) (sym at) (λ place is. let e : frame_block f y h ≡ place = cc in subst (IsTrackAt c) e (ap (λ (x : Reading). x.bad) held));
          staged = unstaged c (state_of new y) (in_page new y h) (on_cartridge r y h) (inr four);
        },
        ap (track_at c) at ∙ ap (λ (x : Reading). x.records) held,
      )

  -- a changed cylinder stands on its cartridge again
  pub becomes_staged : (f : ℕ) → frame_of r (y / 8) ≡ Some f → frame_of new (y / 8) ≡ Some f → state_of r y ≡ 4 → state_of new y ≡ 3
      → block_at c (frame_block f y h) ≡ block_at c (on_cartridge r y h) → StaysTrack c r new y h
  becomes_staged f has still four three copied =
      let was : source r y h ≡ Some (frame_block f y h) = source_frame r y h y_low h_low four ∙ in_frame r y h f has in
      let at : source new y h ≡ Some (on_cartridge r y h) = source_cartridge new y h y_low h_low (inr three) in
      let whole : IsTrackAt c (on_cartridge r y h) = ap (λ (b : List ℕ). (reading b).bad) (sym copied) ∙ sound.shown (frame_block f y h) was in (
        record {
          shown = subst (λ (o : Option BlockPlace). ForSome o (IsTrackAt c)) (sym at) (λ place is. let e : on_cartridge r y h ≡ place = cc in subst (IsTrackAt c) e whole);
          staged = record {
            blank = λ two. absurd (omega (arith, two, three));
            copied = λ _. subst (λ (o : Option BlockPlace). ForSome o (IsSameAt c (on_cartridge r y h))) (sym (in_frame new y h f still)) (λ place is. let e : frame_block f y h ≡ place = cc in subst (IsSameAt c (on_cartridge r y h)) e copied);
          };
        },
        ap (track_at c) at ∙ ap (λ (b : List ℕ). (reading b).records) (sym copied) ∙ sym (ap (track_at c) was),
      )

-- beyond the volume nothing is shown
pub same_everywhere : (c : Content) (r q : RowValue) → ((y h : ℕ) → y < 404 → h < 19 → StaysTrack c r q y h) → (y h : ℕ) → track_at c (source q y h) ≡ track_at c (source r y h)
same_everywhere c r q stays y h = elim (cases_Bool (is_on_volume y h)) [
  | inl low ↦ let parts = and_parts (nat_lt y 404) (nat_lt h 19) low in (stays y h (ltb-true y 404 parts.0) (ltb-true h 19 parts.1)).1
  | inr high ↦ ap (track_at c) (cond-false _ _ _ high) ∙ sym (ap (track_at c) (cond-false _ _ _ high))
]
