-- Rows with a new one are sound, and show one blank volume more.
use Rattle.std.proofs.Common.{◌≡◌, ◌≢◌, ◌⊎◌, inl, inr, ℕ, ◌<◌, ◌==◌, Bool, true, false, cond, List, [], get_or, replicate, Option, Some, None, refl, sym, ◌∙◌, ap, subst, arith}
use Rattle.std.specs.Option.{option_map, option_and_then, ForSome}
use Rattle.std.proofs.lemmas.Bool.{cases_lt, cond-true, cond-false, eq-eqb}
use Rattle.std.proofs.lemmas.List.{get_or-replicate, get_or_past, length-replicate}
use Rattle.mss_base.specs.Content.{Content}
use Rattle.mss_base.specs.declared.place.BlockPlace.{BlockPlace}
use Rattle.volume_table.specs.Row.{RowValue, frame_of, state_of, blank_row}
use Rattle.shown_volumes.specs.Shown.{RowsOf, rows_of, on_cartridge, in_page, source, track_at, is_marked, shown_by, volumes_shown}
use Rattle.shown_volumes.specs.Sound.{IsTrackAt, cartridge_of, frame_in, HasCartridgesOnce, HasFramesBelow, HasFramesOnce, IsSoundTrack, AreSound, IsSound}
use Rattle.shown_volumes.specs.Changing.{with_row, IsFresh, with_blank}
use Rattle.shown_volumes.proofs.PlaceFacts.{source_blank}
use Rattle.shown_volumes.proofs.RowFacts.{at_row}
use Rattle.shown_volumes.proofs.StateLemmas.{unstaged}

all_same : (A : Type 0) (n i : ℕ) (a : A) → get_or (replicate n a) i a ≡ a
all_same A n i a = elim (cases_lt i n) [
  | inl lt ↦ get_or-replicate n i a a lt
  | inr past ↦ get_or_past (replicate n a) i a (omega (arith, length-replicate {A = A} n a))
]

module _ (frames : ℕ) (c : Content) (v first second : ℕ) (serial : List ℕ) (sound : IsSound frames c) (fresh : IsFresh v first second c) where
  abbrev new : RowValue
  new = blank_row serial first second

  abbrev rows : RowsOf
  rows = with_row v new (rows_of c)

  no_frame : (p : ℕ) → frame_of new p ≡ None
  no_frame p = all_same (Option ℕ) 51 p None

  blank_state : (y : ℕ) → state_of new y ≡ 0
  blank_state y = all_same ℕ 404 y 0

  no_source : (y h : ℕ) → source new y h ≡ None
  no_source y h = source_blank new y h (inl (blank_state y))

  abbrev half_of : Bool → RowValue → ℕ
  half_of s q = cond s q.second q.first

  abbrev Named : ℕ → Bool → ℕ → Type 0
  Named w s n = ((w ≡ v) × (n ≡ half_of s new)) ⊎ (cartridge_of (rows_of c) w s ≡ Some n)

  named : (s : Bool) (n w : ℕ) → cartridge_of rows w s ≡ Some n → Named w s n
  named s n =
      at_row (rows_of c) v new (λ w o. option_map (half_of s) o ≡ Some n → Named w s n)
      (λ is. let e : half_of s new ≡ n = cc in inl (refl, sym e)) (λ w other is. inr is)

  -- no row names the new cartridges
  unnamed : (w : ℕ) (s t : Bool) (n : ℕ) (o : Option RowValue) → rows_of c w ≡ o → option_map (half_of t) o ≡ Some n → n ≡ half_of s new → ⊥
  unnamed w s t n None there is at = let e : ◌≡◌ {A = Option ℕ} None (Some n) = is in cc
  unnamed w s t n (Some q) there is at =
      let none = fresh.unnamed w q there in
      let number : half_of t q ≡ n = cc in
      by s t (number ∙ at) none.0 none.1 none.2 none.3
    where
      by : (a b : Bool) → half_of b q ≡ half_of a new → q.first ≢ first → q.second ≢ first → q.first ≢ second → q.second ≢ second → ⊥
      by false false same one two three four = one same
      by false true same one two three four = two same
      by true false same one two three four = three same
      by true true same one two three four = four same

  same_half : (s t : Bool) → half_of s new ≡ half_of t new → s ≡ t
  same_half false false same = refl
  same_half false true same = absurd (fresh.apart same)
  same_half true false same = absurd (fresh.apart (sym same))
  same_half true true same = refl

  cartridges : HasCartridgesOnce rows
  cartridges x w s t n one other = elim (named s n x one) [
    | inl here ↦ elim (named t n w other) [
      | inl also ↦ (here.0 ∙ sym also.0, same_half s t (sym here.1 ∙ also.1))
      | inr there ↦ absurd (unnamed w s t n (rows_of c w) refl there here.1)
    ]
    | inr there ↦ elim (named t n w other) [
      | inl here ↦ absurd (unnamed x t s n (rows_of c x) refl there here.1)
      | inr also ↦ sound.agree.cartridges_once x w s t n there also
    ]
  ]

  old_frame : (p f w : ℕ) → frame_in rows w p ≡ Some f → frame_in (rows_of c) w p ≡ Some f
  old_frame p f =
      at_row (rows_of c) v new (λ w o. option_and_then (λ q. frame_of q p) o ≡ Some f → frame_in (rows_of c) w p ≡ Some f)
      (λ has. let e : ◌≡◌ {A = Option ℕ} None (Some f) = sym (no_frame p) ∙ has in absurd cc) (λ w other has. has)

  frames_below : HasFramesBelow frames rows
  frames_below w p low f has = sound.agree.frames_below w p low f (old_frame p f w has)

  frames_once : HasFramesOnce rows
  frames_once x w p q f p_low q_low one other = sound.agree.frames_once x w p q f p_low q_low (old_frame p f x one) (old_frame q f w other)

  sound_blank : (y h : ℕ) → IsSoundTrack c new y h
  sound_blank y h = record {
    shown = subst (λ (o : Option BlockPlace). ForSome o (IsTrackAt c)) (sym (no_source y h)) (λ place at. absurd cc);
    staged = unstaged c (state_of new y) (in_page new y h) (on_cartridge new y h) (inl (omega (arith, blank_state y)));
  }

  tracks : (w y h : ℕ) → y < 404 → h < 19 → ForSome (rows w) (λ q. IsSoundTrack c q y h)
  tracks w y h y_low h_low =
      at_row (rows_of c) v new (λ _ o. ForSome o (λ q. IsSoundTrack c q y h))
      (λ q is. let e : new ≡ q = cc in subst (λ (x : RowValue). IsSoundTrack c x y h) e (sound_blank y h)) (λ x other. sound.agree.tracks x y h y_low h_low) w

  pub blank_sound : AreSound frames rows c
  blank_sound = record { cartridges_once = cartridges; frames_below = frames_below; frames_once = frames_once; tracks = tracks }

  serial_is : (w : ℕ) → option_map (λ q. q.serial) (rows w) ≡ (with_blank v serial (volumes_shown c)).serial w
  serial_is =
      at_row (rows_of c) v new (λ w o. option_map (λ q. q.serial) o ≡ cond (w == v) (Some serial) ((volumes_shown c).serial w))
      (sym (cond-true (v == v) (Some serial) ((volumes_shown c).serial v) (eq-eqb v v refl))) (λ w other. sym (cond-false (w == v) (Some serial) ((volumes_shown c).serial w) other))

  mark_is : (w : ℕ) → is_marked (rows w) ≡ (with_blank v serial (volumes_shown c)).read_only w
  mark_is =
      at_row (rows_of c) v new (λ w o. is_marked o ≡ cond (w == v) false ((volumes_shown c).read_only w))
      (sym (cond-true (v == v) false ((volumes_shown c).read_only v) (eq-eqb v v refl))) (λ w other. sym (cond-false (w == v) false ((volumes_shown c).read_only w) other))

  track_is : (y h w : ℕ) → track_at c (option_and_then (λ q. source q y h) (rows w)) ≡ (with_blank v serial (volumes_shown c)).track w y h
  track_is y h =
      at_row (rows_of c) v new (λ w o. track_at c (option_and_then (λ q. source q y h) o) ≡ cond (w == v) [] ((volumes_shown c).track w y h))
      (ap (track_at c) (no_source y h) ∙ sym (cond-true (v == v) [] ((volumes_shown c).track v y h) (eq-eqb v v refl))) (λ w other. sym (cond-false (w == v) [] ((volumes_shown c).track w y h) other))

  pub blank_shown : shown_by rows c ≡ with_blank v serial (volumes_shown c)
  blank_shown = λ i. record { serial = λ w. serial_is w i; read_only = λ w. mark_is w i; track = λ w y h. track_is y h w i }
