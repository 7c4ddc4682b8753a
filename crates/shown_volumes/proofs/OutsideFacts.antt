-- Which track stands on a block of a frame or of a cartridge, in sound content.
use Rattle.std.proofs.Common.{◌≡◌, ◌⊎◌, inl, inr, ℕ, ◌/◌, ◌%◌, ◌≤◌, ◌<◌, nat_lt, Bool, true, false, cond, Option, Some, refl, sym, ◌∙◌, ap, arith}
use Rattle.std.specs.Prelude.{not}
use Rattle.std.specs.Option.{option_map, option_and_then}
use Rattle.mss_base.specs.Content.{Content}
use Rattle.mss_base.specs.Places.{cartridge_block, frame_block}
use Rattle.mss_base.specs.declared.place.UnitNo.TheVariants.{Cartridge}
use Rattle.mss_base.specs.declared.place.BlockPlace.{BlockPlace}
use Rattle.volume_table.specs.Row.{RowValue, frame_of, state_of}
use Rattle.shown_volumes.specs.Shown.{RowsOf, rows_of, on_cartridge}
use Rattle.shown_volumes.specs.Sound.{cartridge_of, frame_in, HasCartridgesOnce, HasFramesOnce, IsSound}
use Rattle.shown_volumes.specs.Changing.{StandsOn, IsOutside}
use Rattle.shown_volumes.proofs.PlaceFacts.{stands_on, paged, frame_apart, cartridge_apart, frame_no_cartridge}

half_names : (rows : RowsOf) (v y : ℕ) (r : RowValue) → rows v ≡ Some r → cartridge_of rows v (not (nat_lt y 202)) ≡ Some (cond (nat_lt y 202) r.first r.second)
half_names rows v y r is = ap (λ (o : Option RowValue). option_map (λ x. cond (not (nat_lt y 202)) x.second x.first) o) is ∙ by_half (nat_lt y 202)
  where
    by_half : (b : Bool) → Some (cond (not b) r.second r.first) ≡ Some (cond b r.first r.second)
    by_half true = refl
    by_half false = refl

same_not : (a b : Bool) → not a ≡ not b → a ≡ b
same_not true true is = refl
same_not true false is = cc
same_not false true is = cc
same_not false false is = refl

pub page_names : (rows : RowsOf) (v p f : ℕ) (r : RowValue) → rows v ≡ Some r → frame_of r p ≡ Some f → frame_in rows v p ≡ Some f
page_names rows v p f r is has = ap (λ (o : Option RowValue). option_and_then (λ x. frame_of x p) o) is ∙ has

one_row : (rows : RowsOf) (v w : ℕ) (r q : RowValue) → rows v ≡ Some r → rows w ≡ Some q → w ≡ v → q ≡ r
one_row rows v w r q is other same = let e : Some q ≡ Some r = sym other ∙ ap rows same ∙ is in cc

module _ (rows : RowsOf) (v y h : ℕ) (r : RowValue) (there : rows v ≡ Some r) (y_low : y < 404) (h_low : h < 19) (w c d : ℕ) (q : RowValue) (is : rows w ≡ Some q) where
  -- only the cylinder and head themselves stand on their block in a frame
  module _ (once : HasFramesOnce rows) (f : ℕ) (has : frame_of r (y / 8) ≡ Some f) (stands : StandsOn q c d (frame_block f y h)) where
    pub frame_user : (w ≡ v) × (c ≡ y) × (d ≡ h) × (2 ≤ state_of q c)
    frame_user = elim (stands_on q c d (frame_block f y h) stands) [
      | inr on ↦ absurd (frame_no_cartridge f y h q c d (sym on.1))
      | inl framed ↦
          let at = paged (frame_of q (c / 8)) c d (frame_block f y h) framed.1 in
          let same = frame_apart at.0 f c y d h stands.head_in h_low at.1.1 in
          let that : frame_of q (c / 8) ≡ Some f = at.1.0 ∙ ap (λ (n : ℕ). Some n) same.0 in
          let c_low = stands.cylinder_in in
          let one = once w v (c / 8) (y / 8) f (omega arith) (omega arith) (page_names rows w (c / 8) f q is that) (page_names rows v (y / 8) f r there has) in
          let mod_is : c % 8 ≡ y % 8 = same.1 in
          let page_is : c / 8 ≡ y / 8 = one.1 in
          (one.0, omega arith, same.2, framed.0)
    ]

  -- only a cylinder and head that are shown from their cartridge stand on their block there
  module _ (once : HasCartridgesOnce rows) (stands : StandsOn q c d (on_cartridge r y h)) where
    pub cartridge_user : (w ≡ v) × (c ≡ y) × ((state_of q c ≡ 1) ⊎ (state_of q c ≡ 3))
    cartridge_user = elim (stands_on q c d (on_cartridge r y h) stands) [
      | inl framed ↦ let at = paged (frame_of q (c / 8)) c d (on_cartridge r y h) framed.1 in absurd (frame_no_cartridge at.0 c d r y h at.1.1)
      | inr on ↦
          let unit_is : Cartridge (cond (nat_lt c 202) q.first q.second) ≡ Cartridge (cond (nat_lt y 202) r.first r.second) = ap (λ (p : BlockPlace). p.unit) on.1 in
          let number_is : cond (nat_lt c 202) q.first q.second ≡ cond (nat_lt y 202) r.first r.second = cc in
          let block_is : cartridge_block c d ≡ cartridge_block y h = ap (λ (p : BlockPlace). p.block) on.1 in
          let one = once w v (not (nat_lt c 202)) (not (nat_lt y 202)) (cond (nat_lt y 202) r.first r.second) (half_names rows w c q is ∙ ap (λ (n : ℕ). Some n) number_is) (half_names rows v y r there) in
          (one.0, cartridge_apart c y d h stands.cylinder_in y_low stands.head_in h_low (same_not (nat_lt c 202) (nat_lt y 202) one.1) block_is, on.0)
    ]

module _ (frames : ℕ) (k : Content) (v y h : ℕ) (r : RowValue) (sound : IsSound frames k) (there : rows_of k v ≡ Some r) (y_low : y < 404) (h_low : h < 19) where
  -- the frame's blocks of a cylinder that isn't staged are no one's
  pub frame_outside : (f : ℕ) → frame_of r (y / 8) ≡ Some f → state_of r y < 2 → IsOutside k (frame_block f y h)
  frame_outside f has unstaged = record {
    no_table = refl;
    unused = λ w c d q is stands.
        let user = frame_user (rows_of k) v y h r there y_low h_low w c d q is sound.agree.frames_once f has stands in
        let row_is = one_row (rows_of k) v w r q there is user.0 in
        let state_is : state_of q c ≡ state_of r y = (λ i. state_of (row_is i) (user.1 i)) in
        let high : 2 ≤ state_of q c = user.3 in
        omega arith;
  }

  -- the cartridge's blocks of a changed cylinder are no one's
  pub cartridge_outside : state_of r y ≡ 4 → IsOutside k (on_cartridge r y h)
  cartridge_outside changed = record {
    no_table = refl;
    unused = λ w c d q is stands.
        let user = cartridge_user (rows_of k) v y h r there y_low h_low w c d q is sound.agree.cartridges_once stands in
        let row_is = one_row (rows_of k) v w r q there is user.0 in
        let state_is : state_of q c ≡ state_of r y = (λ i. state_of (row_is i) (user.1 i)) in
        elim user.2 [ inl one ↦ omega arith | inr three ↦ omega arith ];
  }
