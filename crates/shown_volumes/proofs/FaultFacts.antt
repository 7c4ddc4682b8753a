-- The first fault of rows as they were read, and soundness.
use Rattle.std.proofs.Common.{◌≡◌, inl, inr, ℕ, ◌<◌, nat_lt, Bool, List, Option, Some, None, refl, sym, ◌∙◌, ap}
use Rattle.std.specs.Option.{option_map, option_and_then, ForSome}
use Rattle.std.specs.Cmp.Lexicographic.{bytes_decides}
use Rattle.std.proofs.lemmas.Bool.{cases_Bool, cond-true, cond-false, ltb-true, lt-ltb, not-false, not_from_true}
use Rattle.mss_base.specs.Content.{Content}
use Rattle.volume_table.specs.Row.{RowValue, frame_of}
use Rattle.table_pair.specs.Pair.{RowReading, known, damaged, unknown, row_of}
use Rattle.shown_volumes.specs.declared.refused.Refused.TheVariants.{SerialDiffers}
use Rattle.shown_volumes.specs.Shown.{RowsOf, told_row, rows_in, rows_of}
use Rattle.shown_volumes.specs.Sound.{IsSpelled, cartridge_of, frame_in, AreSound, IsSound, HasSerialsAsked}
use Rattle.mss_base.specs.Firsts.{first_below, where_so}
use Rattle.shown_volumes.specs.Faults.{serial_fault, read_fault, row_fault, halves_fault, pages_fault, tracks_fault, first_fault_of, first_fault}
use Rattle.mss_base.proofs.FirstFacts.{or_none, both_none, none_below, all_none, none_where}
use Rattle.shown_volumes.proofs.HalfLemmas.{cartridges_once, halves_good}
use Rattle.shown_volumes.proofs.PageLemmas.{frames_below, frames_once, pages_good}
use Rattle.shown_volumes.proofs.TrackLemmas.{tracks_sound, tracks_good}

module _ (readings : ℕ → RowReading) where
  -- there are volumes 0 to 31
  pub few_rows : (v : ℕ) (r : RowValue) → rows_in readings v ≡ Some r → v < 32
  few_rows v r is = elim (cases_Bool (nat_lt v 32)) [
    | inl low ↦ ltb-true v 32 low
    | inr high ↦ let e : ◌≡◌ {A = Option RowValue} None (Some r) = sym (cond-false _ _ _ high) ∙ is in absurd cc
  ]

  pub row_in : (v : ℕ) → v < 32 → rows_in readings v ≡ told_row (readings v)
  row_in v low = cond-true _ _ _ (lt-ltb v 32 low)

mapped_some : {A B : Type 0} (f : A → B) (o : Option A) (y : B) → option_map f o ≡ Some y → (x : A) × (o ≡ Some x)
mapped_some f None y is = absurd cc
mapped_some f (Some x) y is = (x, refl)

chained_some : {A B : Type 0} (f : A → Option B) (o : Option A) (y : B) → option_and_then f o ≡ Some y → (x : A) × (o ≡ Some x)
chained_some f None y is = absurd cc
chained_some f (Some x) y is = (x, refl)

-- a row's serial
abbrev IsAsked : Option (List ℕ) → Option RowValue → Type 0
IsAsked asked row = ForSome row (λ r. ForSome asked (λ serial. r.serial ≡ serial))

serial_asked : (v : ℕ) (o : Option RowValue) (asked : Option (List ℕ)) → serial_fault v o asked ≡ None → IsAsked asked o
serial_asked v None asked is = λ r at. absurd cc
serial_asked v (Some q) None is = λ r at serial wanted. absurd cc
serial_asked v (Some q) (Some a) is = λ r at serial wanted.
    let row_is : q ≡ r = cc in
    let asked_is : a ≡ serial = cc in
    ap (λ (x : RowValue). x.serial) (sym row_is) ∙ (bytes_decides q.serial a).0 (not-false _ (none_where _ (SerialDiffers v q.serial a) is)) ∙ asked_is

no_serial_fault : (v : ℕ) (o : Option RowValue) (asked : Option (List ℕ)) → IsAsked asked o → serial_fault v o asked ≡ None
no_serial_fault v None asked is = refl
no_serial_fault v (Some q) None is = refl
no_serial_fault v (Some q) (Some a) is = ap (λ (b : Bool). where_so b (SerialDiffers v q.serial a)) (not_from_true _ ((bytes_decides q.serial a).1 (is q refl a refl)))

spelled_read : (v : ℕ) (asked : Option (List ℕ)) (r : RowReading) → read_fault v asked r ≡ None → IsSpelled r
spelled_read v asked (known row missing) is = tt
spelled_read v asked (damaged copy fault) is = cc
spelled_read v asked unknown is = tt

asked_read : (v : ℕ) (asked : Option (List ℕ)) (r : RowReading) → read_fault v asked r ≡ None → IsAsked asked (told_row r)
asked_read v asked (known row missing) is = serial_asked v row asked is
asked_read v asked (damaged copy fault) is = absurd cc
asked_read v asked unknown is = λ r at. absurd cc

no_read_fault : (v : ℕ) (asked : Option (List ℕ)) (r : RowReading) → IsSpelled r → IsAsked asked (told_row r) → read_fault v asked r ≡ None
no_read_fault v asked (known row missing) spelled is = no_serial_fault v row asked is
no_read_fault v asked (damaged copy fault) spelled is = absurd spelled
no_read_fault v asked unknown spelled is = refl

-- rows as they were read are good
pub record AreGood (frames : ℕ) (asked : ℕ → Option (List ℕ)) (readings : ℕ → RowReading) (c : Content) : Type 0 where
  pub spelled : (volume : ℕ) → volume < 32 → IsSpelled (readings volume)
  pub agree : AreSound frames (rows_in readings) c
  pub serials : HasSerialsAsked asked (rows_in readings)

module _ (frames : ℕ) (asked : ℕ → Option (List ℕ)) (readings : ℕ → RowReading) (c : Content) where
  abbrev rows : RowsOf
  rows = rows_in readings

  few_halves : (v : ℕ) (s : Bool) (n : ℕ) → cartridge_of rows v s ≡ Some n → v < 32
  few_halves v s n is = let there = mapped_some _ (rows v) n is in few_rows readings v there.0 there.1

  few_pages : (v p f : ℕ) → frame_in rows v p ≡ Some f → v < 32
  few_pages v p f is = let there = chained_some (λ r. frame_of r p) (rows v) f is in few_rows readings v there.0 there.1

  module _ (none : first_fault_of frames asked readings c ≡ None) where
    pub good_from_none : AreGood frames asked readings c
    unfolding first_fault_of
    good_from_none =
        let p1 = or_none (first_below 32 (row_fault asked readings)) _ none in
        let p2 = or_none (first_below 32 (halves_fault rows)) _ p1.1 in
        let p3 = or_none (first_below 32 (pages_fault frames rows)) _ p2.1 in
        record {
          spelled = λ v low. spelled_read v (asked v) (readings v) (none_below 32 (row_fault asked readings) p1.0 v low);
          agree = record {
            cartridges_once = cartridges_once rows few_halves (none_below 32 (halves_fault rows) p2.0);
            frames_below = frames_below frames rows few_pages (none_below 32 (pages_fault frames rows) p3.0);
            frames_once = frames_once frames rows few_pages (none_below 32 (pages_fault frames rows) p3.0);
            tracks = λ v y h y_low h_low r is. tracks_sound c rows v (none_below 32 (tracks_fault rows c) p3.1 v (few_rows readings v r is)) y h y_low h_low r is;
          };
          serials = λ v r is. let low = few_rows readings v r is in asked_read v (asked v) (readings v) (none_below 32 (row_fault asked readings) p1.0 v low) r (sym (row_in readings v low) ∙ is);
        }

  module _ (good : AreGood frames asked readings c) where
    pub none_from_good : first_fault_of frames asked readings c ≡ None
    unfolding first_fault_of
    none_from_good =
        both_none (first_below 32 (row_fault asked readings)) _
        (all_none 32 (row_fault asked readings) (λ v low. no_read_fault v (asked v) (readings v) (good.spelled v low) (λ r is. good.serials v r (row_in readings v low ∙ is))))
        (both_none (first_below 32 (halves_fault rows)) _ (all_none 32 (halves_fault rows) (λ v low. halves_good rows good.agree.cartridges_once v))
        (both_none (first_below 32 (pages_fault frames rows)) _ (all_none 32 (pages_fault frames rows) (λ v low. pages_good frames rows good.agree.frames_below good.agree.frames_once v))
        (all_none 32 (tracks_fault rows c) (λ v low. tracks_good c rows v (good.agree.tracks v)))))

module _ (frames : ℕ) (asked : ℕ → Option (List ℕ)) (c : Content) where
  pub sound_from_none : first_fault frames asked c ≡ None → IsSound frames c × HasSerialsAsked asked (rows_of c)
  sound_from_none none = let good = good_from_none frames asked (row_of c) c none in (record { spelled = good.spelled; agree = good.agree }, good.serials)

  pub none_from_sound : IsSound frames c × HasSerialsAsked asked (rows_of c) → first_fault frames asked c ≡ None
  none_from_sound both = none_from_good frames asked (row_of c) c (record { spelled = both.0.spelled; agree = both.0.agree; serials = both.1 })
