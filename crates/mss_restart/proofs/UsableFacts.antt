-- Rows that stand beside each other: what the walks over them find, and what a creation keeps.
use Rattle.std.proofs.Common.{◌≡◌, ◌⊎◌, inl, inr, ℕ, ◌<◌, ◌==◌, Bool, true, false, cond, List, [], ◌∷◌, ◌++◌, length, get_or, replicate, Option, Some, None, Result, Ok, Err, refl, sym, ◌∙◌, ap, subst, arith}
use Rattle.std.specs.Prelude.{is_some, OnOk}
use Rattle.std.specs.Option.{option_map, option_and_then, ForSome}
use Rattle.std.specs.List.{AllByRecursion}
use Rattle.std.specs.Cmp.Lexicographic.{bytes_decides}
use Rattle.std.proofs.lemmas.Bool.{cases_Bool, cases_lt, cond-true, cond-false, eq-eqb, ne_eqb, not-false}
use Rattle.std.proofs.lemmas.List.{get_or-replicate, get_or_past, length-replicate}
use Rattle.mss_base.specs.Configs.{ConfigData, VolumeData, IsVolume, IsConfig}
use Rattle.mss_base.specs.Firsts.{first_below}
use Rattle.mss_base.proofs.FirstFacts.{none_below, none_where}
use Rattle.mss_base.specs.Configs.{serial_in}
use Rattle.volume_table.specs.Row.{RowValue, frame_of}
use Rattle.shown_volumes.specs.Shown.{RowsOf}
use Rattle.shown_volumes.specs.Sound.{cartridge_of, frame_in, HasCartridgesOnce, HasSerialsAsked}
use Rattle.shown_volumes.specs.Changing.{with_row}
use Rattle.shown_volumes.specs.Faults.{serial_fault, halves_fault, pages_fault}
use Rattle.shown_volumes.specs.declared.refused.Refused.TheVariants.{SerialDiffers}
use Rattle.shown_volumes.proofs.HalfLemmas.{cartridges_once}
use Rattle.shown_volumes.proofs.PageLemmas.{frames_below, frames_once}
use Rattle.shown_volumes.proofs.RowFacts.{at_row}
use Rattle.volume_table.specs.Listed.{row_in_list}
use Rattle.mss_restart.specs.Cartridges.{is_named}
use Rattle.volume_table.specs.Changes.{with_mark}
use Rattle.shown_volumes.proofs.MarkFacts.{cartridges_kept, frames_kept, frames_apart}
use Rattle.mss_restart.specs.Opening.{OpeningChange, made, marked, volume_of, to_make, to_mark, opening_changes, IsNewRow, OpensRows}
use Rattle.mss_restart.specs.Creations.{AreTold}
use Rattle.mss_restart.specs.declared.steps.OpeningStep.{OpeningStep}
use Rattle.mss_restart.specs.Usable.{AreUsable, AreUsableFor}
use Rattle.mss_restart.proofs.Creating.{AreRising, rising_first}
use Rattle.mss_restart.proofs.FreshFacts.{named_from}
use Rattle.mss_restart.proofs.OpenedRows.{AreMarks, to_mark_marks, opens_asked}

-- there are volumes 0 to 31
abbrev pub AreFew : RowsOf → Type 0
AreFew rows = (v : ℕ) (r : RowValue) → rows v ≡ Some r → v < 32

pub few_listed : (rows : List (Option RowValue)) → length rows ≡ 32 → AreFew (row_in_list rows)
few_listed rows long v r at = elim (cases_lt v 32) [
  | inl low ↦ low
  | inr past ↦ let e : ◌≡◌ {A = Option RowValue} None (Some r) = sym (get_or_past rows v None (omega (arith, long, past))) ∙ at in absurd cc
]

pub on_ok_any : {T E P : Type 0} (r : Result T E) → P → OnOk r P
on_ok_any (Ok value) holds = holds
on_ok_any (Err e) holds = tt

mapped_some : {A B : Type 0} (f : A → B) (o : Option A) (y : B) → option_map f o ≡ Some y → (x : A) × (o ≡ Some x)
mapped_some f None y is = absurd cc
mapped_some f (Some x) y is = (x, refl)

chained_some : {A B : Type 0} (f : A → Option B) (o : Option A) (y : B) → option_and_then f o ≡ Some y → (x : A) × (o ≡ Some x)
chained_some f None y is = absurd cc
chained_some f (Some x) y is = (x, refl)

module _ (rows : RowsOf) (few : AreFew rows) where
  few_halves : (v : ℕ) (s : Bool) (n : ℕ) → cartridge_of rows v s ≡ Some n → v < 32
  few_halves v s n is = let there = mapped_some _ (rows v) n is in few v there.0 there.1

  few_pages : (v p f : ℕ) → frame_in rows v p ≡ Some f → v < 32
  few_pages v p f is = let there = chained_some (λ r. frame_of r p) (rows v) f is in few v there.0 there.1

  -- what the walks over halves and pages find
  pub walks_usable : (frames : ℕ) (asked : ℕ → Option (List ℕ)) → HasSerialsAsked asked rows → first_below 32 (halves_fault rows) ≡ None → first_below 32 (pages_fault frames rows) ≡ None → AreUsable frames asked rows
  walks_usable frames asked serials halves pages = record {
    cartridges_once = cartridges_once rows few_halves (none_below 32 (halves_fault rows) halves);
    frames_below = frames_below frames rows few_pages (none_below 32 (pages_fault frames rows) pages);
    frames_once = frames_once frames rows few_pages (none_below 32 (pages_fault frames rows) pages);
    serials = serials;
  }

-- a row whose serial is no fault
pub row_asked : (v : ℕ) (o : Option RowValue) (asked : Option (List ℕ)) → serial_fault v o asked ≡ None → ForSome o (λ r. ForSome asked (λ serial. r.serial ≡ serial))
row_asked v None asked is = λ r at. absurd cc
row_asked v (Some q) None is = λ r at serial wanted. absurd cc
row_asked v (Some q) (Some a) is = λ r at serial wanted.
    let row_is : q ≡ r = cc in
    let asked_is : a ≡ serial = cc in
    ap (λ (x : RowValue). x.serial) (sym row_is) ∙ (bytes_decides q.serial a).0 (not-false _ (none_where _ (SerialDiffers v q.serial a) is)) ∙ asked_is

none_of : (n i : ℕ) → get_or (replicate n (let o : Option ℕ = None in o)) i None ≡ None
none_of n i = elim (cases_lt i n) [
  | inl lt ↦ get_or-replicate n i None None lt
  | inr past ↦ get_or_past (replicate n None) i None (omega (arith, length-replicate {A = Option ℕ} n None))
]

-- a new row among usable ones
module _ (rows : RowsOf) (few : AreFew rows) (volume : ℕ) (serial : List ℕ) (row : RowValue) (low : volume < 32) (new : IsNewRow rows serial row) where
  abbrev more : RowsOf
  more = with_row volume row rows

  abbrev half_of : Bool → RowValue → ℕ
  half_of s q = cond s q.second q.first

  no_frame : (p : ℕ) → frame_of row p ≡ None
  no_frame p = ap (λ (r : RowValue). frame_of r p) new.blank ∙ none_of 51 p

  pub few_more : AreFew more
  few_more v = at_row rows volume row (λ w o. (r : RowValue) → o ≡ Some r → w < 32) (λ r at. low) (λ w other r at. few w r at) v

  abbrev Named : ℕ → Bool → ℕ → Type 0
  Named w s n = ((w ≡ volume) × (n ≡ half_of s row)) ⊎ (cartridge_of rows w s ≡ Some n)

  named : (s : Bool) (n w : ℕ) → cartridge_of more w s ≡ Some n → Named w s n
  named s n =
      at_row rows volume row (λ w o. option_map (half_of s) o ≡ Some n → Named w s n)
      (λ is. let e : half_of s row ≡ n = cc in inl (refl, sym e)) (λ w other is. inr is)

  free : (s : Bool) → is_named rows (half_of s row) ≡ true → ⊥
  free false = new.first.free
  free true = new.second.free

  clash : (s : Bool) (w : ℕ) (t : Bool) (n : ℕ) → n ≡ half_of s row → cartridge_of rows w t ≡ Some n → ⊥
  clash s w t n same at = free s (ap (is_named rows) (sym same) ∙ named_from rows w t n (few_halves rows few w t n at) at)

  apart : (s t : Bool) → half_of s row ≡ half_of t row → s ≡ t
  apart false false same = refl
  apart false true same = absurd (new.second.untaken (ap Some same))
  apart true false same = absurd (new.second.untaken (ap Some (sym same)))
  apart true true same = refl

  once : HasCartridgesOnce rows → HasCartridgesOnce more
  once was v w s t n first second = elim (named s n v first) [
    | inl one ↦ elim (named t n w second) [
      | inl two ↦ (one.0 ∙ sym two.0, apart s t (sym one.1 ∙ two.1))
      | inr two ↦ absurd (clash s w t n one.1 two)
    ]
    | inr one ↦ elim (named t n w second) [
      | inl two ↦ absurd (clash t v s n two.1 one)
      | inr two ↦ was v w s t n one two
    ]
  ]

  framed : (v p f : ℕ) → frame_in more v p ≡ Some f → frame_in rows v p ≡ Some f
  framed v p f = at_row rows volume row (λ w o. option_and_then (λ r. frame_of r p) o ≡ Some f → frame_in rows w p ≡ Some f)
      (λ is. let e : ◌≡◌ {A = Option ℕ} None (Some f) = sym (no_frame p) ∙ is in absurd cc) (λ w other is. is) v

  pub more_usable : (frames : ℕ) (asked : ℕ → Option (List ℕ)) → ForSome (asked volume) (λ s. serial ≡ s) → AreUsable frames asked rows → AreUsable frames asked more
  more_usable frames asked spelled was = record {
    cartridges_once = once was.cartridges_once;
    frames_below = λ v p lt f is. was.frames_below v p lt f (framed v p f is);
    frames_once = λ v w p q f p_low q_low first second. was.frames_once v w p q f p_low q_low (framed v p f first) (framed w q f second);
    serials = at_row rows volume row (λ w o. ForSome o (λ r. ForSome (asked w) (λ s. r.serial ≡ s)))
        (λ r at s is. let e : row ≡ r = cc in ap (λ (x : RowValue). x.serial) (sym e ∙ new.blank) ∙ spelled s is) (λ w other. was.serials w);
  }

-- a row with another mark among usable ones
module _ (rows : RowsOf) (few : AreFew rows) (volume : ℕ) (on : Bool) (old : RowValue) (there : rows volume ≡ Some old) where
  abbrev marked_rows : RowsOf
  marked_rows = with_row volume (with_mark on old) rows

  pub few_marked : AreFew marked_rows
  few_marked = at_row rows volume (with_mark on old) (λ w o. (r : RowValue) → o ≡ Some r → w < 32) (λ r at. few volume old there) (λ w other r at. few w r at)

  pub marked_usable : (frames : ℕ) (asked : ℕ → Option (List ℕ)) → AreUsable frames asked rows → AreUsable frames asked marked_rows
  marked_usable frames asked was = record {
    cartridges_once = cartridges_kept rows volume on old there was.cartridges_once;
    frames_below = frames_kept rows volume on old there frames was.frames_below;
    frames_once = frames_apart rows volume on old there was.frames_once;
    serials = at_row rows volume (with_mark on old) (λ w o. ForSome o (λ r. ForSome (asked w) (λ s. r.serial ≡ s)))
        (λ r at s is. let e : with_mark on old ≡ r = cc in ap (λ (x : RowValue). x.serial) (sym e) ∙ was.serials volume old there s is) (λ w other. was.serials w);
  }

-- volumes to be made: their numbers are low, and their serials are asked
abbrev pub AreAsked : (ℕ → Option (List ℕ)) → List OpeningChange → Type 0
AreAsked asked [] = Unit {0}
AreAsked asked (made volume serial ∷ changes) = ((volume < 32) × ForSome (asked volume) (λ s. serial ≡ s)) × AreAsked asked changes
AreAsked asked (marked volume on ∷ changes) = AreAsked asked changes

pub opens_usable : (frames : ℕ) (asked : ℕ → Option (List ℕ)) (changes : List OpeningChange) (rows last : RowsOf) → AreAsked asked changes → AreFew rows → AreUsable frames asked rows → OpensRows changes rows last → AreUsable frames asked last
opens_usable frames asked [] rows last each few was opens = subst (AreUsable frames asked) (sym opens) was
opens_usable frames asked (made volume serial ∷ changes) rows last each few was opens =
    opens_usable frames asked changes (with_row volume opens.0 rows) last each.1 (few_more rows few volume serial opens.0 each.0.0 opens.1.0)
    (more_usable rows few volume serial opens.0 each.0.0 opens.1.0 frames asked each.0.1 was) opens.1.1
opens_usable frames asked (marked volume on ∷ changes) rows last each few was opens =
    let is = opens.1.0 in
    let now : with_row volume (with_mark on is.old) rows ≡ with_row volume opens.0 rows = ap (λ (r : RowValue). with_row volume r rows) (sym is.becomes) in
    opens_usable frames asked changes (with_row volume opens.0 rows) last each (subst AreFew now (few_marked rows few volume on is.old is.there))
    (subst (AreUsable frames asked) now (marked_usable rows few volume on is.old is.there frames asked was)) opens.1.1

-- a configured volume asks for its own serial
abbrev pub AskOwn : (ℕ → Option (List ℕ)) → List VolumeData → Type 0
AskOwn asked vs = AllByRecursion (λ v. (v.0 < 32) × ForSome (asked v.0) (λ s. v.1 ≡ s)) vs

asked_made : (asked : ℕ → Option (List ℕ)) (rows : RowsOf) (vs : List VolumeData) (behind : List OpeningChange) → AskOwn asked vs → AreAsked asked behind → AreAsked asked (to_make rows vs ++ behind)
asked_made asked rows [] behind own rest = rest
asked_made asked rows (v ∷ vs) behind own rest =
    let later = asked_made asked rows vs behind own.1 rest in
    elim (cases_Bool (is_some (rows v.0))) [
      | inl has ↦ subst (λ (xs : List OpeningChange). AreAsked asked (xs ++ behind)) (sym (cond-true _ _ _ has)) later
      | inr none ↦ subst (λ (xs : List OpeningChange). AreAsked asked (xs ++ behind)) (sym (cond-false _ _ _ none)) (own.0, later)
    ]

asked_marks : (asked : ℕ → Option (List ℕ)) (changes : List OpeningChange) → AreMarks changes → AreAsked asked changes
asked_marks asked [] marks = tt
asked_marks asked (made volume serial ∷ changes) marks = absurd marks
asked_marks asked (marked volume on ∷ changes) marks = asked_marks asked changes marks

-- the volumes of a configuration ask for their own serials
past_first : (w : VolumeData) (vs us : List VolumeData) → AllByRecursion (λ u. w.0 < u.0) us → AskOwn (serial_in vs) us → AskOwn (serial_in (w ∷ vs)) us
past_first w vs [] above each = tt
past_first w vs (u ∷ us) above each =
    let off : (u.0 == w.0) ≡ false = ne_eqb u.0 w.0 (λ (e : u.0 ≡ w.0). omega (arith, above.0)) in
    ((each.0.0, λ s is. each.0.1 s (sym (cond-false _ _ _ off) ∙ is)), past_first w vs us above.1 each.1)

pub asks_own : (vs : List VolumeData) → AllByRecursion IsVolume vs → AreRising vs → AskOwn (serial_in vs) vs
asks_own [] good rising = tt
asks_own (v ∷ vs) good rising =
    let above = rising_first v vs rising in
    ((omega (arith, good.0.0), λ s is. let e : Some v.1 ≡ Some s = sym (cond-true _ _ _ (eq-eqb v.0 v.0 refl)) ∙ is in cc), past_first v vs vs above.0 (asks_own vs good.1 above.1))

pub asked_opening : (rows : RowsOf) (vs : List VolumeData) → AllByRecursion IsVolume vs → AreRising vs → AreAsked (serial_in vs) (opening_changes rows vs)
asked_opening rows vs good rising =
    asked_made (serial_in vs) rows vs (to_mark rows vs) (asks_own vs good rising) (asked_marks (serial_in vs) (to_mark rows vs) (to_mark_marks rows vs))

-- the rows of a configuration after the changes
pub usable_for : (config : ConfigData) (before rows : List (Option RowValue)) → IsConfig config → length before ≡ 32 → AreUsable config.frames (serial_in config.volumes) (row_in_list before)
    → OpensRows (opening_changes (row_in_list before) config.volumes) (row_in_list before) (row_in_list rows) → AreUsableFor config (row_in_list rows)
usable_for config before rows good long was opens =
    let asked = serial_in config.volumes in
    record {
      usable = opens_usable config.frames asked (opening_changes (row_in_list before) config.volumes) (row_in_list before) (row_in_list rows)
          (asked_opening (row_in_list before) config.volumes good.volumes_ good.rising)
          (few_listed before long) was opens;
      each = opens_asked config.volumes (row_in_list before) (row_in_list rows) good.rising opens was.serials;
    }

-- the rows after told changes
pub told_opens : (changes : List OpeningChange) (steps : List OpeningStep) (rows last : RowsOf) (before now : ℕ) → AreTold changes steps rows last before now → OpensRows changes rows last
told_opens [] [] rows last before now told = told.0
told_opens [] (x ∷ steps) rows last before now told = absurd told
told_opens (w ∷ changes) [] rows last before now told = absurd told
told_opens (w ∷ changes) (x ∷ steps) rows last before now told = (told.0, (told.1, told_opens changes steps (with_row (volume_of w) told.0 rows) last x.writes now told.4))
