-- The rows after all opening changes: those from before stay but for their marks, and each volume that is asked for has one.
use Rattle.std.proofs.Common.{◌≡◌, inl, inr, ℕ, ◌<◌, ◌==◌, Bool, true, false, not, cond, ◌++◌, List, [], ◌∷◌, Option, Some, None, refl, sym, ◌∙◌, ap, subst, arith}
use Rattle.std.specs.Prelude.{is_some, IsSome}
use Rattle.std.specs.List.{AllByRecursion}
use Rattle.std.proofs.lemmas.Bool.{cases_Bool, cond_both, cond-true, cond-false, ne_eqb, eqb-true, eq-eqb}
use Rattle.mss_base.specs.Configs.{VolumeData}
use Rattle.mss_base.specs.Configs.{serial_in, marked_in}
use Rattle.volume_table.specs.Row.{RowValue}
use Rattle.shown_volumes.specs.Shown.{RowsOf}
use Rattle.shown_volumes.specs.Sound.{HasSerialsAsked}
use Rattle.shown_volumes.specs.Changing.{with_row}
use Rattle.volume_table.specs.Changes.{with_mark}
use Rattle.shown_volumes.specs.Shown.{is_marked}
use Rattle.mss_restart.specs.Opening.{OpeningChange, made, marked, volume_of, to_make, to_mark, is_marked_as, opening_changes, OpensRows}
use Rattle.mss_restart.specs.Usable.{HasRowWith}
use Rattle.mss_restart.proofs.Creating.{AreRising, rising_first, to_make_past}

some_is : (o : Option RowValue) → is_some o ≡ true → (r : RowValue) × (o ≡ Some r)
some_is None is = absurd cc
some_is (Some r) is = (r, refl)

module _ (w : VolumeData) (vs : List VolumeData) (start last : RowsOf) (created : OpensRows (to_make start (w ∷ vs)) start last) where
  goes_past : is_some (start w.0) ≡ true → OpensRows (to_make start vs) start last
  goes_past has = subst (λ (xs : List OpeningChange). OpensRows xs start last) (cond-true _ _ _ has) created

  goes_with : is_some (start w.0) ≡ false → OpensRows (made w.0 w.1 ∷ to_make start vs) start last
  goes_with none = subst (λ (xs : List OpeningChange). OpensRows xs start last) (cond-false _ _ _ none) created

  goes_on : (row : RowValue) → AllByRecursion (λ x. w.0 < x.0) vs → OpensRows (to_make start vs) (with_row w.0 row start) last → OpensRows (to_make (with_row w.0 row start) vs) (with_row w.0 row start) last
  goes_on row above rest = subst (λ (xs : List OpeningChange). OpensRows xs (with_row w.0 row start) last) (sym (to_make_past w.0 row start vs above)) rest

pub creates_kept : (vs : List VolumeData) (start last : RowsOf) → AreRising vs → OpensRows (to_make start vs) start last → (v : ℕ) (row : RowValue) → start v ≡ Some row → last v ≡ Some row
creates_kept [] start last rising created v row at = ap (λ (r : RowsOf). r v) created ∙ at
creates_kept (w ∷ vs) start last rising created v row at =
    let above = rising_first w vs rising in
    elim (cases_Bool (is_some (start w.0))) [
      | inl has ↦ creates_kept vs start last above.1 (goes_past w vs start last created has) v row at
      | inr none ↦
          let one = goes_with w vs start last created none in
          creates_kept vs (with_row w.0 one.0 start) last above.1 (goes_on w vs start last created one.0 above.0 one.1.1) v row (elim (cases_Bool (v == w.0)) [
            | inl same ↦ let e : is_some (start w.0) ≡ true = ap (λ (n : ℕ). is_some (start n)) (sym (eqb-true v w.0 same)) ∙ ap (λ (o : Option RowValue). is_some o) at in absurd cc
            | inr other ↦ cond-false _ _ _ other ∙ at
          ])
    ]

pub serial_above : (n : ℕ) (vs : List VolumeData) → AllByRecursion (λ w. n < w.0) vs → (u : ℕ) (s : List ℕ) → serial_in vs u ≡ Some s → n < u
serial_above n [] above u s is = absurd cc
serial_above n (w ∷ vs) above u s is = elim (cases_Bool (u == w.0)) [
  | inl same ↦ let e = eqb-true u w.0 same in omega (arith, e, above.0)
  | inr other ↦ serial_above n vs above.1 u s (sym (cond-false _ _ _ other) ∙ is)
]

-- a later volume's serial is asked in the whole list too
asked_too : (w : VolumeData) (vs : List VolumeData) → AllByRecursion (λ x. w.0 < x.0) vs → (u : ℕ) (s : List ℕ) → serial_in vs u ≡ Some s → ((u == w.0) ≡ false) × (serial_in (w ∷ vs) u ≡ Some s)
asked_too w vs above u s is =
    let off : (u == w.0) ≡ false = ne_eqb u w.0 (λ (e : u ≡ w.0). (let past = serial_above w.0 vs above u s is in omega arith)) in
    (off, cond-false _ _ _ off ∙ is)

pub creates_asked : (vs : List VolumeData) (start last : RowsOf) → AreRising vs → HasSerialsAsked (serial_in vs) start → OpensRows (to_make start vs) start last → (v : ℕ) (serial : List ℕ) → serial_in vs v ≡ Some serial → HasRowWith last v serial
creates_asked [] start last rising asked created v serial is = absurd cc
creates_asked (w ∷ vs) start last rising asked created v serial is =
    let above = rising_first w vs rising in
    let first : serial_in (w ∷ vs) w.0 ≡ Some w.1 = cond-true _ _ _ (eq-eqb w.0 w.0 refl) in
    let here : v ≡ w.0 → HasRowWith last w.0 w.1 → HasRowWith last v serial =
    λ e has. (let e_serial : Some w.1 ≡ Some serial = sym first ∙ ap (serial_in (w ∷ vs)) (sym e) ∙ is in
    let same : w.1 ≡ serial = cc in
    subst (λ (n : ℕ). HasRowWith last n serial) (sym e) (subst (λ (s : List ℕ). HasRowWith last w.0 s) same has)) in
    elim (cases_Bool (is_some (start w.0))) [
      | inl has ↦ elim (cases_Bool (v == w.0)) [
        | inl same ↦
            let there = some_is (start w.0) has in
            here (eqb-true v w.0 same) (record { row = there.0; there = creates_kept (w ∷ vs) start last rising created w.0 there.0 there.1; same = asked w.0 there.0 there.1 w.1 first })
        | inr other ↦
            creates_asked vs start last above.1 (λ u r at s spelled. asked u r at s (asked_too w vs above.0 u s spelled).1) (goes_past w vs start last created has) v serial (sym (cond-false _ _ _ other) ∙ is)
      ]
      | inr none ↦
          let one = goes_with w vs start last created none in
          let rest = goes_on w vs start last created one.0 above.0 one.1.1 in
          elim (cases_Bool (v == w.0)) [
            | inl same ↦
                here (eqb-true v w.0 same) (record {
                  row = one.0;
                  there = creates_kept vs (with_row w.0 one.0 start) last above.1 rest w.0 one.0 (cond-true _ _ _ (eq-eqb w.0 w.0 refl));
                  same = ap (λ (r : RowValue). r.serial) one.1.0.blank;
                })
            | inr other ↦
                creates_asked vs (with_row w.0 one.0 start) last above.1
                (λ u r at s spelled. (let late = asked_too w vs above.0 u s spelled in asked u r (sym (cond-false _ _ _ late.0) ∙ at) s late.1)) rest v serial (sym (cond-false _ _ _ other) ∙ is)
          ]
    ]

-- each of the volumes has a row
pub creates_all : (vs : List VolumeData) (start last : RowsOf) → AreRising vs → OpensRows (to_make start vs) start last → AllByRecursion (λ v. IsSome (last v.0)) vs
creates_all [] start last rising created = tt
creates_all (w ∷ vs) start last rising created =
    let above = rising_first w vs rising in
    elim (cases_Bool (is_some (start w.0))) [
      | inl has ↦
          let there = some_is (start w.0) has in
          (ap (λ (o : Option RowValue). is_some o) (creates_kept (w ∷ vs) start last rising created w.0 there.0 there.1), creates_all vs start last above.1 (goes_past w vs start last created has))
      | inr none ↦
          let one = goes_with w vs start last created none in
          let rest = goes_on w vs start last created one.0 above.0 one.1.1 in (
            ap (λ (o : Option RowValue). is_some o) (creates_kept vs (with_row w.0 one.0 start) last above.1 rest w.0 one.0 (cond-true _ _ _ (eq-eqb w.0 w.0 refl))),
            creates_all vs (with_row w.0 one.0 start) last above.1 rest,
          )
    ]

unmarked_none : (o : Option RowValue) → is_some o ≡ false → is_marked o ≡ false
unmarked_none None none = refl
unmarked_none (Some r) none = absurd cc

-- a new volume has no mark, and no other volume gets one
pub creates_marks : (vs : List VolumeData) (start last : RowsOf) → AreRising vs → OpensRows (to_make start vs) start last → (v : ℕ) → is_marked (last v) ≡ is_marked (start v)
creates_marks [] start last rising created v = ap (λ (r : RowsOf). is_marked (r v)) created
creates_marks (w ∷ vs) start last rising created v =
    let above = rising_first w vs rising in
    elim (cases_Bool (is_some (start w.0))) [
      | inl has ↦ creates_marks vs start last above.1 (goes_past w vs start last created has) v
      | inr none ↦
          let one = goes_with w vs start last created none in
          creates_marks vs (with_row w.0 one.0 start) last above.1 (goes_on w vs start last created one.0 above.0 one.1.1) v
          ∙ elim (cases_Bool (v == w.0)) [
            | inl same ↦
                ap is_marked (cond-true _ _ _ same) ∙ ap (λ (r : RowValue). r.read_only) one.1.0.blank
                ∙ sym (ap (λ (n : ℕ). is_marked (start n)) (eqb-true v w.0 same) ∙ unmarked_none (start w.0) none)
            | inr other ↦ ap is_marked (cond-false _ _ _ other)
          ]
    ]

marked_as_same : (asked : Bool) (a b : Option RowValue) → is_marked a ≡ is_marked b → is_marked_as asked a ≡ is_marked_as asked b
marked_as_same true a b same = same
marked_as_same false a b same = ap not same

-- so the marks to be changed are the same behind it
pub to_mark_same : (a b : RowsOf) (vs : List VolumeData) → ((v : ℕ) → is_marked (a v) ≡ is_marked (b v)) → to_mark a vs ≡ to_mark b vs
to_mark_same a b [] same = refl
to_mark_same a b (w ∷ vs) same =
    let here = marked_as_same w.2 (a w.0) (b w.0) (same w.0) in
    let later = to_mark_same a b vs same in
    (λ i. cond (here i) (later i) (marked w.0 w.2 ∷ later i))

not_true : (b : Bool) → not b ≡ true → b ≡ false
not_true true is = absurd cc
not_true false is = refl

has_marked_as : (asked : Bool) (o : Option RowValue) → is_marked_as asked o ≡ true → is_marked o ≡ asked
has_marked_as true o is = is
has_marked_as false o is = not_true (is_marked o) is

-- the marks of later volumes leave an earlier one
marks_other : (n : ℕ) (vs : List VolumeData) (rows mid last : RowsOf) → AllByRecursion (λ w. n < w.0) vs → OpensRows (to_mark rows vs) mid last → last n ≡ mid n
marks_other n [] rows mid last above opens = ap (λ (r : RowsOf). r n) opens
marks_other n (w ∷ vs) rows mid last above opens = elim (cases_Bool (is_marked_as w.2 (rows w.0))) [
  | inl has ↦ marks_other n vs rows mid last above.1 (subst (λ (xs : List OpeningChange). OpensRows xs mid last) (cond-true _ _ _ has) opens)
  | inr other ↦
      let one = subst (λ (xs : List OpeningChange). OpensRows xs mid last) (cond-false _ _ _ other) opens in
      marks_other n vs rows (with_row w.0 one.0 mid) last above.1 one.1.1
      ∙ cond-false _ _ _ (ne_eqb n w.0 (λ (e : n ≡ w.0). (let past = above.0 in omega (arith, past, e))))
]

-- of these volumes the rows have the marks that others have
abbrev AreMarkedAlike : RowsOf → RowsOf → List VolumeData → Type 0
AreMarkedAlike a b vs = AllByRecursion (λ v. is_marked (a v.0) ≡ is_marked (b v.0)) vs

alike_past : (n : ℕ) (row : RowValue) (a b : RowsOf) (vs : List VolumeData) → AllByRecursion (λ w. n < w.0) vs → AreMarkedAlike a b vs → AreMarkedAlike (with_row n row a) b vs
alike_past n row a b [] above alike = tt
alike_past n row a b (w ∷ vs) above alike = (
  ap is_marked (cond-false _ _ _ (ne_eqb w.0 n (λ (e : w.0 ≡ n). (let past = above.0 in omega (arith, past, e))))) ∙ alike.0,
  alike_past n row a b vs above.1 alike.1,
)

alike_all : (a b : RowsOf) (vs : List VolumeData) → ((v : ℕ) → is_marked (a v) ≡ is_marked (b v)) → AreMarkedAlike a b vs
alike_all a b [] each = tt
alike_all a b (w ∷ vs) each = (each w.0, alike_all a b vs each)

-- each of the volumes gets the mark that is asked for
marks_done : (vs : List VolumeData) (rows mid last : RowsOf) → AreRising vs → AreMarkedAlike mid rows vs → OpensRows (to_mark rows vs) mid last → (v : ℕ) (serial : List ℕ) → serial_in vs v ≡ Some serial → is_marked (last v) ≡ marked_in vs v
marks_done [] rows mid last rising alike opens v serial is = absurd cc
marks_done (w ∷ vs) rows mid last rising alike opens v serial is =
    let above = rising_first w vs rising in
    let skips : is_marked_as w.2 (rows w.0) ≡ true → OpensRows (to_mark rows vs) mid last = λ has. subst (λ (xs : List OpeningChange). OpensRows xs mid last) (cond-true _ _ _ has) opens in
    let goes : is_marked_as w.2 (rows w.0) ≡ false → OpensRows (marked w.0 w.2 ∷ to_mark rows vs) mid last = λ other. subst (λ (xs : List OpeningChange). OpensRows xs mid last) (cond-false _ _ _ other) opens in
    elim (cases_Bool (v == w.0)) [
      | inl same ↦
          let e : v ≡ w.0 = eqb-true v w.0 same in
          let asked : marked_in (w ∷ vs) v ≡ w.2 = cond-true _ _ _ same in
          ap (λ (n : ℕ). is_marked (last n)) e
          ∙ elim (cases_Bool (is_marked_as w.2 (rows w.0))) [
            | inl has ↦ ap is_marked (marks_other w.0 vs rows mid last above.0 (skips has)) ∙ alike.0 ∙ has_marked_as w.2 (rows w.0) has
            | inr other ↦
                let one = goes other in
                ap is_marked (marks_other w.0 vs rows (with_row w.0 one.0 mid) last above.0 one.1.1 ∙ cond-true _ _ _ (eq-eqb w.0 w.0 refl))
                ∙ ap (λ (r : RowValue). r.read_only) one.1.0.becomes
          ]
          ∙ sym asked
      | inr off ↦
          let later : serial_in vs v ≡ Some serial = sym (cond-false _ _ _ off) ∙ is in
          elim (cases_Bool (is_marked_as w.2 (rows w.0))) [
            | inl has ↦ marks_done vs rows mid last above.1 alike.1 (skips has) v serial later
            | inr other ↦
                let one = goes other in
                marks_done vs rows (with_row w.0 one.0 mid) last above.1 (alike_past w.0 one.0 mid rows vs above.0 alike.1) one.1.1 v serial later
          ]
          ∙ sym (cond-false _ _ _ off)
    ]

-- ---- changes of marks alone

abbrev pub AreMarks : List OpeningChange → Type 0
AreMarks [] = Unit {0}
AreMarks (made volume serial ∷ changes) = ⊥
AreMarks (marked volume on ∷ changes) = AreMarks changes

pub to_mark_marks : (rows : RowsOf) (vs : List VolumeData) → AreMarks (to_mark rows vs)
to_mark_marks rows [] = tt
to_mark_marks rows (w ∷ vs) =
    cond_both (is_marked_as w.2 (rows w.0)) (to_mark rows vs) (marked w.0 w.2 ∷ to_mark rows vs) AreMarks (λ _. to_mark_marks rows vs) (λ _. to_mark_marks rows vs)

-- they keep all of each row but its mark
pub marks_kept : (changes : List OpeningChange) → AreMarks changes → (start last : RowsOf) → OpensRows changes start last → (v : ℕ) (row : RowValue) → start v ≡ Some row → (on : Bool) × (last v ≡ Some (with_mark on row))
marks_kept [] marks start last opens v row at = (row.read_only, ap (λ (r : RowsOf). r v) opens ∙ at)
marks_kept (made volume serial ∷ changes) marks start last opens v row at = absurd marks
marks_kept (marked volume on ∷ changes) marks start last opens v row at = elim (cases_Bool (v == volume)) [
  | inl same ↦
      let e : ◌≡◌ {A = Option RowValue} (Some opens.1.0.old) (Some row) = sym opens.1.0.there ∙ ap start (sym (eqb-true v volume same)) ∙ at in
      let old : opens.1.0.old ≡ row = cc in
      let rest = marks_kept changes marks (with_row volume opens.0 start) last opens.1.1 v opens.0 (cond-true _ _ _ same) in
      (rest.0, rest.1 ∙ ap (λ (r : RowValue). Some (with_mark rest.0 r)) (opens.1.0.becomes ∙ ap (with_mark on) old))
  | inr other ↦ marks_kept changes marks (with_row volume opens.0 start) last opens.1.1 v row (cond-false _ _ _ other ∙ at)
]

-- ---- both

pub opens_split : (xs ys : List OpeningChange) (start last : RowsOf) → OpensRows (xs ++ ys) start last → (mid : RowsOf) × OpensRows xs start mid × OpensRows ys mid last
opens_split [] ys start last opens = (start, refl, opens)
opens_split (x ∷ xs) ys start last opens =
    let rest = opens_split xs ys (with_row (volume_of x) opens.0 start) last opens.1.1 in
    (rest.0, (opens.0, (opens.1.0, rest.1)), rest.2)

module _ (vs : List VolumeData) (start last : RowsOf) (rising : AreRising vs) (opens : OpensRows (opening_changes start vs) start last) where
  parts : (mid : RowsOf) × OpensRows (to_make start vs) start mid × OpensRows (to_mark start vs) mid last
  parts = opens_split (to_make start vs) (to_mark start vs) start last opens

  pub opens_kept : (v : ℕ) (row : RowValue) → start v ≡ Some row → (on : Bool) × (last v ≡ Some (with_mark on row))
  opens_kept v row at = marks_kept (to_mark start vs) (to_mark_marks start vs) parts.0 last parts.2 v row (creates_kept vs start parts.0 rising parts.1 v row at)

  pub opens_asked : HasSerialsAsked (serial_in vs) start → (v : ℕ) (serial : List ℕ) → serial_in vs v ≡ Some serial → HasRowWith last v serial
  opens_asked asked v serial is =
      let has = creates_asked vs start parts.0 rising asked parts.1 v serial is in
      let now = marks_kept (to_mark start vs) (to_mark_marks start vs) parts.0 last parts.2 v has.row has.there in
      record { row = with_mark now.0 has.row; there = now.1; same = has.same }

  pub opens_marked : (v : ℕ) (serial : List ℕ) → serial_in vs v ≡ Some serial → is_marked (last v) ≡ marked_in vs v
  opens_marked v serial is = marks_done vs start parts.0 last rising (alike_all parts.0 start vs (creates_marks vs start parts.0 rising parts.1)) parts.2 v serial is
