-- Reading one row after another.
use Rattle.std.proofs.Common.{◌≡◌, ℕ, zero, suc, ◌+◌, ◌<◌, ◌≤◌, ◌==◌, nat_lt, inl, inr, true, false, cond, List, length, set, Option, Some, None, Result, Ok, Err, refl, sym, ◌∙◌, ap, subst, arith}
use Rattle.std.specs.Prelude.{is_some}
use Rattle.std.specs.Option.{option_or, ForSome}
use Rattle.std.proofs.lemmas.Bool.{cases_lt, cond-true, cond-false, eq-eqb, ne_eqb, lt-ltb, le-ltb}
use Rattle.std.proofs.lemmas.List.{get_or-set_same, get_or-set_other}
use Rattle.mss_base.specs.Content.{Content}
use Rattle.volume_table.specs.Row.{RowValue}
use Rattle.table_pair.specs.Pair.{RowReading, known, unknown, row_of}
use Rattle.table_pair.specs.Reads.{MissingKeeps}
use Rattle.table_pair.specs.declared.copy.RowRead.{RowRead}
use Rattle.shown_volumes.specs.declared.refused.Refused.{Refused}
use Rattle.shown_volumes.specs.declared.refused.Refused.TheVariants.{Memory}
use Rattle.mss_base.specs.Firsts.{first_below}
use Rattle.shown_volumes.specs.Faults.{serial_fault, read_fault, row_fault}
use Rattle.shown_volumes.specs.Sound.{HasSerialsAsked}
use Rattle.mss_base.proofs.FirstFacts.{none_yet, none_next}
use Rattle.volume_table.specs.Listed.{row_in_list}
use Rattle.mss_restart.specs.Survey.{IsReading, Readings, TellsRow, ReadsVolume, AreKnown, IsAlone, FirstAlone, IsKnown, AreRead, EndsAtRow, ReadsRows, KeepsFirst}
use Rattle.mss_restart.proofs.RowLemmas.{right_reading, since}
use Rattle.mss_restart.proofs.UsableFacts.{row_asked}

pub first_same : {A : Type 0} (n : ℕ) (f g : ℕ → Option A) → ((i : ℕ) → i < n → f i ≡ g i) → first_below n f ≡ first_below n g
unfolding first_below
first_same zero f g same = refl
first_same (suc n) f g same = let before = first_same n f g (λ i lt. same i (omega arith)) in let here = same n (omega arith) in cc

-- the first rows were read, and those behind them weren't yet
pub record SoFar (begun now n : ℕ) (asked : ℕ → Option (List ℕ)) (c : Content) (rows : List (Option RowValue)) (unread : Option ℕ) : Type 0 where
  pub readings : Readings begun now c
  pub rest : (v : ℕ) → n ≤ v → readings.row v ≡ row_of c v
  pub past : (v : ℕ) → n ≤ v → readings.counts v ≡ now
  pub known : (v : ℕ) → v < n → IsKnown (row_in_list rows v) (readings.row v)
  pub none : first_below n (row_fault asked readings.row) ≡ None
  pub alone : FirstAlone n readings.row readings.counts unread

abbrev pub right_readings : (count : ℕ) (c : Content) → Readings count count c
right_readings count c = record { row = row_of c; counts = λ v. count; first = refl; last = refl; each = λ v. right_reading count v c }

-- before the first row
pub none_read : (begun : ℕ) (asked : ℕ → Option (List ℕ)) (c : Content) (rows : List (Option RowValue)) → SoFar begun begun 0 asked c rows None
none_read begun asked c rows = record {
  readings = right_readings begun c;
  rest = λ v le. refl;
  past = λ v le. refl;
  known = λ v lt. absurd (omega arith);
  none = none_yet (row_fault asked (row_of c));
  alone = λ v lt. absurd (omega arith);
}

pub all_read : (begun now : ℕ) (asked : ℕ → Option (List ℕ)) (c : Content) (rows : List (Option RowValue)) (unread : Option ℕ) → SoFar begun now 32 asked c rows unread → AreRead begun now asked c rows unread
all_read begun now asked c rows unread so_far = record { readings = so_far.readings; known = so_far.known; none = so_far.none; alone = so_far.alone }

known_not : (r : RowReading) (o : Option RowValue) → IsKnown o r → r ≡ unknown → ⊥
known_not r o is un = let e = is.1 in cc

module _ (begun mid now n : ℕ) (asked : ℕ → Option (List ℕ)) (c : Content) (rows : List (Option RowValue)) (unread : Option ℕ) (so_far : SoFar begun mid n asked c rows unread) (few : n < 32)
    (result : Result RowRead Refused) (one : ReadsVolume mid now n (asked n) c result) where
  row : ℕ → RowReading
  row v = cond (v == n) one.read (so_far.readings.row v)

  counts : ℕ → ℕ
  counts v = cond (nat_lt n v) now (so_far.readings.counts v)

  row_here : row n ≡ one.read
  unfolding row
  row_here = cond-true _ _ _ (eq-eqb n n refl)

  row_elsewhere : (v : ℕ) → (v ≡ n → ⊥) → row v ≡ so_far.readings.row v
  unfolding row
  row_elsewhere v apart = cond-false _ _ _ (ne_eqb v n apart)

  row_before : (v : ℕ) → v < n → row v ≡ so_far.readings.row v
  row_before v lt = row_elsewhere v (λ e. omega (arith, e, lt))

  row_past : (v : ℕ) → n < v → row v ≡ row_of c v
  row_past v lt = row_elsewhere v (λ e. omega (arith, e, lt)) ∙ so_far.rest v (omega (arith, lt))

  counts_past : (v : ℕ) → n < v → counts v ≡ now
  unfolding counts
  counts_past v lt = cond-true _ _ _ (lt-ltb n v lt)

  counts_before : (v : ℕ) → v ≤ n → counts v ≡ so_far.readings.counts v
  unfolding counts
  counts_before v le = cond-false _ _ _ (le-ltb n v le)

  by_equations : (v x y : ℕ) (r : RowReading) → counts v ≡ x → counts (v + 1) ≡ y → row v ≡ r → IsReading x y v c r → IsReading (counts v) (counts (v + 1)) v c (row v)
  by_equations v x y r from to is reads =
      subst (λ (m : ℕ). IsReading m (counts (v + 1)) v c (row v)) (sym from) (subst (λ (m : ℕ). IsReading x m v c (row v)) (sym to) (subst (λ (q : RowReading). IsReading x y v c q) (sym is) reads))

  each_here : IsReading (counts n) (counts (n + 1)) n c (row n)
  each_here = by_equations n mid now one.read (counts_before n (omega arith) ∙ so_far.past n (omega arith)) (counts_past (n + 1) (omega arith)) row_here one.is

  each : (v : ℕ) → IsReading (counts v) (counts (v + 1)) v c (row v)
  each v = elim (cases_lt v n) [
    | inl lt ↦ by_equations v _ _ _ (counts_before v (omega (arith, lt))) (counts_before (v + 1) (omega (arith, lt))) (row_before v lt) (so_far.readings.each v)
    | inr le ↦ elim (cases_lt n v) [
      | inl past ↦ by_equations v now now (row_of c v) (counts_past v past) (counts_past (v + 1) (omega (arith, past))) (row_past v past) (right_reading now v c)
      | inr ge ↦ let e : n ≡ v = omega (arith, le, ge) in subst (λ (x : ℕ). IsReading (counts x) (counts (x + 1)) x c (row x)) e each_here
    ]
  ]

  abbrev readings : Readings begun now c
  readings = record {
    row = row;
    counts = counts;
    first = counts_before 0 (omega arith) ∙ so_far.readings.first;
    last = counts_past 32 few;
    each = each;
  }

  none_before : first_below n (row_fault asked row) ≡ None
  none_before = first_same n (row_fault asked row) (row_fault asked so_far.readings.row) (λ v lt. ap (read_fault v (asked v)) (row_before v lt)) ∙ so_far.none

  known_before : AreKnown n row
  known_before v lt un = known_not (so_far.readings.row v) (row_in_list rows v) (so_far.known v lt) (sym (row_before v lt) ∙ un)

  -- the walk ends here
  pub row_ends : (e : Refused) → TellsRow n (asked n) one.read (Err e) → EndsAtRow begun now asked c e
  row_ends e tells = record {
    readings = readings;
    volume = n;
    low = few;
    known = known_before;
    none = none_before;
    tells = subst (λ (r : RowReading). TellsRow n (asked n) r (Err e)) (sym row_here) tells;
  }

  -- the walk goes on
  module _ (read : RowRead) (tells : TellsRow n (asked n) one.read (Ok read)) (long : length rows ≡ 32) where
    placed : row_in_list (set rows n read.row) n ≡ read.row
    placed = get_or-set_same rows n read.row None (omega (arith, few, long))

    known_now : (v : ℕ) → v < n + 1 → IsKnown (row_in_list (set rows n read.row) v) (row v)
    known_now v lt = elim (cases_lt v n) [
      | inl less ↦
          let was = so_far.known v less in
          let same : row_in_list (set rows n read.row) v ≡ row_in_list rows v = get_or-set_other rows n v read.row None (λ e. omega (arith, e, less)) in
          (was.0, row_before v less ∙ was.1 ∙ ap (λ (o : Option RowValue). known o was.0) (sym same))
      | inr le ↦
          let e : n ≡ v = omega (arith, le, lt) in
          subst (λ (x : ℕ). IsKnown (row_in_list (set rows n read.row) x) (row x)) e (is_some read.unread, row_here ∙ tells.0 ∙ ap (λ (o : Option RowValue). known o (is_some read.unread)) (sym placed))
    ]

    alone_same : (v : ℕ) → v < n → IsAlone (row v) → IsAlone (so_far.readings.row v)
    alone_same v lt is = (is.0, sym (row_before v lt) ∙ is.1)

    alone_on : (u o : Option ℕ) → FirstAlone n so_far.readings.row so_far.readings.counts u → one.read ≡ known read.row (is_some o) → MissingKeeps mid now o → FirstAlone (n + 1) row counts (option_or u o)
    alone_on None None before here keeps = λ v lt is. elim (cases_lt v n) [
      | inl less ↦ before v less (alone_same v less is)
      | inr le ↦ (let e : v ≡ n = omega (arith, le, lt) in let there : known read.row false ≡ known is.0 true = sym here ∙ sym row_here ∙ ap row (sym e) ∙ is.1 in cc)
    ]
    alone_on None (Some f) before here keeps = record {
      volume = n;
      low = omega arith;
      alone = (read.row, row_here ∙ here);
      lowest = λ v lt is. before v lt (alone_same v lt is);
      count_ = keeps.count ∙ sym (counts_past (n + 1) (omega arith));
    }
    alone_on (Some f) o before here keeps =
        let low : before.volume < n = before.low in
        record {
          volume = before.volume;
          low = omega (arith, low);
          alone = (before.alone.0, row_before before.volume low ∙ before.alone.1);
          lowest = λ v lt is. before.lowest v lt (alone_same v (omega (arith, lt, low)) is);
          count_ = before.count_ ∙ sym (counts_before (before.volume + 1) (omega (arith, low)));
        }

    pub row_read : MissingKeeps mid now read.unread → SoFar begun now (n + 1) asked c (set rows n read.row) (option_or unread read.unread)
    row_read keeps = record {
      readings = readings;
      rest = λ v le. row_past v (omega (arith, le));
      past = λ v le. counts_past v (omega (arith, le));
      known = known_now;
      none = none_next n (row_fault asked row) none_before (ap (read_fault n (asked n)) row_here ∙ tells.1);
      alone = alone_on unread read.unread so_far.alone tells.0 keeps;
    }

pub rows_end : (begun now : ℕ) (asked : ℕ → Option (List ℕ)) (c : Content) (e : Refused) → EndsAtRow begun now asked c e → ReadsRows begun now asked c (Err e)
rows_end begun now asked c Memory ends = tt
rows_end begun now asked c e ends = ends

-- the same reading, of the volume and the content by other names
pub named : (mid now v n : ℕ) (a b : Option (List ℕ)) (c d : Content) (result : Result RowRead Refused) → v ≡ n → a ≡ b → c ≡ d → ReadsVolume mid now v a c result → ReadsVolume mid now n b d result
named mid now v n a b c d result same asked told reads =
    subst (λ (x : ℕ). ReadsVolume mid now x b d result) same (subst (λ (o : Option (List ℕ)). ReadsVolume mid now v o d result) asked (subst (λ (k : Content). ReadsVolume mid now v a k result) told reads))

-- the first count that is kept stays
pub first_kept : (begun mid now : ℕ) (a b : Option ℕ) → KeepsFirst begun mid a → begun ≤ mid → mid ≤ now → MissingKeeps mid now b → KeepsFirst begun now (option_or a b)
first_kept begun mid now None None before start end keeps = keeps ∙ before
first_kept begun mid now None (Some f) before start end keeps = let same : f ≡ now = keeps.count in let rise = since begun mid now f start keeps in record { rises = omega (arith, same, rise.rises); past = omega (arith, same) }
first_kept begun mid now (Some f) b before start end keeps = record { rises = before.rises; past = omega (arith, before.past, end) }

-- one row more, whose serial is no fault
pub serials_on : (asked : ℕ → Option (List ℕ)) (rows : List (Option RowValue)) (n : ℕ) (o : Option RowValue) → length rows ≡ 32 → n < 32 → HasSerialsAsked asked (row_in_list rows) → serial_fault n o (asked n) ≡ None → HasSerialsAsked asked (row_in_list (set rows n o))
serials_on asked rows n o long few before none v = elim (cases_lt v n) [
  | inl less ↦ stays (λ e. omega (arith, e, less))
  | inr le ↦ elim (cases_lt n v) [
    | inl past ↦ stays (λ e. omega (arith, e, past))
    | inr ge ↦
        let e : n ≡ v = omega (arith, le, ge) in
        let here : row_in_list (set rows n o) n ≡ o = get_or-set_same rows n o None (omega (arith, few, long)) in
        subst (λ (x : ℕ). ForSome (row_in_list (set rows n o) x) (λ r. ForSome (asked x) (λ s. r.serial ≡ s))) e
        (subst (λ (x : Option RowValue). ForSome x (λ r. ForSome (asked n) (λ s. r.serial ≡ s))) (sym here) (row_asked n o (asked n) none))
  ]
] where
  stays : (v ≡ n → ⊥) → ForSome (row_in_list (set rows n o) v) (λ r. ForSome (asked v) (λ s. r.serial ≡ s))
  stays apart = subst (λ (x : Option RowValue). ForSome x (λ r. ForSome (asked v) (λ s. r.serial ≡ s))) (sym (get_or-set_other rows n v o None apart)) (before v)

pub no_serials : (asked : ℕ → Option (List ℕ)) (rows : List (Option RowValue)) → ((v : ℕ) → row_in_list rows v ≡ None) → HasSerialsAsked asked (row_in_list rows)
no_serials asked rows none v r at = let e : ◌≡◌ {A = Option RowValue} None (Some r) = sym (none v) ∙ at in absurd cc
