-- What a survey answers: of rows as they were read, and without a failed read.
use Rattle.std.proofs.Common.{◌≡◌, ℕ, zero, suc, ◌+◌, ◌-◌, ◌<◌, ◌≤◌, inl, inr, List, length, Option, Some, None, Result, Ok, Err, refl, sym, ◌∙◌, ap, subst, arith}
use Rattle.std.proofs.lemmas.Bool.{cases_lt, cond-true, cond-false, lt-ltb, le-ltb}
use Rattle.std.proofs.lemmas.List.{get_or_past}
use Rattle.mss_base.specs.Content.{Content}
use Rattle.mss_base.specs.Counts.{IsFaultSince}
use Rattle.mss_base.specs.declared.place.UnitNo.TheVariants.{TableA, TableB}
use Rattle.mss_base.specs.Configs.{VolumeData, serial_in}
use Rattle.volume_table.specs.Row.{RowValue}
use Rattle.table_pair.specs.Pair.{CopyRead, RowReading, reading, row_of}
use Rattle.table_pair.specs.Reads.{IsReadOf}
use Rattle.shown_volumes.specs.declared.refused.Refused.{Refused}
use Rattle.shown_volumes.specs.declared.refused.Refused.TheVariants.{RowUnread, Stopped, Memory}
use Rattle.shown_volumes.specs.Shown.{RowsOf, told_row, rows_in, rows_of}
use Rattle.mss_base.specs.Firsts.{◌or◌, first_below}
use Rattle.shown_volumes.specs.Faults.{read_fault, row_fault, halves_fault, pages_fault, tracks_fault, first_fault_of, first_fault}
use Rattle.shown_volumes.proofs.FaultFacts.{row_in}
use Rattle.mss_base.proofs.FirstFacts.{none_below, found_first, or_first, or_none}
use Rattle.volume_table.specs.Listed.{row_in_list}
use Rattle.mss_restart.specs.Walks.{rest_fault}
use Rattle.mss_restart.specs.Survey.{FindsFault, KeepsFault, CountsCause, CountsSince, IsReading, Readings, TellsRow, AreKnown, IsKnown, IsFirstUnread, AreBehindFaults, AreFaultless, AreRead, EndsAtRow, ReadsRows, StandApart, StopsBehind, SurveyTells, Surveys, IsExact}
use Rattle.mss_restart.proofs.ReadRows.{first_same, right_readings}

module _ (frames : ℕ) (asked : ℕ → Option (List ℕ)) (readings : ℕ → RowReading) (c : Content) where
  abbrev pub row_walk : Option Refused
  row_walk = first_below 32 (row_fault asked readings)

  pub is_rest : first_fault_of frames asked readings c ≡ (row_walk or rest_fault frames (rows_in readings) c)
  unfolding first_fault_of
  is_rest = refl

  at_row : (e : Refused) → row_walk ≡ Some e → first_fault_of frames asked readings c ≡ Some e
  at_row e is = is_rest ∙ or_first row_walk (rest_fault frames (rows_in readings) c) e is

  pub behind : (o : Option Refused) → row_walk ≡ None → rest_fault frames (rows_in readings) c ≡ o → first_fault_of frames asked readings c ≡ o
  behind o none is = is_rest ∙ ap (λ x. x or rest_fault frames (rows_in readings) c) none ∙ is

  -- without a fault the rows stand apart
  pub none_apart : first_fault_of frames asked readings c ≡ None → StandApart frames (rows_in readings)
  none_apart none =
      let halves = first_below 32 (halves_fault (rows_in readings)) in
      let pages = first_below 32 (pages_fault frames (rows_in readings)) in
      let tracks = first_below 32 (tracks_fault (rows_in readings) c) in
      let rest = or_none row_walk (rest_fault frames (rows_in readings) c) (sym is_rest ∙ none) in
      let behind_halves = or_none halves (pages or tracks) rest.1 in
      record { halves = behind_halves.0; pages = (or_none pages tracks behind_halves.1).0 }

  -- a fault behind the walk over the rows
  tells_rest : AreFaultless asked readings → (e : Refused) (part : Option Refused) → StopsBehind frames (rows_in readings) e → FindsFault e part → (part ≡ Some e → first_fault_of frames asked readings c ≡ Some e) → SurveyTells frames asked readings c (Err e)
  tells_rest good (RowUnread v f) part apart found more = absurd found
  tells_rest good (Stopped f) part apart found more = (good, apart)
  tells_rest good Memory part apart found more = tt
  tells_rest good e part apart found more = (λ v low un. absurd (good.known v low un), more (found refl))

  -- a row at fault behind rows that are known
  behind_fault : (volume : ℕ) (e : Refused) → AreKnown volume readings → read_fault volume (asked volume) (readings volume) ≡ Some e → AreBehindFaults asked readings
  behind_fault volume e seen is v low un none = elim (cases_lt v volume) [
    | inl lt ↦ seen v lt un
    | inr le ↦ elim (cases_lt volume v) [
      | inl past ↦ let at : row_fault asked readings volume ≡ None = none_below v (row_fault asked readings) none volume past in let no : ◌≡◌ {A = Option Refused} None (Some e) = sym at ∙ is in absurd cc
      | inr ge ↦
          let same : volume ≡ v = omega (arith, le, ge) in
          let no : ◌≡◌ {A = Option Refused} None (Some e) = ap (read_fault volume (asked volume)) (sym (ap readings same ∙ un)) ∙ is in absurd cc
    ]
  ]

  tells_row : (volume : ℕ) (e : Refused) → volume < 32 → AreKnown volume readings → first_below volume (row_fault asked readings) ≡ None → TellsRow volume (asked volume) (readings volume) (Err e) → SurveyTells frames asked readings c (Err e)
  tells_row volume (RowUnread v f) low seen none tells =
      subst (IsFirstUnread asked readings) (sym tells.0) (record { low = low; unread = tells.1; known = seen; none = none })
  tells_row volume (Stopped f) low seen none tells = absurd tells
  tells_row volume Memory low seen none tells = tt
  tells_row volume e low seen none tells = (behind_fault volume e seen (tells refl), at_row e (found_first 32 (row_fault asked readings) volume e low none (tells refl)))

row_counts : (volume : ℕ) (asked : Option (List ℕ)) (r : RowReading) (now : ℕ) (e : Refused) → TellsRow volume asked r (Err e) → CountsSince now now (Err e)
row_counts volume asked r now (Stopped f) tells = absurd tells
row_counts volume asked r now Memory tells = omega arith
row_counts volume asked r now _ tells = refl

-- the walk over the rows ended at one of them
pub row_survey : (before now frames : ℕ) (asked : ℕ → Option (List ℕ)) (c : Content) (e : Refused) → EndsAtRow before now asked c e → Surveys before now frames asked c (Err e)
row_survey before now frames asked c e ends = record {
  mid = now;
  readings = ends.readings;
  tells = tells_row frames asked ends.readings.row c ends.volume e ends.low ends.known ends.none ends.tells;
  counts = row_counts ends.volume (asked ends.volume) (ends.readings.row ends.volume) now e ends.tells;
}

rest_counts : (mid now : ℕ) (e : Refused) (found : Option Refused) → FindsFault e found → CountsCause mid now e → CountsSince mid now (Err e)
rest_counts mid now (RowUnread v f) found finds counts = absurd finds
rest_counts mid now (Stopped f) found finds counts = counts
rest_counts mid now Memory found finds counts = omega (arith, counts)
rest_counts mid now _ found finds counts = counts

-- of known rows nothing is unknown
pub are_known : (rows : List (Option RowValue)) (row : ℕ → RowReading) → ((v : ℕ) → v < 32 → IsKnown (row_in_list rows v) (row v)) → AreKnown 32 row
are_known rows row each v low un = let is = (each v low).1 in cc

module _ (before mid now frames : ℕ) (asked : ℕ → Option (List ℕ)) (c : Content) (rows : List (Option RowValue)) (unread : Option ℕ) (read : AreRead before mid asked c rows unread) (long : length rows ≡ 32) where
  listed_at : (v : ℕ) → row_in_list rows v ≡ rows_in read.readings.row v
  listed_at v = elim (cases_lt v 32) [
    | inl low ↦ let row = read.known v low in sym (ap told_row row.1) ∙ sym (cond-true _ _ _ (lt-ltb v 32 low))
    | inr past ↦ get_or_past rows v None (omega (arith, long, past)) ∙ sym (cond-false _ _ _ (le-ltb v 32 past))
  ]

  pub listed_is : row_in_list rows ≡ rows_in read.readings.row
  listed_is = λ i v. listed_at v i

  pub faultless_rows : AreFaultless asked read.readings.row
  faultless_rows = record { known = are_known rows read.readings.row read.known; none = read.none }

  pub later_rows : now ≡ mid → AreRead before now asked c rows unread
  later_rows same = subst (λ (n : ℕ). AreRead before n asked c rows unread) (sym same) read

  rest : (o : Option Refused) → rest_fault frames (row_in_list rows) c ≡ o → first_fault_of frames asked read.readings.row c ≡ o
  rest o is = behind frames asked read.readings.row c o read.none (ap (λ (x : RowsOf). rest_fault frames x c) (sym listed_is) ∙ is)

  pub good_survey : now ≡ mid → rest_fault frames (row_in_list rows) c ≡ None → Surveys before now frames asked c (Ok rows)
  good_survey same none = record { mid = mid; readings = read.readings; tells = (faultless_rows, listed_is, rest None none); counts = same }

  pub bad_survey : (e : Refused) → StopsBehind frames (row_in_list rows) e → FindsFault e (rest_fault frames (row_in_list rows) c) → CountsCause mid now e → Surveys before now frames asked c (Err e)
  bad_survey e apart found counts = record {
    mid = mid;
    readings = read.readings;
    tells = tells_rest frames asked read.readings.row c faultless_rows e (rest_fault frames (row_in_list rows) c) (subst (λ (x : RowsOf). StopsBehind frames x e) listed_is apart) found (rest (Some e));
    counts = rest_counts mid now e (rest_fault frames (row_in_list rows) c) found counts;
  }

abbrev most : ℕ
most = 18446744073709551615

-- a count that is at least so much stays so
read_keeps : (base before now : ℕ) (block : List ℕ) (r : CopyRead) → base ≤ most → base ≤ before → IsReadOf before now block r → base ≤ now
read_keeps base before now block r low from read = elim read [ inl failed ↦ omega (arith, low, from, failed.1) | inr told ↦ omega (arith, from, told.1) ]

reading_keeps : (base before now volume : ℕ) (c : Content) (r : RowReading) → base ≤ most → base ≤ before → IsReading before now volume c r → base ≤ now
reading_keeps base before now volume c r low from is = read_keeps base is.between now (c TableB volume) is.b low (read_keeps base before is.between (c TableA volume) is.a low from is.a_read) is.b_read

module _ (before now : ℕ) (c : Content) (readings : Readings before now c) where
  at_least : (base v n : ℕ) → base ≤ most → base ≤ readings.counts v → base ≤ readings.counts (v + n)
  at_least base v zero low from = omega (arith, from, ap readings.counts (let e : v + 0 ≡ v = omega arith in e))
  at_least base v (suc n) low from =
      let e : v + suc n ≡ (v + n) + 1 = omega arith in
      subst (λ (x : ℕ). base ≤ readings.counts x) (sym e) (reading_keeps base (readings.counts (v + n)) (readings.counts ((v + n) + 1)) (v + n) c (readings.row (v + n)) low (at_least base v n low from) (readings.each (v + n)))

  module _ (still : now ≤ before) (few : before < most) where
    -- the count stayed in each read
    bounded : (v : ℕ) → v < 32 → readings.counts (v + 1) ≤ before
    bounded v low = elim (cases_lt before (readings.counts (v + 1))) [
      | inl more ↦ (
          let k = 31 - v in
          let e : (v + 1) + k ≡ 32 = omega (arith, low) in
          let up = at_least (before + 1) (v + 1) k (omega (arith, few)) (omega (arith, more)) in
          let end : before + 1 ≤ readings.counts 32 = subst (λ (x : ℕ). before + 1 ≤ readings.counts x) e up in
          let last : readings.counts 32 ≡ now = readings.last in
          absurd (omega (arith, end, last, still)))
      | inr le ↦ le
    ]

    from_start : (v : ℕ) → before ≤ readings.counts v
    from_start v = let e : 0 + v ≡ v = omega arith in subst (λ (x : ℕ). before ≤ readings.counts x) e (at_least before 0 v (omega (arith, few)) (omega (arith, readings.first)))

    right_row : (v : ℕ) → v < 32 → readings.row v ≡ row_of c v
    right_row v low =
        let is = readings.each v in
        let start = from_start v in
        let end = bounded v low in
        let mid = read_keeps before (readings.counts v) is.between (c TableA v) is.a (omega (arith, few)) start is.a_read in
        elim is.b_read [
          | inl failed ↦ absurd (omega (arith, failed.1, mid, end, few))
          | inr b_told ↦ elim is.a_read [
            | inl failed ↦ absurd (omega (arith, failed.1, start, b_told.1, end, few))
            | inr a_told ↦ is.told ∙ (λ i. reading (a_told.0 i) (b_told.0 i))
          ]
        ]

    rows_at : (v : ℕ) → rows_in readings.row v ≡ rows_of c v
    rows_at v = elim (cases_lt v 32) [
      | inl low ↦ row_in readings.row v low ∙ ap told_row (right_row v low) ∙ sym (row_in (row_of c) v low)
      | inr past ↦ cond-false _ _ _ (le-ltb v 32 past) ∙ sym (cond-false _ _ _ (le-ltb v 32 past))
    ]

    pub rows_right : rows_in readings.row ≡ rows_of c
    rows_right = λ i v. rows_at v i

    pub fault_right : (frames : ℕ) (asked : ℕ → Option (List ℕ)) → first_fault_of frames asked readings.row c ≡ first_fault frames asked c
    fault_right frames asked =
        let walk : row_walk frames asked readings.row c ≡ row_walk frames asked (row_of c) c = first_same 32 (row_fault asked readings.row) (row_fault asked (row_of c)) (λ v low. ap (read_fault v (asked v)) (right_row v low)) in
        is_rest frames asked readings.row c ∙ (λ i. walk i or rest_fault frames (rows_right i) c) ∙ sym (is_rest frames asked (row_of c) c)

-- without a failed read
module _ (before now frames : ℕ) (asked : ℕ → Option (List ℕ)) (c : Content) (still : now ≡ before) (low : before < 18446744073709551615) where
  no_rise : (f : ℕ) → IsFaultSince before now f → ⊥
  no_rise f since = omega (arith, since.rises, still, low)

  exact_err : (e : Refused) → KeepsFault {T = List (Option RowValue)} before now (Err e) → Surveys before now frames asked c (Err e) → IsExact frames asked c (Err e)
  exact_err (RowUnread v f) kept surveys = absurd (no_rise f kept)
  exact_err (Stopped f) kept surveys = absurd (no_rise f kept)
  exact_err Memory kept surveys = tt
  exact_err e kept surveys = sym (fault_right before surveys.mid c surveys.readings (omega (arith, surveys.counts, still)) low frames asked) ∙ surveys.tells.1

  pub exact : (result : Result (List (Option RowValue)) Refused) → KeepsFault before now result → Surveys before now frames asked c result → IsExact frames asked c result
  exact (Ok rows) kept surveys =
      let end : surveys.mid ≤ before = omega (arith, surveys.counts, still) in
      (surveys.tells.1 ∙ rows_right before surveys.mid c surveys.readings end low, sym (fault_right before surveys.mid c surveys.readings end low frames asked) ∙ surveys.tells.2)
  exact (Err e) kept surveys = exact_err e kept surveys

-- want of memory in the walk over the rows, or a row at which it ended
pub rows_survey : (before now frames : ℕ) (asked : ℕ → Option (List ℕ)) (c : Content) (e : Refused) → before ≤ now → ReadsRows before now asked c (Err e) → Surveys before now frames asked c (Err e)
rows_survey before now frames asked c Memory later ends = record { mid = before; readings = right_readings before c; tells = tt; counts = later }
rows_survey before now frames asked c e later ends = row_survey before now frames asked c e ends

-- the same survey, by other names of the configuration and the content
pub renamed : (before now f n : ℕ) (v w : List VolumeData) (c d : Content) (result : Result (List (Option RowValue)) Refused) → f ≡ n → v ≡ w → c ≡ d
    → Surveys before now f (serial_in v) c result → Surveys before now n (serial_in w) d result
renamed before now f n v w c d result frames volumes told s =
    subst (λ (x : ℕ). Surveys before now x (serial_in w) d result) frames (subst (λ (x : List VolumeData). Surveys before now f (serial_in x) d result) volumes (subst (λ (x : Content). Surveys before now f (serial_in v) x result) told s))

pub read_renamed : (before now : ℕ) (v w : List VolumeData) (c : Content) (rows : List (Option RowValue)) (unread : Option ℕ) → v ≡ w → AreRead before now (serial_in v) c rows unread → AreRead before now (serial_in w) c rows unread
read_renamed before now v w c rows unread volumes read = subst (λ (x : List VolumeData). AreRead before now (serial_in x) c rows unread) volumes read
