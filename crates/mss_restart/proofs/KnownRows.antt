-- Rows that all which was read of both copies tells.
use Rattle.std.proofs.Common.{◌≡◌, inl, inr, ℕ, ◌+◌, ◌<◌, true, false, List, length, Option, Some, None, Ok, Err, refl, sym, ◌∙◌, ap, subst, arith}
use Rattle.std.proofs.lemmas.Bool.{cases_Bool, cases_lt, cond-true, cond-false, lt-ltb, le-ltb}
use Rattle.std.proofs.lemmas.List.{get_or_past}
use Rattle.mss_base.specs.Configs.{serial_in}
use Rattle.mss_base.specs.Configs.{ConfigData}
use Rattle.mss_base.specs.Content.{Content, SiteLog, content}
use Rattle.mss_base.specs.declared.place.UnitNo.TheVariants.{TableB}
use Rattle.volume_table.specs.Row.{RowValue}
use Rattle.table_pair.specs.Copies.{copy_at}
use Rattle.table_pair.specs.Pair.{CopyRead, unread, closed, opened, RowReading, known, reading, read_of, row_of}
use Rattle.shown_volumes.specs.declared.refused.Refused.{Refused}
use Rattle.shown_volumes.specs.declared.refused.Refused.TheVariants.{RowUnread, Stopped, Memory}
use Rattle.shown_volumes.specs.Shown.{RowsOf, told_row, rows_in, rows_of}
use Rattle.mss_base.specs.Firsts.{first_below}
use Rattle.shown_volumes.specs.Faults.{read_fault, row_fault, first_fault}
use Rattle.mss_base.proofs.FirstFacts.{none_below, all_none, or_none}
use Rattle.volume_table.specs.Listed.{row_in_list}
use Rattle.mss_restart.specs.Walks.{rest_fault}
use Rattle.mss_restart.specs.Survey.{KeepsCause, IsReading, FirstAlone, AreRead, StandApart, Surveys, IsExact}
use Rattle.mss_restart.specs.Opening.{RowsAre}
use Rattle.mss_restart.specs.Answers.{OpensExactly, RefusesAs, KeepsOpening}
use Rattle.mss_restart.proofs.Surveyed.{is_rest, behind, row_walk, none_apart, listed_is, are_known}

no_copy_a : (b : CopyRead) (o : Option RowValue) → known o false ≡ reading unread b → ⊥
no_copy_a unread o is = cc
no_copy_a (closed true) o is = cc
no_copy_a (closed false) o is = cc
no_copy_a (opened (Ok row)) o is = cc
no_copy_a (opened (Err fault)) o is = cc

-- an open copy A tells the row whatever stands in copy B
any_copy_b : (a d : CopyRead) (o : Option RowValue) → known o false ≡ reading a unread → reading a d ≡ known o false
any_copy_b unread d o is = absurd cc
any_copy_b (closed true) d o is = absurd cc
any_copy_b (closed false) d o is = absurd cc
any_copy_b (opened row) d o is = sym is

pub known_row : (before now v : ℕ) (c : Content) (o : Option RowValue) → IsReading before now v c (known o false) → row_of c v ≡ known o false
known_row before now v c o is = elim is.a_read [
  | inl failed ↦ absurd (no_copy_a is.b o (is.told ∙ ap (λ (a : CopyRead). reading a is.b) failed.0))
  | inr a_told ↦ elim is.b_read [
    | inl failed ↦
        ap (λ (a : CopyRead). reading a (read_of (copy_at (c TableB v)))) (sym a_told.0)
        ∙ any_copy_b is.a (read_of (copy_at (c TableB v))) o (is.told ∙ ap (λ (b : CopyRead). reading is.a b) failed.0)
    | inr b_told ↦ (λ i. reading (sym a_told.0 i) (sym b_told.0 i)) ∙ sym is.told
  ]
]

module _ (before now : ℕ) (asked : ℕ → Option (List ℕ)) (c : Content) (rows : List (Option RowValue)) (read : AreRead before now asked c rows None) where
  told : (v : ℕ) → v < 32 → read.readings.row v ≡ known (row_in_list rows v) false
  told v low =
      let row = read.known v low in
      elim (cases_Bool row.0) [
        | inl lacks ↦ absurd (read.alone v low (row_in_list rows v, row.1 ∙ ap (known (row_in_list rows v)) lacks))
        | inr both ↦ row.1 ∙ ap (known (row_in_list rows v)) both
      ]

  pub rows_told : RowsAre rows c
  rows_told v low = known_row (read.readings.counts v) (read.readings.counts (v + 1)) v c (row_in_list rows v) (subst (λ (r : RowReading). IsReading (read.readings.counts v) (read.readings.counts (v + 1)) v c r) (told v low) (read.readings.each v))

  same_walk : first_below 32 (row_fault asked (row_of c)) ≡ None
  same_walk =
      all_none 32 (row_fault asked (row_of c))
      (λ v low. ap (read_fault v (asked v)) (rows_told v low ∙ sym (told v low)) ∙ none_below 32 (row_fault asked read.readings.row) read.none v low)

-- a list of all rows is the rows of the content
pub rows_listed : (rows : List (Option RowValue)) (c : Content) → length rows ≡ 32 → RowsAre rows c → row_in_list rows ≡ rows_of c
rows_listed rows c long are = λ i v. at v i
  where
    at : (v : ℕ) → row_in_list rows v ≡ rows_of c v
    at v = elim (cases_lt v 32) [
      | inl low ↦ sym (ap told_row (are v low)) ∙ sym (cond-true _ _ _ (lt-ltb v 32 low))
      | inr past ↦ get_or_past rows v None (omega (arith, long, past)) ∙ sym (cond-false _ _ _ (le-ltb v 32 past))
    ]

pub faultless : (before now frames : ℕ) (asked : ℕ → Option (List ℕ)) (c : Content) (rows : List (Option RowValue)) → length rows ≡ 32 → AreRead before now asked c rows None → Surveys before now frames asked c (Ok rows)
    → first_fault frames asked c ≡ None
faultless before now frames asked c rows long read surveys =
    let parts = or_none (row_walk frames asked surveys.readings.row c) (rest_fault frames (rows_in surveys.readings.row) c) (sym (is_rest frames asked surveys.readings.row c) ∙ surveys.tells.2) in
    let same : rows_in surveys.readings.row ≡ rows_of c = sym surveys.tells.1 ∙ rows_listed rows c long (rows_told before now asked c rows read) in
    behind frames asked (row_of c) c None (same_walk before now asked c rows read) (ap (λ (x : RowsOf). rest_fault frames x c) (sym same) ∙ parts.1)

pub exact_refusal : (T : Type 0) (config : ConfigData) (c : Content) (e : Refused) → IsExact config.frames (serial_in config.volumes) c (Err e) → OpensExactly {T = T} config c (Err e)
exact_refusal T config c (RowUnread v f) is = is
exact_refusal T config c (Stopped f) is = is
exact_refusal T config c Memory is = tt
exact_refusal T config c _ is = is

-- what the survey refuses, opening does
pub survey_refuses : (before now : ℕ) (config : ConfigData) (old new : SiteLog) (e : Refused) → new ≡ old → Surveys before now config.frames (serial_in config.volumes) (content old) (Err e) → RefusesAs before now config old new e
survey_refuses before now config old new (Stopped f) same surveys = record { mid = surveys.mid; readings = surveys.readings; faultless = surveys.tells.0; apart = surveys.tells.1; cause = inr surveys.counts }
survey_refuses before now config old new Memory same surveys = tt
survey_refuses before now config old new e same surveys = (same, surveys)

pub cause_opens : (T : Type 0) (before now : ℕ) (e : Refused) → KeepsCause before now e → KeepsOpening {T = T} before now (Err e)
cause_opens T before now (RowUnread v f) kept = kept
cause_opens T before now (Stopped f) kept = let same : f ≡ now = kept.count in record { rises = omega (arith, same, kept.rises); past = omega (arith, same) }
cause_opens T before now _ kept = kept

-- a row that one copy alone told stops it
pub alone_stops : (before now : ℕ) (config : ConfigData) (old new : SiteLog) (rows : List (Option RowValue)) (unread : Option ℕ) (fault : ℕ) → unread ≡ Some fault → new ≡ old → length rows ≡ 32 → AreRead before now (serial_in config.volumes) (content old) rows unread
    → Surveys before now config.frames (serial_in config.volumes) (content old) (Ok rows)
    → RefusesAs before now config old new (Stopped fault)
alone_stops before now config old new rows one fault is same long read surveys = record {
  mid = now;
  readings = read.readings;
  faultless = record { known = are_known rows read.readings.row read.known; none = read.none };
  apart = subst (StandApart config.frames) (sym surveys.tells.1 ∙ listed_is before now now config.frames (serial_in config.volumes) (content old) rows one read long) (none_apart config.frames (serial_in config.volumes) surveys.readings.row (content old) surveys.tells.2);
  cause = inl (subst (FirstAlone 32 read.readings.row read.readings.counts) is read.alone, refl, same);
}
