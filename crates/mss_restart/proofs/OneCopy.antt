-- Where each copy tells the row alone, what a survey finds doesn't depend on which copies could be read.
use Rattle.std.proofs.Common.{◌≡◌, ◌⊎◌, inl, inr, ℕ, zero, suc, ◌+◌, ◌<◌, Bool, true, false, List, Option, Some, None, Result, Ok, Err, refl, sym, ◌∙◌, ap, arith}
use Rattle.std.proofs.lemmas.Bool.{cases_lt, cond-false, le-ltb}
use Rattle.mss_base.specs.Content.{Content}
use Rattle.mss_base.specs.Counts.{Rises}
use Rattle.mss_base.specs.Firsts.{◌or◌, first_below}
use Rattle.mss_base.specs.declared.place.UnitNo.TheVariants.{TableA, TableB}
use Rattle.mss_base.proofs.FirstFacts.{none_below, all_none}
use Rattle.volume_table.specs.Row.{RowValue}
use Rattle.table_pair.specs.Copies.{copy_at}
use Rattle.table_pair.specs.Pair.{CopyRead, unread, closed, opened, RowReading, known, unknown, reading, read_of, row_of}
use Rattle.table_pair.proofs.PairFacts.{row_read, closed_read, held_row, closed_row}
use Rattle.shown_volumes.specs.declared.refused.Refused.{Refused}
use Rattle.shown_volumes.specs.declared.refused.Refused.TheVariants.{RowUnread, Stopped, Memory}
use Rattle.shown_volumes.specs.Shown.{RowsOf, told_row, rows_in, rows_of}
use Rattle.shown_volumes.specs.Faults.{read_fault, row_fault, first_fault_of, first_fault}
use Rattle.shown_volumes.proofs.FaultFacts.{row_in}
use Rattle.mss_restart.specs.Walks.{rest_fault}
use Rattle.mss_restart.specs.OneCopy.{IsPaired, ArePaired}
use Rattle.mss_restart.specs.Survey.{IsReading, Readings, AreBehindFaults, Surveys, IsExact, TellsNoFailure}
use Rattle.mss_restart.proofs.Surveyed.{row_walk, is_rest}

-- ---- one row

-- both reads failed
pub record BothFailed (before now volume : ℕ) (c : Content) (r : RowReading) (is : IsReading before now volume c r) : Type 0 where
  pub a : Rises before is.between
  pub b : Rises is.between now
  pub a_unread : is.a ≡ unread
  pub b_unread : is.b ≡ unread

-- the row of the content was told, by one copy or by both
pub record TellsRowOf (c : Content) (volume : ℕ) (r : RowReading) : Type 0 where
  pub row : Option RowValue
  pub missing : Bool
  pub told : r ≡ known row missing
  pub is : row_of c volume ≡ known row false

module _ (before now volume : ℕ) (c : Content) (r : RowReading) (is : IsReading before now volume c r) where
  by_copies : (k : CopyRead) (row : Option RowValue) → read_of (copy_at (c TableA volume)) ≡ k → read_of (copy_at (c TableB volume)) ≡ k → row_of c volume ≡ known row false
      → reading k k ≡ known row false → ((missing : Bool) × (reading k unread ≡ known row missing)) → ((missing : Bool) × (reading unread k ≡ known row missing)) → BothFailed before now volume c r is ⊎ TellsRowOf c volume r
  by_copies k row a_is b_is told both only_a only_b = elim is.a_read [
    | inl a_failed ↦ elim is.b_read [
      | inl b_failed ↦ inl (record { a = a_failed.1; b = b_failed.1; a_unread = a_failed.0; b_unread = b_failed.0 })
      | inr b_told ↦ inr (record { row = row; missing = only_b.0; told = is.told ∙ (λ i. reading (a_failed.0 i) ((b_told.0 ∙ b_is) i)) ∙ only_b.1; is = told })
    ]
    | inr a_told ↦ elim is.b_read [
      | inl b_failed ↦ inr (record { row = row; missing = only_a.0; told = is.told ∙ (λ i. reading ((a_told.0 ∙ a_is) i) (b_failed.0 i)) ∙ only_a.1; is = told })
      | inr b_told ↦ inr (record { row = row; missing = false; told = is.told ∙ (λ i. reading ((a_told.0 ∙ a_is) i) ((b_told.0 ∙ b_is) i)) ∙ both; is = told })
    ]
  ]

  pub paired : IsPaired volume c → BothFailed before now volume c r is ⊎ TellsRowOf c volume r
  paired (inl held) = by_copies (opened (Ok held.0)) (Some held.0) (row_read held.0 (copy_at (c TableA volume)) held.1.a) (row_read held.0 (copy_at (c TableB volume)) held.1.b) (held_row held.0 volume c held.1) refl (false, refl) (true, refl)
  paired (inr shut) =
      by_copies (closed false) None (closed_read (copy_at (c TableA volume)) shut.closed.a ∙ ap (λ (made : Bool). closed made) shut.a) (closed_read (copy_at (c TableB volume)) shut.closed.b ∙ ap (λ (made : Bool). closed made) shut.b)
      (closed_row volume c shut.closed) refl (true, refl) (true, refl)

-- then nothing is known of the row
both_nothing : (before now volume : ℕ) (c : Content) (r : RowReading) (is : IsReading before now volume c r) → BothFailed before now volume c r is → r ≡ unknown
both_nothing before now volume c r is failed = is.told ∙ (λ i. reading (failed.a_unread i) (failed.b_unread i))

-- ---- the walk over the rows

or_kept : (o : Option Refused) (x y : Option Refused) → (o ≡ None → ⊥) → (o or x) ≡ (o or y)
or_kept None x y some = absurd (some refl)
or_kept (Some e) x y some = refl

walks_alike : (f g : ℕ → Option Refused) (n : ℕ) → ((v : ℕ) → v < n → (f v ≡ g v) ⊎ (first_below v f ≡ None → ⊥)) → first_below n f ≡ first_below n g
unfolding first_below
walks_alike f g zero alike = refl
walks_alike f g (suc n) alike =
    let so_far : first_below n f ≡ first_below n g = walks_alike f g n (λ v low. alike v (omega (arith, low))) in
    elim (alike n (omega arith)) [
      | inl here ↦ (λ i. so_far i or here i)
      | inr some ↦ or_kept (first_below n f) (f n) (g n) some ∙ ap (λ (o : Option Refused). o or g n) so_far
    ]

module _ (before now frames : ℕ) (asked : ℕ → Option (List ℕ)) (c : Content) (all_paired : ArePaired c) (readings : Readings before now c) where
  pub each : (v : ℕ) → v < 32 → BothFailed (readings.counts v) (readings.counts (v + 1)) v c (readings.row v) (readings.each v) ⊎ TellsRowOf c v (readings.row v)
  each v low = paired (readings.counts v) (readings.counts (v + 1)) v c (readings.row v) (readings.each v) (all_paired v low)

  module _ (behind : AreBehindFaults asked readings.row) where
    fault_at : (v : ℕ) → v < 32 → (row_fault asked readings.row v ≡ row_fault asked (row_of c) v) ⊎ (first_below v (row_fault asked readings.row) ≡ None → ⊥)
    fault_at v low = elim (each v low) [
      | inl failed ↦ inr (behind v low (both_nothing _ _ v c (readings.row v) (readings.each v) failed))
      | inr tells ↦ inl (ap (read_fault v (asked v)) tells.told ∙ ap (read_fault v (asked v)) (sym tells.is))
    ]

    same_walk : row_walk frames asked readings.row c ≡ row_walk frames asked (row_of c) c
    same_walk = walks_alike (row_fault asked readings.row) (row_fault asked (row_of c)) 32 fault_at

    module _ (none : row_walk frames asked readings.row c ≡ None) where
      row_at : (v : ℕ) → rows_in readings.row v ≡ rows_of c v
      row_at v = elim (cases_lt v 32) [
        | inl low ↦ elim (each v low) [
          | inl failed ↦ absurd (behind v low (both_nothing _ _ v c (readings.row v) (readings.each v) failed) (all_none v (row_fault asked readings.row) (λ w lower. none_below 32 (row_fault asked readings.row) none w (omega (arith, lower, low)))))
          | inr tells ↦ row_in readings.row v low ∙ ap told_row tells.told ∙ sym (ap told_row tells.is) ∙ sym (row_in (row_of c) v low)
        ]
        | inr past ↦ cond-false _ _ _ (le-ltb v 32 past) ∙ sym (cond-false _ _ _ (le-ltb v 32 past))
      ]

      pub same_rows : rows_in readings.row ≡ rows_of c
      same_rows = λ i v. row_at v i

    by_walk : (o : Option Refused) → row_walk frames asked readings.row c ≡ o → (o or rest_fault frames (rows_in readings.row) c) ≡ (o or rest_fault frames (rows_of c) c)
    by_walk None is = ap (λ (rows : RowsOf). rest_fault frames rows c) (same_rows is)
    by_walk (Some e) is = refl

    pub same_fault : first_fault_of frames asked readings.row c ≡ first_fault frames asked c
    same_fault =
        is_rest frames asked readings.row c
        ∙ by_walk (row_walk frames asked readings.row c) refl
        ∙ ap (λ (o : Option Refused). o or rest_fault frames (rows_of c) c) same_walk
        ∙ sym (is_rest frames asked (row_of c) c)

-- ---- the survey

module _ (before now frames : ℕ) (asked : ℕ → Option (List ℕ)) (c : Content) (all_paired : ArePaired c) where
  pub exact_by_one : (result : Result (List (Option RowValue)) Refused) → Surveys before now frames asked c result → TellsNoFailure result → IsExact frames asked c result
  exact_by_one (Ok rows) s fine =
      let behind : AreBehindFaults asked s.readings.row = λ v low un. absurd (s.tells.0.known v low un) in
      (s.tells.1 ∙ same_rows before s.mid frames asked c all_paired s.readings behind s.tells.0.none, sym (same_fault before s.mid frames asked c all_paired s.readings behind) ∙ s.tells.2)
  exact_by_one (Err (RowUnread v f)) s fine = absurd fine
  exact_by_one (Err (Stopped f)) s fine = absurd fine
  exact_by_one (Err Memory) s fine = tt
  exact_by_one (Err e) s fine = sym (same_fault before s.mid frames asked c all_paired s.readings s.tells.0) ∙ s.tells.1
