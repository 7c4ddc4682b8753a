-- Where each copy tells the row alone, a row that nothing is known of took two failed reads.
use Rattle.std.proofs.Common.{◌≡◌, ◌⊎◌, inl, inr, ℕ, zero, suc, ◌+◌, ◌-◌, ◌<◌, ◌≤◌, List, length, get_or, Option, Some, None, Ok, Err, refl, sym, ◌∙◌, ap, subst, arith}
use Rattle.std.proofs.lemmas.Bool.{cases_lt}
use Rattle.std.proofs.lemmas.List.{ext_get_or}
use Rattle.mss_base.specs.Content.{Content}
use Rattle.mss_base.specs.Counts.{Rises, next_count}
use Rattle.mss_base.specs.declared.place.UnitNo.TheVariants.{TableA, TableB}
use Rattle.table_pair.specs.Pair.{CopyRead, known, unknown}
use Rattle.table_pair.specs.Reads.{IsReadOf}
use Rattle.shown_volumes.specs.Faults.{first_fault}
use Rattle.shown_volumes.specs.Shown.{RowsOf}
use Rattle.shown_volumes.specs.declared.refused.Refused.{Refused}
use Rattle.shown_volumes.specs.declared.refused.Refused.TheVariants.{RowUnread, Stopped, Memory}
use Rattle.mss_restart.specs.OneCopy.{ArePaired}
use Rattle.mss_restart.specs.Survey.{IsExact, Readings, Surveys}
use Rattle.mss_restart.proofs.OneCopy.{each}
use Rattle.core_restart.specs.OneCopy.{AreOneAnswer, IsAnswerOf, RisesTwice, SurveyAnswer}

abbrev most : ℕ
most = 18446744073709551615

read_keeps : (base before now : ℕ) (block : List ℕ) (r : CopyRead) → base ≤ most → base ≤ before → IsReadOf before now block r → base ≤ now
read_keeps base before now block r low from read = elim read [ inl failed ↦ omega (arith, low, from, failed.1) | inr told ↦ omega (arith, from, told.1) ]

module _ (before now : ℕ) (c : Content) (readings : Readings before now c) where
  step_keeps : (base v : ℕ) → base ≤ most → base ≤ readings.counts v → base ≤ readings.counts (v + 1)
  step_keeps base v low from =
      let is = readings.each v in
      read_keeps base is.between (readings.counts (v + 1)) (c TableB v) is.b low (read_keeps base (readings.counts v) is.between (c TableA v) is.a low from is.a_read) is.b_read

  at_least : (base v n : ℕ) → base ≤ most → base ≤ readings.counts v → base ≤ readings.counts (v + n)
  at_least base v zero low from = let e : v + 0 ≡ v = omega arith in subst (λ (x : ℕ). base ≤ readings.counts x) (sym e) from
  at_least base v (suc n) low from =
      let e : v + suc n ≡ (v + n) + 1 = omega arith in
      subst (λ (x : ℕ). base ≤ readings.counts x) (sym e) (step_keeps base (v + n) low (at_least base v n low from))

  rises_twice : (v : ℕ) → v < 32 → (between : ℕ) → Rises (readings.counts v) between → Rises between (readings.counts (v + 1)) → RisesTwice before now
  rises_twice v low between one two = elim (cases_lt before most) [
    | inl few ↦
        let first : before ≤ readings.counts 0 = omega (arith, readings.first) in
        let start : before ≤ readings.counts (0 + v) = at_least before 0 v (omega (arith, few)) first in
        let e : 0 + v ≡ v = omega arith in
        let from : before ≤ readings.counts v = subst (λ (x : ℕ). before ≤ readings.counts x) e start in
        till (next_count (next_count before)) (omega arith) (omega (arith, from, one, two))
    | inr many ↦
        let first : most ≤ readings.counts 0 = omega (arith, readings.first, many) in
        let last : most ≤ readings.counts (0 + 32) = at_least most 0 32 (omega arith) first in
        let end : readings.counts (0 + 32) ≡ now = readings.last in
        omega (arith, last, end)
  ]
    where
      till : (base : ℕ) → base ≤ most → base ≤ readings.counts (v + 1) → base ≤ now
      till base few from =
          let n = 31 - v in
          let e : (v + 1) + n ≡ 32 = omega (arith, low) in
          let up : base ≤ readings.counts 32 = subst (λ (x : ℕ). base ≤ readings.counts x) e (at_least base (v + 1) n few from) in
          let end : readings.counts 32 ≡ now = readings.last in
          omega (arith, up, end)

pub unread_twice : (before now frames volume fault : ℕ) (asked : ℕ → Option (List ℕ)) (c : Content) → ArePaired c → Surveys before now frames asked c (Err (RowUnread volume fault)) → RisesTwice before now
unread_twice before now frames volume fault asked c all_paired s = elim (each before s.mid frames asked c all_paired s.readings volume s.tells.low) [
  | inl failed ↦ subst (RisesTwice before) (sym s.counts) (rises_twice before s.mid c s.readings volume s.tells.low (s.readings.each volume).between failed.a failed.b)
  | inr tells ↦ let no : known tells.row tells.missing ≡ unknown = sym tells.told ∙ s.tells.unread in absurd cc
]

-- ---- one answer

module _ (frames : ℕ) (asked : ℕ → Option (List ℕ)) (c : Content) where
  by_fault : (e : Refused) → IsExact frames asked c (Err e) → (e ≡ Memory) ⊎ (first_fault frames asked c ≡ Some e)
  by_fault (RowUnread v f) is = absurd is
  by_fault (Stopped f) is = absurd is
  by_fault Memory is = inl refl
  by_fault e is = inr is

  -- the rows of a content without a fault, and a fault
  not_both : (e : Refused) → first_fault frames asked c ≡ None → IsExact frames asked c (Err e) → e ≡ Memory
  not_both e none is = elim (by_fault e is) [
    | inl short ↦ short
    | inr some ↦ let no : ◌≡◌ {A = Option Refused} None (Some e) = sym none ∙ some in absurd cc
  ]

  pub one_answer : (result other : SurveyAnswer) → IsAnswerOf frames asked c result → IsAnswerOf frames asked c other → AreOneAnswer result other
  one_answer (Ok xs) (Ok ys) is too =
      let rows : (i : ℕ) → i < length ys → get_or ys i None ≡ get_or xs i None = λ i lt. ap (λ (f : RowsOf). f i) (too.exact.0 ∙ sym is.exact.0) in
      inl (ap Ok (ext_get_or None ys xs (too.whole ∙ sym is.whole) rows))
  one_answer (Ok xs) (Err e) is too = inr (inr (ap Err (not_both e is.exact.1 too.exact)))
  one_answer (Err e) (Ok ys) is too = inr (inl (ap Err (not_both e too.exact.1 is.exact)))
  one_answer (Err e) (Err f) is too = elim (by_fault e is.exact) [
    | inl short ↦ inr (inl (ap Err short))
    | inr some ↦ elim (by_fault f too.exact) [
      | inl short ↦ inr (inr (ap Err short))
      | inr other ↦ let same : f ≡ e = (let e2 : Some f ≡ Some e = sym other ∙ some in cc) in inl (ap Err same)
    ]
  ]
