-- At each moment no row but those of some changes is more than repaired and migrated, and no volume but those that they
-- make gets a made mark or loses one.
use Rattle.std.proofs.Common.{◌≡◌, ◌≢◌, inl, inr, ℕ, ◌==◌, Bool, false, List, [], ◌∷◌, ◌++◌, length, refl, sym, ◌∙◌, ap, subst, arith, length-append}
use Rattle.std.specs.List.{AllByRecursion}
use Rattle.std.proofs.lemmas.Bool.{cases_Bool, eqb-true, ne_eqb}
use Rattle.std.proofs.lemmas.List.{append-nil}
use Rattle.mss_base.specs.Content.{Content, SiteLog, Settles, Item, content, Writes}
use Rattle.mss_base.specs.declared.place.UnitNo.TheVariants.{TableA, TableB}
use Rattle.mss_base.proofs.Moments.{started, then_firm, weaker, ended_with}
use Rattle.table_pair.specs.Copies.{copy_at}
use Rattle.volume_table.specs.Grammar.{is_old}
use Rattle.table_pair.specs.Migrating.{AreNew}
use Rattle.table_pair.specs.Pair.{ChangesRow}
use Rattle.table_pair.specs.Repairs.{NeedNoRepair, NeedsNoRepair, KeepsRow, KeepsMarks}
use Rattle.mss_restart.specs.Opening.{OpeningChange, made, marked, volume_of}
use Rattle.mss_restart.specs.Creations.{SameCopies, IsNotMade, SparesVolume, RepairsOthers}

-- ---- from moment to moment

same_marks : (volume : ℕ) (c d : Content) → SameCopies volume c d → KeepsMarks volume c d
same_marks volume c d same = record { a = ap (λ (block : List ℕ). (copy_at block).is_made) same.a; b = ap (λ (block : List ℕ). (copy_at block).is_made) same.b }

spared_same : (changes : List OpeningChange) (volume : ℕ) (c d : Content) → SameCopies volume c d → SparesVolume changes volume c d
spared_same changes volume c d same = record { marks = λ _. same_marks volume c d same; equal = λ _ _ _. same }

nothing_yet : (changes : List OpeningChange) (volume : ℕ) (c : Content) → SparesVolume changes volume c c
nothing_yet changes volume c = spared_same changes volume c c (record { a = refl; b = refl })

needs_none : (volume : ℕ) (c d : Content) → SameCopies volume c d → NeedsNoRepair volume c → NeedsNoRepair volume d
needs_none volume c d same none = subst (λ (p : List ℕ × List ℕ). NeedNoRepair (copy_at p.0) (copy_at p.1)) (λ i. (sym same.a i, sym same.b i)) none

still_new : (volume : ℕ) (c d : Content) → SameCopies volume c d → AreNew volume c → AreNew volume d
still_new volume c d same new = record {
  a = ap (λ (block : List ℕ). is_old (copy_at block).spelled) same.a ∙ new.a;
  b = ap (λ (block : List ℕ). is_old (copy_at block).spelled) same.b ∙ new.b;
}

spared_on : (changes : List OpeningChange) (volume : ℕ) (c d e : Content) → SparesVolume changes volume c d → SparesVolume changes volume d e → SparesVolume changes volume c e
spared_on changes volume c d e first second = record {
  marks = λ unmade.
      let before = first.marks unmade in
      let after = second.marks unmade in
      record { a = after.a ∙ before.a; b = after.b ∙ before.b };
  equal = λ apart none new.
      let before = first.equal apart none new in
      let after = second.equal apart (needs_none volume c d before none) (still_new volume c d before new) in
      record { a = after.a ∙ before.a; b = after.b ∙ before.b };
}

-- a change of another row
other_row : (volume other : ℕ) (P : Content → Type 0) (c d : Content) → (volume == other) ≡ false → ChangesRow volume P c d → SameCopies other c d
other_row volume other P c d off change = record { a = change.others TableA other off; b = change.others TableB other off }

-- ---- in runs of writes

pub nothing_else : (changes : List OpeningChange) (s t : SiteLog) → t ≡ s → RepairsOthers changes s t
nothing_else changes s t same volume =
    subst (λ (u : SiteLog). Writes (SparesVolume changes volume (content s)) s u) (sym same) (started (SparesVolume changes volume (content s)) s (nothing_yet changes volume (content s)))

pub others_then : (changes : List OpeningChange) (s mid t : SiteLog) → Settles s mid → RepairsOthers changes s mid → RepairsOthers changes mid t → RepairsOthers changes s t
others_then changes s mid t firm first second volume =
    let before = first volume in
    let at_mid = ended_with (SparesVolume changes volume (content s)) s mid before in
    then_firm (SparesVolume changes volume (content s)) s mid t firm before
    (weaker (SparesVolume changes volume (content mid)) (SparesVolume changes volume (content s)) (λ d is. spared_on changes volume (content s) (content mid) d at_mid is) mid t (second volume))

-- of a longer list
pub others_of : (some all : List OpeningChange) (s t : SiteLog) → ((P : OpeningChange → Type 0) → AllByRecursion P all → AllByRecursion P some) → RepairsOthers some s t → RepairsOthers all s t
others_of some all s t are others volume = weaker (SparesVolume some volume (content s)) (SparesVolume all volume (content s)) (λ d is. record {
  marks = λ unmade. is.marks (are (IsNotMade volume) unmade);
  equal = λ apart. is.equal (are (λ w. volume_of w ≢ volume) apart);
}) s t (others volume)

-- where no row is more than repaired and migrated
pub none_of : (changes : List OpeningChange) (s t : SiteLog) → RepairsOthers [] s t → RepairsOthers changes s t
none_of changes s t all = others_of [] changes s t (λ P holds. tt) all

-- what holds of each of a list holds of one of it, of its front, and of the rest
pub one_holds : (P : OpeningChange → Type 0) (done : List OpeningChange) (change : OpeningChange) (behind : List OpeningChange) → AllByRecursion P (done ++ (change ∷ behind)) → P change
one_holds P [] change behind all = all.0
one_holds P (w ∷ done) change behind all = one_holds P done change behind all.1

pub front_holds : (P : OpeningChange → Type 0) (front rest : List OpeningChange) → AllByRecursion P (front ++ rest) → AllByRecursion P front
front_holds P [] rest all = tt
front_holds P (w ∷ front) rest all = (all.0, front_holds P front rest all.1)

pub rest_holds : (P : OpeningChange → Type 0) (front rest : List OpeningChange) → AllByRecursion P (front ++ rest) → AllByRecursion P rest
rest_holds P [] rest all = all
rest_holds P (w ∷ front) rest all = rest_holds P front rest all.1

-- ---- one repair or migration

-- copies that need neither got no write
alone : (volume : ℕ) (s t : SiteLog) → Writes (KeepsMarks volume (content s)) s t
    → (NeedsNoRepair volume (content s) → AreNew volume (content s) → t ≡ s) → Writes (SparesVolume [] volume (content s)) s t
alone volume s t marks untouched = by marks.items refl
  where
    by : (items : List Item) → marks.items ≡ items → Writes (SparesVolume [] volume (content s)) s t
    by [] none =
        let same : t ≡ s = marks.grown ∙ (λ i. record { start = s.start; log = (ap (λ (more : List Item). s.log ++ more) none ∙ append-nil s.log) i }) in
        subst (λ (u : SiteLog). Writes (SparesVolume [] volume (content s)) s u) (sym same) (started (SparesVolume [] volume (content s)) s (nothing_yet [] volume (content s)))
    by (w ∷ more) some = weaker (KeepsMarks volume (content s)) (SparesVolume [] volume (content s)) (λ d kept. record {
      marks = λ _. kept;
      equal = λ _ need new. absurd (
          let same : s.log ++ marks.items ≡ s.log = sym (ap (λ (x : SiteLog). x.log) marks.grown) ∙ ap (λ (x : SiteLog). x.log) (untouched need new) in
          let long = ap (λ (l : List Item). length l) same in
          let parts = length-append s.log marks.items in
          let one = ap (λ (l : List Item). length l) some in
          omega (arith, long, parts, one));
    }) s t marks

pub rewrite_others : (volume : ℕ) (s t : SiteLog) → Writes (ChangesRow volume (KeepsRow volume (content s)) (content s)) s t → Writes (KeepsMarks volume (content s)) s t
    → (NeedsNoRepair volume (content s) → AreNew volume (content s) → t ≡ s) → RepairsOthers [] s t
rewrite_others volume s t moments marks untouched other = elim (cases_Bool (volume == other)) [
  | inl same ↦ subst (λ (v : ℕ). Writes (SparesVolume [] v (content s)) s t) (eqb-true volume other same) (alone volume s t marks untouched)
  | inr off ↦ weaker (ChangesRow volume (KeepsRow volume (content s)) (content s)) (SparesVolume [] other (content s))
      (λ d change. spared_same [] other (content s) d (other_row volume other (KeepsRow volume (content s)) (content s) d off change)) s t moments
]

pub repair_others : (volume : ℕ) (s t : SiteLog) → Writes (ChangesRow volume (KeepsRow volume (content s)) (content s)) s t → Writes (KeepsMarks volume (content s)) s t → (NeedsNoRepair volume (content s) → t ≡ s) → RepairsOthers [] s t
repair_others volume s t moments marks untouched = rewrite_others volume s t moments marks (λ need _. untouched need)

-- ---- one change

-- a new volume may get its made marks
pub made_others : (volume : ℕ) (serial : List ℕ) (P : Content → Type 0) (s t : SiteLog) → Writes (ChangesRow volume P (content s)) s t → RepairsOthers (made volume serial ∷ []) s t
made_others volume serial P s t moments other = weaker (ChangesRow volume P (content s)) (SparesVolume (made volume serial ∷ []) other (content s)) (λ d is. record {
  marks = λ unmade. same_marks other (content s) d (other_row volume other P (content s) d (ne_eqb volume other unmade.0) is);
  equal = λ apart _ _. other_row volume other P (content s) d (ne_eqb volume other apart.0) is;
}) s t moments

-- one that becomes read-only, or writable again, keeps them
pub marked_others : (volume : ℕ) (on : Bool) (P : Content → Type 0) (s t : SiteLog) → Writes (ChangesRow volume P (content s)) s t → Writes (KeepsMarks volume (content s)) s t → RepairsOthers (marked volume on ∷ []) s t
marked_others volume on P s t moments marks other = elim (cases_Bool (volume == other)) [
  | inl same ↦ subst (λ (v : ℕ). Writes (SparesVolume (marked volume on ∷ []) v (content s)) s t) (eqb-true volume other same)
      (weaker (KeepsMarks volume (content s)) (SparesVolume (marked volume on ∷ []) volume (content s)) (λ d kept. record { marks = λ _. kept; equal = λ apart. absurd (apart.0 refl) }) s t marks)
  | inr off ↦ weaker (ChangesRow volume P (content s)) (SparesVolume (marked volume on ∷ []) other (content s))
      (λ d is. spared_same (marked volume on ∷ []) other (content s) d (other_row volume other P (content s) d off is)) s t moments
]
