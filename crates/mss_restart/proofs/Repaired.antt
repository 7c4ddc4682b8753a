-- One repair after another.
use Rattle.std.proofs.Common.{◌≡◌, ℕ, suc, ◌+◌, ◌<◌, false, Result, Err, List, length, set, ◌==◌, inl, inr, refl, sym, ◌∙◌, ap, subst, arith}
use Rattle.std.proofs.lemmas.Bool.{cases_Bool, cases_lt, eqb-true, eq-eqb, false≢true}
use Rattle.mss_base.specs.Content.{SiteLog, content, Settles, Writes}
use Rattle.mss_base.specs.declared.place.UnitNo.TheVariants.{TableA, TableB}
use Rattle.mss_base.proofs.Moments.{started, then_firm, ended_with}
use Rattle.ckd_track.specs.Data.{Volumes}
use Rattle.volume_table.specs.Grammar.{is_old}
use Rattle.table_pair.specs.Copies.{copy_at}
use Rattle.table_pair.specs.Migrating.{AreNew}
use Rattle.table_pair.specs.Pair.{row_of, row_of_copies, ChangesRow, HoldsRow, IsOpenWith}
use Rattle.table_pair.specs.Repairs.{KeepsRow, HoldsToldRow}
use Rattle.table_pair.specs.declared.copy.SlotsUsed.{SlotsUsed}
use Rattle.table_pair.specs.Slots.{HasSlots, used_at}
use Rattle.mss_base.specs.Sites.{MayWrite}
use Rattle.mss_base.specs.declared.site.Site.{Ghosts}
use Rattle.shown_volumes.specs.declared.refused.Refused.{Refused}
use Rattle.shown_volumes.specs.declared.refused.Refused.TheVariants.{Memory}
use Rattle.mss_restart.specs.Creations.{AreRenewed, IsStop, StopsAlone, StepsOn, WritesOn, IsRepair, AreRepaired, RepairsWhole, IsMigration, AreMigrated, MigratesWhole}
use Rattle.shown_volumes.specs.Shown.{volumes_shown}
use Rattle.shown_volumes.specs.Sound.{IsSound, SoundAs}
use Rattle.shown_volumes.proofs.MomentFacts.{repair_moments}
use Rattle.mss_restart.proofs.SlotFacts.{slots_with}

-- at each moment since then a sound content shows the same, and the rows are the same now
pub record IsRepaired (begun now : SiteLog) : Type 0 where
  pub moments : (frames : ℕ) → IsSound frames (content begun) → Writes (SoundAs frames (volumes_shown (content begun))) begun now
  pub rows : (v : ℕ) → row_of (content now) v ≡ row_of (content begun) v

pub nothing_repaired : (s : SiteLog) → IsRepaired s s
nothing_repaired s = record { moments = λ frames sound. started (SoundAs frames (volumes_shown (content s))) s (record { sound = sound; same = refl }); rows = λ v. refl }

-- one of the first, and not the last of them
before_last : (volume n v : ℕ) → volume ≡ n → v < n + 1 → (volume == v) ≡ false → v < n
before_last volume n v here lt other = elim (cases_lt v n) [
  | inl below ↦ below
  | inr from ↦ let e : volume ≡ v = omega (arith, here, lt, from) in absurd (false≢true (sym other ∙ eq-eqb volume v e))
]

module _ (begun mid now : SiteLog) (volume : ℕ) (so_far : IsRepaired begun mid) (firm : Settles begun mid) (one : Writes (ChangesRow volume (KeepsRow volume (content mid)) (content mid)) mid now) where
  change : ChangesRow volume (KeepsRow volume (content mid)) (content mid) (content now)
  change = ended_with (ChangesRow volume (KeepsRow volume (content mid)) (content mid)) mid now one

  row_kept : (v : ℕ) → row_of (content now) v ≡ row_of (content mid) v
  row_kept v = elim (cases_Bool (volume == v)) [
    | inl same ↦ let e = eqb-true volume v same in ap (row_of (content now)) (sym e) ∙ change.here ∙ ap (row_of (content mid)) e
    | inr other ↦ (λ i. row_of_copies (copy_at (change.others TableA v other i)) (copy_at (change.others TableB v other i)))
  ]

  pub repaired_too : IsRepaired begun now
  repaired_too = record {
    moments = λ frames sound.
        let before = so_far.moments frames sound in
        let at_mid = ended_with (SoundAs frames (volumes_shown (content begun))) begun mid before in
        then_firm (SoundAs frames (volumes_shown (content begun))) begun mid now firm before
        (subst (λ (V : Volumes). Writes (SoundAs frames V) mid now) at_mid.same (repair_moments frames volume mid now at_mid.sound one));
    rows = λ v. row_kept v ∙ so_far.rows v;
  }

  -- rows that stand in both copies still do
  pub held_too : (n : ℕ) → ((v : ℕ) → v < n → HoldsToldRow v (content begun) (content mid)) → volume ≡ n → HoldsToldRow volume (content mid) (content now)
      → (v : ℕ) → v < n + 1 → HoldsToldRow v (content begun) (content now)
  held_too n before here one_held v lt row told = elim (cases_Bool (volume == v)) [
    | inl same ↦
        let e : volume ≡ v = eqb-true volume v same in
        subst (λ (x : ℕ). HoldsRow row x (content now)) e (one_held row (so_far.rows volume ∙ ap (row_of (content begun)) e ∙ told))
    | inr other ↦
        let was = before v (before_last volume n v here lt other) row told in
        record {
          a = subst (λ (b : List ℕ). IsOpenWith row (copy_at b)) (sym (change.others TableA v other)) was.a;
          b = subst (λ (b : List ℕ). IsOpenWith row (copy_at b)) (sym (change.others TableB v other)) was.b;
        }
  ]

  -- copies of version 2 still are
  pub renewed_too : (n : ℕ) → AreRenewed n (content mid) → volume ≡ n → AreNew volume (content now) → AreRenewed (n + 1) (content now)
  renewed_too n before here one_new v lt = elim (cases_Bool (volume == v)) [
    | inl same ↦ subst (λ (x : ℕ). AreNew x (content now)) (eqb-true volume v same) one_new
    | inr other ↦
        let was = before v (before_last volume n v here lt other) in
        record {
          a = ap (λ (b : List ℕ). is_old (copy_at b).spelled) (change.others TableA v other) ∙ was.a;
          b = ap (λ (b : List ℕ). is_old (copy_at b).spelled) (change.others TableB v other) ∙ was.b;
        }
  ]

  -- so many slots are in use, with those of this row
  pub slots_too : (n : ℕ) (before used : List SlotsUsed) (one_used : SlotsUsed) → n < length before → ((v : ℕ) → v < n → HasSlots (used_at before v) v (content mid)) → volume ≡ n → HasSlots one_used volume (content now) → used ≡ set before n one_used
      → (v : ℕ) → v < n + 1 → HasSlots (used_at used v) v (content now)
  slots_too n before used one_used long slots here has used_is v lt =
      let with_it =
      slots_with volume (KeepsRow volume (content mid)) (content mid) (content now) change before one_used (omega (arith, here, long)) has v
      (λ other. slots v (before_last volume n v here lt other)) in
      subst (λ (xs : List SlotsUsed). HasSlots (used_at xs v) v (content now)) (sym used_is) (subst (λ (k : ℕ). HasSlots (used_at (set before k one_used) v) v (content now)) here with_it)

-- ---- each repair to its end

pub none_repaired : (s : SiteLog) → AreRepaired 0 s s
unfolding AreRepaired
none_repaired s = refl

-- no repair was begun
pub unbegun_repairs : (T : Type 0) (s : SiteLog) (e : Refused) → RepairsWhole {T = T} s s (Err e)
unbegun_repairs T s Memory = (0, none_repaired s)
unbegun_repairs T s _ = tt

pub one_repaired : (n volume : ℕ) (begun mid now : SiteLog) → AreRepaired n begun mid → volume ≡ n → IsRepair volume mid now → AreRepaired (n + 1) begun now
unfolding AreRepaired
one_repaired n volume begun mid now before same one =
    let e : suc n ≡ n + 1 = omega arith in
    subst (λ (k : ℕ). AreRepaired k begun now) e (mid, before, subst (λ (v : ℕ). IsRepair v mid now) same one)

-- ---- so each migration

pub none_migrated : (s : SiteLog) → AreMigrated 0 s s
unfolding AreMigrated
none_migrated s = refl

pub one_migrated : (n volume : ℕ) (begun mid now : SiteLog) → AreMigrated n begun mid → volume ≡ n → IsMigration volume mid now → AreMigrated (n + 1) begun now
unfolding AreMigrated
one_migrated n volume begun mid now before same one =
    let e : suc n ≡ n + 1 = omega arith in
    subst (λ (k : ℕ). AreMigrated k begun now) e (mid, before, subst (λ (v : ℕ). IsMigration v mid now) same one)

-- a stop of a later part of a call, before which none failed
pub stop_since : (begun before now : ℕ) (e : Refused) → before ≡ begun → IsStop before now e → IsStop begun now e
stop_since begun before now e same stops = subst (λ (n : ℕ). IsStop n now e) same stops

-- writes as often as there is room for
module _ {S : Type 0} (g : Ghosts S) where
  pub nothing_written : (s : S) → WritesOn g s s
  nothing_written s = record { written = omega arith; later = omega arith; sound = λ but so. so }

  pub written_on : (a b c : S) → WritesOn g a b → WritesOn g b c → WritesOn g a c
  written_on a b c first second = record {
    written = omega (arith, first.written, second.written);
    later = omega (arith, first.later, second.later);
    sound = λ but so. second.sound but (first.sound but so);
  }

  pub may_be_written : (most : ℕ) (a b : S) → MayWrite g most a b → WritesOn g a b
  may_be_written most a b may = record { written = may.written; later = may.later; sound = may.sound }

  -- a step behind others, of which none failed
  pub step_on : {T : Type 0} (a b c : S) (r : Result T Refused) → WritesOn g a b → g.faults b ≡ g.faults a → StepsOn g b c r → StepsOn g a c r
  step_on a b c r before same step = record {
    devices = written_on a b c before step.devices;
    stops = subst (λ (n : ℕ). StopsAlone n (g.faults c) r) same step.stops;
    works = λ never. step.works (before.sound (λ unit. false) never);
  }

  -- and one that failed, whatever was wanted of it
  pub step_fails : {T U : Type 0} (a b c : S) (e : Refused) → WritesOn g a b → g.faults b ≡ g.faults a → StepsOn {T = T} g b c (Err e) → StepsOn {T = U} g a c (Err e)
  step_fails a b c e before same step = record {
    devices = written_on a b c before step.devices;
    stops = stop_since (g.faults a) (g.faults b) (g.faults c) e same step.stops;
    works = λ never. step.works (before.sound (λ unit. false) never);
  }

-- want of memory leaves the repairs that were made
pub memory_repairs : (count : ℕ) (begun mid now : SiteLog) (e : Refused) → AreRepaired count begun mid → (e ≡ Memory → now ≡ mid) → RepairsWhole {T = Unit {0}} begun now (Err e)
memory_repairs count begun mid now Memory before same = (count, subst (AreRepaired count begun) (sym (same refl)) before)
memory_repairs count begun mid now _ before same = tt

-- and the migrations
pub memory_migrations : (count : ℕ) (begun mid now : SiteLog) (e : Refused) → AreMigrated count begun mid → (e ≡ Memory → now ≡ mid) → MigratesWhole {T = Unit {0}} begun now (Err e)
memory_migrations count begun mid now Memory before same = (count, subst (AreMigrated count begun) (sym (same refl)) before)
memory_migrations count begun mid now _ before same = tt
