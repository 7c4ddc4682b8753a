-- Writes of a copy, seen as writes of a row.
use Rattle.std.proofs.Common.{◌≡◌, inr, ℕ, false, ◌&&◌, ◌==◌, refl, sym, ◌∙◌, ap, subst}
use Rattle.mss_base.specs.declared.place.UnitNo.{UnitNo}
use Rattle.mss_base.specs.declared.place.UnitNo.TheVariants.{TableA, TableB, Staging, Cartridge}
use Rattle.mss_base.specs.Content.{Content, SiteLog, content, same_unit, Settles, Writes, ChangesBlock}
use Rattle.mss_base.proofs.Moments.{then_firm, weaker, ended_with, started}
use Rattle.volume_table.specs.Row.{RowValue}
use Rattle.table_pair.specs.declared.copy.TableCopy.TheVariants as copy
use Rattle.table_pair.specs.Places.{place_of}
use Rattle.table_pair.specs.Copies.{CopyView, copy_at, WritesCopy}
use Rattle.table_pair.specs.Pair.{is_table, StaysCopy, HoldsRow, ChangesRow}
use Rattle.table_pair.specs.Repairs.{NeedsNoRepair}

-- a block of one copy is a block of the row
outside_a : (volume : ℕ) (unit : UnitNo) (block : ℕ) → (is_table unit && (volume == block)) ≡ false → (same_unit TableA unit && (volume == block)) ≡ false
outside_a volume TableA block other = other
outside_a volume TableB block other = refl
outside_a volume (Staging n) block other = refl
outside_a volume (Cartridge n) block other = refl

outside_b : (volume : ℕ) (unit : UnitNo) (block : ℕ) → (is_table unit && (volume == block)) ≡ false → (same_unit TableB unit && (volume == block)) ≡ false
outside_b volume TableA block other = refl
outside_b volume TableB block other = other
outside_b volume (Staging n) block other = refl
outside_b volume (Cartridge n) block other = refl

abbrev pub copy_a : ℕ → SiteLog → CopyView
copy_a volume s = copy_at (content s TableA volume)

abbrev pub copy_b : ℕ → SiteLog → CopyView
copy_b volume s = copy_at (content s TableB volume)

-- only the two copies differ, and they have P
pub record ChangesPair (volume : ℕ) (P : CopyView → CopyView → Type 0) (old new : Content) : Type 0 where
  pub others : (unit : UnitNo) (block : ℕ) → (is_table unit && (volume == block)) ≡ false → new unit block ≡ old unit block
  pub here : P (copy_at (new TableA volume)) (copy_at (new TableB volume))

-- the copies that were these, of which Q holds now
pub record InPair (a b : CopyView) (Q : CopyView → CopyView → Type 0) (x y : CopyView) : Type 0 where
  pub stays_a : StaysCopy a x
  pub stays_b : StaysCopy b y
  pub here : Q x y

module _ (volume : ℕ) where
  -- while one copy is written, the other one stays
  pub kept_b : (P : CopyView → Type 0) (s t : SiteLog) → WritesCopy (place_of copy.A volume) P s t → copy_b volume t ≡ copy_b volume s
  kept_b P s t w = ap copy_at ((ended_with (ChangesBlock TableA volume (λ block. P (copy_at block)) (content s)) s t w).others TableB volume refl)

  pub kept_a : (P : CopyView → Type 0) (s t : SiteLog) → WritesCopy (place_of copy.B volume) P s t → copy_a volume t ≡ copy_a volume s
  kept_a P s t w = ap copy_at ((ended_with (ChangesBlock TableB volume (λ block. P (copy_at block)) (content s)) s t w).others TableA volume refl)

  -- so does its block
  pub block_b_kept : (P : CopyView → Type 0) (s t : SiteLog) → WritesCopy (place_of copy.A volume) P s t → content t TableB volume ≡ content s TableB volume
  block_b_kept P s t w = (ended_with (ChangesBlock TableA volume (λ block. P (copy_at block)) (content s)) s t w).others TableB volume refl

  pub block_a_kept : (P : CopyView → Type 0) (s t : SiteLog) → WritesCopy (place_of copy.B volume) P s t → content t TableA volume ≡ content s TableA volume
  block_a_kept P s t w = (ended_with (ChangesBlock TableB volume (λ block. P (copy_at block)) (content s)) s t w).others TableA volume refl

  pub from_a : (P : CopyView → Type 0) (R : CopyView → CopyView → Type 0) (s t : SiteLog) → ((x : CopyView) → P x → R x (copy_b volume s)) → WritesCopy (place_of copy.A volume) P s t
      → Writes (ChangesPair volume R (content s)) s t
  from_a P R s t give w = weaker (ChangesBlock TableA volume (λ block. P (copy_at block)) (content s)) (ChangesPair volume R (content s)) (λ c has. record {
    others = λ unit block other. has.others unit block (outside_a volume unit block other);
    here = subst (R (copy_at (c TableA volume))) (ap copy_at (sym (has.others TableB volume refl))) (give (copy_at (c TableA volume)) has.here);
  }) s t w

  pub from_b : (P : CopyView → Type 0) (R : CopyView → CopyView → Type 0) (s t : SiteLog) → ((y : CopyView) → P y → R (copy_a volume s) y) → WritesCopy (place_of copy.B volume) P s t
      → Writes (ChangesPair volume R (content s)) s t
  from_b P R s t give w = weaker (ChangesBlock TableB volume (λ block. P (copy_at block)) (content s)) (ChangesPair volume R (content s)) (λ c has. record {
    others = λ unit block other. has.others unit block (outside_b volume unit block other);
    here = subst (λ (x : CopyView). R x (copy_at (c TableB volume))) (ap copy_at (sym (has.others TableA volume refl))) (give (copy_at (c TableB volume)) has.here);
  }) s t w

  -- one run after another, where nothing that the first wrote is loose at its end
  pub pair_then : (R : CopyView → CopyView → Type 0) (s t u : SiteLog) → Settles s t → Writes (ChangesPair volume R (content s)) s t → Writes (ChangesPair volume R (content t)) t u → Writes (ChangesPair volume R (content s)) s u
  pair_then R s t u settled first second =
      let at = ended_with (ChangesPair volume R (content s)) s t first in
      then_firm (ChangesPair volume R (content s)) s t u settled first
      (weaker (ChangesPair volume R (content t)) (ChangesPair volume R (content s)) (λ c has. record { others = λ unit block other. has.others unit block other ∙ at.others unit block other; here = has.here }) t u second)

  -- as writes of the row
  pub pair_row : (Q : CopyView → CopyView → Type 0) (R : Content → Type 0) (s t : SiteLog) → ((c : Content) → Q (copy_at (c TableA volume)) (copy_at (c TableB volume)) → R c)
      → Writes (ChangesPair volume (InPair (copy_a volume s) (copy_b volume s) Q) (content s)) s t → Writes (ChangesRow volume R (content s)) s t
  pair_row Q R s t give w = weaker (ChangesPair volume (InPair (copy_a volume s) (copy_b volume s) Q) (content s)) (ChangesRow volume R (content s)) (λ c has. record {
    others = has.others;
    a = has.here.stays_a;
    b = has.here.stays_b;
    here = give c has.here.here;
  }) s t w

  -- no write at all
  pub row_unwritten : (R : Content → Type 0) (s t : SiteLog) → t ≡ s → R (content s) → Writes (ChangesRow volume R (content s)) s t
  row_unwritten R s t same holds = subst (λ (u : SiteLog). Writes (ChangesRow volume R (content s)) s u) (sym same)
      (started (ChangesRow volume R (content s)) s (record { others = λ unit block other. refl; a = record { made = λ is. is }; b = record { made = λ is. is }; here = holds }))

-- two copies that hold one row need no repair
pub held_settled : (row : RowValue) (volume : ℕ) (c : Content) → HoldsRow row volume c → NeedsNoRepair volume c
held_settled row volume c holds = inr (row, holds.a, holds.b)
