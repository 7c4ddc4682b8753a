-- The moments of a repair.
use Rattle.std.proofs.Common.{◌≡◌, inl, inr, true, false, ℕ, List, length, Some, Result, Ok, Err, refl, sym, ◌∙◌, ap, subst}
use Rattle.std.specs.Prelude.{IsOk}
use Rattle.std.proofs.lemmas.Bool.{or_parts}
use Rattle.mss_base.specs.Content.{SiteLog, content, Settles, Writes, ChangesBlock}
use Rattle.mss_base.specs.declared.place.UnitNo.TheVariants.{TableA, TableB}
use Rattle.mss_base.proofs.Moments.{started, weaker}
use Rattle.mss_base.proofs.Settling.{settles_none}
use Rattle.volume_table.specs.Row.{RowValue}
use Rattle.volume_table.specs.Grammar.{decode, is_old}
use Rattle.table_pair.specs.declared.copy.TableCopy.{TableCopy}
use Rattle.table_pair.specs.declared.copy.TableCopy.TheVariants as copy
use Rattle.table_pair.specs.declared.repairs.Found.{Found}
use Rattle.table_pair.specs.declared.write.Gates.{Gates}
use Rattle.table_pair.specs.Places.{place_of}
use Rattle.table_pair.specs.Migrating.{AreNew}
use Rattle.table_pair.specs.declared.copy.SlotsUsed.{SlotsUsed}
use Rattle.table_pair.specs.Slots.{HasSlots, ClearsWritten}
use Rattle.table_pair.specs.Copies.{CopyView, copy_at, copy_on, filled_copy, HasGates, IsRewriting, WritesCopy}
use Rattle.table_pair.specs.Pair.{known, row_of_copies, HoldsRow, ChangesRow}
use Rattle.table_pair.specs.Repairs.{NeedNoRepair, NeedsNoRepair, IsBehind, one_of, IsFound, IsFoundOn, KeepsRow, KeepsMarks, HoldsToldRow, LosesSlots, KeepsRepairFault}
use Rattle.table_pair.specs.declared.copy.RepairFault.{RepairFault}
use Rattle.table_pair.specs.declared.copy.RepairFault.TheVariants.{Memory}
use Rattle.table_pair.proofs.PairFacts.{row_by_a, row_by_b, one_row}
use Rattle.table_pair.proofs.PairLemmas.{copy_a, copy_b, InPair, kept_a, kept_b, from_a, from_b, pair_row, block_a_kept, block_b_kept, row_unwritten}
use Rattle.table_pair.proofs.StayLemmas.{stays, stays_rewriting, rewriting_keeps_mark}
use Rattle.table_pair.proofs.ChangingLemmas.{open_filled, open_as}

module _ (volume : ℕ) (s t : SiteLog) where
  abbrev a : CopyView
  a = copy_a volume s

  abbrev b : CopyView
  b = copy_b volume s

  abbrev Row : CopyView → CopyView → Type 0
  Row x y = row_of_copies x y ≡ row_of_copies a b

  -- nothing is written
  pub unwritten : t ≡ s → Writes (ChangesRow volume (KeepsRow volume (content s)) (content s)) s t
  unwritten same = row_unwritten volume (KeepsRow volume (content s)) s t same refl

  pub no_marks : t ≡ s → Writes (KeepsMarks volume (content s)) s t
  no_marks same = subst (λ (u : SiteLog). Writes (KeepsMarks volume (content s)) s u) (sym same) (started (KeepsMarks volume (content s)) s (record { a = refl; b = refl }))

  pub none_cleared : (used : SlotsUsed) → t ≡ s → ClearsWritten used volume (content s) (content t)
  none_cleared used same = subst (λ (u : SiteLog). ClearsWritten used volume (content s) (content u)) (sym same) (record { a = λ _. inl refl; b = λ _. inl refl })

  pub none_firm : t ≡ s → Settles s t
  none_firm same = subst (λ (u : SiteLog). Settles s u) (sym same) (settles_none s)

  pub none_settled : NeedNoRepair a b → t ≡ s → NeedsNoRepair volume (content t)
  none_settled none same = subst (λ (u : SiteLog). NeedsNoRepair volume (content u)) (sym same) none

  pub equal_hold : NeedNoRepair a b → t ≡ s → HoldsToldRow volume (content s) (content t)
  equal_hold none same row told = elim none [
    | inl gone ↦ absurd (gone row told)
    | inr both ↦
        let is : both.0 ≡ row = one_row both.0 row false false (sym (row_by_a both.0 a b both.1) ∙ told) in
        subst (λ (u : SiteLog). HoldsRow row volume (content u)) (sym same) (subst (λ (r : RowValue). HoldsRow r volume (content s)) is (record { a = both.1; b = both.2 }))
  ]

  -- a copy is rewritten with this row, which the other one tells
  module _ (row : RowValue) (bytes : List ℕ) (spelled : decode bytes ≡ Ok row) where
    pub told_row : (which : TableCopy) → IsBehind which row a b → row_of_copies a b ≡ known (Some row) false
    told_row copy.A behind = row_by_b row a b behind.0 behind.1
    told_row copy.B behind = row_by_a row a b behind.1

    -- copy A is, and was closed
    within_a : IsBehind copy.A row a b → (x : CopyView) → IsRewriting bytes a x → Row x b
    within_a behind x is = elim is [
      | inl same ↦ ap (λ (c : CopyView). row_of_copies c b) same
      | inr filling ↦ elim filling.gate [
        | inl closed ↦ row_by_b row x b closed behind.1 ∙ sym (told_row copy.A behind)
        | inr full ↦ row_by_a row x b (open_as row x (filled_copy bytes a) full (open_filled row bytes a spelled)) ∙ sym (told_row copy.A behind)
      ]
    ]

    pub follow_moments : (which : TableCopy) → IsBehind which row a b → WritesCopy (place_of which volume) (IsRewriting bytes (copy_on s (place_of which volume))) s t
        → Writes (ChangesRow volume (KeepsRow volume (content s)) (content s)) s t
    follow_moments copy.A behind w = pair_row volume Row (KeepsRow volume (content s)) s t (λ c is. is)
        (from_a volume (IsRewriting bytes a) (InPair a b Row) s t (λ x is. record { stays_a = stays_rewriting bytes a x is; stays_b = stays b; here = within_a behind x is }) w)
    follow_moments copy.B behind w = pair_row volume Row (KeepsRow volume (content s)) s t (λ c is. is)
        (from_b volume (IsRewriting bytes b) (InPair a b Row) s t (λ y is. record { stays_a = stays a; stays_b = stays_rewriting bytes b y is; here = row_by_a row a y behind.1 ∙ sym (told_row copy.B behind) }) w)

    -- it keeps its mark, and the other one isn't written
    pub follow_marks : (which : TableCopy) → WritesCopy (place_of which volume) (IsRewriting bytes (copy_on s (place_of which volume))) s t → Writes (KeepsMarks volume (content s)) s t
    follow_marks copy.A w = weaker (ChangesBlock TableA volume (λ block. IsRewriting bytes a (copy_at block)) (content s)) (KeepsMarks volume (content s)) (λ c has. record {
      a = rewriting_keeps_mark bytes a (copy_at (c TableA volume)) has.here;
      b = ap (λ (block : List ℕ). (copy_at block).is_made) (has.others TableB volume refl);
    }) s t w
    follow_marks copy.B w = weaker (ChangesBlock TableB volume (λ block. IsRewriting bytes b (copy_at block)) (content s)) (KeepsMarks volume (content s)) (λ c has. record {
      a = ap (λ (block : List ℕ). (copy_at block).is_made) (has.others TableA volume refl);
      b = rewriting_keeps_mark bytes b (copy_at (c TableB volume)) has.here;
    }) s t w

    -- then both hold the row
    pub follow_holds : (which : TableCopy) → IsBehind which row a b → WritesCopy (place_of which volume) (IsRewriting bytes (copy_on s (place_of which volume))) s t
        → copy_on t (place_of which volume) ≡ filled_copy bytes (copy_on s (place_of which volume)) → HoldsRow row volume (content t)
    follow_holds copy.A behind w done = record {
      a = open_as row (copy_a volume t) (filled_copy bytes a) done (open_filled row bytes a spelled);
      b = open_as row (copy_b volume t) b (kept_b volume (IsRewriting bytes a) s t w) behind.1;
    }
    follow_holds copy.B behind w done = record {
      a = open_as row (copy_a volume t) a (kept_a volume (IsRewriting bytes b) s t w) behind.1;
      b = open_as row (copy_b volume t) (filled_copy bytes b) done (open_filled row bytes b spelled);
    }

    -- the rewritten one has no slots
    pub follow_slots : (which : TableCopy) → WritesCopy (place_of which volume) (IsRewriting bytes (copy_on s (place_of which volume))) s t
        → copy_on t (place_of which volume) ≡ filled_copy bytes (copy_on s (place_of which volume)) → LosesSlots which volume (content s) (content t)
    follow_slots copy.A w done used has = record {
      a = ap (λ (c : CopyView). length c.slots) done;
      b = ap (λ (c : CopyView). length c.slots) (kept_b volume (IsRewriting bytes a) s t w) ∙ has.b;
    }
    follow_slots copy.B w done used has = record {
      a = ap (λ (c : CopyView). length c.slots) (kept_a volume (IsRewriting bytes b) s t w) ∙ has.a;
      b = ap (λ (c : CopyView). length c.slots) done;
    }

    -- with the gate of slot 0 at 00, and the other one isn't written
    pub follow_clear : (which : TableCopy) → WritesCopy (place_of which volume) (IsRewriting bytes (copy_on s (place_of which volume))) s t
        → copy_on t (place_of which volume) ≡ filled_copy bytes (copy_on s (place_of which volume)) → (used : SlotsUsed) → ClearsWritten used volume (content s) (content t)
    follow_clear copy.A w done used = record { a = λ _. inr (ap (λ (c : CopyView). c.is_clear) done); b = λ _. inl (block_b_kept volume (IsRewriting bytes a) s t w) }
    follow_clear copy.B w done used = record { a = λ _. inl (block_a_kept volume (IsRewriting bytes b) s t w); b = λ _. inr (ap (λ (c : CopyView). c.is_clear) done) }

    pub follow_told : (which : TableCopy) → IsBehind which row a b → HoldsRow row volume (content t) → HoldsToldRow volume (content s) (content t)
    follow_told which behind holds other told =
        subst (λ (r : RowValue). HoldsRow r volume (content t)) (one_row row other false false (sym (told_row which behind) ∙ told)) holds

    pub follow_needed : (which : TableCopy) → IsBehind which row a b → NeedNoRepair a b → ⊥
    follow_needed copy.A behind none = elim none [ inl gone ↦ gone row (told_row copy.A behind) | inr both ↦ (let e : false ≡ true = sym behind.0 ∙ both.1.open_gate in cc) ]
    follow_needed copy.B behind none = elim none [ inl gone ↦ gone row (told_row copy.B behind) | inr both ↦ behind.0 both ]

-- the gates of the copy that is rewritten
pub gates_on : (which : TableCopy) (volume : ℕ) (s : SiteLog) (gates : Gates) → HasGates gates (one_of which (copy_a volume s) (copy_b volume s)) → HasGates gates (copy_on s (place_of which volume))
gates_on copy.A volume s gates has = has
gates_on copy.B volume s gates has = has

-- what was read of two copies is so of them
pub found_on : (found : Found) (volume : ℕ) (s : SiteLog) (a b : CopyView) → a ≡ copy_a volume s → b ≡ copy_b volume s → IsFound found a b → IsFoundOn found volume (content s)
found_on found volume s a b is_a is_b is = subst (λ (p : CopyView × CopyView). IsFound found p.0 p.1) (λ i. (is_a i, is_b i)) is

-- and they are of version 2, if none was found to be old
pub found_new : (found : Found) (volume : ℕ) (s r : SiteLog) → r ≡ s → IsFoundOn found volume (content s) → found.is_old ≡ false → AreNew volume (content r)
found_new found volume s r same is none =
    let neither = or_parts (is_old (copy_at (content s TableA volume)).spelled) (is_old (copy_at (content s TableB volume)).spelled) (sym is.age ∙ none) in
    subst (λ (q : SiteLog). AreNew volume (content q)) (sym same) (record { a = neither.0; b = neither.1 })

pub found_slots : (found : Found) (volume : ℕ) (s r : SiteLog) → r ≡ s → IsFoundOn found volume (content s) → HasSlots found.used volume (content r)
found_slots found volume s r same is = subst (λ (q : SiteLog). HasSlots found.used volume (content q)) (sym same) (record { a = is.used_a; b = is.used_b })

-- what a call that wrote nothing before keeps
pub firm_since : (s r t : SiteLog) → r ≡ s → Settles r t → Settles s t
firm_since s r t same firm = subst (λ (q : SiteLog). Settles q t) same firm

pub clear_since : (used : SlotsUsed) (volume : ℕ) (s r t : SiteLog) → r ≡ s → ClearsWritten used volume (content r) (content t) → ClearsWritten used volume (content s) (content t)
clear_since used volume s r t same clears = subst (λ (q : SiteLog). ClearsWritten used volume (content q) (content t)) same clears

pub marks_since : (volume : ℕ) (s r t : SiteLog) → r ≡ s → Writes (KeepsMarks volume (content r)) r t → Writes (KeepsMarks volume (content s)) s t
marks_since volume s r t same w = subst (λ (q : SiteLog). Writes (KeepsMarks volume (content q)) q t) same w

pub since : (volume : ℕ) (s r t : SiteLog) → r ≡ s → Writes (ChangesRow volume (KeepsRow volume (content r)) (content r)) r t → Writes (ChangesRow volume (KeepsRow volume (content s)) (content s)) s t
since volume s r t same w = subst (λ (q : SiteLog). Writes (ChangesRow volume (KeepsRow volume (content q)) (content q)) q t) same w

-- the count before a call that left it
pub kept_since : {T : Type 0} (before mid now : ℕ) (r : Result T RepairFault) → mid ≡ before → KeepsRepairFault mid now r → KeepsRepairFault before now r
kept_since before mid now r same kept = subst (λ (n : ℕ). KeepsRepairFault n now r) same kept

-- want of memory comes where no call failed
pub memory_count : {T : Type 0} (before now : ℕ) (r : Result T RepairFault) → r ≡ Err Memory → KeepsRepairFault before now r → now ≡ before
memory_count before now r is kept = subst (KeepsRepairFault before now) is kept

pub never_err : (T : Type 0) {E : Type 0} (e : E) (P : Type 0) → IsOk {T = T} (Err e) → P
never_err T e P ok = absurd (let k : false ≡ true = ok in cc)
