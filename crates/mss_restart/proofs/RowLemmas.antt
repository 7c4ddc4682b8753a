-- Reading a row, and looking a serial up.
use Rattle.std.proofs.Common.{◌≡◌, ℕ, ◌≤◌, inr, Bool, true, false, List, Option, Some, None, Result, Err, refl, sym, ◌∙◌, ap, subst, arith}
use Rattle.std.specs.Prelude.{not}
use Rattle.mss_base.specs.Content.{Content}
use Rattle.mss_base.specs.Counts.{Rises, IsFaultSince}
use Rattle.mss_base.specs.declared.place.UnitNo.{UnitNo}
use Rattle.mss_base.specs.declared.place.UnitNo.TheVariants.{TableA, TableB}
use Rattle.volume_table.specs.Row.{RowValue}
use Rattle.table_pair.specs.Pair.{RowReading, known, reading, read_of, row_of}
use Rattle.table_pair.specs.Copies.{copy_at}
use Rattle.table_pair.specs.Reads.{ReadsRow}
use Rattle.table_pair.specs.declared.copy.RowRead.{RowRead}
use Rattle.table_pair.specs.declared.copy.RowTrouble.{RowTrouble}
use Rattle.shown_volumes.specs.declared.refused.Refused.{Refused}
use Rattle.shown_volumes.specs.declared.refused.Refused.TheVariants.{SerialDiffers, RowUnread, Stopped}
use Rattle.mss_base.specs.Firsts.{where_so}
use Rattle.shown_volumes.specs.Faults.{is_same_list, serial_fault, read_fault}
use Rattle.mss_restart.specs.Survey.{KeepsCause, CountsCause, IsReading, TellsRow}

pub later_rise : (first before now last : ℕ) → first ≤ before → now ≤ last → Rises before now → Rises first last
later_rise first before now last start end rises = omega arith

-- nothing was read: each copy is as the content says
pub right_reading : (count volume : ℕ) (c : Content) → IsReading count count volume c (row_of c volume)
right_reading count volume c = record {
  between = count;
  a = read_of (copy_at (c TableA volume));
  b = read_of (copy_at (c TableB volume));
  a_read = inr (refl, refl);
  b_read = inr (refl, refl);
  told = refl;
}

module _ (readable : UnitNo → Type 0) (before now volume : ℕ) (c : Content) (result : Result RowRead RowTrouble) (reads : ReadsRow readable before now volume c result) where
  pub was_read : IsReading before now volume c (reading reads.a reads.b)
  was_read = record { between = reads.between; a = reads.a; b = reads.b; a_read = reads.a_read; b_read = reads.b_read; told = refl }

-- a serial that differs is a fault of the content
pub serial_told : (volume : ℕ) (o : Option RowValue) (missing : Bool) (asked : Option (List ℕ)) (r : RowReading) (e : Refused) → r ≡ known o missing → serial_fault volume o asked ≡ Some e → TellsRow volume asked r (Err e)
serial_told volume None missing asked r e told is = absurd cc
serial_told volume (Some q) missing None r e told is = absurd cc
serial_told volume (Some q) missing (Some a) r e told is = by (not (is_same_list q.serial a)) is
  where
    by : (b : Bool) → where_so b (SerialDiffers volume q.serial a) ≡ Some e → TellsRow volume (Some a) r (Err e)
    by false found = absurd cc
    by true found =
        let same : SerialDiffers volume q.serial a ≡ e = cc in
        subst (λ (x : Refused). TellsRow volume (Some a) r (Err x)) same (λ _. ap (read_fault volume (Some a)) told ∙ is ∙ ap (λ (x : Refused). Some x) (sym same))

-- a fault that was kept in a later part of a call was kept in the call
pub since : (begun before now fault : ℕ) → begun ≤ before → IsFaultSince before now fault → IsFaultSince begun now fault
since begun before now fault start is = record { count = is.count; rises = later_rise begun before now now start (omega arith) is.rises }

pub cause_since : (begun before now : ℕ) (e : Refused) → begun ≤ before → KeepsCause before now e → KeepsCause begun now e
cause_since begun before now (RowUnread v f) start kept = since begun before now f start kept
cause_since begun before now (Stopped f) start kept = since begun before now f start kept
cause_since begun before now _ start kept = omega (arith, start, kept)

-- a failed call that is answered is kept
pub counts_kept : (before now : ℕ) (e : Refused) → CountsCause before now e → KeepsCause before now e
counts_kept before now (RowUnread v f) counts = counts
counts_kept before now (Stopped f) counts = counts
counts_kept before now _ counts = omega (arith, counts)
