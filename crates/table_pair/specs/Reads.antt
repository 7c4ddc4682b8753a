-- What reading a row tells, where reads may fail.
use Rattle.std.specs.Prelude.{◌≡◌, ◌≢◌, ◌⊎◌, ◌≤◌, ℕ, Bool, true, false, List, Option, Some, None, is_some, Result, Ok, Err}
use Rattle.mss_base.specs.Content.{Content}
use Rattle.mss_base.specs.Counts.{Rises, IsFaultSince}
use Rattle.mss_base.specs.declared.place.UnitNo.{UnitNo}
use Rattle.mss_base.specs.declared.place.UnitNo.TheVariants.{TableA, TableB}
use Rattle.mss_base.specs.declared.site.Site.{Ghosts}
use Rattle.table_pair.specs.declared.copy.TableCopy.TheVariants as copy
use Rattle.table_pair.specs.declared.copy.CopyState.{CopyState}
use Rattle.table_pair.specs.declared.copy.CopyState.TheVariants as state
use Rattle.table_pair.specs.declared.copy.RowRead.{RowRead}
use Rattle.table_pair.specs.declared.copy.RowTrouble.{RowTrouble}
use Rattle.table_pair.specs.declared.copy.RowTrouble.TheVariants as trouble
use Rattle.table_pair.specs.Copies.{copy_at}
use Rattle.table_pair.specs.Pair.{CopyRead, unread, closed, opened, read_of, is_table}
use Rattle.table_pair.specs.Pair.{RowReading, known, damaged, unknown, reading}

abbrev pub read_of_copy : CopyState → CopyRead
read_of_copy (state.Unread fault) = unread
read_of_copy (state.Closed made) = closed made
read_of_copy (state.Open row) = opened row

abbrev pub is_opened : CopyRead → Bool
is_opened (opened row) = true
is_opened _ = false

-- no read of this unit fails
abbrev pub IsReadable : {S : Type 0} → Ghosts S → S → UnitNo → Type 0
IsReadable g s unit = (but : UnitNo → Bool) × g.never_fails_but s but × (but unit ≡ false)

-- no read of a frame or a cartridge fails
abbrev pub CanReadTracks : {S : Type 0} → Ghosts S → S → Type 0
CanReadTracks g s = (unit : UnitNo) → is_table unit ≡ false → IsReadable g s unit

-- a copy was read, and the count of faults stayed, or its read failed, and the count rose
abbrev pub IsReadOf : ℕ → ℕ → List ℕ → CopyRead → Type 0
IsReadOf before now block read =
    ((read ≡ unread) × Rises before now) ⊎ ((read ≡ read_of (copy_at block)) × (now ≡ before))

-- a copy that can't be read keeps the count behind its read; another one leaves the count
abbrev pub KeepsFault : ℕ → ℕ → CopyState → Type 0
KeepsFault before now (state.Unread fault) = IsFaultSince before now fault
KeepsFault before now _ = now ≡ before

-- so does want of memory behind its read
abbrev pub CopyKeeps : {E : Type 0} → ℕ → ℕ → Result CopyState E → Type 0
CopyKeeps before now (Ok c) = KeepsFault before now c
CopyKeeps before now (Err _) = now ≡ before

-- what was answered is what the table says, but for want of memory
abbrev pub Tells : Result RowRead RowTrouble → RowReading → Type 0
Tells (Ok r) row = row ≡ known r.row (is_some r.unread)
Tells (Err (trouble.Damaged copy fault)) row = row ≡ damaged copy fault
Tells (Err (trouble.Unread fault)) row = row ≡ unknown
Tells (Err trouble.Memory) row = Unit {0}

-- the count of a copy that is missing is the count now; where none is missing, the count stays
abbrev pub MissingKeeps : ℕ → ℕ → Option ℕ → Type 0
MissingKeeps before now (Some fault) = IsFaultSince before now fault
MissingKeeps before now None = now ≡ before

abbrev pub StaysOrRises : ℕ → ℕ → Type 0
StaysOrRises before now = (now ≡ before) ⊎ Rises before now

-- a fault that is told is the count now. Where none is told, none came, but that copy A may be missing where copy B is
-- damaged, or memory ran out
abbrev pub KeepsCount : ℕ → ℕ → Result RowRead RowTrouble → Type 0
KeepsCount before now (Ok r) = MissingKeeps before now r.unread
KeepsCount before now (Err (trouble.Unread fault)) = IsFaultSince before now fault
KeepsCount before now (Err (trouble.Damaged copy.A fault)) = now ≡ before
KeepsCount before now (Err (trouble.Damaged copy.B fault)) = StaysOrRises before now
KeepsCount before now (Err trouble.Memory) = StaysOrRises before now

-- the counts that two copies keep: it was `between` behind the read of copy A. Where that is open, copy B isn't read
pub record KeepBoth (before now : ℕ) (a b : CopyState) : Type 0 where
  pub between : ℕ
  pub later : before ≤ between
  pub a_kept : KeepsFault before between a
  pub b_kept : KeepsFault between now b
  pub alone : is_opened (read_of_copy a) ≡ true → now ≡ between

-- no copy is missing
abbrev pub MissesNone : Result RowRead RowTrouble → Type 0
MissesNone (Ok r) = r.unread ≡ None
MissesNone (Err (trouble.Unread fault)) = ⊥
MissesNone (Err _) = Unit {0}

-- what was answered where each copy can be read
pub record ReadsBoth (before now : ℕ) (result : Result RowRead RowTrouble) : Type 0 where
  pub none : MissesNone result
  pub count : now ≡ before

-- the row was read by the table, copy A first. Each copy was read, or its read failed with a count that rose at it, if it
-- isn't readable: the count was `between` after the read of copy A.
pub record ReadsRow (readable : UnitNo → Type 0) (before now volume : ℕ) (c : Content) (result : Result RowRead RowTrouble) : Type 0 where
  pub between : ℕ
  pub a : CopyRead
  pub b : CopyRead
  pub a_later : before ≤ between
  pub b_later : between ≤ now
  pub a_read : IsReadOf before between (c TableA volume) a
  pub b_read : IsReadOf between now (c TableB volume) b
  pub a_there : readable TableA → a ≢ unread
  pub b_there : readable TableB → b ≢ unread
  pub told : Tells result (reading a b)
