-- Reading a row by the table.
use Rattle.std.proofs.Common.{◌≡◌, ◌≢◌, inl, inr, ℕ, ◌≤◌, Bool, true, false, Option, Some, None, Result, Err, refl, sym, ◌∙◌, subst, arith}
use Rattle.std.proofs.lemmas.Bool.{cases_Bool}
use Rattle.mss_base.specs.Content.{Content}
use Rattle.mss_base.specs.Counts.{Rises, IsFaultSince}
use Rattle.mss_base.specs.declared.place.UnitNo.{UnitNo}
use Rattle.mss_base.specs.declared.place.UnitNo.TheVariants.{TableA, TableB}
use Rattle.volume_table.specs.declared.fault.RowFault.{RowFault}
use Rattle.table_pair.specs.declared.copy.TableCopy.{TableCopy}
use Rattle.table_pair.specs.declared.copy.TableCopy.TheVariants as copy
use Rattle.table_pair.specs.declared.copy.CopyState.{CopyState}
use Rattle.table_pair.specs.declared.copy.CopyState.TheVariants as state
use Rattle.table_pair.specs.declared.copy.RowRead.{RowRead}
use Rattle.table_pair.specs.declared.copy.RowTrouble.{RowTrouble}
use Rattle.table_pair.specs.declared.copy.RowTrouble.TheVariants as trouble
use Rattle.table_pair.specs.Copies.{CopyView, copy_at}
use Rattle.table_pair.specs.Pair.{CopyRead, unread, closed, opened, read_of, reading}
use Rattle.table_pair.specs.Reads.{read_of_copy, is_opened, IsReadOf, KeepsFault, MissingKeeps, KeepsCount, StaysOrRises, Tells, MissesNone, ReadsRow}
use Rattle.table_pair.proofs.PairFacts.{open_read, closed_read}

rises_earlier : (before mid now : ℕ) → before ≤ mid → Rises mid now → Rises before now
rises_earlier before mid now le rises = omega arith

-- a fault since a later moment came since an earlier one
pub since_earlier : (before mid now fault : ℕ) → before ≤ mid → IsFaultSince mid now fault → IsFaultSince before now fault
since_earlier before mid now fault le is = record { count = is.count; rises = rises_earlier before mid now le is.rises }

-- a fault before a call that left the count
pub since_later : (before mid now fault : ℕ) → now ≡ mid → IsFaultSince before mid fault → IsFaultSince before now fault
since_later before mid now fault same is = record { count = is.count ∙ sym same; rises = omega (arith, is.rises) }

-- whatever a copy keeps, the count stayed or rose
pub keeps_count : (before now : ℕ) (c : CopyState) → KeepsFault before now c → StaysOrRises before now
keeps_count before now (state.Unread fault) kept = inr kept.rises
keeps_count before now (state.Closed made) kept = inl kept
keeps_count before now (state.Open row) kept = inl kept

-- a damaged copy, where copy A misses none
pub damaged_keeps : (before now : ℕ) (which : TableCopy) (missing : Option ℕ) (fault : RowFault) → (which ≡ copy.A → missing ≡ None) → MissingKeeps before now missing → KeepsCount before now (Err (trouble.Damaged which fault))
damaged_keeps before now copy.A missing fault none kept = subst (MissingKeeps before now) (none refl) kept
damaged_keeps before now copy.B None fault none kept = inl kept
damaged_keeps before now copy.B (Some count) fault none kept = inr kept.rises

-- a copy that was read leaves the count
pub there_keeps : (before now : ℕ) (c : CopyState) → read_of_copy c ≢ unread → KeepsFault before now c → now ≡ before
there_keeps before now (state.Unread fault) there kept = absurd (there refl)
there_keeps before now (state.Closed made) there kept = kept
there_keeps before now (state.Open row) there kept = kept

pub memory_keeps : (before mid now : ℕ) (c : CopyState) (result : Result RowRead RowTrouble) → KeepsFault before mid c → now ≡ mid → result ≡ Err trouble.Memory → KeepsCount before now result
memory_keeps before mid now c result kept same is =
    subst (KeepsCount before now) (sym is) (subst (λ (n : ℕ). StaysOrRises before n) (sym same) (keeps_count before mid c kept))

pub memory_misses : (result : Result RowRead RowTrouble) → result ≡ Err trouble.Memory → MissesNone result
memory_misses result is = subst MissesNone (sym is) tt

pub closed_there : (made : Bool) → closed made ≢ unread
closed_there made is = let e : closed made ≡ unread = is in cc

-- what a block says is no missing copy
pub read_there : (c : CopyView) → read_of c ≢ unread
read_there c is = elim (cases_Bool c.is_open) [
  | inl opened_gate ↦ (let e = sym (open_read c opened_gate) ∙ is in cc)
  | inr shut_gate ↦ (let e = sym (closed_read c shut_gate) ∙ is in cc)
]

-- where copy A is open, copy B says nothing
open_alone : (a b d : CopyRead) → is_opened a ≡ true → reading a b ≡ reading a d
open_alone (opened row) b d is = refl
open_alone (closed made) b d is = absurd cc
open_alone unread b d is = absurd cc

-- an open copy was read
pub open_there : (a : CopyRead) → is_opened a ≡ true → a ≢ unread
open_there (opened row) is = λ e. let f : opened row ≡ unread = e in cc
open_there (closed made) is = absurd cc
open_there unread is = absurd cc

-- where copy A isn't open, copy B is read
pub shut_alone : (a : CopyRead) (P : Type 0) → is_opened a ≡ false → is_opened a ≡ true → P
shut_alone a P shut is = absurd (let e : false ≡ true = sym shut ∙ is in cc)

module _ (readable : UnitNo → Type 0) (before now volume : ℕ) (c : Content) (result : Result RowRead RowTrouble) where
  -- memory ran out before the first read, or behind it
  pub memory_row : now ≡ before → result ≡ Err trouble.Memory → ReadsRow readable before now volume c result
  memory_row same is = record {
    between = before;
    a = read_of (copy_at (c TableA volume));
    b = read_of (copy_at (c TableB volume));
    a_later = omega arith;
    b_later = omega arith;
    a_read = inr (refl, refl);
    b_read = inr (refl, same);
    a_there = λ _. read_there (copy_at (c TableA volume));
    b_there = λ _. read_there (copy_at (c TableB volume));
    told = subst (λ (r : Result RowRead RowTrouble). Tells r (reading (read_of (copy_at (c TableA volume))) (read_of (copy_at (c TableB volume))))) (sym is) tt;
  }

  -- or behind the second
  pub memory_later : (mid : ℕ) (a : CopyRead) → before ≤ mid → now ≡ mid → IsReadOf before mid (c TableA volume) a → (readable TableA → a ≢ unread) → result ≡ Err trouble.Memory → ReadsRow readable before now volume c result
  memory_later mid a le same a_read there is = record {
    between = mid;
    a = a;
    b = read_of (copy_at (c TableB volume));
    a_later = le;
    b_later = omega arith;
    a_read = a_read;
    b_read = inr (refl, same);
    a_there = there;
    b_there = λ _. read_there (copy_at (c TableB volume));
    told = subst (λ (r : Result RowRead RowTrouble). Tells r (reading a (read_of (copy_at (c TableB volume))))) (sym is) tt;
  }

  pub open_row : (a d : CopyRead) → before ≤ now → IsReadOf before now (c TableA volume) a → is_opened a ≡ true → Tells result (reading a d) → ReadsRow readable before now volume c result
  open_row a d le read is told = record {
    between = now;
    a = a;
    b = read_of (copy_at (c TableB volume));
    a_later = le;
    b_later = omega arith;
    a_read = read;
    b_read = inr (refl, refl);
    a_there = λ _. open_there a is;
    b_there = λ _. read_there (copy_at (c TableB volume));
    told = subst (Tells result) (open_alone a d (read_of (copy_at (c TableB volume))) is) told;
  }

  pub both_row : (mid : ℕ) (d : Content) (a b : CopyRead) → before ≤ mid → mid ≤ now → d ≡ c → IsReadOf before mid (c TableA volume) a → IsReadOf mid now (d TableB volume) b
      → (readable TableA → a ≢ unread) → (readable TableB → b ≢ unread) → Tells result (reading a b) → ReadsRow readable before now volume c result
  both_row mid d a b le le_now same a_read b_read a_there b_there told = record {
    between = mid;
    a = a;
    b = b;
    a_later = le;
    b_later = le_now;
    a_read = a_read;
    b_read = subst (λ (e : Content). IsReadOf mid now (e TableB volume) b) same b_read;
    a_there = a_there;
    b_there = b_there;
    told = told;
  }
