-- Which row two copies tell, and that what is held is told.
use Rattle.std.proofs.Common.{◌≡◌, inl, inr, ◌<◌, ◌==◌, Bool, true, false, not, ℕ, List, get_or, Some, None, Result, Ok, Err, lit<, sym, ◌∙◌, ap}
use Rattle.std.proofs.lemmas.List.{get_or-replicate}
use Rattle.std.proofs.lemmas.Bool.{cases_Bool, cond-true, cond-false}
use Rattle.mss_base.specs.Zeros.{zeros}
use Rattle.mss_base.specs.Content.{Content}
use Rattle.mss_base.specs.declared.place.UnitNo.{UnitNo}
use Rattle.mss_base.specs.declared.place.UnitNo.TheVariants.{TableA, TableB}
use Rattle.volume_table.specs.Row.{RowValue}
use Rattle.volume_table.specs.declared.fault.RowFault.{RowFault}
use Rattle.table_pair.specs.declared.copy.TableCopy.{TableCopy}
use Rattle.table_pair.specs.declared.copy.TableCopy.TheVariants as copy
use Rattle.table_pair.specs.Copies.{CopyView, copy_at}
use Rattle.table_pair.proofs.CopyLemmas.{gate_of, mark_of}
use Rattle.table_pair.specs.Pair.{CopyRead, opened, closed, read_of, row_told, known, copy_reading, reading, row_of_copies, row_of, IsOpenWith, HoldsRow, AreClosed}

zero_at : (place : ℕ) → place < 16384 → get_or zeros place 0 ≡ 0
unfolding zeros
zero_at place lt = get_or-replicate 16384 place 0 0 lt

pub open_read : (c : CopyView) → c.is_open ≡ true → read_of c ≡ opened (row_told c)
open_read c is = cond-true _ (opened (row_told c)) (closed c.is_made) is

pub closed_read : (c : CopyView) → c.is_open ≡ false → read_of c ≡ closed c.is_made
closed_read c is = cond-false _ (opened (row_told c)) (closed c.is_made) is

pub row_read : (row : RowValue) (c : CopyView) → IsOpenWith row c → read_of c ≡ opened (Ok row)
row_read row c is = open_read c is.open_gate ∙ ap opened is.row_is

-- copy A decides where it is open, else an open copy B
pub row_by_a : (row : RowValue) (a b : CopyView) → IsOpenWith row a → row_of_copies a b ≡ known (Some row) false
row_by_a row a b is = ap (λ (k : CopyRead). reading k (read_of b)) (row_read row a is)

pub row_by_b : (row : RowValue) (a b : CopyView) → a.is_open ≡ false → IsOpenWith row b → row_of_copies a b ≡ known (Some row) false
row_by_b row a b shut is = λ i. reading (closed_read a shut i) (row_read row b is i)

pub row_by_none : (a b : CopyView) → a.is_open ≡ false → b.is_open ≡ false → row_of_copies a b ≡ known None false
row_by_none a b shut_a shut_b = λ i. reading (closed_read a shut_a i) (closed_read b shut_b i)

-- in a content
pub held_row : (row : RowValue) (volume : ℕ) (c : Content) → HoldsRow row volume c → row_of c volume ≡ known (Some row) false
held_row row volume c holds = row_by_a row (copy_at (c TableA volume)) (copy_at (c TableB volume)) holds.a

pub closed_row : (volume : ℕ) (c : Content) → AreClosed volume c → row_of c volume ≡ known None false
closed_row volume c none = row_by_none (copy_at (c TableA volume)) (copy_at (c TableB volume)) none.a none.b

-- one row is told
pub one_row : (row other : RowValue) (missing more : Bool) → known (Some row) missing ≡ known (Some other) more → row ≡ other
one_row row other missing more is = cc

pub taken_row : (which : TableCopy) (missing : Bool) (read : Result RowValue RowFault) (row : RowValue) → copy_reading which missing read ≡ known (Some row) false → read ≡ Ok row
taken_row which missing (Ok found) row is = ap Ok (one_row found row missing false is)
taken_row which missing (Err fault) row is = absurd cc

-- the row that is told is that of an open copy A, or else of an open copy B
pub told_by_a : (row : RowValue) (a b : CopyView) → a.is_open ≡ true → row_of_copies a b ≡ known (Some row) false → IsOpenWith row a
told_by_a row a b is told = record {
  open_gate = is;
  row_is = taken_row copy.A false (row_told a) row (sym (ap (λ (k : CopyRead). reading k (read_of b)) (open_read a is)) ∙ told);
}

pub told_by_b : (row : RowValue) (a b : CopyView) → a.is_open ≡ false → row_of_copies a b ≡ known (Some row) false → IsOpenWith row b
told_by_b row a b shut told = elim (cases_Bool b.is_open) [
  | inl is ↦ record { open_gate = is; row_is = taken_row copy.B false (row_told b) row (sym (λ i. reading (closed_read a shut i) (open_read b is i)) ∙ told) }
  | inr none ↦ (let e : known None false ≡ known (Some row) false = sym (row_by_none a b shut none) ∙ told in cc)
]

-- a copy that was read as open with a row is, and no other is
pub read_open : (row : RowValue) (c : CopyView) → opened (Ok row) ≡ read_of c → IsOpenWith row c
read_open row c is = elim (cases_Bool c.is_open) [
  | inl open_gate ↦ record { open_gate = open_gate; row_is = (let e : opened (row_told c) ≡ opened (Ok row) = sym (open_read c open_gate) ∙ sym is in cc) }
  | inr shut ↦ (let e : opened (Ok row) ≡ closed c.is_made = is ∙ closed_read c shut in cc)
]

pub same_open : (row other : RowValue) (c : CopyView) → IsOpenWith row c → IsOpenWith other c → row ≡ other
same_open row other c is was = let e : Ok row ≡ Ok other = sym is.row_is ∙ was.row_is in cc

-- a block that was never written is a closed copy, of a volume that was never created
pub zeros_closed : (copy_at zeros).is_open ≡ false
zeros_closed = gate_of zeros ∙ ap (λ (n : ℕ). n == 193) (zero_at 0 (lit< tt))

pub zeros_unmade : (copy_at zeros).is_made ≡ false
zeros_unmade = mark_of zeros ∙ ap (λ (n : ℕ). not (n == 0)) (zero_at 511 (lit< tt))

pub zeros_are_closed : (volume : ℕ) (c : Content) → ((unit : UnitNo) (block : ℕ) → c unit block ≡ zeros) → AreClosed volume c
zeros_are_closed volume c all = record {
  a = ap (λ (b : List ℕ). (copy_at b).is_open) (all TableA volume) ∙ zeros_closed;
  b = ap (λ (b : List ℕ). (copy_at b).is_open) (all TableB volume) ∙ zeros_closed;
}
