-- Which copy is to be rewritten.
use Rattle.std.proofs.Common.{◌≡◌, inl, inr, Bool, true, false, ℕ, List, Option, Some, None, Result, Ok, Err, sym, ◌∙◌, ap, subst}
use Rattle.std.specs.Prelude.{OnOk}
use Rattle.volume_table.specs.Row.{RowValue}
use Rattle.volume_table.specs.Grammar.{decode}
use Rattle.volume_table.specs.declared.fault.RowFault.{RowFault}
use Rattle.table_pair.specs.Copies.{CopyView}
use Rattle.table_pair.specs.Pair.{unread, closed, opened, read_of, IsOpenWith}
use Rattle.table_pair.specs.Repairs.{HoldSame, NeedNoRepair, TellsRow}
use Rattle.table_pair.proofs.PairFacts.{row_read, told_by_a, told_by_b, same_open}

-- a copy that was read as closed, as damaged, or not at all, tells no row
pub read_closed : (made : Bool) (c : CopyView) → closed made ≡ read_of c → TellsRow None c
read_closed made c is row held = let e : closed made ≡ opened (Ok row) = is ∙ row_read row c held in cc

pub read_damaged : (fault : RowFault) (c : CopyView) → opened (Err fault) ≡ read_of c → TellsRow None c
read_damaged fault c is row held = let e : opened (Err fault) ≡ opened (Ok row) = is ∙ row_read row c held in cc

pub read_unread : (c : CopyView) → unread ≡ read_of c → TellsRow None c
read_unread c is row held = let e : unread ≡ opened (Ok row) = is ∙ row_read row c held in cc

-- bodies of one row are one
pub same_rows : (row other : RowValue) (x y : List ℕ) → decode x ≡ Ok row → decode y ≡ Ok other → x ≡ y → row ≡ other
same_rows row other x y is was same = let e : Ok row ≡ Ok other = sym is ∙ ap decode same ∙ was in cc

module _ (a b : CopyView) where
  -- the copy that counts tells no row
  pub none_of_b : a.is_open ≡ false → TellsRow None b → NeedNoRepair a b
  none_of_b shut none = inl (λ row told. none row (told_by_b row a b shut told))

  pub none_of_a : a.is_open ≡ true → TellsRow None a → NeedNoRepair a b
  none_of_a is none = inl (λ row told. none row (told_by_a row a b is told))

  module _ (row : RowValue) (open_a : IsOpenWith row a) (told : Option RowValue) (by_b : TellsRow told b) where
    pub both_tell : told ≡ Some row → NeedNoRepair a b
    both_tell same = inr (row, open_a, subst (λ (o : Option RowValue). TellsRow o b) same by_b)

  pub tells_other : (told : Option RowValue) → TellsRow told b → (row : RowValue) → IsOpenWith row a → (told ≡ Some row → ⊥) → HoldSame a b → ⊥
  tells_other None none row open_a other same = none same.0 same.2
  tells_other (Some found) held row open_a other same = other (ap Some (same_open found same.0 b held same.2 ∙ same_open same.0 row a same.1 open_a))

-- a test that is false rules its fact out
pub refuted : (flag : Bool) (P : Type 0) → flag ≡ false → (P → flag ≡ true) → P → ⊥
refuted flag P is gives p = let e : false ≡ true = sym is ∙ gives p in cc

pub on_ok_gives : {T E : Type 0} (r : Result T E) (P Q : Type 0) → (P → Q) → OnOk r P → OnOk r Q
on_ok_gives (Ok value) P Q gives holds = gives holds
on_ok_gives (Err e) P Q gives holds = tt
