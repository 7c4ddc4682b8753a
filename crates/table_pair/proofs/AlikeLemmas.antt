-- Copies that are alike.
use Rattle.std.proofs.Common.{◌≡◌, inl, inr, ℕ, ◌+◌, ◌<◌, true, List, [], length, Option, slice_get, Result, Ok, Err, refl, sym, ◌∙◌, ap, subst, arith}
use Rattle.std.specs.Prelude.{unwrap_or}
use Rattle.std.proofs.lemmas.Bool.{cases_lt}
use Rattle.std.proofs.lemmas.List.{ext_get_or}
use Rattle.std.proofs.lemmas.Option.{unwrap_or-slice_get}
use Rattle.volume_table.specs.Row.{RowValue}
use Rattle.volume_table.specs.Slots.{told_by}
use Rattle.volume_table.specs.declared.fault.RowFault.{RowFault}
use Rattle.table_journal.specs.Slots.{slots}
use Rattle.volume_table.specs.Grammar.{body}
use Rattle.table_pair.specs.Copies.{CopyView, copy_at}
use Rattle.table_pair.specs.Pair.{row_told}
use Rattle.table_pair.specs.Repairs.{AreAlike, NeedNoRepair}
use Rattle.table_pair.proofs.FollowLemmas.{none_of_a}

module _ (xs ys : List (List ℕ)) where
  -- the first ones are the same, and one more
  pub same_too : (n : ℕ) → ((i : ℕ) → i < n → slice_get xs i ≡ slice_get ys i) → slice_get xs n ≡ slice_get ys n
      → (i : ℕ) → i < n + 1 → slice_get xs i ≡ slice_get ys i
  same_too n before here i lt = elim (cases_lt i n) [
    | inl low ↦ before i low
    | inr from ↦ (let e : n ≡ i = omega (arith, lt, from) in subst (λ (k : ℕ). slice_get xs k ≡ slice_get ys k) e here)
  ]

  pub all_same : length xs ≡ length ys → ((i : ℕ) → i < length xs → slice_get xs i ≡ slice_get ys i) → xs ≡ ys
  all_same long each = ext_get_or [] xs ys long (λ i low.
      sym (unwrap_or-slice_get xs i []) ∙ ap (λ (o : Option (List ℕ)). unwrap_or o []) (each i low) ∙ unwrap_or-slice_get ys i [])

-- the copies in two blocks that were read
pub alike_blocks : (a b x y : List ℕ) → x ≡ a → y ≡ b → body x ≡ body y → slots x ≡ slots y → AreAlike (copy_at a) (copy_at b)
unfolding copy_at
alike_blocks a b x y is_a is_b one same = record {
  body = sym (ap body is_a) ∙ one ∙ ap body is_b;
  slots_ = sym (ap slots is_a) ∙ same ∙ ap slots is_b;
}

module _ (a b : CopyView) (open_a : a.is_open ≡ true) (open_b : b.is_open ≡ true) (alike : AreAlike a b) where
  same_told : row_told a ≡ row_told b
  same_told = λ i. told_by (alike.body i) (alike.slots_ i)

  by_told : (read : Result RowValue RowFault) → row_told a ≡ read → NeedNoRepair a b
  by_told (Ok row) told = inr (row, record { open_gate = open_a; row_is = told }, record { open_gate = open_b; row_is = sym same_told ∙ told })
  by_told (Err fault) told = none_of_a a b open_a (λ row held. let e : Err fault ≡ Ok row = sym told ∙ held.row_is in cc)

  -- they need no repair
  pub alike_need_none : NeedNoRepair a b
  alike_need_none = by_told (row_told a) refl
