-- What stays of a copy while it is written.
use Rattle.std.proofs.Common.{◌≡◌, inl, inr, true, List, ℕ, refl, sym, ◌∙◌, ap, subst}
use Rattle.table_pair.specs.Copies.{CopyView, marked_copy, filled_copy, IsRewriting}
use Rattle.volume_table.specs.Row.{RowValue}
use Rattle.table_pair.specs.Pair.{StaysCopy}
use Rattle.table_pair.specs.Changing.{IsChanging}

pub stays : (c : CopyView) → StaysCopy c c
stays c = record { made = λ is. is }

pub stays_as : (old now : CopyView) → now ≡ old → StaysCopy old now
stays_as old now same = subst (StaysCopy old) (sym same) (stays old)

pub stays_marked : (old now : CopyView) → now ≡ marked_copy old → StaysCopy old now
stays_marked old now is = subst (StaysCopy old) (sym is) (record { made = λ _. refl })

pub stays_filled : (bytes : List ℕ) (old : CopyView) → StaysCopy old (filled_copy bytes old)
stays_filled bytes old = record { made = λ is. is }

pub stays_rewriting : (bytes : List ℕ) (old now : CopyView) → IsRewriting bytes old now → StaysCopy old now
stays_rewriting bytes old now is = elim is [
  | inl same ↦ stays_as old now same
  | inr filling ↦ record { made = λ made. filling.made ∙ made }
]

pub stays_changing : (row : RowValue) (old now : CopyView) → IsChanging row old now → StaysCopy old now
stays_changing row old now is = record { made = λ made. is.made ∙ made }

-- of what was marked, what stays stays of the copy before
pub stays_since : (old now : CopyView) → StaysCopy (marked_copy old) now → StaysCopy old now
stays_since old now is = record { made = λ _. is.made refl }

pub rewriting_made : (bytes : List ℕ) (old now : CopyView) → IsRewriting bytes (marked_copy old) now → now.is_made ≡ true
rewriting_made bytes old now is = (stays_rewriting bytes (marked_copy old) now is).made refl

-- a rewritten copy has the mark that it had
pub rewriting_keeps_mark : (bytes : List ℕ) (old now : CopyView) → IsRewriting bytes old now → now.is_made ≡ old.is_made
rewriting_keeps_mark bytes old now is = elim is [ inl same ↦ ap (λ (c : CopyView). c.is_made) same | inr filling ↦ filling.made ]
