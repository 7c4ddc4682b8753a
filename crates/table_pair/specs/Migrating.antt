-- Copies whose bodies are of version 1, which are written anew in version 2.
use Rattle.std.specs.Prelude.{◌≡◌, ◌⊎◌, ℕ, true, false, Result, OnOk, IfOk}
use Rattle.mss_base.specs.Blocks.{block_of}
use Rattle.mss_base.specs.Content.{Content, SiteLog, Settles, content}
use Rattle.mss_base.specs.declared.place.UnitNo.TheVariants.{TableA, TableB}
use Rattle.mss_base.specs.declared.place.BlockPlace.{BlockPlace}
use Rattle.volume_table.specs.Row.{RowValue}
use Rattle.volume_table.specs.Grammar.{is_old}
use Rattle.table_pair.specs.declared.copy.SlotsUsed.{SlotsUsed}
use Rattle.table_pair.specs.Copies.{CopyView, copy_at, copy_on, WritesCopy}
use Rattle.table_pair.specs.Changing.{IsChanging, IsCopyWith}
use Rattle.table_pair.specs.Slots.{IsChanged}

-- the bodies of both copies are of version 2
pub record AreNew (volume : ℕ) (c : Content) : Type 0 where
  pub a : is_old (copy_at (c TableA volume)).spelled ≡ false
  pub b : is_old (copy_at (c TableB volume)).spelled ≡ false

-- a copy whose body is of version 2 is so afterwards too
abbrev pub StaysNew : CopyView → CopyView → Type 0
StaysNew old now = is_old old.spelled ≡ false → is_old now.spelled ≡ false

-- a copy of version 2 that is open with this row, and so many of its slots are in use
pub record IsCopyNew (row : RowValue) (used : ℕ) (c : CopyView) : Type 0 where
  pub holds : IsCopyWith row used c
  pub is_new : is_old c.spelled ≡ false

-- what a call that migrates a copy does: a copy of version 2 isn't written. At Ok it tells how many slots are in use,
-- the gate of slot 0 of one that was written is 00, and no write of it is loose
pub record MigratesCopy {E : Type 0} (row : RowValue) (at : BlockPlace) (old new : SiteLog)
    (result : Result ℕ E) : Type 0 where
  pub moments : WritesCopy at (IsChanging row (copy_on old at)) old new
  pub done : IfOk result (λ used. IsCopyNew row used (copy_on new at))
  pub clear : OnOk result ((block_of new at ≡ block_of old at) ⊎ ((copy_on new at).is_clear ≡ true))
  pub firm : OnOk result (Settles old new)
  pub untouched : is_old (copy_on old at).spelled ≡ false → new ≡ old

-- what a migration leaves: both copies hold the row, in version 2, and so many of their slots are in use; no write of
-- it is loose
pub record IsMigrated (row : RowValue) (used : SlotsUsed) (volume : ℕ) (old new : SiteLog) : Type 0 where
  pub holds : IsChanged row used volume old new
  pub are_new : AreNew volume (content new)
