-- One copy of a row, while the row is created.
use Rattle.std.specs.Prelude.{◌≡◌, Bool, true, ℕ, List, Result, OnOk, IfOk}
use Rattle.mss_base.specs.Content.{SiteLog, Settles}
use Rattle.mss_base.specs.declared.place.BlockPlace.{BlockPlace}
use Rattle.mss_base.specs.Geometry.{made_mark_at, made_mark}
use Rattle.table_pair.specs.Copies.{byte_on, copy_on, marked_copy, filled_copy, IsFilling, IsMarking, WritesCopy}

-- what a call that sets the made mark of a copy does. At Ok it tells whether the gate of slot 0 is 00, and no write of
-- it is loose
pub record MarksCopy {E : Type 0} (at : BlockPlace) (old new : SiteLog) (result : Result Bool E) : Type 0 where
  pub moments : WritesCopy at (IsMarking (copy_on old at)) old new
  pub done : OnOk result (copy_on new at ≡ marked_copy (copy_on old at))
  pub clear : IfOk result (λ is_clear. is_clear ≡ true → (copy_on old at).is_clear ≡ true)
  pub mark : byte_on old at made_mark_at ≡ 0 → OnOk result (byte_on new at made_mark_at ≡ made_mark)
  pub firm : OnOk result (Settles old new)

-- what a call that fills a closed copy with a body does. At Ok no write of it is loose
pub record FillsCopy {T E : Type 0} (bytes : List ℕ) (at : BlockPlace) (old new : SiteLog) (result : Result T E) : Type 0 where
  pub moments : WritesCopy at (IsFilling bytes (copy_on old at)) old new
  pub done : OnOk result (copy_on new at ≡ filled_copy bytes (copy_on old at))
  pub mark : OnOk result (byte_on new at made_mark_at ≡ byte_on old at made_mark_at)
  pub firm : OnOk result (Settles old new)
