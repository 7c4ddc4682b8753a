-- Reads of tracks, and calls that fail.
use Rattle.std.proofs.Common.{◌≡◌, ◌<◌, ◌+◌, ◌*◌, ◌/◌, ◌%◌, inl, ℕ, List, length, get_or, Option, Some, None, true, false, Result, Ok, Err, refl, sym, ap, subst, arith}
use Rattle.std.specs.Option.{option_and_then}
use Rattle.std.specs.Prelude.{IsOk, is_err}
use Rattle.std.proofs.lemmas.Option.{slice_get_read}
use Rattle.mss_base.specs.Sound.{StaysSound}
use Rattle.mss_base.specs.declared.place.BlockPlace.{BlockPlace}
use Rattle.mss_base.specs.declared.site.Site.{Ghosts}
use Rattle.volume_table.specs.Row.{RowValue}
use Rattle.table_pair.specs.Reads.{CanReadTracks}
use Rattle.table_pair.proofs.SiteLemmas.{readable_on}
use Rattle.shown_volumes.specs.Shown.{RowsOf, source}
use Rattle.shown_volumes.proofs.PlaceFacts.{no_table, source_on_volume}
use Rattle.session_report.specs.Parts.{CanReadRow, CanReadShown, IsUnread, MayFail, block_of, row_at}
use Rattle.session_report.specs.Reports.{Heading}

-- what a row shows can be read, where each frame and each cartridge can
row_readable : {S : Type 0} (g : Ghosts S) (s : S) → CanReadTracks g s → (row : Option RowValue) → CanReadRow g s row
row_readable g s can None cylinder head place at = absurd cc
row_readable g s can (Some r) cylinder head place at =
    let low = source_on_volume r cylinder head place at in
    can place.unit (no_table r cylinder head place (record { cylinder_in = low.0; head_in = low.1; there = inl at }))

pub shown_readable : {S : Type 0} (g : Ghosts S) (s : S) → CanReadTracks g s → (rows : RowsOf) → CanReadShown g s rows
shown_readable g s can rows volume = row_readable g s can (rows volume)

-- and goes on so
pub row_on : {S : Type 0} (g : Ghosts S) (old new : S) → StaysSound g.never_fails_but old new → (row : Option RowValue) → CanReadRow g old row → CanReadRow g new row
row_on g old new sound row can cylinder head place at = readable_on g old new sound place.unit (can cylinder head place at)

-- a call that is Ok is no failure
pub never_failed : {T E : Type 0} (r : Result T E) → IsOk r → is_err r ≡ true → ⊥
never_failed (Ok x) ok failed = absurd cc
never_failed (Err e) ok failed = let no : false ≡ true = ok in absurd cc

-- ---- reads that may fail

-- a read that may fail behind reads that didn't could have failed before them
pub unread_since : {S : Type 0} (g : Ghosts S) (old new : S) → StaysSound g.never_fails_but old new → (block : Option BlockPlace) → MayFail g new block → MayFail g old block
unread_since g old new sound block may = record {
  place = may.place;
  there = may.there;
  fails = λ can. may.fails (readable_on g old new sound may.place.unit can);
}

-- a track by its number
block_number : (r : RowValue) (cylinder head : ℕ) → head < 19 → block_of (Some r) (cylinder * 19 + head) ≡ source r cylinder head
block_number r cylinder head low =
    let n : ℕ = cylinder * 19 + head in
    let c : n / 19 ≡ cylinder = omega arith in
    let h : n % 19 ≡ head = omega arith in
    λ i. source r (c i) (h i)

pub track_unread : {S : Type 0} (g : Ghosts S) (old new : S) → StaysSound g.never_fails_but old new → (r : RowValue) (cylinder head : ℕ) → head < 19
    → MayFail g new (source r cylinder head) → MayFail g old (block_of (Some r) (cylinder * 19 + head))
track_unread g old new sound r cylinder head low may =
    subst (λ (block : Option BlockPlace). MayFail g old block) (sym (block_number r cylinder head low)) (unread_since g old new sound (source r cylinder head) may)

-- a track of a volume that is listed there
row_there : (rows : RowsOf) (volumes : List Heading) (i : ℕ) (x : Heading) → i < length volumes → x ≡ get_or volumes i x → row_at rows volumes i ≡ rows x.0
row_there rows volumes i x below is = ap (option_and_then (λ (v : Heading). rows v.0)) (slice_get_read volumes (length volumes) i x refl below is)

pub volume_unread : {S : Type 0} (g : Ghosts S) (old new : S) → StaysSound g.never_fails_but old new → (rows : RowsOf) (volumes : List Heading) (i : ℕ) (x : Heading) → i < length volumes → x ≡ get_or volumes i x
    → (n : ℕ) → MayFail g new (block_of (rows x.0) n) → IsUnread g old rows volumes i n
volume_unread g old new sound rows volumes i x below is n may =
    subst (λ (row : Option RowValue). MayFail g old (block_of row n)) (sym (row_there rows volumes i x below is)) (unread_since g old new sound (block_of (rows x.0) n) may)
