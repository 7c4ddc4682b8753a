-- One unit of the table that can't be read: the other one tells each row, and the tracks are read all the same.
use Rattle.std.proofs.Common.{◌≡◌, ◌≢◌, ◌⊎◌, inl, inr, ℕ, Bool, true, false, List, Option, Some, None, Result, Err, refl, sym, ◌∙◌, ap, subst}
use Rattle.std.specs.Prelude.{not}
use Rattle.mss_base.specs.Sound.{StaysSound}
use Rattle.mss_base.specs.Content.{Content}
use Rattle.mss_base.specs.Firsts.{where_so}
use Rattle.mss_base.specs.declared.place.UnitNo.{UnitNo}
use Rattle.mss_base.specs.declared.place.UnitNo.TheVariants.{TableA, TableB, Staging, Cartridge}
use Rattle.mss_base.specs.declared.site.Site.{Ghosts}
use Rattle.volume_table.specs.Row.{RowValue}
use Rattle.table_pair.specs.Pair.{RowReading, known, unknown, reading, is_table}
use Rattle.table_pair.specs.Reads.{IsReadable, CanReadTracks, MissesNone, ReadsRow, Tells}
use Rattle.table_pair.proofs.SiteLemmas.{readable_on}
use Rattle.table_pair.specs.declared.copy.RowRead.{RowRead}
use Rattle.table_pair.specs.declared.copy.RowTrouble.{RowTrouble}
use Rattle.table_pair.specs.declared.copy.RowTrouble.TheVariants as trouble
use Rattle.shown_volumes.specs.Faults.{is_same_list, serial_fault}
use Rattle.shown_volumes.specs.declared.refused.Refused.{Refused}
use Rattle.shown_volumes.specs.declared.refused.Refused.TheVariants.{SerialDiffers}
use Rattle.mss_restart.specs.OneCopy.{IsPaired, LosesOneTable}
use Rattle.mss_restart.specs.Survey.{IsNoFailure, IsReading, NeverFails}
use Rattle.mss_restart.proofs.OneCopy.{paired}

-- which of the two that hold the table, one can be read
one_readable : {S : Type 0} (g : Ghosts S) (s : S) → LosesOneTable g s → IsReadable g s TableA ⊎ IsReadable g s TableB
one_readable g s loses = by loses.lost loses.of_table loses.others
  where
    by : (lost : UnitNo) → is_table lost ≡ true → ((unit : UnitNo) → unit ≢ lost → IsReadable g s unit) → IsReadable g s TableA ⊎ IsReadable g s TableB
    by TableA of_table others = inr (others TableB (λ e. absurd cc))
    by TableB of_table others = inl (others TableA (λ e. absurd cc))
    by (Staging n) of_table others = absurd cc
    by (Cartridge n) of_table others = absurd cc

-- the frames and the cartridges can be read
pub reads_tracks : {S : Type 0} (g : Ghosts S) (s : S) → LosesOneTable g s → CanReadTracks g s
reads_tracks g s loses unit outside = loses.others unit (λ same. let e : false ≡ true = sym outside ∙ ap is_table same ∙ loses.of_table in absurd cc)

-- where no call fails, they can be read too
pub all_read_tracks : {S : Type 0} (g : Ghosts S) (s : S) → NeverFails g s → CanReadTracks g s
all_read_tracks g s never unit outside = ((λ _. false), never, refl)

-- what is lost is all that is lost later
pub loses_on : {S : Type 0} (g : Ghosts S) (old new : S) → StaysSound g.never_fails_but old new → LosesOneTable g old → LosesOneTable g new
loses_on g old new sound loses = record {
  lost = loses.lost;
  of_table = loses.of_table;
  others = λ unit other. readable_on g old new sound unit (loses.others unit other);
}

-- a row that each copy tells alone is known where one of them can be read
module _ {S : Type 0} (g : Ghosts S) (s : S) (before now volume : ℕ) (c : Content) (result : Result RowRead RowTrouble) (loses : LosesOneTable g s) (is : IsPaired volume c) where
  known_by_one : (reads : ReadsRow (IsReadable g s) before now volume c result) → reading reads.a reads.b ≢ unknown
  known_by_one reads un =
      let was : IsReading before now volume c (reading reads.a reads.b) = record { between = reads.between; a = reads.a; b = reads.b; a_read = reads.a_read; b_read = reads.b_read; told = refl } in
      elim (paired before now volume c (reading reads.a reads.b) was is) [
        | inl failed ↦ elim (one_readable g s loses) [
          | inl a ↦ reads.a_there a failed.a_unread
          | inr b ↦ reads.b_there b failed.b_unread
        ]
        | inr tells ↦ let no : known tells.row tells.missing ≡ unknown = sym tells.told ∙ un in absurd cc
      ]

no_unread : (trouble : RowTrouble) (r : RowReading) → r ≢ unknown → Tells (Err trouble) r → MissesNone (Err trouble)
no_unread (trouble.Unread fault) r some tells = absurd (some tells)
no_unread (trouble.Damaged copy fault) r some tells = tt
no_unread trouble.Memory r some tells = tt

-- so no failed read is told of it
pub one_suffices : {S : Type 0} (g : Ghosts S) (s : S) (before now volume : ℕ) (c : Content) (t : RowTrouble) → LosesOneTable g s → IsPaired volume c → ReadsRow (IsReadable g s) before now volume c (Err t) → MissesNone (Err t)
one_suffices g s before now volume c t loses is reads = no_unread t (reading reads.a reads.b) (known_by_one g s before now volume c (Err t) loses is reads) reads.told

-- a serial that differs is no failed read
pub serial_no_failure : (volume : ℕ) (o : Option RowValue) (asked : Option (List ℕ)) (e : Refused) → serial_fault volume o asked ≡ Some e → IsNoFailure e
serial_no_failure volume None asked e is = absurd cc
serial_no_failure volume (Some q) None e is = absurd cc
serial_no_failure volume (Some q) (Some a) e is = by (not (is_same_list q.serial a)) is
  where
    by : (b : Bool) → where_so b (SerialDiffers volume q.serial a) ≡ Some e → IsNoFailure e
    by false found = absurd cc
    by true found = let same : SerialDiffers volume q.serial a ≡ e = cc in subst IsNoFailure same tt
