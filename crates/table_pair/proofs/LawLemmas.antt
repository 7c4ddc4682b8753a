-- What the laws of two copies say.
use Rattle.std.proofs.Common.{◌≡◌, ◌≢◌, ℕ, false, ◌&&◌, ◌==◌, sym}
use Rattle.std.proofs.lemmas.Bool.{ne_eqb}
use Rattle.mss_base.specs.Content.{Content}
use Rattle.mss_base.specs.declared.place.UnitNo.{UnitNo}
use Rattle.mss_base.specs.declared.place.UnitNo.TheVariants.{TableA, TableB}
use Rattle.table_pair.specs.Copies.{copy_at}
use Rattle.table_pair.specs.Pair.{is_table, row_of, row_of_copies}

pub others_stay : (volume other : ℕ) (old new : Content) → ((unit : UnitNo) (block : ℕ) → (is_table unit && (volume == block)) ≡ false → new unit block ≡ old unit block) → other ≢ volume → row_of new other ≡ row_of old other
others_stay volume other old new others differs =
    let none : (volume == other) ≡ false = ne_eqb volume other (λ e. differs (sym e)) in
    λ i. row_of_copies (copy_at (others TableA other none i)) (copy_at (others TableB other none i))
