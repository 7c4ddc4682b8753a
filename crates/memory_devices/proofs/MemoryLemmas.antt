-- What an empty map holds.
use Rattle.std.proofs.Common.{◌≡◌, ℕ, List, length, ap, refl, ◌∙◌}
use Rattle.std.specs.declared.hash.FoldHasher.{FoldHasher}
use Rattle.std.specs.declared.hash.BuildHasherDefault.{BuildHasherDefault}
use Rattle.std.specs.Prelude.{unwrap_or}
use Rattle.std.specs.Map.{lookup}
use Rattle.std.proofs.lemmas.Map.Entries.{entries_from_clone}
use Rattle.indexmap.specs.IndexMap.{IndexMap, IsClone}
use Rattle.mss_base.specs.contracts.place.BlockPlacePartialEq.TheImpl as place
use Rattle.std.specs.HashMap.{IsEmpty}
use Rattle.memory_devices.specs.Memory.{content_in}
use Rattle.mss_base.specs.Zeros.{zeros, length-zeros}
use Rattle.mss_base.specs.declared.place.UnitNo.{UnitNo}
use Rattle.mss_base.specs.declared.place.BlockPlace.{BlockPlace}

pub held_same : (a b : IndexMap BlockPlace (List ℕ) (BuildHasherDefault FoldHasher)) → b.entries ≡ a.entries → content_in b ≡ content_in a
held_same a b same i unit block = unwrap_or (lookup ((place.eq-value).it (record { unit = unit; block = block })) (same i)) zeros

-- a copy of blocks holds the same
pub held_clone : (a b : IndexMap BlockPlace (List ℕ) (BuildHasherDefault FoldHasher)) → IsClone (λ x y. y ≡ x) (λ x y. y ≡ x) a b → content_in b ≡ content_in a
held_clone a b is = held_same a b (entries_from_clone (λ x y. y ≡ x) (λ x y. y ≡ x) (λ x y e. e) (λ x y e. e) a.entries b.entries is)

pub held_empty : (m : IndexMap BlockPlace (List ℕ) (BuildHasherDefault FoldHasher)) → IsEmpty m → (unit : UnitNo) (block : ℕ) → content_in m unit block ≡ zeros
held_empty m empty unit block = rw empty refl

pub length-held_empty : (m : IndexMap BlockPlace (List ℕ) (BuildHasherDefault FoldHasher)) → IsEmpty m → (unit : UnitNo) (block : ℕ) → length (content_in m unit block) ≡ 16384
length-held_empty m empty unit block = ap length (held_empty m empty unit block) ∙ length-zeros
