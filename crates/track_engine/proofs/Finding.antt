-- The record at a place, and one look for it at the block that is brought.
use Rattle.std.proofs.Common.{◌≡◌, ℕ, suc, ◌+◌, ◌-◌, ◌≤◌, Bool, List, Option, Some, None, Ok, Err, sym, ap, ◌∙◌, arith, subst}
use Rattle.std.specs.Prelude.{slice_index_or}
use Rattle.std.proofs.lemmas.Option.{slice_get-get_or, get_or_from_slice_get}
use Rattle.ckd_track.specs.Data.{RecordData, blank_record}
use Rattle.ckd_track.specs.Track.{reading}
use Rattle.ckd_track.specs.Track.{record_at as stored_at}
use Rattle.ckd_plain.specs.declared.host.HostState.{HostState}
use Rattle.ckd_plain.specs.Data.{records_of}
use Rattle.ckd_plain.specs.Index.{Tracks, Found, candidate, pass_index, record_at, itself, look_or_past, next_within}
use Rattle.ckd_plain.proofs.IndexFacts.{next_within-suc, look_passes, look_fails}
use Rattle.track_engine.specs.declared.find.RecordPlace.{RecordPlace}
use Rattle.track_engine.specs.declared.place.NotDone.{NotDone}
use Rattle.track_engine.specs.declared.place.NotDone.TheVariants.{Refused, Fault}
use Rattle.track_engine.specs.Found.{found_at, StandsIn, IsPlaceOf, GivesBut}

abbrev pub track_in : List ℕ → List RecordData
track_in block = (reading block).records

module _ (block : List ℕ) (host : HostState) (number : ℕ) (at : RecordPlace) (is : IsPlaceOf number host block at) where
  pub item_there : record_at (track_in block) host number ≡ Some (found_at block at).item
  item_there =
      slice_get-get_or (records_of host (track_in block)) number blank_record (omega (arith, is.number_, is.stands.there))
      ∙ (λ i. Some (slice_index_or (records_of (sym is.host_ i) (track_in block)) (sym is.number_ i) blank_record))

  -- it is the one that was looked for
  pub found_itself : itself number host (record_at (track_in block) host number) ≡ Ok (found_at block at)
  found_itself = ap (itself number host) item_there ∙ (λ i. Ok (record { number = sym is.number_ i; item = (found_at block at).item; host = sym is.host_ i }))

-- behind R0 it is what stands where it begins
pub item_stored : (block : List ℕ) (at : RecordPlace) → StandsIn block at → 1 ≤ at.number → (found_at block at).item ≡ stored_at at.begins_at block
item_stored block at stands first =
    let next : at.number ≡ suc (at.number - 1) = omega arith in
    ap (λ (k : ℕ). slice_index_or (records_of at.host (track_in block)) k blank_record) next
    ∙ get_or_from_slice_get (track_in block) (at.number - 1) (stored_at at.begins_at block) blank_record (stands.begins first).item

-- what is found in the bytes that a site shows is found in the block that they are
pub place_shown : (shown block : List ℕ) → shown ≡ block → (host : HostState) (number : ℕ) (at : RecordPlace) → IsPlaceOf number host shown at → IsPlaceOf number host block at
place_shown shown block same host number at is = subst (λ (b : List ℕ). IsPlaceOf number host b at) same is

-- one look, with as many left as looks + 1, where the block of the host's head is brought
module _ (left looks number : ℕ) (tracks : Tracks) (host : HostState) (m : ℕ) (multi : Bool) (block : List ℕ)
    (falls : left ≡ looks + 1) (place : number ≡ candidate host.position m) (here : track_in block ≡ tracks host.head) where
  pub look_finds_there : (at : RecordPlace) → IsPlaceOf number host block at → next_within left tracks host m multi ≡ Ok (found_at block at)
  look_finds_there at is =
      let e : left ≡ suc looks = omega arith in
      let past = λ (passed : HostState). next_within looks tracks passed m multi in
      ap (λ (n : ℕ). next_within n tracks host m multi) e ∙ next_within-suc looks tracks host m multi
      ∙ ap (λ (k : ℕ). look_or_past k host multi (record_at (tracks host.head) host k) past) (sym place)
      ∙ ap (λ (t : List RecordData). look_or_past number host multi (record_at t host number) past) (sym here)
      ∙ ap (λ (o : Option RecordData). look_or_past number host multi o past) (item_there block host number at is)
      ∙ (λ i. Ok (record { number = sym is.number_ i; item = (found_at block at).item; host = sym is.host_ i }))

  none_there : record_at (track_in block) host number ≡ None → record_at (tracks host.head) host number ≡ None
  none_there none = ap (λ (t : List RecordData). record_at t host number) (sym here) ∙ none

  pub look_goes_on : (passed : HostState) → record_at (track_in block) host number ≡ None → pass_index host multi ≡ Ok passed → next_within left tracks host m multi ≡ next_within looks tracks passed m multi
  look_goes_on passed none is = look_passes left looks number tracks host m multi falls place passed (none_there none) is

  pub look_ends : {X : Type 0} (view : X → Found) (e : NotDone) → record_at (track_in block) host number ≡ None → GivesBut (λ (passed : HostState). passed) (Err e) (pass_index host multi)
      → GivesBut view (Err e) (next_within left tracks host m multi)
  look_ends view (Refused refusal) none is = look_fails left looks number tracks host m multi falls place refusal (none_there none) is
  look_ends view (Fault fault) none is = tt
