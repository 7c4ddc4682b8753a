-- The write of an update, on a site's log.
use Rattle.std.proofs.Common.{◌≡◌, ℕ, ◌+◌, ◌≤◌, ◌<◌, Bool, List, [], length, take, drop, sym, ◌∙◌, ap, subst, arith, length-drop}
use Rattle.std.proofs.lemmas.List.{get_or-take, get_or-drop, length-take}
use Rattle.mss_base.specs.declared.place.UnitNo.{UnitNo}
use Rattle.mss_base.specs.Content.{Write, SiteLog, content, splice, Adds, Writes, ChangesBlock}
use Rattle.mss_base.proofs.Moments.{block_write, block_written, block_started}
use Rattle.ckd_track.specs.Track.{reading, place_after}
use Rattle.ckd_track.specs.Updating.{IsUpdating, updated_length, record_behind, updated_records, bytes_place}
use Rattle.ckd_track.proofs.FrontLemmas.{record_room}
use Rattle.ckd_track.proofs.FormatLemmas.{splice_same}
use Rattle.ckd_track.proofs.UpdateLemmas.{left_length, reading-updated}

module _ (n : ℕ) (a : List ℕ) (key_too : Bool) (bytes : List ℕ) (there : n < length (reading a).records)
    (fits : length bytes ≡ updated_length key_too (record_behind n (reading a).records)) where
  abbrev at : ℕ
  at = bytes_place key_too (place_after n 256 a) a

  abbrev Updates : List ℕ → Type 0
  Updates b = IsUpdating key_too n (reading a) (reading b)

  -- the bytes go into the block
  pub put_inside : at + length bytes ≤ length a
  put_inside = omega (arith, left_length n a bytes there key_too fits, record_room n a there)

  any_updates : (left : List ℕ) → length left ≡ length bytes → Updates (splice at left a)
  any_updates left long = record { bytes = left; long = long ∙ fits; reading = reading-updated n a left there key_too (long ∙ fits) }

  -- the bytes that stand there
  abbrev standing : List ℕ
  standing = take (length bytes) (drop at a)

  length-standing : length standing ≡ length bytes
  length-standing = omega (arith, length-take (length bytes) (drop at a), length-drop at a, put_inside)

  pub still_updates : Updates a
  still_updates =
      let same : splice at standing a ≡ a = splice_same at standing a (λ j lt. get_or-take (length bytes) (drop at a) j 0 (omega (arith, length-standing)) ∙ get_or-drop at a j 0) (omega (arith, length-standing, put_inside)) in
      subst Updates same (any_updates standing length-standing)

  -- no bytes to put
  pub none_updated : bytes ≡ [] → reading a ≡ record (reading a) { records = updated_records key_too n bytes (reading a).records }
  none_updated none =
      let same : splice at bytes a ≡ a = splice_same at bytes a (λ j lt. let no_bytes : length bytes ≡ 0 = ap length none in absurd (omega (arith, no_bytes))) put_inside in
      ap reading (sym same) ∙ reading-updated n a bytes there key_too fits

  module _ (unit : UnitNo) (block : ℕ) (s t : SiteLog) (told : content s unit block ≡ a) where
    abbrev put_at : ℕ → List ℕ → Write
    put_at offset left = record { unit = unit; block = block; offset = offset; bytes = left }

    pub update_moments : (offset : ℕ) (left : List ℕ) → offset ≡ at → length left ≡ length bytes → Adds (put_at offset left) s t → Writes (ChangesBlock unit block Updates (content s)) s t
    update_moments offset left there_is long adds =
        block_write unit block at left Updates s t (subst (λ (o : ℕ). Adds (put_at o left) s t) there_is adds) (subst Updates (sym told) still_updates)
        (λ other long_other. subst (λ (d : List ℕ). Updates (splice at other d)) (sym told) (any_updates other (long_other ∙ long)))

    pub update_done : (offset : ℕ) → offset ≡ at → Adds (put_at offset bytes) s t
        → reading (content t unit block) ≡ record (reading a) { records = updated_records key_too n bytes (reading a).records }
    update_done offset there_is adds = ap reading (block_written unit block at bytes s t (subst (λ (o : ℕ). Adds (put_at o bytes) s t) there_is adds) ∙ ap (λ (d : List ℕ). splice at bytes d) told) ∙ reading-updated n a bytes there key_too fits

-- nothing is written
pub update_stays : (n : ℕ) (a : List ℕ) (key_too : Bool) (bytes : List ℕ) → n < length (reading a).records → length bytes ≡ updated_length key_too (record_behind n (reading a).records)
    → (unit : UnitNo) (block : ℕ) (s : SiteLog) → content s unit block ≡ a → Writes (ChangesBlock unit block (λ b. IsUpdating key_too n (reading a) (reading b)) (content s)) s s
update_stays n a key_too bytes there fits unit block s told =
    block_started unit block (λ b. IsUpdating key_too n (reading a) (reading b)) s (subst (λ (b : List ℕ). IsUpdating key_too n (reading a) (reading b)) (sym told) (still_updates n a key_too bytes there fits))
