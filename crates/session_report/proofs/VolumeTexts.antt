-- How a walk that puts the volumes of a report goes on.
use Rattle.std.proofs.Common.{◌≡◌, ◌⊎◌, inl, inr, ◌≤◌, ◌<◌, ◌==◌, true, ◌||◌, ℕ, zero, suc, ◌+◌, ◌*◌, List, [], ◌∷◌, ◌++◌, length, take, drop, get_or, Some, Err, refl, sym, ◌∙◌, ap, subst, arith, append_assoc, add-one, drop-cons}
use Rattle.std.proofs.lemmas.Bool.{eqb-true, or_cases}
use Rattle.std.proofs.lemmas.List.{append-nil, take-append-drop, take_more, flat_map_more}
use Rattle.std.proofs.lemmas.List.Concat.{flat_map-append}
use Rattle.std.proofs.lemmas.Option.{slice_get_read}
use Rattle.mss_base.specs.Content.{Content, content}
use Rattle.mss_base.specs.Puts.{PutsFront}
use Rattle.mss_base.specs.Sites.{OnlyReads}
use Rattle.mss_base.proofs.Putting.{part_stops}
use Rattle.mss_base.specs.declared.site.Site.{Ghosts}
use Rattle.ckd_track.specs.Data.{Volumes}
use Rattle.volume_table.specs.Row.{RowValue, state_of}
use Rattle.shown_volumes.specs.Shown.{track_at}
use Rattle.shown_volumes.proofs.PlaceFacts.{source_blank}
use Rattle.report_text.specs.Texts.{track_text, tracks_text, heading_text}
use Rattle.report_text.proofs.LineLemmas.{no_track_text}
use Rattle.report_text.proofs.TrackTexts.{Tracks, volume_text_is, no_tracks, tracks_text-next, tracks_go_on, tracks_stop}
use Rattle.session_report.specs.Parts.{row_tracks, PutsTrack, PutsTracks, PutsVolumes}
use Rattle.session_report.specs.Reports.{Grows, Heading, untitled_matter, listed_text, volumes_text, begun_text}
use Rattle.session_report.specs.declared.fault.VolumesFault.{VolumesFault}
use Rattle.session_report.specs.declared.fault.VolumesFault.TheVariants as volumes_fault

-- what such a walk keeps of its site and its sink, of which no call failed, and what it has put so far
pub record IsPutting {S : Type 0} (g : Ghosts S) (sink_tells : Type 0) (begun now : S)
    (old new : List ℕ) (sink_begun sink_now : ℕ) (so_far : Content → List ℕ) : Type 0 where
  pub site : OnlyReads g begun now
  pub same : g.faults now ≡ g.faults begun
  pub put : g.tells → sink_tells → new ≡ old ++ so_far (content (g.told begun))
  pub grown : sink_tells → Grows old new
  pub output_same : sink_now ≡ sink_begun

-- ---- the tracks of a volume

-- a track put with an equal text
pub track_put_same : (tells Unread : Type 0) (a b old new : List ℕ) (e : VolumesFault) → (tells → a ≡ b) → PutsTrack tells Unread a old new (Err e) → PutsTrack tells Unread b old new (Err e)
track_put_same tells Unread a b old new (volumes_fault.Read fault) same put = put
track_put_same tells Unread a b old new (volumes_fault.Put fault) same put = λ t. subst (λ (l : List ℕ). PutsFront old new l) (same t) (put t)

-- a volume put with equal tracks
pub tracks_put_same : (tells : Type 0) (Unread : ℕ → Type 0) (heading : List ℕ) (a b : Tracks) (old new : List ℕ) (e : VolumesFault) → (tells → a ≡ b) → PutsTracks tells Unread heading a old new (Err e)
    → PutsTracks tells Unread heading b old new (Err e)
tracks_put_same tells Unread heading a b old new (volumes_fault.Read fault) same put =
    record { tracks = put.tracks; few = put.few; unread = put.unread; put = λ t. put.put t ∙ ap (λ (x : Tracks). old ++ (heading ++ tracks_text x put.tracks)) (same t) }
tracks_put_same tells Unread heading a b old new (volumes_fault.Put fault) same put = λ t. subst (λ (x : Tracks). PutsFront old new (heading ++ tracks_text x 7676)) (same t) (put t)

-- no track was put yet
pub tracks_begin : (track : Tracks) (old : List ℕ) → old ≡ old ++ tracks_text track (0 * 19)
tracks_begin track old = sym (ap (λ (l : List ℕ). old ++ l) (no_tracks track) ∙ append-nil old)

module _ (tells : Type 0) (track : Tracks) (old now new : List ℕ) (cylinder number head : ℕ) (low_head : head < 19) (is : head ≡ number) (so_far : tells → now ≡ old ++ tracks_text track (cylinder * 19 + number)) where
  at_head : tells → now ≡ old ++ tracks_text track (cylinder * 19 + head)
  at_head t = so_far t ∙ ap (λ (n : ℕ). old ++ tracks_text track (cylinder * 19 + n)) (sym is)

  -- the track was put
  pub tracks_more : (tells → new ≡ now ++ track_text cylinder head (track cylinder head)) → tells → new ≡ old ++ tracks_text track (cylinder * 19 + (number + 1))
  tracks_more put t =
      let next : cylinder * 19 + head + 1 ≡ cylinder * 19 + (number + 1) = omega arith in
      tracks_go_on track old now new cylinder head low_head (at_head t) (put t) ∙ ap (λ (n : ℕ). old ++ tracks_text track n) next

  -- the walk was left at the track
  pub tracks_left : cylinder < 404 → (Here : Type 0) (Unread : ℕ → Type 0) → (Here → Unread (cylinder * 19 + head)) → (e : VolumesFault) → PutsTrack tells Here (track_text cylinder head (track cylinder head)) now new (Err e)
      → PutsTracks tells Unread [] track old new (Err e)
  tracks_left low Here Unread here (volumes_fault.Read fault) put =
      record { tracks = cylinder * 19 + head; few = omega arith; unread = here put.1; put = λ t. put.0 t ∙ at_head t }
  tracks_left low Here Unread here (volumes_fault.Put fault) put = λ t. tracks_stop track old now new cylinder head 7676 low_head (omega arith) (at_head t) (put t)

  -- of the track a front was put
  pub tracks_halt : cylinder < 404 → (tells → PutsFront now new (track_text cylinder head (track cylinder head))) → tells → PutsFront old new (tracks_text track 7676)
  tracks_halt low front t = tracks_stop track old now new cylinder head 7676 low_head (omega arith) (at_head t) (front t)

-- of a cylinder that a row has as blank, staged or not, each track is blank
pub blank_in_row : (c : Content) (r : RowValue) (cylinder : ℕ) → true ≡ ((state_of r cylinder == 0) || (state_of r cylinder == 2)) → (head : ℕ) → row_tracks c (Some r) cylinder head ≡ []
blank_in_row c r cylinder blank head =
    let state : (state_of r cylinder ≡ 0) ⊎ (state_of r cylinder ≡ 2) =
    elim (or_cases (state_of r cylinder == 0) (state_of r cylinder == 2) (sym blank)) [ inl none ↦ inl (eqb-true _ 0 none) | inr staged ↦ inr (eqb-true _ 2 staged) ] in
    ap (track_at c) (source_blank r cylinder head state)

-- of a row that is blank throughout each track is
pub blank_throughout : (c : Content) (r : RowValue) → ((cylinder : ℕ) → state_of r cylinder ≡ 0) → (cylinder head : ℕ) → row_tracks c (Some r) cylinder head ≡ []
blank_throughout c r blank cylinder head = ap (track_at c) (source_blank r cylinder head (inl (blank cylinder)))

-- a cylinder whose tracks are blank has no text
module _ (track : Tracks) (cylinder : ℕ) (blank : (head : ℕ) → track cylinder head ≡ []) where
  blank_heads : (k : ℕ) → k ≤ 19 → tracks_text track (cylinder * 19 + k) ≡ tracks_text track (cylinder * 19)
  blank_heads zero low = let e : cylinder * 19 + 0 ≡ cylinder * 19 = omega arith in ap (tracks_text track) e
  blank_heads (suc k) low =
      let next : cylinder * 19 + suc k ≡ cylinder * 19 + k + 1 = omega arith in
      ap (tracks_text track) next ∙ tracks_text-next track cylinder k (omega (arith, low)) ∙ sym (no_track_text (tracks_text track (cylinder * 19 + k)) cylinder k (track cylinder k) (blank k))
      ∙ blank_heads k (omega (arith, low))

  -- and was passed over
  pub cylinder_passed : (old now : List ℕ) (number : ℕ) → cylinder ≡ number → now ≡ old ++ tracks_text track (number * 19) → now ≡ old ++ tracks_text track ((number + 1) * 19)
  cylinder_passed old now number is so_far =
      let here : number * 19 ≡ cylinder * 19 = omega (arith, is) in
      let next : cylinder * 19 + 19 ≡ (number + 1) * 19 = omega (arith, is) in
      so_far ∙ ap (λ (l : List ℕ). old ++ l) (ap (tracks_text track) here ∙ sym (blank_heads 19 (omega arith)) ∙ ap (tracks_text track) next)

-- ---- the listed volumes

module _ (tells : Type 0) (shown : Volumes) (volumes : List Heading) (i : ℕ) (x : Heading)
    (below : i < length volumes) (is : x ≡ get_or volumes i x) (track : Tracks) (same : shown.track x.0 ≡ track) where
  -- its first line
  abbrev heading : List ℕ
  heading = heading_text x.0 x.1 (shown.read_only x.0)

  volume_is : listed_text shown x ≡ heading ++ tracks_text track 7676
  volume_is = volume_text_is x.0 x.1 (shown.read_only x.0) (shown.track x.0)
      ∙ ap (λ (t : Tracks). heading ++ tracks_text t 7676) same

  volumes_front : take (i + 1) volumes ≡ take i volumes ++ x ∷ []
  volumes_front = take_more volumes i x below ∙ ap (λ (y : Heading). take i volumes ++ y ∷ []) (sym is)

  volumes_whole : volumes ≡ take i volumes ++ x ∷ drop (i + 1) volumes
  volumes_whole =
      let rest : drop i volumes ≡ x ∷ drop (i + 1) volumes = drop-cons volumes i x below
      ∙ ap (λ (y : Heading). y ∷ drop (suc i) volumes) (sym is)
      ∙ ap (λ (j : ℕ). x ∷ drop j volumes) (sym (add-one i)) in
      sym (take-append-drop i volumes) ∙ ap (λ (l : List Heading). take i volumes ++ l) rest

  module _ (old now new : List ℕ) (so_far : tells → now ≡ old ++ volumes_text shown (take i volumes)) where
    -- the volume was put
    pub volumes_go_on : (tells → new ≡ now ++ (heading ++ tracks_text track 7676)) → tells
        → new ≡ old ++ volumes_text shown (take (i + 1) volumes)
    volumes_go_on put t =
        put t ∙ ap (λ (l : List ℕ). now ++ l) (sym volume_is) ∙ ap (λ (l : List ℕ). l ++ listed_text shown x) (so_far t)
        ∙ flat_map_more (listed_text shown) old (take i volumes) x
        ∙ ap (λ (l : List Heading). old ++ volumes_text shown l) (sym volumes_front)

    begun_is : (n : ℕ) → heading ++ tracks_text track n ≡ begun_text shown n (Some x)
    begun_is n = ap (λ (t : Tracks). heading ++ tracks_text t n) (sym same)

    -- the walk was left within the volume
    pub volumes_left : (Here : ℕ → Type 0) (Unread : ℕ → ℕ → Type 0) → ((n : ℕ) → Here n → Unread i n)
        → (e : VolumesFault) → PutsTracks tells Here heading track now new (Err e)
        → PutsVolumes tells Unread (untitled_matter volumes shown []) (volumes_text shown volumes) old new (Err e)
    volumes_left Here Unread here (volumes_fault.Read fault) put = record {
      place = i;
      tracks = put.tracks;
      there = below;
      few = put.few;
      unread = here put.tracks put.unread;
      put = λ t. put.put t ∙ ap (λ (l : List ℕ). l ++ (heading ++ tracks_text track put.tracks)) (so_far t)
          ∙ append_assoc old (volumes_text shown (take i volumes)) (heading ++ tracks_text track put.tracks)
          ∙ ap (λ (l : List ℕ). old ++ (volumes_text shown (take i volumes) ++ l)) (begun_is put.tracks ∙ ap (begun_text shown put.tracks) (sym (slice_get_read volumes (length volumes) i x refl below is)));
    }
    volumes_left Here Unread here (volumes_fault.Put fault) put = λ t.
        let rest : List ℕ = volumes_text shown (drop (i + 1) volumes) in
        let split : volumes_text shown volumes ≡ volumes_text shown (take i volumes) ++ (listed_text shown x ++ rest) =
        ap (volumes_text shown) volumes_whole
        ∙ flat_map-append (listed_text shown) (take i volumes) (x ∷ drop (i + 1) volumes) in
        part_stops old now new (listed_text shown x) rest (volumes_text shown volumes)
        (record { done = volumes_text shown (take i volumes); split = split; put = so_far t })
        (subst (λ (l : List ℕ). PutsFront now new l) (sym volume_is) (put t))
