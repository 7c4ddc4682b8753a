-- One more blank volume, put beside those that were put before.
use Rattle.std.proofs.Common.{◌≡◌, ◌≢◌, ℕ, false, zero, suc, ◌<◌, cond, List, [], ◌∷◌, ◌++◌, length, take, get_or, refl, sym, ap, ◌∙◌, get_or-set_same, get_or-set_other, inl, inr, arith}
use Rattle.std.specs.Prelude.{Option, Some, None, option_map, slice_set, slice_index_or, replicate, AllPairs, ◌==◌}
use Rattle.std.proofs.lemmas.Bool.Decides.{eqb_tells}
use Rattle.std.proofs.lemmas.List.{get_or-take, length-take}
use Rattle.ckd_track.specs.Data.{RecordData}
use Rattle.ckd_plain.specs.Data.{State}
use Rattle.mss_base.specs.Configs.{VolumeData as Labelled, serial_in, marked_in}
use Rattle.ckd_plain.specs.Plain.{fresh_host, start_of, blank_volumes}
use Rattle.plain_machine.specs.StateData.{VolumeData, StateData, state_of, volume_at, is_read_only, track_of, volumes_of}

abbrev pub nobody : Labelled
nobody = (0, [], false)

-- none of them has the number
abbrev pub IsNew : ℕ → List Labelled → Type 0
IsNew v ys = (k : ℕ) → k < length ys → (get_or ys k nobody).0 ≢ v

-- what is told of the volumes by number is told of one more
in-push : (ys : List Labelled) (x : Labelled) (v' : ℕ) → IsNew x.0 ys
    → (serial_in (ys ++ x ∷ []) v' ≡ cond (v' == x.0) (Some x.1) (serial_in ys v')) × (marked_in (ys ++ x ∷ []) v' ≡ cond (v' == x.0) x.2 (marked_in ys v'))
in-push [] x v' differ = (refl, refl)
in-push (y ∷ ys) x v' differ =
    let rest = in-push ys x v' (λ k inside. differ (suc k) (omega arith)) in
    rw (rest.0, rest.1) (elim (eqb_tells v' y.0) [
      | inl t ↦ elim (eqb_tells v' x.0) [
        | inl u ↦ absurd (differ 0 (omega arith) (sym t.1 ∙ u.1))
        | inr u ↦ rw (t.0, u.0) (refl, refl)
      ]
      | inr t ↦ rw t.0 (refl, refl)
    ])

blank_at : (cylinders heads c h : ℕ) → slice_index_or (slice_index_or (replicate cylinders (replicate {A = List RecordData} heads [])) c []) h [] ≡ []
blank_at zero heads c h = refl
blank_at (suc n) zero zero h = refl
blank_at (suc n) (suc heads) zero zero = refl
blank_at (suc n) (suc heads) zero (suc h) = blank_at (suc n) heads zero h
blank_at (suc n) heads (suc c) h = blank_at n heads c h

module _ (s : StateData) (ys : List Labelled) (x : Labelled) (new : VolumeData)
    (so_far : state_of s ≡ start_of (blank_volumes ys)) (inside : x.0 < length s.volumes)
    (differ : IsNew x.0 ys)
    (named : new.serial ≡ x.1) (marked : new.read_only ≡ x.2) (blank : new.cylinders ≡ replicate 404 (replicate 19 [])) where
  serials : (v' : ℕ) → option_map (λ (y : VolumeData). y.serial) (volume_at (slice_set s.volumes x.0 (Some new)) v') ≡ serial_in (ys ++ x ∷ []) v'
  serials v' =
      let before : (volumes_of s.volumes).serial v' ≡ serial_in ys v' = ap (λ (y : State). y.volumes.serial v') so_far in
      rw (in-push ys x v' differ).0 (elim (eqb_tells v' x.0) [
        | inl t ↦ rw (t.0, t.1, get_or-set_same s.volumes x.0 (Some new) None inside, named) refl
        | inr t ↦ rw (t.0, get_or-set_other s.volumes x.0 v' (Some new) None t.1) before
      ])

  marks : (v' : ℕ) → is_read_only (volume_at (slice_set s.volumes x.0 (Some new)) v') ≡ marked_in (ys ++ x ∷ []) v'
  marks v' =
      let before : (volumes_of s.volumes).read_only v' ≡ marked_in ys v' = ap (λ (y : State). y.volumes.read_only v') so_far in
      rw (in-push ys x v' differ).1 (elim (eqb_tells v' x.0) [
        | inl t ↦ rw (t.0, t.1, get_or-set_same s.volumes x.0 (Some new) None inside, marked) refl
        | inr t ↦ rw (t.0, get_or-set_other s.volumes x.0 v' (Some new) None t.1) before
      ])

  tracks : (v' c h : ℕ) → track_of (volume_at (slice_set s.volumes x.0 (Some new)) v') c h ≡ []
  tracks v' c h =
      let before : (volumes_of s.volumes).track v' c h ≡ [] = ap (λ (y : State). y.volumes.track v' c h) so_far in
      elim (eqb_tells v' x.0) [
        | inl t ↦ rw (t.1, get_or-set_same s.volumes x.0 (Some new) None inside, blank) (blank_at 404 19 c h)
        | inr t ↦ rw (get_or-set_other s.volumes x.0 v' (Some new) None t.1) before
      ]

  pub blank_put : state_of (record s { volumes = slice_set s.volumes x.0 (Some new) }) ≡ start_of (blank_volumes (ys ++ x ∷ []))
  blank_put = λ i. record {
    volumes = record { serial = λ v'. serials v' i; read_only = λ v'. marks v' i; track = λ v' c h. tracks v' c h i };
    host = (so_far i).host;
  }

-- where all numbers differ, that of a place is new to the places before
pub new_before : (xs : List Labelled) (i : ℕ) → AllPairs (λ (a b : Labelled). a.0 ≢ b.0) xs → i < length xs → IsNew (get_or xs i nobody).0 (take i xs)
new_before xs i apart inside k below =
    let earlier : k < i = omega (arith, length-take i xs) in
    rw get_or-take (apart k i nobody earlier inside)

same_at : {A : Type 0} (n i : ℕ) (x : A) → get_or (replicate n x) i x ≡ x
same_at zero i x = refl
same_at (suc n) zero x = refl
same_at (suc n) (suc i) x = same_at n i x

-- no volume is put yet
pub blank_none : (s : StateData) → s ≡ record { hosts = replicate 9 fresh_host; volumes = replicate 32 None } → state_of s ≡ start_of (blank_volumes [])
blank_none s e =
    let places : List (Option VolumeData) = replicate 32 None in
    let gone : (v : ℕ) → volume_at places v ≡ None = λ v. same_at 32 v None in
    ap state_of e ∙ (λ i. record {
      volumes = record {
        serial = λ v. option_map (λ (y : VolumeData). y.serial) (gone v i);
        read_only = λ v. is_read_only (gone v i);
        track = λ v c h. track_of (gone v i) c h;
      };
      host = λ h. same_at 9 h fresh_host i;
    })
