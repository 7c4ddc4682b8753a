-- What a call leaves of the volumes.
use Rattle.std.proofs.Common.{◌≡◌, ◌⊎◌, inl, inr, ℕ, Bool, List, Option, Some, None, Result, Ok, Err, refl, sym, ap, ◌∙◌}
use Rattle.std.specs.Prelude.{IsTrue}
use Rattle.std.proofs.lemmas.Bool.{cases_Bool}
use Rattle.std.proofs.lemmas.Bool.Decides.{eqb_tells}
use Rattle.channel_commands.specs.Codes.{is_write}
use Rattle.channel_commands.specs.Data.{CallData, mount, demount, command, break}
use Rattle.channel_commands.specs.declared.command.Command.{Command}
use Rattle.ckd_track.specs.Data.{RecordData, Volumes}
use Rattle.ckd_plain.specs.declared.host.HostState.{HostState}
use Rattle.ckd_plain.specs.declared.unit_check.UnitCheck.{UnitCheck}
use Rattle.ckd_plain.specs.Data.{State}
use Rattle.ckd_plain.specs.Checks.{admitted_command}
use Rattle.ckd_plain.specs.Index.{Tracks}
use Rattle.ckd_plain.specs.Plain.{Replied, with_open_chain, answer_by_checks, answer_on_tracks, plain, tracks_under, written_there, written_mounted, written_to}
use Rattle.ckd_plain.specs.History.{IsWriteCommand}
use Rattle.ckd_plain.specs.Laws.{IsUnderHead}
use Rattle.ckd_plain.proofs.CommandFacts.{only_writes}

-- ---- a call that is no command leaves the volumes

abbrev pub Leaves : Volumes → Replied → Type 0
Leaves volumes x = x.1.volumes ≡ volumes

pub mount_leaves : (s : State) (h volume : ℕ) (bind : Bool) → Leaves s.volumes (plain s h (mount volume bind))
unfolding plain
mount_leaves s h volume bind = refl

pub demount_leaves : (s : State) (h : ℕ) → Leaves s.volumes (plain s h demount)
unfolding plain
demount_leaves s h = refl

-- ---- the volumes with what a command wrote

module _ (volumes : Volumes) (host : HostState) where
  pub unwritten : (m : Option (ℕ × Bool)) → written_mounted volumes m host None ≡ volumes
  unwritten None = refl
  unwritten (Some m) = refl

  -- the serials and the marks are as they were
  abbrev pub KeepsLabels : Volumes → Type 0
  KeepsLabels new = (new.serial ≡ volumes.serial) × (new.read_only ≡ volumes.read_only)

  labels_there : (v : ℕ) (o : Option (List ℕ)) (track : List RecordData) → KeepsLabels (written_there volumes v host o track)
  labels_there v (Some serial) track = (refl, refl)
  labels_there v None track = (refl, refl)

  pub labels_stay : (m : Option (ℕ × Bool)) (o : Option (List RecordData)) → KeepsLabels (written_mounted volumes m host o)
  labels_stay None o = (refl, refl)
  labels_stay (Some m) None = (refl, refl)
  labels_stay (Some m) (Some track) = labels_there m.0 (volumes.serial m.0) track

  -- a track is as it was, or it is under the head and written
  abbrev pub IsWritten : Option (List RecordData) → ℕ → ℕ → ℕ → List RecordData → Type 0
  IsWritten o v c head new = (o ≡ Some new) × IsUnderHead host v c head

  abbrev pub IsKept : Option (List RecordData) → ℕ → ℕ → ℕ → Volumes → Type 0
  IsKept o v c head new = (new.track v c head ≡ volumes.track v c head) ⊎ IsWritten o v c head (new.track v c head)

  kept_there : (m : ℕ × Bool) (o : Option (List ℕ)) (track : List RecordData) (v c head : ℕ) → host.mounted ≡ Some m → IsKept (Some track) v c head (written_there volumes m.0 host o track)
  kept_there m None track v c head mounted = inl refl
  kept_there m (Some serial) track v c head mounted = elim (eqb_tells v m.0) [
    | inl t ↦ elim (eqb_tells c host.cylinder) [
      | inl u ↦ elim (eqb_tells head host.head) [
        | inl w ↦ inr (rw (t.0, u.0, w.0) (refl, record { volume = (m.1, mounted ∙ (λ i. Some (sym t.1 i, m.1))); cylinder_ = sym u.1; head_ = sym w.1 }))
        | inr w ↦ inl (rw (t.0, u.0, w.0) refl)
      ]
      | inr u ↦ inl (rw (t.0, u.0) refl)
    ]
    | inr t ↦ inl (rw t.0 refl)
  ]

  pub kept : (m : Option (ℕ × Bool)) (o : Option (List RecordData)) (v c head : ℕ) → host.mounted ≡ m → IsKept o v c head (written_mounted volumes m host o)
  kept None o v c head mounted = inl refl
  kept (Some m) None v c head mounted = inl refl
  kept (Some m) (Some track) v c head mounted = kept_there m (volumes.serial m.0) track v c head mounted

  elsewhere : (o : Option (List RecordData)) (v c head : ℕ) → (IsUnderHead host v c head → ⊥) → (written_to volumes host o).track v c head ≡ volumes.track v c head
  elsewhere o v c head away = elim (kept host.mounted o v c head refl) [ inl stays ↦ stays | inr is ↦ absurd (away is.1) ]

-- ---- which calls write

judged_writes : (tracks : Tracks) (host : HostState) (argument : List ℕ) (chained : Bool) (r : Result Command UnitCheck)
    → ((c : Command) → r ≡ Ok c → IsTrue (is_write c) → ⊥) → (answer_by_checks tracks host argument chained r).written ≡ None
judged_writes tracks host argument chained (Err check) isn't = refl
judged_writes tracks host argument chained (Ok c) isn't =
    elim (cases_Bool (is_write c)) [ inl writes ↦ absurd (isn't c refl writes) | inr writes ↦ only_writes tracks host c argument chained writes ]

pub no_write : (s : State) (h : ℕ) (call : CallData) → (IsWriteCommand s h call → ⊥) → Leaves s.volumes (plain s h call)
unfolding plain answer_on_tracks
no_write s h (mount volume bind) isn't = mount_leaves s h volume bind
no_write s h demount isn't = demount_leaves s h
no_write s h (break cause) isn't = refl
no_write s h (command code argument chained) isn't =
    ap (λ (o : Option (List RecordData)). written_to s.volumes (s.host h) o)
    (judged_writes (tracks_under s.volumes (s.host h)) (with_open_chain (s.host h)) argument chained (admitted_command (with_open_chain (s.host h)) code argument) (λ c is writes. isn't (c, is, writes)))
    ∙ unwritten s.volumes (s.host h) (s.host h).mounted

pub elsewhere_stays : (s : State) (h : ℕ) (call : CallData) (v c head : ℕ) → (IsUnderHead (s.host h) v c head → ⊥) → (plain s h call).1.volumes.track v c head ≡ s.volumes.track v c head
unfolding plain
elsewhere_stays s h (mount volume bind) v c head away = ap (λ (x : Volumes). x.track v c head) (mount_leaves s h volume bind)
elsewhere_stays s h demount v c head away = ap (λ (x : Volumes). x.track v c head) (demount_leaves s h)
elsewhere_stays s h (break cause) v c head away = refl
elsewhere_stays s h (command code argument chained) v c head away = elsewhere s.volumes (s.host h) _ v c head away

pub serials : (s : State) (h : ℕ) (call : CallData) → (plain s h call).1.volumes.serial ≡ s.volumes.serial
unfolding plain
serials s h (mount volume bind) = ap (λ (x : Volumes). x.serial) (mount_leaves s h volume bind)
serials s h demount = ap (λ (x : Volumes). x.serial) (demount_leaves s h)
serials s h (break cause) = refl
serials s h (command code argument chained) = (labels_stay s.volumes (s.host h) (s.host h).mounted _).0
