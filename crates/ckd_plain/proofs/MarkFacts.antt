-- Hosts know the marks of their volumes, and read-only volumes stay.
use Rattle.std.proofs.Common.{◌≡◌, inl, inr, ℕ, Bool, true, false, cond, List, Option, Some, None, refl, sym, ap, subst, ◌∙◌}
use Rattle.std.specs.Prelude.{IsTrue, not, is_some, option_map}
use Rattle.std.proofs.lemmas.Bool.{cases_Bool}
use Rattle.std.proofs.lemmas.Bool.Decides.{eqb_tells}
use Rattle.channel_commands.specs.Data.{CallData, mount, demount, command, break, ReplyData, done, mounted, demounted, already_mounted, not_mounted, no_volume, in_chain, program_check, chain_limit, equipment_check, no_space, stopped}
use Rattle.ckd_track.specs.Data.{Volumes}
use Rattle.ckd_plain.specs.declared.host.HostState.{HostState}
use Rattle.ckd_plain.specs.declared.unit_check.UnitCheck.{UnitCheck}
use Rattle.ckd_plain.specs.declared.unit_check.UnitCheck.TheVariants as check
use Rattle.ckd_plain.specs.Data.{State}
use Rattle.ckd_plain.specs.Checks.{is_change_allowed}
use Rattle.ckd_plain.specs.Plain.{with_open_chain, answer_on_tracks, plain, response_to, mounted_by, with_host, tracks_under, written_to, host_after_check, start_of}
use Rattle.ckd_plain.specs.History.{EntryData, IsWriteCommand, left_by, state_after}
use Rattle.ckd_plain.specs.Laws.{IsUnderHead, KnowsMark, KnowMarks}
use Rattle.ckd_plain.proofs.CheckFacts.{admitted_is}
use Rattle.ckd_plain.proofs.CommandFacts.{opened_protected, volume_stays, mark_stays}
use Rattle.ckd_plain.proofs.VolumeFacts.{labels_stay, no_write, elsewhere_stays}

-- ---- what becomes of marks, and of what hosts know of them

record KeepsMarks (s t : State) : Type 0 where
  marks_ : t.volumes.read_only ≡ s.volumes.read_only
  known : KnowMarks s → KnowMarks t

-- volumes with the same marks
moved_knows : (s : State) (volumes : Volumes) → volumes.read_only ≡ s.volumes.read_only → KnowMarks s → KnowMarks (record s { volumes = volumes })
moved_knows s volumes same knows other v bind is = knows other v bind is ∙ ap (λ (mark : ℕ → Bool). mark v) (sym same)

-- one host more that knows
put_knows : (s : State) (h : ℕ) (x : HostState) → KnowMarks s → KnowsMark s.volumes x → KnowMarks (with_host s h x)
put_knows s h x knows its other = elim (eqb_tells other h) [
  | inl t ↦ subst (λ (b : Bool). KnowsMark s.volumes (cond b x (s.host other))) (sym t.0) its
  | inr t ↦ subst (λ (b : Bool). KnowsMark s.volumes (cond b x (s.host other))) (sym t.0) (knows other)
]

-- the number of the volume that is mounted
abbrev number_in : ℕ → Option (ℕ × Bool) → ℕ
number_in other None = other
number_in other (Some m) = m.0

-- ---- calls that need no track

module _ (volumes : Volumes) (host : HostState) (knows : KnowsMark volumes host) where
  either_knows : (b : Bool) (x y : ReplyData × HostState) → KnowsMark volumes x.1 → KnowsMark volumes y.1 → KnowsMark volumes (cond b x y).1
  either_knows true x y p q = p
  either_knows false x y p q = q

  mounted_knows : (volume : ℕ) (bind : Bool) (serial : Option (List ℕ))
      → KnowsMark volumes (mounted_by host volume bind (option_map (λ (serial : List ℕ). volumes.read_only volume) serial)).1
  mounted_knows volume bind (Some serial) = λ v bind' is. ap (λ (m : Option (ℕ × Bool)). volumes.read_only (number_in volume m)) is
  mounted_knows volume bind None = knows

  mount_knows : (volume : ℕ) (bind : Bool)
      → KnowsMark volumes (response_to host (option_map (λ (serial : List ℕ). volumes.read_only volume) (volumes.serial volume)) (mount volume bind)).1
  unfolding response_to
  mount_knows volume bind =
      either_knows host.chain_open _ _ knows (either_knows (is_some host.mounted) _ _ knows (mounted_knows volume bind (volumes.serial volume)))

  none_knows : KnowsMark volumes (record host { mounted = None })
  none_knows v bind is = absurd cc

  demount_knows : (mark : Option Bool) → KnowsMark volumes (response_to host mark demount).1
  unfolding response_to
  demount_knows mark = either_knows host.chain_open _ _ knows (either_knows (is_some host.mounted) _ _ none_knows knows)

-- ---- every call

plain_keeps : (s : State) (h : ℕ) (call : CallData) → KeepsMarks s (plain s h call).1
unfolding plain response_to
plain_keeps s h (mount volume bind) = record { marks_ = refl; known = λ knows. put_knows s h _ knows (mount_knows s.volumes (s.host h) (knows h) volume bind) }
plain_keeps s h demount = record { marks_ = refl; known = λ knows. put_knows s h _ knows (demount_knows s.volumes (s.host h) (knows h) None) }
plain_keeps s h (break cause) = record { marks_ = refl; known = λ knows. put_knows s h _ knows (knows h) }
plain_keeps s h (command code argument chained) =
    let host : HostState = s.host h in
    let a = answer_on_tracks (tracks_under s.volumes host) host code argument chained in
    let new : Volumes = written_to s.volumes host a.written in
    let labels = labels_stay s.volumes host host.mounted a.written in
    let same : (v : ℕ) (bind : Bool) → a.host.mounted ≡ Some (v, bind) → KnowsMark s.volumes host → a.host.protected ≡ s.volumes.read_only v =
    λ v bind is knows. mark_stays (tracks_under s.volumes host) host code argument chained
    ∙ knows v bind (sym (volume_stays (tracks_under s.volumes host) host code argument chained) ∙ is) in
    record {
      marks_ = labels.1;
      known = λ knows. put_knows (record s { volumes = new }) h a.host (moved_knows s new labels.1 knows)
          (λ v bind is. same v bind is (knows h) ∙ ap (λ (mark : ℕ → Bool). mark v) (sym labels.1));
    }

excepted_keeps : (s : State) (h : ℕ) (why : UnitCheck) → KeepsMarks s (with_host s h (host_after_check why (s.host h)))
excepted_keeps s h why = record { marks_ = refl; known = λ knows. put_knows s h _ knows (knows h) }

left_keeps : (s : State) (h : ℕ) (call : CallData) (r : ReplyData) → KeepsMarks s (left_by r s h call)
left_keeps s h call (done status bytes) = plain_keeps s h call
left_keeps s h call mounted = plain_keeps s h call
left_keeps s h call demounted = plain_keeps s h call
left_keeps s h call already_mounted = plain_keeps s h call
left_keeps s h call not_mounted = plain_keeps s h call
left_keeps s h call no_volume = plain_keeps s h call
left_keeps s h call in_chain = plain_keeps s h call
left_keeps s h call program_check = plain_keeps s h call
left_keeps s h call chain_limit = plain_keeps s h call
left_keeps s h call equipment_check = excepted_keeps s h check.EquipmentCheck
left_keeps s h call no_space = excepted_keeps s h check.NoSpace
left_keeps s h call stopped = record { marks_ = refl; known = λ knows. knows }

next_keeps : (s : State) (e : EntryData) → KeepsMarks s (state_after s e)
unfolding state_after
next_keeps s e = left_keeps s e.host e.call e.reply

pub marks : (s : State) (e : EntryData) → (state_after s e).volumes.read_only ≡ s.volumes.read_only
marks s e = (next_keeps s e).marks_

pub starts_known : (volumes : Volumes) → KnowMarks (start_of volumes)
starts_known volumes h v bind is = absurd cc

pub stays_known : (s : State) (e : EntryData) → KnowMarks s → KnowMarks (state_after s e)
stays_known s e knows = (next_keeps s e).known knows

-- ---- read-only volumes

module _ (s : State) (h : ℕ) (call : CallData) (v c head : ℕ) (knows : KnowMarks s) (marked : IsTrue (s.volumes.read_only v)) where
  -- a host that knows of a read-only volume writes nothing
  writes_nothing : (k : CallData) → (s.host h).protected ≡ true → IsWriteCommand s h k → ⊥
  writes_nothing (command code argument chained) protected is =
      let allowed : is_change_allowed (with_open_chain (s.host h)).protected is.0 ≡ true = (admitted_is (with_open_chain (s.host h)) code argument is.0 is.1).passes.change_ in
      let refused : is_change_allowed (with_open_chain (s.host h)).protected is.0 ≡ false = (λ i. is_change_allowed ((opened_protected (s.host h) ∙ protected) i) is.0) ∙ ap not is.2 in
      absurd cc
  writes_nothing (mount volume bind) protected is = is
  writes_nothing demount protected is = is
  writes_nothing (break cause) protected is = is

  -- a host that knows of one that isn't has another volume mounted
  is_elsewhere : (s.host h).protected ≡ false → IsUnderHead (s.host h) v c head → ⊥
  is_elsewhere unmarked under =
      let mark : (s.host h).protected ≡ s.volumes.read_only v = knows h v under.volume.0 under.volume.1 in
      absurd cc

  plain_stays : (plain s h call).1.volumes.track v c head ≡ s.volumes.track v c head
  plain_stays = elim (cases_Bool (s.host h).protected) [
    | inl protected ↦ ap (λ (x : Volumes). x.track v c head) (no_write s h call (writes_nothing call protected))
    | inr unmarked ↦ elsewhere_stays s h call v c head (is_elsewhere unmarked)
  ]

  left_stays : (r : ReplyData) → (left_by r s h call).volumes.track v c head ≡ s.volumes.track v c head
  left_stays (done status bytes) = plain_stays
  left_stays mounted = plain_stays
  left_stays demounted = plain_stays
  left_stays already_mounted = plain_stays
  left_stays not_mounted = plain_stays
  left_stays no_volume = plain_stays
  left_stays in_chain = plain_stays
  left_stays program_check = plain_stays
  left_stays chain_limit = plain_stays
  left_stays equipment_check = refl
  left_stays no_space = refl
  left_stays stopped = refl

pub read_only_stays : (s : State) (e : EntryData) (v c head : ℕ) → KnowMarks s → IsTrue (s.volumes.read_only v)
    → (state_after s e).volumes.track v c head ≡ s.volumes.track v c head
unfolding state_after
read_only_stays s e v c head knows marked = left_stays s e.host e.call v c head knows marked e.reply
