-- What an entry of a history leaves of what a copy stands for.
use Rattle.std.proofs.Common.{◌≡◌, inl, inr, ℕ, ◌+◌, ◌*◌, ◌/◌, ◌%◌, ◌<◌, true, false, List, [], ◌∷◌, ◌++◌, length, take, Option, Some, None, IsSome, refl, sym, ap, subst, ◌∙◌, arith}
use Rattle.std.proofs.lemmas.Bool.{cases_Bool}
use Rattle.std.proofs.lemmas.List.{take-append-le, length-append}
use Rattle.channel_commands.specs.Codes.{command_of, is_write}
use Rattle.channel_commands.specs.Data.{CallData, mount, demount, command, break, ReplyData, done, mounted, demounted, already_mounted, not_mounted, no_volume, in_chain, program_check, chain_limit, equipment_check, no_space, stopped}
use Rattle.ckd_track.specs.Data.{RecordData, Volumes}
use Rattle.ckd_plain.specs.declared.host.HostState.{HostState}
use Rattle.ckd_plain.specs.Data.{State}
use Rattle.ckd_plain.specs.Plain.{with_open_chain, plain}
use Rattle.ckd_plain.specs.History.{EntryData, IsWriteCommand, after, left_by, state_after}
use Rattle.ckd_plain.specs.Laws.{IsUnderHead}
use Rattle.ckd_plain.proofs.CheckFacts.{admitted_is}
use Rattle.ckd_plain.proofs.Histories.{after-append}
use Rattle.ckd_plain.proofs.VolumeFacts.{no_write, elsewhere_stays, serials}
use Rattle.core_state.specs.Pins.{is_on}
use Rattle.volume_copy.specs.declared.copier.CopyState.{CopyState}
use Rattle.volume_copy.specs.declared.copier.CopyState.TheVariants.{Armed, NoVolume, Taking, Whole, Failed}
use Rattle.volume_copy.specs.declared.taken.TheConstants.{TRACKS}
use Rattle.volume_copy.specs.Copies.{CopyData, IsCopier, IsCopying, IsTrackOf, IsVolumeIn, LeavesSame, Stands, taken_at, track_of}
use Rattle.volume_copy.proofs.StepFacts.{none_some}
use Rattle.volume_copy.specs.Steps.{Guards, is_write_call, number_under, writes}

-- ---- a call and a track

-- only a write call is a write command
write_by_code : (s : State) (h : ℕ) (call : CallData) → is_write_call call ≡ false → IsWriteCommand s h call → ⊥
write_by_code s h (command code argument chained) isn't is =
    let known : command_of code ≡ Some is.0 = (admitted_is (with_open_chain (s.host h)) code argument is.0 is.1).known_ in
    let same : is_write is.0 ≡ false = sym (ap writes known) ∙ isn't in
    absurd cc
write_by_code s h (mount volume bind) isn't is = is
write_by_code s h demount isn't is = is
write_by_code s h (break cause) isn't is = is

-- the track under a host has its number
number_is : (host : HostState) (v n : ℕ) → IsUnderHead host v (n / 19) (n % 19) → number_under host ≡ n
number_is host v n under = let c = under.cylinder_ in let h = under.head_ in omega (arith, c, h)

-- a host under whose head a track of the volume is has the volume mounted
on_it : (host : HostState) (v c head : ℕ) → IsUnderHead host v c head → is_on v host.mounted ≡ true
on_it host v c head under = ap (is_on v) under.volume.1 ∙ grind arith

module _ (c : CopyData) (s : State) (h : ℕ) (call : CallData) (guards : Guards c (s.host h) call) (taking : c.state ≡ Taking) (n : ℕ) (left_ : taken_at c.tracks n ≡ None) where
  not_under : is_write_call call ≡ true → IsUnderHead (s.host h) c.volume (n / 19) (n % 19) → ⊥
  not_under write under =
      let some : IsSome (taken_at c.tracks (number_under (s.host h))) = guards (record { taking = taking; write = write; on = on_it (s.host h) c.volume (n / 19) (n % 19) under }) in
      none_some (taken_at c.tracks n) left_ (subst (λ (m : ℕ). IsSome (taken_at c.tracks m)) (number_is (s.host h) c.volume n under) some)

  plain_stays : track_of (plain s h call).1.volumes c.volume n ≡ track_of s.volumes c.volume n
  plain_stays = elim (cases_Bool (is_write_call call)) [
    | inl write ↦ elsewhere_stays s h call c.volume (n / 19) (n % 19) (not_under write)
    | inr isn't ↦ ap (λ (x : Volumes). track_of x c.volume n) (no_write s h call (write_by_code s h call isn't))
  ]

  left_stays : (r : ReplyData) → track_of (left_by r s h call).volumes c.volume n ≡ track_of s.volumes c.volume n
  left_stays (done status bytes) = plain_stays
  left_stays mounted = plain_stays
  left_stays demounted = plain_stays
  left_stays already_mounted = plain_stays
  left_stays not_mounted = plain_stays
  left_stays no_volume = plain_stays
  left_stays in_chain = plain_stays
  left_stays program_check = plain_stays
  left_stays chain_limit = plain_stays
  left_stays equipment_check = refl
  left_stays no_space = refl
  left_stays stopped = refl

  -- a track that isn't taken stays
  next_stays : (e : EntryData) → e.host ≡ h → e.call ≡ call → track_of (state_after s e).volumes c.volume n ≡ track_of s.volumes c.volume n
  unfolding state_after
  next_stays e host_ call_ = rw (host_, call_) (left_stays e.reply)

-- ---- which volumes there are

left_serials : (s : State) (h : ℕ) (call : CallData) (r : ReplyData) → (left_by r s h call).volumes.serial ≡ s.volumes.serial
left_serials s h call (done status bytes) = serials s h call
left_serials s h call mounted = serials s h call
left_serials s h call demounted = serials s h call
left_serials s h call already_mounted = serials s h call
left_serials s h call not_mounted = serials s h call
left_serials s h call no_volume = serials s h call
left_serials s h call in_chain = serials s h call
left_serials s h call program_check = serials s h call
left_serials s h call chain_limit = serials s h call
left_serials s h call equipment_check = refl
left_serials s h call no_space = refl
left_serials s h call stopped = refl

next_serials : (s : State) (e : EntryData) → (state_after s e).volumes.serial ≡ s.volumes.serial
unfolding state_after
next_serials s e = left_serials s e.host e.call e.reply

pub serials_after : (s : State) (es : List EntryData) → (after s es).volumes.serial ≡ s.volumes.serial
serials_after s [] = refl
serials_after s (e ∷ es) = serials_after (state_after s e) es ∙ next_serials s e

-- ---- an entry more

abbrev Leaves : CopyData → State → EntryData → Type 0
Leaves c s e = (n : ℕ) → n < TRACKS → taken_at c.tracks n ≡ None → track_of (state_after s e).volumes c.volume n ≡ track_of s.volumes c.volume n

track_stays : (o : Option (List RecordData)) (point now later : List RecordData) → (o ≡ None → later ≡ now) → IsTrackOf o point now → IsTrackOf o point later
track_stays None point now later stays is = stays refl ∙ is
track_stays (Some track) point now later stays is = is

copying_on : (c : CopyData) (s : State) (history : List EntryData) (e : EntryData) → Leaves c (after s history) e → IsCopying c s history → IsCopying c s (history ++ e ∷ [])
copying_on c s history e leaves is =
    let later : after s (history ++ e ∷ []) ≡ state_after (after s history) e = after-append s history (e ∷ []) in
    let point : take c.point (history ++ e ∷ []) ≡ take c.point history = take-append-le c.point history (e ∷ []) is.reached in
    let long : length (history ++ e ∷ []) ≡ length history + 1 = length-append history (e ∷ []) in
    record {
      reached = let r = is.reached in omega (arith, long, r);
      there = is.there;
      tracks_ = λ n few. rw (later, point) (track_stays (taken_at c.tracks n) _ _ _ (leaves n few) (is.tracks_ n few));
    }

-- a copier's copy stands still, where the track under a write is taken
pub entry_leaves : (c : CopyData) (s : State) (history : List EntryData) (e : EntryData) → IsCopier c → Guards c ((after s history).host e.host) e.call
    → Stands c.state c s history → Stands c.state c s (history ++ e ∷ [])
entry_leaves c s history e kept guards = by_state c.state refl
  where
    all_taken : c.state ≡ Whole → Leaves c (after s history) e
    all_taken is n few none = absurd (none_some (taken_at c.tracks n) none (kept.whole is n few))

    by_state : (state : CopyState) → c.state ≡ state → Stands state c s history → Stands state c s (history ++ e ∷ [])
    by_state Armed is stands = tt
    by_state NoVolume is stands = stands
    by_state Taking is stands = copying_on c s history e (λ n few none. next_stays c (after s history) e.host e.call guards is n none e refl refl) stands
    by_state Whole is stands = copying_on c s history e (all_taken is) stands
    by_state (Failed fault) is stands = stands

-- ---- what a copy is

some_at : (o : Option (List RecordData)) (point now : List RecordData) → IsSome o → IsTrackOf o point now → o ≡ Some point
some_at None point now some is = absurd cc
some_at (Some track) point now some is = ap Some is

none_at : (o : Option (List RecordData)) (point now : List RecordData) → o ≡ None → IsTrackOf o point now → now ≡ point
none_at None point now none is = is
none_at (Some track) point now none is = absurd cc

pub whole_is : (c : CopyData) (s : State) (history : List EntryData) → IsCopier c → c.state ≡ Whole → Stands c.state c s history → IsVolumeIn c (after s (take c.point history)).volumes
whole_is c s history kept is stands cylinder head low few =
    let n : ℕ = cylinder * 19 + head in
    let there : n < TRACKS = omega (arith, low, few) in
    let copying : IsCopying c s history = subst (λ (state : CopyState). Stands state c s history) is stands in
    let c_ : n / 19 ≡ cylinder = omega (arith, few) in
    let h_ : n % 19 ≡ head = omega (arith, few) in
    some_at (taken_at c.tracks n) _ _ (kept.whole is n there) (copying.tracks_ n there)
    ∙ (λ i. Some ((after s (take c.point history)).volumes.track c.volume (c_ i) (h_ i)))

pub left_is : (c : CopyData) (s : State) (history : List EntryData) → c.state ≡ Taking → Stands c.state c s history → LeavesSame c (after s (take c.point history)).volumes (after s history).volumes
left_is c s history is stands n there none =
    let copying : IsCopying c s history = subst (λ (state : CopyState). Stands state c s history) is stands in
    none_at (taken_at c.tracks n) _ _ none (copying.tracks_ n there)
