-- What a stop may leave of a session.
use Rattle.std.specs.Prelude.{◌≡◌, ◌⊎◌, ◌≤◌, ℕ, ◌+◌, nat_le, Bool, true, false, ◌&&◌, if◌then◌else◌}
use Rattle.std.specs.Prelude.{List, ◌∷◌, length, take, slice_get, Option, Some, None}
use Rattle.mss_base.specs.Content.{SiteLog, Tear, no_tear, image, after as written_after}
use Rattle.ckd_track.specs.Data.{Volumes}
use Rattle.channel_commands.specs.Data.{ReplyData, stopped}
use Rattle.ckd_plain.specs.Data.{State}
use Rattle.ckd_plain.specs.Plain.{start_of}
use Rattle.ckd_plain.specs.History.{EntryData, after}
use Rattle.ckd_plain.specs.Near.{IsNear}
use Rattle.shown_volumes.specs.Shown.{volumes_shown}
use Rattle.shown_volumes.specs.Sound.{IsSound}

-- the state at a session's start: the volumes that were shown when so many writes were made
abbrev pub opening : ℕ → SiteLog → State
opening first site = start_of (volumes_shown (written_after site.start (take first site.log)))

abbrev pub is_answered : ReplyData → Bool
is_answered stopped = false
is_answered _ = true

-- how many entries are answered by moment k, where these are their marks
abbrev pub answered_count : ℕ → List EntryData → List ℕ → ℕ
answered_count k (e ∷ es) (m ∷ ms) =
    (if is_answered e.reply && nat_le m k then 1 else 0) + answered_count k es ms
answered_count k _ _ = 0

-- k is the mark of an answered entry
abbrev pub IsMark : ℕ → List EntryData → List ℕ → Type 0
IsMark k (e ∷ es) (m ∷ ms) = ((is_answered e.reply ≡ true) × (m ≡ k)) ⊎ IsMark k es ms
IsMark k _ _ = ⊥

-- what may be shown where the next entry is this one, or there is none
abbrev pub MayShow : State → Option EntryData → Volumes → Type 0
MayShow s None V = V ≡ s.volumes
MayShow s (Some e) V = IsNear s e.host e.call V

-- the state that the answered entries leave
abbrev pub state_at : State → List EntryData → List ℕ → ℕ → State
state_at s history marks k = after s (take (answered_count k history marks) history)

-- every stop since the session's start leaves sound content, which shows the volumes after the
-- answered entries, or what the next one may have made of them; at the start and at the mark of an
-- answered entry, with no tear, those themselves
pub record StopsWell (frames first : ℕ) (s : State) (history : List EntryData) (marks : List ℕ)
    (site : SiteLog) : Type 0 where
  pub sound : (k : ℕ) → first ≤ k → k ≤ length site.log → (tear : Tear)
      → IsSound frames (image site k tear)
  pub shows : (k : ℕ) → first ≤ k → k ≤ length site.log → (tear : Tear)
      → MayShow (state_at s history marks k) (slice_get history (answered_count k history marks))
      (volumes_shown (image site k tear))
  pub exact : (k : ℕ) → first ≤ k → k ≤ length site.log → (k ≡ first) ⊎ IsMark k history marks
      → volumes_shown (image site k no_tear) ≡ (state_at s history marks k).volumes
