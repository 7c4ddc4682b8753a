-- What a stop within an opening leaves of what was made firm ahead of it, and what one behind a sync that failed does.
use Rattle.std.proofs.Common.{◌≡◌, inl, inr, ℕ, zero, suc, ◌+◌, ◌-◌, ◌≤◌, [], ◌∷◌, length, length-append, Result, refl, sym, ◌∙◌, ap, subst, arith}
use Rattle.mss_base.specs.Configs.{ConfigData}
use Rattle.mss_base.specs.Content.{Content, SiteLog, Got, IsTorn, Tear, Writes, content, image, loose_places, nowhere, synced_all, unsynced, with_tear}
use Rattle.mss_base.proofs.ImageLemmas.{from_append, image_from, rest_image}
use Rattle.mss_base.proofs.Moments.{moments_are_images, started, torn_at}
use Rattle.shown_volumes.specs.declared.refused.Refused.{Refused}
use Rattle.shown_volumes.proofs.QuietFacts.{all_firm}
use Rattle.mss_restart.specs.declared.opening.Opened.{Opened}
use Rattle.core_state.specs.CoreValue.{DevicesSeen}
use Rattle.core_restart.specs.Opening.{OpensSynced}
use Rattle.core_restart.specs.TakingUp.{IsFaultless, Stop, left_by}
use Rattle.core_restart.proofs.Syncing.{same_content}

-- ---- behind a sync of all units

module _ (config : ConfigData) (old new : DevicesSeen) (answer : Result Opened Refused) (opens : OpensSynced (Unit {0}) config old new answer) where
  abbrev pub synced : SiteLog
  synced = opens.synced.told

  got : Got (synced_all ∷ []) old.told synced
  got = opens.sync.told tt

  pub same : content synced ≡ content old.told
  same = same_content old.told synced got

  -- nothing is loose there, so no stop changes what was there then
  torn_same : (c d : Content) → IsTorn synced c d → d ≡ c
  torn_same c d torn = λ i unit block. torn_at synced c d unit block torn (all_firm old.told synced got unit block) i

  module _ (stop : Stop (length old.told.log + 1) new.told) where
    since : length synced.log ≤ stop.moment
    since = let long = ap (λ (s : SiteLog). length s.log) got ∙ length-append old.told.log (synced_all ∷ []) in omega (arith, long, stop.since)

    -- what holds at each moment since, a stop leaves
    pub leaves : (P : Content → Type 0) → Writes P synced new.told → P (left_by stop)
    leaves P moments = moments_are_images P P synced new.told moments (λ c d holds torn. subst P (sym (torn_same c d torn)) holds) stop.moment since stop.until stop.tear

    pub leaves_unwritten : new.told ≡ synced → left_by stop ≡ content old.told
    leaves_unwritten unwritten =
        let Stays : Content → Type 0 = λ c. c ≡ content old.told in
        leaves Stays (subst (λ (s : SiteLog). Writes Stays synced s) (sym unwritten) (started Stays synced same))

    -- content with a fault isn't written
    pub leaves_same : (IsFaultless config (content old.told) → ⊥) → left_by stop ≡ content old.told
    leaves_same faulty = elim (opens.told tt).untouched [
      | inl unwritten ↦ leaves_unwritten unwritten
      | inr none ↦ absurd (faulty (subst (IsFaultless config) same none))
    ]

-- ---- behind a sync that failed

unsynced_open : (s : SiteLog) (tear : Tear) (j : ℕ) → j ≤ 1 → image_from (content s) (loose_places s) (unsynced ∷ []) j tear ≡ with_tear (content s) (loose_places s) tear
unsynced_open s tear zero few = refl
unsynced_open s tear (suc zero) few = refl
unsynced_open s tear (suc (suc j)) few = absurd (omega (arith, few))

-- a stop then leaves what one before it would have left
pub unsynced_image : (s t : SiteLog) → Got (unsynced ∷ []) s t → (k : ℕ) → length s.log ≤ k → k ≤ length t.log → (tear : Tear) → image t k tear ≡ image s (length s.log) tear
unsynced_image s t got k from to tear =
    let long : length t.log ≡ length s.log + 1 = ap (λ (x : SiteLog). length x.log) got ∙ length-append s.log (unsynced ∷ []) in
    ap (λ (x : SiteLog). image x k tear) got
    ∙ from_append s.start nowhere s.log (unsynced ∷ []) (k - length s.log) k tear (omega (arith, from))
    ∙ unsynced_open s tear (k - length s.log) (omega (arith, to, long))
    ∙ sym (rest_image s (length s.log) tear refl)

-- as it does where nothing was done
pub unchanged_image : (s t : SiteLog) → t ≡ s → (k : ℕ) → length s.log ≤ k → k ≤ length t.log → (tear : Tear) → image t k tear ≡ image s (length s.log) tear
unchanged_image s t same k from to tear =
    let long : length t.log ≡ length s.log = ap (λ (x : SiteLog). length x.log) same in
    let end : k ≡ length s.log = omega (arith, from, to, long) in
    λ i. image (same i) (end i) tear
