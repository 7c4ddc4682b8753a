-- What the sync changes with which a restart begins: nothing that is read, and no count of faults.
use Rattle.std.proofs.Common.{◌≡◌, inl, inr, ◌<◌, ℕ, [], ◌∷◌, Option, Some, None, Result, Ok, Err, refl, sym, ◌∙◌, subst, arith}
use Rattle.std.specs.Prelude.{IfOk}
use Rattle.mss_base.specs.Configs.{ConfigData}
use Rattle.mss_base.specs.Content.{Content, SiteLog, Got, synced_all, content}
use Rattle.mss_base.specs.Counts.{Rises}
use Rattle.mss_base.proofs.Moments.{content_grown}
use Rattle.shown_volumes.specs.declared.refused.Refused.{Refused}
use Rattle.shown_volumes.specs.declared.refused.Refused.TheVariants.{RowUnread, Stopped, Memory}
use Rattle.mss_restart.specs.declared.opening.Opened.{Opened}
use Rattle.mss_restart.specs.Answers.{OpensExactly}
use Rattle.core_state.specs.CoreValue.{DevicesSeen}
use Rattle.core_restart.specs.Opening.{IsUnsynced, OpensSynced, Restarts, opened, not_opened}
use Rattle.core_restart.specs.TakingUp.{Answer, BeginsWith, IsFaultless, TakesUp, shown_for}

-- reads see what they saw
pub same_content : (old new : SiteLog) → Got (synced_all ∷ []) old new → content new ≡ content old
same_content old new got = content_grown old new (synced_all ∷ []) got

-- a count that stays hasn't risen
pub stays_low : (before now : ℕ) → now ≡ before → before < 18446744073709551615 → Rises before now → ⊥
stays_low before now same low rose = absurd (omega (arith, same, low, rose))

-- nothing opened is exact, where no call failed
unsynced_exactly : (tells : Type 0) (config : ConfigData) (old new : DevicesSeen) (why : Refused) → new.faults ≡ old.faults → old.faults < 18446744073709551615 → IsUnsynced tells old new why → OpensExactly {T = Opened} config (content old.told) (Err why)
unsynced_exactly tells config old new why same low (inl is) = subst (λ (e : Refused). OpensExactly {T = Opened} config (content old.told) (Err e)) (sym is.1) tt
unsynced_exactly tells config old new why same low (inr is) = absurd (stays_low old.faults new.faults same low is.0.failed)

-- where no call failed a restart answers by what the devices held
pub restarts_exactly : (tells : Type 0) (config : ConfigData) (old new : DevicesSeen) (answer : Result Opened Refused) → Restarts tells config old new answer → tells → new.faults ≡ old.faults → old.faults < 18446744073709551615 → OpensExactly config (content old.told) answer
restarts_exactly tells config old new answer (not_opened why is stays) t same low =
    subst (λ (a : Result Opened Refused). OpensExactly config (content old.told) a) (sym is) (unsynced_exactly tells config old new why same low stays)
restarts_exactly tells config old new answer (opened is) t same low =
    subst (λ (c : Content). OpensExactly config c answer) (same_content old.told is.synced.told (is.sync.told t))
    ((is.told t).exact (same ∙ sym is.sync.unfailed) (subst (λ (n : ℕ). n < 18446744073709551615) (sym is.sync.unfailed) low))

-- where rows are answered all was synced first
pub opens_synced : (tells : Type 0) (config : ConfigData) (old new : DevicesSeen) (rows : Opened) → Restarts tells config old new (Ok rows) → OpensSynced tells config old new (Ok rows)
opens_synced tells config old new rows (not_opened why is stays) = absurd cc
opens_synced tells config old new rows (opened is) = is

-- ---- what is answered over content without a fault

not_told : (e : Refused) → ◌≡◌ {A = Option Refused} None (Some e) → ⊥
not_told e is = cc

not_refused : (config : ConfigData) (c : Content) (e : Refused) → IsFaultless config c → OpensExactly {T = Opened} config c (Err e) → e ≡ Memory
not_refused config c (RowUnread v f) none is = absurd is
not_refused config c (Stopped f) none is = absurd is
not_refused config c Memory none is = refl
not_refused config c e none is = absurd (not_told e (sym none ∙ is))

pub refusal_taken : {S C : Type 0} (config : ConfigData) (old new : DevicesSeen) (refused : S × Refused) → (new.faults ≡ old.faults → old.faults < 18446744073709551615 → OpensExactly {T = Opened} config (content old.told) (Err refused.1)) → TakesUp {S = S} {C = C} config old new (Err refused)
refusal_taken config old new refused exact = record {
  faultless = λ none quiet. not_refused config (content old.told) refused.1 none (exact quiet.same quiet.could_rise);
  begins = tt;
}

-- what is taken up behind the sync is what was there before it
pub takes_up_before : {S C : Type 0} (config : ConfigData) (old synced new : DevicesSeen) (answer : Answer S C) → content synced.told ≡ content old.told → synced.faults ≡ old.faults → TakesUp config synced new answer → TakesUp config old new answer
takes_up_before config old synced new answer same unfailed is = record {
  faultless = λ none quiet. is.faultless (subst (IsFaultless config) (sym same) none)
      (record { same = quiet.same ∙ sym unfailed; could_rise = subst (λ (n : ℕ). n < 18446744073709551615) (sym unfailed) quiet.could_rise });
  begins = subst (λ (c : Content). IfOk answer (BeginsWith config (shown_for config c) new.told)) same is.begins;
}

-- a failed sync is no refusal of what the devices hold
pub unsynced_taken : {S C : Type 0} (tells : Type 0) (config : ConfigData) (old new : DevicesSeen) (refused : S × Refused) → IsUnsynced tells old new refused.1 → TakesUp {S = S} {C = C} config old new (Err refused)
unsynced_taken tells config old new refused is = refusal_taken config old new refused (λ same low. unsynced_exactly tells config old new refused.1 same low is)

-- of a site that tells
unsynced_telling : (tells : Type 0) → tells → (old new : DevicesSeen) (why : Refused) → IsUnsynced tells old new why → IsUnsynced (Unit {0}) old new why
unsynced_telling tells t old new why (inl is) = inl (record { told = λ _. is.0.told t; unwritten = is.0.unwritten; unfailed = is.0.unfailed }, is.1)
unsynced_telling tells t old new why (inr is) = inr (record { told = λ _. is.0.told t; tried = is.0.tried; later = is.0.later; failed = is.0.failed }, is.1)

pub telling : (tells : Type 0) → tells → (config : ConfigData) (old new : DevicesSeen) (answer : Result Opened Refused) → OpensSynced tells config old new answer → OpensSynced (Unit {0}) config old new answer
telling tells t config old new answer is = record {
  synced = is.synced;
  sync = record { told = λ _. is.sync.told t; made = is.sync.made; later = is.sync.later; unfailed = is.sync.unfailed };
  told = λ _. is.told t;
  any = is.any;
}

pub restarts_telling : (tells : Type 0) → tells → (config : ConfigData) (old new : DevicesSeen) (answer : Result Opened Refused) → Restarts tells config old new answer → Restarts (Unit {0}) config old new answer
restarts_telling tells t config old new answer (not_opened why is stays) = not_opened why is (unsynced_telling tells t old new why stays)
restarts_telling tells t config old new answer (opened is) = opened (telling tells t config old new answer is)
