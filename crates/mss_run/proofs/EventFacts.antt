-- What an event leaves of a session, from its laws.
use Rattle.std.proofs.Common.{◌≡◌, ◌⊎◌, inl, inr, ℕ, ◌+◌, ◌≤◌, Bool, true, false, [], ◌∷◌, length, length-append, Option, Some, refl, ◌∙◌, ap, subst, arith}
use Rattle.std.specs.Prelude.{is_some}
use Rattle.std.proofs.lemmas.Bool.{eqb-true}
use Rattle.mss_base.specs.Content.{SiteLog}
use Rattle.channel_commands.specs.Data.{CallData, ReplyData, stopped}
use Rattle.ckd_plain.specs.History.{IsStopped}
use Rattle.core_state.specs.Beginning.{Continues, IsLater, KeepsBeginning}
use Rattle.core_state.specs.Chains.{OneOf, Reading, WereRead}
use Rattle.core_state.specs.CoreValue.{CoreData, DevicesSeen}
use Rattle.core_state.specs.IsCore.{IsCore, opening_of}
use Rattle.core_state.specs.HostEvents.{HostTold, HostEvent, replied, marked, waits, halts, at_limit, no_memory, IsSame}
use Rattle.core_state.specs.declared.rule.Waiting.{Waiting}
use Rattle.core_state.specs.declared.session.Event.TheVariants.{Host}
use Rattle.core_state.specs.Steps.{entry_of}
use Rattle.core_state.specs.StopRule.{opening}
use Rattle.core_state.proofs.EntryLemmas.{opening_same}
use Rattle.host_events.specs.Leaves.{ChangesRequestAtMost, KeepsHistory, AddsEntry, EntersAsTold}
use Rattle.host_events.specs.Causes.{CauseOf, CauseOfReply}
use Rattle.quiet_events.specs.Quiet.{WaitsInVain}
use Rattle.mss_run.specs.Happens.{Enters, EntersStop, Happens, IsSameButRead, is_in_vain}

-- ---- the history

module _ (core : CoreData) (h : ℕ) (call : CallData) (core' : CoreData) where
  abbrev entered : (reply : ReplyData) (fault : Option ℕ) (index : ℕ) → index ≡ length core.history → AddsEntry core h call reply fault core' → Enters h call reply index core.history core'.history
  entered reply fault index at adds =
      record { entry = entry_of core.history h call reply fault; host_ = refl; call_ = refl; reply_ = refl; index_ = at; history = adds.history }

  no_stop : (reply : ReplyData) → CauseOfReply core h call reply core' → IsStopped reply → ⊥
  no_stop stopped cause is = cause
  no_stop _ cause is = is

  stopped_by : (b : Bool) (fault : ℕ) → OneOf b (KeepsHistory core core') (AddsEntry core h call stopped (Some fault) core')
      → (core'.history ≡ core.history) ⊎ EntersStop h call fault core.history core'.history
  stopped_by true fault keeps = inl keeps.history
  stopped_by false fault adds = inr (record { enters = entered stopped (Some fault) (length core.history) refl adds; fault_ = refl })

  pub happens : (told : HostTold) → length core.history ≤ 4096 → EntersAsTold core h call told core' → CauseOf core h call told core' → Happens h call told core.history core'.history
  happens (replied index reply) few enters cause = (entered reply enters.1 index enters.0 enters.2, no_stop reply cause)
  happens (halts fault) few enters cause = stopped_by (is_some core.stopped) fault enters
  happens at_limit few enters cause = (enters.history, omega (arith, few, cause.1))
  happens marked few enters cause = enters.history
  happens (waits why) few enters cause = enters.history
  happens no_memory few enters cause = enters.history

-- ---- nothing done

-- a wait that put nothing down changed nothing
module _ (tells : Type 0) (core : CoreData) (h : ℕ) (call : CallData) (core' : CoreData) (law : (w : Waiting) → HostEvent tells core h call (waits w) core' → ChangesRequestAtMost tells core h core') where
  by_change : ChangesRequestAtMost tells core h core' → length core'.events ≡ length core.events → IsSame tells core core'
  by_change (inl same) long = same
  by_change (inr (requests, still, is)) long =
      let grown : length core'.events ≡ length core.events + 1 = ap (λ (x : CoreData). length x.events) is ∙ length-append core.events (Host h ∷ []) in
      absurd (omega (arith, long, grown))

  pub vain : (told : HostTold) → HostEvent tells core h call told core' → is_in_vain told (length core.events) (length core'.events) ≡ true → IsSame tells core core'
  vain (waits w) event is = by_change (law w event) (eqb-true (length core'.events) (length core.events) is)
  vain (replied index reply) event is = absurd cc
  vain marked event is = absurd cc
  vain (halts fault) event is = absurd cc
  vain at_limit event is = absurd cc
  vain no_memory event is = absurd cc

-- and was in vain
module _ (tells : Type 0) (core : CoreData) (h : ℕ) (call : CallData) (core' : CoreData) (law : (w : Waiting) → HostEvent tells core h call (waits w) core' → length core'.events ≡ length core.events → WaitsInVain core h call) where
  pub waits_vain : (told : HostTold) → HostEvent tells core h call told core' → is_in_vain told (length core.events) (length core'.events) ≡ true → WaitsInVain core h call
  waits_vain (waits w) event is = law w event (eqb-true (length core'.events) (length core.events) is)
  waits_vain (replied index reply) event is = absurd cc
  waits_vain marked event is = absurd cc
  waits_vain (halts fault) event is = absurd cc
  waits_vain at_limit event is = absurd cc
  waits_vain no_memory event is = absurd cc

pub same_none : (tells : Type 0) (core : CoreData) → IsSame tells core core
same_none tells core = (record { told = λ t. refl; unwritten = refl; sound = refl }, refl)

pub same_then : (tells : Type 0) (a b c : CoreData) → IsSame tells a b → IsSame tells b c → IsSame tells a c
same_then tells a b c first then_ = (
  record { told = λ t. then_.0.told t ∙ first.0.told t; unwritten = then_.0.unwritten ∙ first.0.unwritten; sound = then_.0.sound ∙ first.0.sound },
  then_.1 ∙ ap (λ (x : CoreData). record x { site = c.site }) first.1,
)

-- ---- behind a read for a copy

-- what is so of a core behind a read is so of one with these devices
pub read_at : (copies : Bool) (tells : Type 0) (core : CoreData) (P : CoreData → Type 0) → Reading copies tells core P → (site : DevicesSeen) × WereRead tells core.site site × P (record core { site = site })
read_at false tells core P is = (core.site, record { told = λ _. refl; unwritten = refl; later = omega arith }, is)
read_at true tells core P is = is

pub read_on : (copies : Bool) (tells : Type 0) (core : CoreData) (P Q : CoreData → Type 0) → ((site : DevicesSeen) → P (record core { site = site }) → Q (record core { site = site })) → Reading copies tells core P → Reading copies tells core Q
read_on false tells core P Q on is = on core.site is
read_on true tells core P Q on is = (is.0, is.1, on is.0 is.2)

-- what a core keeps doesn't speak of its devices
pub core_read : (core : CoreData) (site : DevicesSeen) → IsCore core → IsCore (record core { site = site })
core_read core site is = record {
  places = is.places;
  are_rows = is.are_rows;
  used_ = is.used_;
  hosts_ = is.hosts_;
  requests_ = is.requests_;
  owners_ = is.owners_;
  moving_ = is.moving_;
  few = is.few;
  marked = is.marked;
  alone = is.alone;
  on_mounted = is.on_mounted;
  framed = is.framed;
  owned = is.owned;
  waiting = is.waiting;
  fit = is.fit;
  beside = is.beside;
  tasks_ = is.tasks_;
}

pub later_read : (tells : Type 0) (core core' : CoreData) (site : DevicesSeen) → WereRead tells core.site site → IsLater tells (record core { site = site }) core' → IsLater tells core core'
later_read tells core core' site read is = record {
  beginning = let b = is.beginning in record { config = b.config; first_write = b.first_write; first_faults = b.first_faults; handed = b.handed };
  grown = λ tl. subst (λ (s : SiteLog). Continues s core'.site.told) (read.told tl) (is.grown tl);
}

-- nothing was done behind it, and then nothing again
pub same_still : (copies : Bool) (tells : Type 0) (a b c : CoreData) → IsSameButRead copies tells a b → IsSame tells b c → IsSameButRead copies tells a c
same_still copies tells a b c first then_ = read_on copies tells a (λ (read : CoreData). IsSame tells read b) (λ (read : CoreData). IsSame tells read c) (λ site same. same_then tells (record a { site = site }) b c same then_) first

-- ---- the session

-- a later moment has the same opening
pub same_opening : (core core' : CoreData) → KeepsBeginning core core' → Continues core.site.told core'.site.told → core.first_write ≤ length core.site.told.log → opening_of core'.site.told core' ≡ opening_of core.site.told core
same_opening core core' keeps grown before =
    ap (λ (n : ℕ). opening n core'.site.told) keeps.first_write
    ∙ opening_same core.first_write core.site.told core'.site.told grown.0 grown.1 before
