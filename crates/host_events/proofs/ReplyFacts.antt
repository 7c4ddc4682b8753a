-- A core whose host is replied is upheld: what every reply owes is said here once.
use Rattle.std.proofs.Common.{◌≡◌, ◌⊎◌, ℕ, true, false, cond, ◌&&◌, ◌||◌, ◌==◌, List, [], ◌∷◌, ◌++◌, length, Option, Some, None, refl, sym, ◌∙◌, ap, subst, arith, inl, inr}
use Rattle.std.specs.Prelude.{◌↔◌, IsSome, IsTrue}
use Rattle.std.proofs.Math.Path.{fun_ext}
use Rattle.std.proofs.lemmas.Bool.{and_parts, false≢true}
use Rattle.std.proofs.lemmas.Bool.Decides.{eqb_tells}
use Rattle.mss_base.specs.Content.{SiteLog}
use Rattle.mss_base.proofs.Moments.{started}
use Rattle.mss_base.specs.declared.site.Site.{Ghosts}
use Rattle.channel_commands.specs.Data.{CallData, ReplyData, stopped}
use Rattle.ckd_plain.specs.declared.host.HostState.{HostState}
use Rattle.ckd_plain.specs.Data.{State}
use Rattle.ckd_plain.specs.Plain.{with_host}
use Rattle.ckd_plain.specs.History.{EntryData, IsNextEntry, IsStopped, state_after, keeps_fault, count_of_host}
use Rattle.ckd_plain.specs.Near.{unchanged}
use Rattle.volume_table.specs.Listed.{row_in_list}
use Rattle.core_state.specs.declared.session.Event.TheVariants.{Host}
use Rattle.core_state.specs.Agrees.{EntryAgrees}
use Rattle.core_state.specs.CoreValue.{CoreValue}
use Rattle.core_state.specs.Counted.{fault_asked}
use Rattle.core_state.specs.Entered.{plain_of, StaysNear, Enters}
use Rattle.core_state.specs.IsCore.{IsCore, IsGoing, IsTold}
use Rattle.core_state.specs.Pins.{host_at, put_host, is_on, asks_for, owns}
use Rattle.core_state.specs.Running.{IsNotBusy, IsNotAwaited}
use Rattle.core_state.specs.SessionData.{data_of}
use Rattle.core_state.specs.Steps.{entry_of}
use Rattle.core_state.specs.TheCore.{IsKept}
use Rattle.core_state.proofs.BesideFacts.{whole_noted, counted_noted}
use Rattle.core_state.proofs.CoreFacts.{sound_of}
use Rattle.core_state.proofs.CountedFacts.{counted_entry}
use Rattle.core_state.proofs.HostFacts.{IsHost, IsHostOf, host_same, host_other, host_fits}
use Rattle.core_state.proofs.HostRequests.{is_on-some}
use Rattle.core_state.proofs.HostTasks.{IsNotTaken, tasks_with_host}
use Rattle.core_state.proofs.RuleWalks.{none_some}
use Rattle.core_state.proofs.WholeEvents.{whole_entry}
use Rattle.host_events.specs.Replies.{after_answer, IsUpheld}
use Rattle.host_events.proofs.RuleFacts.{Goes}

-- what the type of a core keeps, of the value that a clause sees
pub upheld_of : {S C : Type 0} (g : Ghosts S) (inside v : CoreValue S C) → inside ≡ v
    → IsKept g.tells (g.told inside.site) (g.writes inside.site) (g.faults inside.site) inside → IsUpheld g.tells (g.told v.site) (g.writes v.site) (g.faults v.site) v
upheld_of g inside v is kept =
    subst (λ (x : CoreValue _ _). IsUpheld g.tells (g.told x.site) (g.writes x.site) (g.faults x.site) x) is (record { whole = kept.whole; counted = kept.counted })

-- the host that is put, by number
pub host_put : (hosts : List HostState) (h : ℕ) (x : HostState) → IsHostOf hosts h → host_at (put_host hosts h x) ≡ (λ (other : ℕ). cond (other == h) x (host_at hosts other))
host_put hosts h x fits = fun_ext (λ (other : ℕ). elim (eqb_tells other h) [
  | inl t ↦ rw (t.0, t.1) (host_same hosts h x fits)
  | inr t ↦ rw t.0 (host_other hosts h other x fits t.1)
])

-- a reply without a fault stops nothing
pub unstopped : (r : ReplyData) → keeps_fault r ≡ false → IsStopped r → ⊥
unstopped stopped none stops = false≢true (sym none)
unstopped _ none stops = stops

-- ---- what the entry brings, where nothing is written

module _ (S : Type 0) {C : Type 0} (s : SiteLog) (v : CoreValue S C) (told : IsTold s v) (core : IsCore v) (open_ : v.stopped ≡ None) (h : ℕ) (low : IsHost h) (call : CallData) (fault : Option ℕ) (reply : ReplyData)
    (now : HostState) where
  going : IsGoing s v
  going = told.going open_

  abbrev st : State
  st = plain_of s v

  abbrev e : EntryData
  e = entry_of v.history h call reply fault

  pub enters_by : IsNextEntry (plain_of s v) (count_of_host h v.history) (entry_of v.history h call reply fault) × (state_after (plain_of s v) (entry_of v.history h call reply fault) ≡ with_host (plain_of s v) h now)
      → EntryAgrees v.config.frames (row_in_list v.rows) (plain_of s v) (entry_of v.history h call reply fault) reply
      → Enters v.config.frames v.rows (plain_of s v) v.history (entry_of v.history h call reply fault) (put_host v.hosts h now) v.tasks s s
  enters_by it agrees = record {
    may = it.0;
    writes = started (StaysNear v.config.frames st e s) s (sound_of S s v told, unchanged going.shows, going.quiet);
    agrees = agrees;
    leaves = λ is. record {
      hosts_ = ap (λ (x : State). x.host) it.1 ∙ (λ i other. cond (other == h) now (going.hosts_ i other)) ∙ sym (host_put v.hosts h now (host_fits v.hosts h low core.hosts_));
      shows = going.shows ∙ sym (ap (λ (x : State). x.volumes) it.1);
      tables = λ unit block table. refl;
      served = going.served;
      quiet = going.quiet;
    };
  }

-- ---- what a reply owes

pub record Owes {S C : Type 0} (tells : Type 0) (s : SiteLog) (v : CoreValue S C) (h : ℕ) (call : CallData) (fault : Option ℕ) (reply : ReplyData) (now : HostState) : Type 0 where
  -- whose the volume is, no other host owns
  pub mine : (volume : ℕ) → (is_on volume now.mounted && (now.chain_open || asks_for volume None)) ≡ true → (other : ℕ) → owns v.hosts v.requests other volume ≡ true → other ≡ h
  pub binds : (volume : ℕ) → now.mounted ≡ Some (volume, true) → ((host_at v.hosts h).mounted ≡ Some (volume, true)) ⊎ IsNotTaken v.tasks volume
  pub has : (volume : ℕ) → is_on volume now.mounted ≡ true → IsSome (row_in_list v.rows volume)
  pub enters : tells → Enters v.config.frames v.rows (plain_of s v) v.history (entry_of v.history h call reply fault) (put_host v.hosts h now) v.tasks s s
  pub keeps : IsSome fault ↔ IsTrue (keeps_fault reply)
  pub goes_on : IsStopped reply → ⊥
  -- the fault is that of the host's request
  pub from : (kept : ℕ) → fault ≡ Some kept → fault_asked v.requests h ≡ Some kept

module _ {S C : Type 0} (tells : Type 0) (s : SiteLog) (writes faults : ℕ) (v : CoreValue S C) (is : IsUpheld tells s writes faults v) (counts : tells → writes ≡ length s.log)
    (goes : Goes v) (h : ℕ) (low : IsHost h) (quiet : IsNotAwaited v h) (call : CallData) (fault : Option ℕ) (reply : ReplyData) (now : HostState) (owes : Owes tells s v h call fault reply now) where
  core : IsCore v
  core = is.whole.kept goes.going

  pub upheld_reply : IsUpheld tells s writes faults (after_answer v writes h call fault (reply, now))
  upheld_reply = record {
    whole = whole_noted tells s _ (v.events ++ Host h ∷ [])
        (whole_entry S v core h low now None (λ q none. absurd (none_some q none)) (λ q none queued. absurd (none_some q none)) owes.mine tells s s v.site (entry_of v.history h call reply fault) writes v.tasks
        is.whole goes.going goes.few
        (tasks_with_host v.config.frames (row_in_list v.rows) v.moving v.requests v.hosts v.tasks core.tasks_ h now None (host_fits v.hosts h low core.hosts_) core.requests_ quiet (λ q none. absurd (none_some q none)) owes.binds)
        refl (λ q ready. ready) owes.has (λ q none. absurd (none_some q none)) owes.enters counts owes.goes_on);
    counted = counted_noted writes faults _ _ (v.events ++ Host h ∷ [])
        (counted_entry writes faults writes faults v.requests (data_of v) is.counted (omega arith) (omega arith) goes.going (entry_of v.history h call reply fault) h None core.requests_
        (record { number = refl; fault = owes.keeps }) owes.goes_on (λ kept at. inr (owes.from kept at)) refl);
  }

-- ---- a host that keeps its volume

module _ {S C : Type 0} (v : CoreValue S C) (h : ℕ) (free : IsNotBusy v h) (now : HostState) (same : now.mounted ≡ (host_at v.hosts h).mounted) where
  pub mine_still : (volume : ℕ) → (is_on volume now.mounted && (now.chain_open || asks_for volume None)) ≡ true → (other : ℕ) → owns v.hosts v.requests other volume ≡ true → other ≡ h
  mine_still volume is other theirs =
      let parts = and_parts (is_on volume now.mounted) (now.chain_open || asks_for volume None) is in
      let there = is_on-some volume (host_at v.hosts h).mounted (ap (is_on volume) (sym same) ∙ parts.0) in
      free volume there.0 there.1 other theirs
