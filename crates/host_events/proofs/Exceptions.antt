-- A core whose host gets an exception in place of the plain reply: its staging failed, or there is no space.
use Rattle.std.proofs.Common.{◌≡◌, ℕ, Bool, true, ◌||◌, length, Option, Some, None, refl, sym, ◌∙◌, ap, subst, inl}
use Rattle.std.specs.Prelude.{◌↔◌, IsSome, IsTrue}
use Rattle.std.proofs.lemmas.Bool.{and_from, eq-eqb}
use Rattle.mss_base.specs.Content.{SiteLog}
use Rattle.channel_commands.specs.Data.{CallData, command as ask, is_command, ReplyData, equipment_check, no_space}
use Rattle.ckd_plain.specs.declared.host.HostState.{HostState}
use Rattle.ckd_plain.specs.declared.unit_check.UnitCheck.{UnitCheck}
use Rattle.ckd_plain.specs.declared.unit_check.UnitCheck.TheVariants as check
use Rattle.ckd_plain.specs.Checks.{admitted_command}
use Rattle.ckd_plain.specs.Plain.{with_open_chain, host_after_check, with_host}
use Rattle.ckd_plain.specs.History.{IsAlone, IsNextEntry, IsStopped, keeps_fault, IsDataCommand, count_of_host, state_after, state_after_check}
use Rattle.ckd_plain.proofs.Entries.{equipment_entry, no_space_entry}
use Rattle.volume_table.specs.Listed.{row_in_list}
use Rattle.fault_queue.specs.Requests.{request_of}
use Rattle.core_state.specs.Agrees.{EntryAgrees}
use Rattle.core_state.specs.CoreValue.{CoreValue}
use Rattle.core_state.specs.Counted.{fault_asked}
use Rattle.core_state.specs.Entered.{plain_of}
use Rattle.core_state.specs.IsCore.{IsCore, IsGoing}
use Rattle.core_state.specs.Pins.{host_at, is_on, asks_for}
use Rattle.core_state.specs.Running.{IsNotBusy}
use Rattle.core_state.specs.Steps.{entry_of}
use Rattle.core_state.specs.TheCore.{IsWhole}
use Rattle.core_state.proofs.HostFacts.{IsHost}
use Rattle.core_state.proofs.RuleWalks.{none_some}
use Rattle.host_events.specs.Replies.{after_answer, IsUpheld}
use Rattle.host_events.proofs.ReplyFacts.{Owes, enters_by, upheld_reply, mine_still}
use Rattle.host_events.proofs.RuleFacts.{Goes, HasNoSpaceFor, AsksFor, OnFailed, OnNoSpace}

module _ {S C : Type 0} (s : SiteLog) (v : CoreValue S C) (going : IsGoing s v) (h : ℕ) where
  -- a host whose command none keeps off is alone on its volume
  pub alone_there : (call : CallData) → (is_command call ≡ true → IsNotBusy v h) → IsAlone (plain_of s v) h call
  alone_there (ask code argument chained) free = λ other volume bind bind' mine theirs chain.
      let hosts = going.hosts_ in
      let own : (host_at v.hosts h).mounted ≡ Some (volume, bind) = (λ i. (sym hosts i h).mounted) ∙ mine in
      let its : (host_at v.hosts other).mounted ≡ Some (volume, bind') = (λ i. (sym hosts i other).mounted) ∙ theirs in
      let chained_ : (host_at v.hosts other).chain_open ≡ true = (λ i. (sym hosts i other).chain_open) ∙ chain in
      free refl volume bind own other (and_from _ _ (ap (is_on volume) its ∙ eq-eqb volume volume refl) (ap (λ (b : Bool). b || asks_for volume (request_of v.requests other)) chained_))
  alone_there _ free = tt

  pub data_there : (call : CallData) → AsksFor v h call → IsDataCommand (plain_of s v) h call
  data_there call asks = subst (IsDataCommand (plain_of s v) h) (sym asks.is) (asks.c, ap (λ (f : ℕ → HostState). admitted_command (with_open_chain (f h)) asks.code asks.argument) going.hosts_ ∙ asks.admits, asks.data_)

module _ {S C : Type 0} (tells : Type 0) (s : SiteLog) (v : CoreValue S C) (whole : IsWhole tells s v) (goes : Goes v) (h : ℕ) (low : IsHost h) (call : CallData) (asks : AsksFor v h call) where
  core : IsCore v
  core = whole.kept goes.going

  -- the exception leaves the host its volume
  excepted_owes : (why : UnitCheck) (fault : Option ℕ) (reply : ReplyData) → (tells → IsNextEntry (plain_of s v) (count_of_host h v.history) (entry_of v.history h call reply fault)
      × (state_after (plain_of s v) (entry_of v.history h call reply fault) ≡ state_after_check why (plain_of s v) h))
      → (tells → EntryAgrees v.config.frames (row_in_list v.rows) (plain_of s v) (entry_of v.history h call reply fault) reply)
      → (IsSome fault ↔ IsTrue (keeps_fault reply)) → (IsStopped reply → ⊥) → ((kept : ℕ) → fault ≡ Some kept → fault_asked v.requests h ≡ Some kept)
      → Owes tells s v h call fault reply (host_after_check why (host_at v.hosts h))
  excepted_owes why fault reply next_ agrees keeps goes_on from = record {
    mine = mine_still v h asks.free (host_after_check why (host_at v.hosts h)) refl;
    binds = λ volume is. inl is;
    has = core.fit.mounted_ h;
    enters = λ tl.
        let told = whole.told tl in
        let going = told.going goes.going in
        enters_by S s v told core goes.going h low call fault reply (host_after_check why (host_at v.hosts h))
        ((next_ tl).0, (next_ tl).1 ∙ (λ i. with_host (plain_of s v) h (host_after_check why (going.hosts_ i h)))) (agrees tl);
    keeps = keeps;
    goes_on = goes_on;
    from = from;
  }

  failed_owes : (fault : ℕ) → fault_asked v.requests h ≡ Some fault → Owes tells s v h call (Some fault) equipment_check (host_after_check check.EquipmentCheck (host_at v.hosts h))
  failed_owes fault kept =
      excepted_owes check.EquipmentCheck (Some fault) equipment_check
      (λ tl. let going = (whole.told tl).going goes.going in equipment_entry (plain_of s v) (count_of_host h v.history) (entry_of v.history h call equipment_check (Some fault)) refl (alone_there s v going h call (λ _. asks.free)) refl refl
      (data_there s v going h call asks))
      (λ _. tt) ((λ _. refl), (λ _. refl)) (λ stops. stops) (λ other is. kept ∙ is)

  no_space_owes : HasNoSpaceFor v.config.frames (row_in_list v.rows) (host_at v.hosts) h → Owes tells s v h call None no_space (host_after_check check.NoSpace (host_at v.hosts h))
  no_space_owes full =
      excepted_owes check.NoSpace None no_space
      (λ tl. let going = (whole.told tl).going goes.going in no_space_entry (plain_of s v) (count_of_host h v.history) (entry_of v.history h call no_space None) refl (alone_there s v going h call (λ _. asks.free)) refl refl
      (data_there s v going h call asks))
      (λ tl. subst (λ (f : ℕ → HostState). HasNoSpaceFor v.config.frames (row_in_list v.rows) f h) (sym ((whole.told tl).going goes.going).hosts_) full)
      ((λ some_. some_), (λ keeps. keeps)) (λ stops. stops) (λ kept none. absurd (none_some kept none))

module _ {S C : Type 0} (tells : Type 0) (s : SiteLog) (writes faults : ℕ) (v : CoreValue S C) (is : IsUpheld tells s writes faults v) (counts : tells → writes ≡ length s.log) (h : ℕ) (low : IsHost h) (call : CallData)
  where
    pub upheld_failed : (fault : ℕ) → OnFailed v h call fault → IsUpheld tells s writes faults (after_answer v writes h call (Some fault) (equipment_check, host_after_check check.EquipmentCheck (host_at v.hosts h)))
    upheld_failed fault on =
        upheld_reply tells s writes faults v is counts on.goes h low on.quiet call (Some fault) equipment_check (host_after_check check.EquipmentCheck (host_at v.hosts h))
        (failed_owes tells s v is.whole on.goes h low call on.asks fault on.fails)

    pub upheld_no_space : OnNoSpace v h call → IsUpheld tells s writes faults (after_answer v writes h call None (no_space, host_after_check check.NoSpace (host_at v.hosts h)))
    upheld_no_space on =
        upheld_reply tells s writes faults v is counts on.goes h low on.quiet call None no_space (host_after_check check.NoSpace (host_at v.hosts h))
        (no_space_owes tells s v is.whole on.goes h low call on.asks on.full)
