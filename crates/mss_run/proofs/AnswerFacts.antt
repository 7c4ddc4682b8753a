-- What an event leaves of a pass and of the lock, from what it did to the history.
use Rattle.std.proofs.Common.{◌≡◌, ◌≤◌, ◌<◌, ℕ, ◌+◌, Bool, true, false, List, [], ◌∷◌, ◌++◌, length, length-append, Option, Some, None, inl, inr, refl, sym, ◌∙◌, ap, subst, arith}
use Rattle.std.specs.Prelude.{is_some, slice_get}
use mathlib.Core.List.{IsPrefix}
use Rattle.channel_commands.specs.Data.{CallData, ReplyData, stopped}
use Rattle.ckd_plain.specs.Data.{State}
use Rattle.ckd_plain.specs.History.{EntryData, IsLegal}
use Rattle.seen_book.specs.Openings.{OpeningData, IsLegalFrom}
use Rattle.seen_book.specs.Books.{BookData, PassData}
use Rattle.mss_base.specs.declared.place.UnitNo.{UnitNo}
use Rattle.mss_base.specs.Content.{SiteLog}
use Rattle.mss_base.specs.declared.site.Site.{Ghosts}
use Rattle.volume_copy.specs.Beside.{ReadsBeside}
use Rattle.volume_copy.specs.Copies.{AskedCopy}
use Rattle.core_state.specs.Beginning.{Continues, IsLater}
use Rattle.core_state.specs.Chains.{Reading, Step}
use Rattle.core_state.specs.CoreValue.{CoreData, CoreValue, seen_core, seen_site}
use Rattle.core_state.specs.HostEvents.{halts}
use Rattle.core_state.specs.IsCore.{opening_of}
use Rattle.core_state.proofs.Later.{later_none}
use Rattle.mss_run.specs.Answers.{Grows, IsFull, Stops}
use Rattle.mss_run.specs.Beginning.{Failing, SetupData, OpensWith}
use Rattle.mss_run.specs.Happens.{Enters, EntersStop, Happens}
use Rattle.mss_run.specs.Led.{IsEventOf, LeadsTo}
use Rattle.mss_run.proofs.EventFacts.{same_opening}
use Rattle.mss_run.proofs.LedFacts.{leads_event, leads_none, leads_read}

-- ---- passes

last_there : (log : List EntryData) (e : EntryData) → slice_get (log ++ e ∷ []) (length log) ≡ Some e
last_there [] e = refl
last_there (x ∷ xs) e = last_there xs e

past_end : (log : List EntryData) (e : EntryData) → slice_get log (length log) ≡ Some e → ⊥
past_end [] e is = absurd cc
past_end (x ∷ xs) e is = past_end xs e is

-- the entry at the old length is the one that was entered
pub entered_is : (host : ℕ) (call : CallData) (reply : ReplyData) (index : ℕ) (old new : List EntryData) (before : ℕ) (e : EntryData) → (n : Enters host call reply index old new)
    → before ≡ length old → slice_get new before ≡ Some e → e ≡ n.entry
entered_is host call reply index old new before e n at got =
    let there : slice_get new before ≡ Some n.entry = (λ i. slice_get (n.history i) (at i)) ∙ last_there old n.entry in
    let same : Some e ≡ Some n.entry = sym got ∙ there in
    cc

module _ (host : ℕ) (call : CallData) (old new : List EntryData) (before : ℕ) (e : EntryData) (at : before ≡ length old) (got : slice_get new before ≡ Some e) where
  -- a stop that added an entry
  pub entered_stop : (fault : ℕ) → Happens host call (halts fault) old new → EntersStop host call fault old new
  entered_stop fault (inl same) = absurd (past_end old e (sym (λ i. slice_get (same i) (at i)) ∙ got))
  entered_stop fault (inr n) = n

  module _ (reply : ReplyData) (index : ℕ) (n : Enters host call reply index old new) where
    is_entry : e ≡ n.entry
    is_entry = entered_is host call reply index old new before e n at got

    pub grown_by : new ≡ old ++ e ∷ []
    grown_by = n.history ∙ ap (λ (x : EntryData). old ++ x ∷ []) (sym is_entry)

    pub its_host : host ≡ e.host
    its_host = sym (ap (λ (x : EntryData). x.host) is_entry ∙ n.host_)

    pub had_room : length new ≤ 4096 → length old < 4096
    had_room few = let long : length new ≡ length old + 1 = ap length n.history ∙ length-append old (n.entry ∷ []) in omega (arith, few, long)

module _ (call : CallData) (p q : PassData) (old new : List EntryData) (before : ℕ) (e : EntryData) (at : before ≡ length old) (got : slice_get new before ≡ Some e) (pre : IsPrefix p.seen old)
    (is : q ≡ record { host = p.host; seen = old ++ e ∷ []; mine = p.mine ++ e ∷ [] }) where
  abbrev pub grows : (reply : ReplyData) (index : ℕ) → Enters p.host call reply index old new → Grows call reply index p q
  grows reply index n =
      let same = entered_is p.host call reply index old new before e n at got in
      record {
        between = pre.0;
        entry = e;
        host_ = (ap (λ (x : EntryData). x.host) same ∙ n.host_, ap (λ (x : PassData). x.host) is);
        call_ = ap (λ (x : EntryData). x.call) same ∙ n.call_;
        reply_ = ap (λ (x : EntryData). x.reply) same ∙ n.reply_;
        seen_ = ap (λ (x : PassData). x.seen) is ∙ ap (λ (l : List EntryData). l ++ e ∷ []) (sym pre.1);
        index_ = n.index_ ∙ ap length (sym pre.1);
        mine_ = ap (λ (x : PassData). x.mine) is;
      }

  -- where a stop was entered
  pub stop_grows : (fault : ℕ) → Happens p.host call (halts fault) old new → Stops call fault p q
  stop_grows fault (inl same) = absurd (past_end old e (sym (λ i. slice_get (same i) (at i)) ∙ got))
  stop_grows fault (inr n) = record {
    index = length old;
    grows = grows stopped (length old) n.enters;
    fault_ = ap (λ (x : EntryData). x.fault) (entered_is p.host call stopped (length old) old new before e n.enters at got) ∙ n.fault_;
  }

pub is_full : (p q : PassData) (log : List EntryData) → length log ≡ 4096 → IsPrefix p.seen log → q ≡ record { host = p.host; seen = log; mine = p.mine } → IsFull p q
is_full p q log long pre is = record {
  host_ = ap (λ (x : PassData). x.host) is;
  mine_ = ap (λ (x : PassData). x.mine) is;
  seen_ = subst (IsPrefix p.seen) (sym (ap (λ (x : PassData). x.seen) is)) pre;
  length_ = ap (λ (x : PassData). length x.seen) is ∙ long;
}

-- ---- the lock

module _ (opening : OpeningData) (setup : SetupData) (tells : Type 0) where
  module _ (never never' : Failing) (core core' : CoreData) (opens : OpensWith opening setup tells never core) (before : tells → core.first_write ≤ length core.site.told.log)
      (later : IsLater tells core core') (sound : (but : UnitNo → Bool) → never but → never' but) (goes_on : (but : UnitNo → Bool) → never but → core.stopped ≡ None → core'.stopped ≡ None) where
    -- what leads on leaves a core of the same session
    opens_on : LeadsTo tells (is_some setup.copy) setup.began core' → OpensWith opening setup tells never' core'
    opens_on led = record {
      to = opens.to;
      from = opens.from;
      led = led;
      state_ = λ tl. same_opening core core' later.beginning (later.grown tl) (before tl) ∙ opens.state_ tl;
      sound = λ but none. sound but (opens.sound but none);
      only_reads_fail = λ but none going. goes_on but (opens.sound but none) (opens.only_reads_fail but none going);
    }

    -- an event does
    pub opens_still : (step : Step) → Reading (is_some setup.copy) tells core (λ read. IsEventOf tells read step core') → OpensWith opening setup tells never' core'
    opens_still step event = opens_on (leads_event tells (is_some setup.copy) setup.began core core' opens.led step event later)

    -- reads for a copy do
    pub opens_behind : Reading (is_some setup.copy) tells core (λ read. core' ≡ read) → OpensWith opening setup tells never' core'
    opens_behind reads = opens_on (leads_read tells (is_some setup.copy) setup.began core core' opens.led reads later)

  pub legal_from : (never : Failing) (core : CoreData) → OpensWith opening setup tells never core → (tells → IsLegal (opening_of core.site.told core) core.history) → IsLegalFrom opening core.history
  legal_from never core opens legal = λ tl. let here = opens.to tl in subst (λ (s : State). IsLegal s core.history) (opens.state_ here) (legal here)

-- a read for a copy leaves a later core of the same session
module _ {S C : Type 0} (g : Ghosts S) (v w : CoreValue S C) where
  pub history_read : (copies : Bool) → ReadsBeside g copies v w → w.history ≡ v.history
  history_read false same = ap (λ (x : CoreValue S C). x.history) same
  history_read true reads = ap (λ (x : CoreValue S C). x.history) reads.core

  pub opens_read : (opening : OpeningData) (setup : SetupData) → OpensWith opening setup g.tells (g.never_fails_but v.site) (seen_core g v) → (g.tells → v.first_write ≤ length (g.told v.site).log)
      → (copies : Bool) → is_some setup.copy ≡ copies → ReadsBeside g copies v w → OpensWith opening setup g.tells (g.never_fails_but w.site) (seen_core g w)
  opens_read opening setup opens before false is same = subst (λ (x : CoreValue S C). OpensWith opening setup g.tells (g.never_fails_but x.site) (seen_core g x)) (sym same) opens
  opens_read opening setup opens before true is reads =
      let read : CoreValue S C = record v { site = w.site } in
      let later : IsLater g.tells (seen_core g v) (seen_core g read) = record {
        beginning = record { config = refl; first_write = refl; first_faults = refl; handed = λ rows. refl };
        grown = λ tl. subst (λ (s : SiteLog). Continues (g.told v.site) s) (sym (reads.site_.log tl)) ((later_none g.tells (seen_core g v)).grown tl);
      } in
      let behind : Reading true g.tells (seen_core g v) (λ (x : CoreData). seen_core g read ≡ x) =
      (seen_site g w.site, record { told = reads.site_.log; unwritten = reads.site_.unwritten; later = reads.site_.later }, refl) in
      subst (λ (x : CoreValue S C). OpensWith opening setup g.tells (g.never_fails_but x.site) (seen_core g x)) (sym reads.core)
      (opens_behind opening setup g.tells (g.never_fails_but v.site) (g.never_fails_but w.site) (seen_core g v) (seen_core g read) opens before later reads.site_.sound (λ but none going. going)
      (subst (λ (b : Bool). Reading b g.tells (seen_core g v) (λ (x : CoreData). seen_core g read ≡ x)) (sym is) behind))

-- the book that is there has the list that is kept
pub list_is : (b : Option BookData) (x : BookData) (log : List EntryData) (made : List ℕ) → b ≡ Some x → b ≡ Some record { list = log; made = made } → x.list ≡ log
list_is b x log made is kept = let same : Some x ≡ Some record { list = log; made = made } = sym is ∙ kept in ap book_list same
  where
    book_list : Option BookData → List EntryData
    book_list None = []
    book_list (Some y) = y.list

pub book_there : (b : Option BookData) (x : BookData) → b ≡ None → b ≡ Some x → ⊥
book_there b x none some = absurd (let e : None ≡ Some x = sym none ∙ some in cc)

-- ---- the whole session

-- the session of a core has its own opening
pub opens_itself : (tells : Type 0) (never : Failing) (core : CoreData) (copy : Option AskedCopy)
    → OpensWith (record { tells = tells; state = opening_of core.site.told core }) (record { began = core; never_fails_but = never; copy = copy }) tells never core
opens_itself tells never core copy = record { to = λ t. t; from = λ t. t; led = leads_none tells (is_some copy) core; state_ = λ _. refl; sound = λ but none. none; only_reads_fail = λ but none going. going }

module _ (opening : OpeningData) (setup : SetupData) (tells : Type 0) (never : Failing) (core : CoreData) (opens : OpensWith opening setup tells never core) where
  pub legal_since : (log : List EntryData) → IsLegalFrom opening log → tells → IsLegal (opening_of core.site.told core) log
  legal_since log legal tl = subst (λ (s : State). IsLegal s log) (sym (opens.state_ tl)) (legal (opens.from tl))
