-- The core with which a session begins is whole.
use Rattle.std.proofs.Common.{◌≡◌, inl, inr, ℕ, zero, suc, ◌≤◌, Bool, true, false, List, [], ◌∷◌, length, take, Option, Some, None, refl, sym, ◌∙◌, ap, subst, arith}
use Rattle.std.specs.Prelude.{replicate, slice_index_or}
use Rattle.std.proofs.lemmas.Bool.{cases_lt, and_parts, false≢true}
use Rattle.std.proofs.lemmas.List.{take_all, get_or-replicate, get_or_past, length-replicate}
use Rattle.mss_base.specs.Content.{Content, SiteLog, Tear, no_tear, content, image, after as written_after}
use Rattle.ckd_plain.specs.declared.host.HostState.{HostState}
use Rattle.ckd_plain.specs.Plain.{fresh_host}
use Rattle.volume_table.specs.Row.{RowValue}
use Rattle.table_pair.specs.declared.copy.SlotsUsed.{SlotsUsed}
use Rattle.table_pair.specs.Pair.{HoldsRow}
use Rattle.table_pair.specs.Slots.{AreUsed}
use Rattle.shown_volumes.specs.Shown.{RowsOf, rows_of, volumes_shown}
use Rattle.shown_volumes.specs.Sound.{IsSound, SoundAs}
use Rattle.shown_volumes.specs.Changing.{IsQuiet}
use Rattle.shown_volumes.proofs.QuietFacts.{quiet_rests}
use Rattle.core_state.specs.declared.session.Message.{Message}
use Rattle.fault_queue.specs.declared.queue.Request.{Request}
use Rattle.core_state.specs.declared.task.Task.{Task}
use Rattle.core_state.specs.CoreValue.{CoreValue}
use Rattle.core_state.specs.Pins.{host_at, task_at, is_on, owns}
use Rattle.volume_table.specs.Listed.{row_in_list}
use Rattle.fault_queue.specs.Requests.{request_of, IsOnce}
use Rattle.core_state.specs.Agrees.{AllAllowed, AreEarly, rows_after, handed_rows}
use Rattle.core_state.specs.IsCore.{IsCore, AllDone}
use Rattle.core_state.specs.TheCore.{IsWhole}
use Rattle.mss_base.specs.Configs.{ConfigData}
use Rattle.std.specs.List.{IsDistinct}
use Rattle.cartridge_store.specs.declared.store.Place.{Place}
use Rattle.cartridge_store.specs.Places.{place_of, home_of}
use Rattle.victim_choice.specs.Order.{first_order}
use Rattle.victim_choice.proofs.OrderFacts.{untouched_is_order}
use Rattle.accessors.specs.Rails.{rail_start}
use Rattle.core_state.proofs.Making.{make_whole}
use Rattle.core_state.proofs.CoreWork.{AreOwned}

nothing : {A : Type 0} (n i : ℕ) (a : A) → slice_index_or (replicate n a) i a ≡ a
nothing {A} n i a = elim (cases_lt i n) [
  | inl lt ↦ get_or-replicate n i a a lt
  | inr past ↦ get_or_past (replicate n a) i a (let l = length-replicate {A = A} n a in omega (arith, l))
]

none_twice : IsOnce []
unfolding IsDistinct
none_twice = tt

-- frames with their owners, no tasks, no requests, hosts at a session's start, no entries
abbrev pub begun : {S C : Type 0} → S → C → ConfigData → List Place → List (Option RowValue) → List SlotsUsed → List (Option (ℕ × ℕ)) → List Message → ℕ → ℕ → CoreValue S C
begun site chooser config store rows used owners console first faults = record {
  site = site;
  chooser = chooser;
  config = config;
  rows = rows;
  used = used;
  owners = owners;
  moving = replicate config.frames false;
  recency = first_order config.frames;
  requests = [];
  tasks = replicate config.recorders None;
  recorders = replicate config.recorders None;
  store = store;
  rail = rail_start;
  hosts = replicate 8 fresh_host;
  history = [];
  marks = [];
  console = console;
  events = [];
  first_write = first;
  first_faults = faults;
  stopped = None;
}

-- what was done by then is early
early_done : (n first : ℕ) (console : List Message) → n ≤ first → AllDone n console → AreEarly first console
early_done n first [] le done = tt
early_done n first (m ∷ ms) le done = (λ _. (let d = done.0 in omega (arith, d)), early_done n first ms le done.1)

module _ (S C : Type 0) (tells : Type 0) (s : SiteLog) (x : S) (chooser : C) (config : ConfigData) (store : List Place) (homes : (c : ℕ) → place_of store c ≡ home_of c) (rows : List (Option RowValue)) (used : List SlotsUsed) (owners : List (Option (ℕ × ℕ))) (first faults : ℕ) (console : List Message)
    (owned : AreOwned config.frames rows owners) (at_end : tells → first ≡ length s.log) (sound : tells → IsSound config.frames (content s)) (rows_are : tells → rows_of (content s) ≡ row_in_list rows)
    (copies : tells → (volume : ℕ) (r : RowValue) → row_in_list rows volume ≡ Some r → HoldsRow r volume (content s))
    (places : length used ≡ 32) (slots : tells → AreUsed used (content s)) (quiet : tells → IsQuiet s)
    (messages : tells → AllDone (length s.log) console) (allowed : tells → AllAllowed (handed_rows (row_in_list rows) console) console) (told : tells → rows_after (handed_rows (row_in_list rows) console) console ≡ row_in_list rows) where
  abbrev v : CoreValue S C
  v = begun x chooser config store rows used owners console first faults

  fresh : (h : ℕ) → host_at v.hosts h ≡ fresh_host
  fresh zero = refl
  fresh (suc h) = nothing 8 h fresh_host

  no_request : (h : ℕ) → request_of v.requests h ≡ None
  no_request h = refl

  no_task : (n : ℕ) (task : Task) → task_at v.tasks n ≡ Some task → ⊥
  no_task n task is = let e : ◌≡◌ {A = Option Task} None (Some task) = sym (nothing config.recorders n None) ∙ is in cc

  not_owned : (h volume : ℕ) → owns v.hosts v.requests h volume ≡ true → ⊥
  not_owned h volume is =
      let parts = and_parts (is_on volume (host_at v.hosts h).mounted) _ is in
      false≢true (ap (λ (z : HostState). is_on volume z.mounted) (sym (fresh h)) ∙ parts.0)

  kept : IsCore (begun x chooser config store rows used owners console first faults)
  kept = record {
    places = owned.places;
    are_rows = owned.are_rows;
    used_ = places;
    hosts_ = length-replicate {A = HostState} 8 fresh_host;
    requests_ = none_twice;
    owners_ = owned.owners_;
    moving_ = length-replicate {A = Bool} config.frames false;
    few = omega arith;
    marked = refl;
    alone = λ volume h other a b. absurd (not_owned h volume a);
    on_mounted = λ h q is. absurd (let e : ◌≡◌ {A = Option Request} None (Some q) = sym (no_request h) ∙ is in cc);
    framed = owned.framed;
    owned = owned.owned;
    waiting = λ h q is. absurd (let e : ◌≡◌ {A = Option Request} None (Some q) = sym (no_request h) ∙ is in cc);
    fit = record {
      long = length-replicate {A = Option Task} config.recorders None;
      mounted_ = λ h volume on. absurd (false≢true (ap (λ (z : HostState). is_on volume z.mounted) (sym (fresh h)) ∙ on));
      ready = λ h q is. absurd (let e : ◌≡◌ {A = Option Request} None (Some q) = sym (no_request h) ∙ is in cc);
    };
    beside = record {
      long = length-replicate {A = Option ℕ} config.recorders None;
      order = untouched_is_order config.frames;
      lies = λ c. inl (homes c);
      holds = λ i c is. absurd (let e : ◌≡◌ {A = Option ℕ} None (Some c) = sym (nothing config.recorders i None) ∙ is in cc);
    };
    tasks_ = record {
      each = λ n task is. absurd (no_task n task is);
      frames_once = λ n m a b is. absurd (no_task n a is);
      hosts_once = λ n m a b is. absurd (no_task n a is);
      moved = λ frame moves. absurd (false≢true (sym (nothing config.frames frame false) ∙ moves));
      awaited = λ h q is. absurd (let e : ◌≡◌ {A = Option Request} None (Some q) = sym (no_request h) ∙ is in cc);
    };
  }

  front : tells → written_after s.start (take first s.log) ≡ content s
  front tl = ap (written_after s.start) (take_all first s.log (let e = at_end tl in omega (arith, e)))

  handed : (tl : tells) → handed_rows (rows_of (written_after s.start (take first s.log))) console ≡ handed_rows (row_in_list rows) console
  handed tl = ap (λ (c : Content). handed_rows (rows_of c) console) (front tl) ∙ ap (λ (r : RowsOf). handed_rows r console) (rows_are tl)

  here : (tl : tells) (k : ℕ) → first ≤ k → k ≤ length s.log → (tear : Tear) → SoundAs config.frames (volumes_shown (content s)) (image s k tear)
  here tl k from to tear = quiet_rests config.frames s (quiet tl) (sound tl) k tear (let e = at_end tl in omega (arith, e))

  opens : (tl : tells) → volumes_shown (content s) ≡ volumes_shown (written_after s.start (take first s.log))
  opens tl = ap volumes_shown (sym (front tl))

  pub whole_begun : IsWhole tells s (begun x chooser config store rows used owners console first faults)
  whole_begun = make_whole kept (λ tl. record {
    began = let e = at_end tl in omega (arith, e);
    entries = tt;
    messages = messages tl;
    legal = tt;
    stops = record {
      sound = λ k from to tear. (here tl k from to tear).sound;
      shows = λ k from to tear. (here tl k from to tear).same ∙ opens tl;
      exact = λ k from to at. (here tl k from to no_tear).same ∙ opens tl;
    };
    agrees = record {
      early = early_done (length s.log) first console (let e = at_end tl in omega (arith, e)) (messages tl);
      allowed = subst (λ (r : RowsOf). AllAllowed r console) (sym (handed tl)) (allowed tl);
      entries = tt;
    };
    going = λ none. record {
      no_stop = tt;
      hosts_ = λ i h. sym (fresh h) i;
      shows = opens tl;
      rows_ = rows_are tl;
      copies = copies tl;
      slots_ = slots tl;
      told = ap (λ (r : RowsOf). rows_after r console) (handed tl) ∙ told tl;
      served = λ n task is. absurd (no_task n task is);
      quiet = quiet tl;
      without = λ volume none unit table. ap (λ (c : Content). c unit volume) (sym (front tl));
    };
  })
