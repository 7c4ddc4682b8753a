-- A whole core where only what stands beside its tables changes. Layers above cite these lemmas.
use Rattle.std.proofs.Common.{◌≡◌, ◌≢◌, inl, inr, ℕ, ◌<◌, true, List, length, Option, Some, None, sym, ◌∙◌, ap, get_or-set_same, get_or-set_other}
use Rattle.std.specs.Prelude.{slice_set}
use Rattle.std.proofs.lemmas.Bool.{false≢true}
use Rattle.std.proofs.lemmas.Bool.Decides.{eqb_tells}
use Rattle.std.proofs.lemmas.List.{length-set}
use Rattle.mss_base.specs.Content.{SiteLog}
use Rattle.cartridge_store.specs.declared.store.Place.{Place}
use Rattle.accessors.specs.Rails.{RailData}
use Rattle.fault_queue.specs.Requests.{RequestsData}
use Rattle.core_state.specs.declared.session.Event.{Event}
use Rattle.core_state.specs.CoreValue.{CoreValue}
use Rattle.core_state.specs.Beside.{IsBeside, held_at}
use Rattle.core_state.specs.Counted.{IsCounted}
use Rattle.core_state.specs.SessionData.{SessionData}
use Rattle.cartridge_store.specs.declared.store.Place.TheVariants.{Cell, Hand, Recorder}
use Rattle.cartridge_store.specs.Places.{place_of, home_of, with_place}
use Rattle.victim_choice.specs.Order.{order_after}
use Rattle.victim_choice.proofs.OrderFacts.{touched_is_order}
use Rattle.core_state.specs.WorkRules.{is_in_cell}
use Rattle.core_state.proofs.RuleWalks.{none_some, some_is}
use Rattle.core_state.specs.IsCore.{IsCore, IsTold}
use Rattle.core_state.specs.TheCore.{IsWhole}

module _ {S C : Type 0} (v : CoreValue S C) (recency : List ℕ) (recorders : List (Option ℕ)) (store : List Place) (rail : RailData) (events : List Event) where
  abbrev pub beside : CoreValue S C
  beside = record v { recency = recency; recorders = recorders; store = store; rail = rail; events = events }

  pub core_beside : IsCore v → IsBeside v.config.frames v.config.recorders recency recorders store → IsCore (record v { recency = recency; recorders = recorders; store = store; rail = rail; events = events })
  core_beside core is = record {
    places = core.places;
    are_rows = core.are_rows;
    used_ = core.used_;
    hosts_ = core.hosts_;
    requests_ = core.requests_;
    owners_ = core.owners_;
    moving_ = core.moving_;
    few = core.few;
    marked = core.marked;
    alone = core.alone;
    on_mounted = core.on_mounted;
    framed = core.framed;
    owned = core.owned;
    waiting = core.waiting;
    fit = core.fit;
    beside = is;
    tasks_ = core.tasks_;
  }

  pub told_beside : (s : SiteLog) → IsTold s v → IsTold s (record v { recency = recency; recorders = recorders; store = store; rail = rail; events = events })
  told_beside s told = record {
    began = told.began;
    entries = told.entries;
    messages = told.messages;
    legal = told.legal;
    stops = told.stops;
    agrees = told.agrees;
    going = λ none. let g = told.going none in record { no_stop = g.no_stop; hosts_ = g.hosts_; shows = g.shows; rows_ = g.rows_; copies = g.copies; slots_ = g.slots_; told = g.told; served = g.served; quiet = g.quiet; without = g.without };
  }

  pub whole_beside : (tells : Type 0) (s : SiteLog) → IsWhole tells s v → length recorders ≡ v.config.recorders → (v.stopped ≡ None → IsBeside v.config.frames v.config.recorders recency recorders store)
      → IsWhole tells s (record v { recency = recency; recorders = recorders; store = store; rail = rail; events = events })
  whole_beside tells s whole long is = record {
    shaped = let k = whole.shaped in record { rows_ = k.rows_; used_ = k.used_; hosts_ = k.hosts_; owners_ = k.owners_; moving_ = k.moving_; tasks_ = k.tasks_; recorders_ = long; few = k.few; marked = k.marked };
    kept = λ none. core_beside (whole.kept none) (is none);
    told = λ tl. told_beside s (whole.told tl);
  }

-- an event is noted
pub whole_noted : {S C : Type 0} (tells : Type 0) (s : SiteLog) (v : CoreValue S C) (events : List Event) → IsWhole tells s v → IsWhole tells s (record v { events = events })
whole_noted tells s v events whole = whole_beside v v.recency v.recorders v.store v.rail events tells s whole whole.shaped.recorders_ (λ none. (whole.kept none).beside)

pub counted_noted : (writes faults : ℕ) (requests : RequestsData) (d : SessionData) (events : List Event) → IsCounted writes faults requests d → IsCounted writes faults requests (record d { events = events })
counted_noted writes faults requests d events is =
    record { marks_ = is.marks_; messages = is.messages; entries = is.entries; began = is.began; faults_ = is.faults_; going = is.going; stop = is.stop }

-- ---- what stands beside, as it changes

-- a frame is touched
pub beside_touched : (frames count : ℕ) (recency : List ℕ) (recorders : List (Option ℕ)) (store : List Place) (frame : ℕ) → frame < frames
    → IsBeside frames count recency recorders store → IsBeside frames count (order_after frame recency) recorders store
beside_touched frames count recency recorders store frame below is =
    record { long = is.long; order = touched_is_order frames recency frame is.order below; lies = is.lies; holds = is.holds }

abbrev recorder_of : Place → Option ℕ
recorder_of (Recorder n) = Some n
recorder_of _ = None

-- a place is no recorder's where it is a cell
no_recorder : (p : Place) (i : ℕ) → p ≡ Recorder i → is_in_cell p ≡ true → ⊥
no_recorder (Cell n) i is cell = none_some i (ap recorder_of is)
no_recorder (Hand a) i is cell = none_some i (ap recorder_of is)
no_recorder (Recorder n) i is cell = absurd (false≢true cell)

module _ (frames count : ℕ) (recency : List ℕ) (recorders : List (Option ℕ)) (store : List Place) (is : IsBeside frames count recency recorders store)
    (recorder cartridge : ℕ) (known : cartridge < length store) (fits : recorder < length recorders) where
  place_now : (p : Place) → place_of (with_place cartridge p store) cartridge ≡ p
  place_now p = get_or-set_same store cartridge p (home_of cartridge) known

  place_still : (p : Place) (other : ℕ) → other ≢ cartridge → place_of (with_place cartridge p store) other ≡ place_of store other
  place_still p other differs = get_or-set_other store cartridge other p (home_of other) differs

  held_now : (o : Option ℕ) → held_at (slice_set recorders recorder o) recorder ≡ o
  held_now o = get_or-set_same recorders recorder o None fits

  held_still : (o : Option ℕ) (i : ℕ) → i ≢ recorder → held_at (slice_set recorders recorder o) i ≡ held_at recorders i
  held_still o i differs = get_or-set_other recorders recorder i o None differs

  -- the cartridge that a recorder holds is brought to its cell
  pub beside_given_back : held_at recorders recorder ≡ Some cartridge → IsBeside frames count recency (slice_set recorders recorder None) (with_place cartridge (home_of cartridge) store)
  beside_given_back holds_it = record {
    long = length-set recorders recorder None ∙ is.long;
    order = is.order;
    lies = λ c. elim (eqb_tells c cartridge) [
      | inl t ↦ inl (ap (place_of (with_place cartridge (home_of cartridge) store)) t.1 ∙ place_now (home_of cartridge) ∙ ap home_of (sym t.1))
      | inr t ↦ elim (is.lies c) [
        | inl home ↦ inl (place_still (home_of cartridge) c t.1 ∙ home)
        | inr there ↦
            let elsewhere : there.0 ≢ recorder = λ same. t.1 (some_is c cartridge (sym there.2 ∙ ap (held_at recorders) same ∙ holds_it)) in
            inr (there.0, place_still (home_of cartridge) c t.1 ∙ there.1, held_still None there.0 elsewhere ∙ there.2)
      ]
    ];
    holds = λ i c at. elim (eqb_tells i recorder) [
      | inl t ↦ absurd (none_some c (sym (ap (held_at (slice_set recorders recorder None)) t.1 ∙ held_now None) ∙ at))
      | inr t ↦
          let place : place_of store c ≡ Recorder i = is.holds i c (sym (held_still None i t.1) ∙ at) in
          elim (eqb_tells c cartridge) [
            | inl u ↦ absurd (t.1 (some_is i recorder (ap recorder_of (sym place ∙ ap (place_of store) u.1 ∙ is.holds recorder cartridge holds_it))))
            | inr u ↦ place_still (home_of cartridge) c u.1 ∙ place
          ]
    ];
  }

  -- a cartridge is brought from its cell to a recorder that holds none
  pub beside_fetched : held_at recorders recorder ≡ None → is_in_cell (place_of store cartridge) ≡ true
      → IsBeside frames count recency (slice_set recorders recorder (Some cartridge)) (with_place cartridge (Recorder recorder) store)
  beside_fetched bare cell = record {
    long = length-set recorders recorder (Some cartridge) ∙ is.long;
    order = is.order;
    lies = λ c. elim (eqb_tells c cartridge) [
      | inl t ↦ inr (recorder, ap (place_of (with_place cartridge (Recorder recorder) store)) t.1 ∙ place_now (Recorder recorder), held_now (Some cartridge) ∙ ap Some (sym t.1))
      | inr t ↦ elim (is.lies c) [
        | inl home ↦ inl (place_still (Recorder recorder) c t.1 ∙ home)
        | inr there ↦
            let elsewhere : there.0 ≢ recorder = λ same. none_some c (sym (ap (held_at recorders) same ∙ bare) ∙ there.2) in
            inr (there.0, place_still (Recorder recorder) c t.1 ∙ there.1, held_still (Some cartridge) there.0 elsewhere ∙ there.2)
      ]
    ];
    holds = λ i c at. elim (eqb_tells i recorder) [
      | inl t ↦
          let same : cartridge ≡ c = some_is cartridge c (sym (ap (held_at (slice_set recorders recorder (Some cartridge))) t.1 ∙ held_now (Some cartridge)) ∙ at) in
          ap (place_of (with_place cartridge (Recorder recorder) store)) (sym same) ∙ place_now (Recorder recorder) ∙ ap Recorder (sym t.1)
      | inr t ↦
          let place : place_of store c ≡ Recorder i = is.holds i c (sym (held_still (Some cartridge) i t.1) ∙ at) in
          elim (eqb_tells c cartridge) [
            | inl u ↦ absurd (no_recorder (place_of store cartridge) i (ap (place_of store) (sym u.1) ∙ place) cell)
            | inr u ↦ place_still (Recorder recorder) c u.1 ∙ place
          ]
    ];
  }
