-- What may be picked: a request in the queue, a free frame, a candidate.
use Rattle.std.proofs.Common.{◌≡◌, ◌≢◌, inl, inr, ℕ, zero, suc, ◌+◌, ◌/◌, ◌<◌, Bool, true, false, not, ◌&&◌, ◌||◌, ◌==◌, nat_lt, List, [], ◌∷◌, ◌++◌, length, get_or, take, Option, Some, None, refl, sym, ◌∙◌, ap, subst, arith}
use Rattle.std.specs.Prelude.{cond, Contains, slice_get, filter_map, is_some}
use Rattle.std.specs.Option.{option_map}
use Rattle.std.specs.Cmp.{nat_eq_equiv}
use Rattle.std.specs.List.{list_any, cons_option}
use Rattle.std.proofs.lemmas.Bool.{and_from, lt-ltb, or_parts, eq-eqb, eqb-true, cases_lt, false≢true}
use Rattle.std.proofs.lemmas.List.{append-nil, get_or_past, take_more}
use Rattle.std.proofs.lemmas.List.Elements.{All-contains, filter_map-append}
use Rattle.std.proofs.lemmas.List.Folds.{list_any_at}
use Rattle.std.proofs.lemmas.Map.Views.{lookup-from_Contains, Contains-from_lookup}
use Rattle.std.proofs.lemmas.Option.{slice_get_within, get_or_from_slice_get}
use Rattle.mss_base.specs.Firsts.{first_below, where_so, ◌or◌}
use Rattle.mss_base.proofs.FirstFacts.{none_is}
use Rattle.volume_table.specs.Listed.{row_in_list}
use Rattle.shown_volumes.specs.Sound.{frame_in}
use Rattle.ckd_plain.specs.declared.host.HostState.{HostState}
use Rattle.ckd_plain.specs.Plain.{fresh_host}
use Rattle.fault_queue.specs.declared.queue.Request.{Request}
use Rattle.fault_queue.specs.declared.queue.RequestState.TheVariants.{Ready}
use Rattle.fault_queue.specs.Requests.{RequestsData, request_of, IsOnce}
use Rattle.victim_choice.specs.declared.choose.Candidate.{Candidate}
use Rattle.victim_choice.proofs.OrderFacts.{order_there, order_below}
use Rattle.core_state.specs.CoreValue.{CoreValue}
use Rattle.core_state.specs.IsCore.{IsCore}
use Rattle.core_state.specs.Pins.{host_at, owner_at, is_page, asked_page, binds, is_volume_bound, is_ready, is_ready_on, on_page, is_bound, is_moving, is_held, is_free, free_frame, candidate_on, candidate, candidates}
use Rattle.core_state.specs.Tasks.{IsNowhere, IsUnbound}
use Rattle.core_state.proofs.RuleWalks.{some_is, none_some, tested}

-- ---- lists

-- the request at a place of the queue is its host's
pub asked_at : (requests : RequestsData) → IsOnce requests → (place : ℕ) (e : ℕ × Request) → slice_get requests place ≡ Some e → request_of requests e.0 ≡ Some e.1
asked_at requests once place e at =
    lookup-from_Contains nat_eq_equiv e.0 e.1 requests once (place, slice_get_within requests place e at, get_or_from_slice_get requests place e e at)

-- what is found below a number is found at one
pub found_below : {A : Type 0} (n : ℕ) (f : ℕ → Option A) (x : A) → first_below n f ≡ Some x → (i : ℕ) × (i < n) × (f i ≡ Some x)
unfolding first_below
found_below zero f x is = absurd (none_some x is)
found_below {A} (suc n) f x is = by (found_below n f x) (first_below n f) refl is
  where
    by : (first_below n f ≡ Some x → (i : ℕ) × (i < n) × (f i ≡ Some x)) → (o : Option A) → first_below n f ≡ o → (o or f n) ≡ Some x → (i : ℕ) × (i < suc n) × (f i ≡ Some x)
    by more None so here = (n, omega arith, here)
    by more (Some y) so here = let it = more (so ∙ here) in (it.0, omega (arith, it.1), it.2)

-- what stands in a list that a function gave of another
pub given_by : {A B : Type 0} (f : A → Option B) (xs : List A) (place : ℕ) (b : B) → slice_get (filter_map f xs) place ≡ Some b → (i : ℕ) × (a : A) × (slice_get xs i ≡ Some a) × (f a ≡ Some b)
given_by f [] place b is = absurd (none_some b is)
given_by {A} {B} f (x ∷ xs) place b is = by (given_by f xs) (f x) refl place is
  where
    by : ((place : ℕ) (b : B) → slice_get (filter_map f xs) place ≡ Some b → (i : ℕ) × (a : A) × (slice_get xs i ≡ Some a) × (f a ≡ Some b))
        → (o : Option B) → f x ≡ o → (place : ℕ) → slice_get (cons_option o (filter_map f xs)) place ≡ Some b → (i : ℕ) × (a : A) × (slice_get (x ∷ xs) i ≡ Some a) × (f a ≡ Some b)
    by more None none place at = let it = more place b at in (suc it.0, it.1, it.2, it.3)
    by more (Some y) gives zero at = (zero, x, refl, gives ∙ at)
    by more (Some y) gives (suc place) at = let it = more place b at in (suc it.0, it.1, it.2, it.3)

pub none_given : {A B : Type 0} (f : A → Option B) (xs : List A) → ((i : ℕ) (a : A) → slice_get xs i ≡ Some a → f a ≡ None) → filter_map f xs ≡ []
none_given f [] none = refl
none_given f (x ∷ xs) none = ap (λ (o : Option _). cons_option o (filter_map f xs)) (none 0 x refl) ∙ none_given f xs (λ i a at. none (suc i) a at)

pub some_given : {A B : Type 0} (f : A → Option B) (xs : List A) (x : A) → Contains xs x → is_some (f x) ≡ true → nat_lt 0 (length (filter_map f xs)) ≡ true
some_given f [] x there some = absurd (omega (arith, there.1))
some_given {A} {B} f (y ∷ xs) x there some = by (some_given f xs x) (f y) refl there.0 there.1 there.2
  where
    by : (Contains xs x → is_some (f x) ≡ true → nat_lt 0 (length (filter_map f xs)) ≡ true) → (o : Option B) → f y ≡ o
        → (k : ℕ) → k < length (y ∷ xs) → get_or (y ∷ xs) k x ≡ x → nat_lt 0 (length (cons_option o (filter_map f xs))) ≡ true
    by more (Some b) gives k within at = lt-ltb 0 (suc (length (filter_map f xs))) (omega arith)
    by more None gives zero within at = absurd (false≢true (ap (λ (o : Option B). is_some o) (sym gives ∙ ap f at) ∙ some))
    by more None gives (suc k) within at = more (k, omega (arith, within), at) some

-- of one item more
module _ {A B : Type 0} (f : A → Option B) (xs : List A) (i : ℕ) (x : A) (within : i < length xs) (at : x ≡ get_or xs i x) where
  given_more : filter_map f (take (i + 1) xs) ≡ filter_map f (take i xs) ++ cons_option (f x) []
  given_more = ap (filter_map f) (take_more xs i x within ∙ ap (λ (z : A). take i xs ++ z ∷ []) (sym at)) ∙ filter_map-append f (take i xs) (x ∷ [])

  pub given_this : (b : B) → f x ≡ Some b → filter_map f (take (i + 1) xs) ≡ filter_map f (take i xs) ++ b ∷ []
  given_this b is = given_more ∙ ap (λ (o : Option B). filter_map f (take i xs) ++ cons_option o []) is

  pub given_nothing : f x ≡ None → filter_map f (take (i + 1) xs) ≡ filter_map f (take i xs)
  given_nothing is = given_more ∙ ap (λ (o : Option B). filter_map f (take i xs) ++ cons_option o []) is ∙ append-nil (filter_map f (take i xs))

-- ---- a candidate

-- the frame of a page that is neither bound nor moving nor held
pub record IsCandidate {S C : Type 0} (v : CoreValue S C) (frame : ℕ) (c : Candidate) : Type 0 where
  pub unbound : is_bound v frame ≡ false
  pub rests : is_moving v frame ≡ false
  pub unheld : is_held v frame ≡ false
  pub owned : owner_at v.owners frame ≡ Some (c.volume, c.page)
  pub frame_ : c.frame ≡ frame

pub is_candidate : {S C : Type 0} (v : CoreValue S C) (frame : ℕ) (c : Candidate) → candidate v frame ≡ Some c → IsCandidate v frame c
is_candidate {S} {C} v frame c is = by (is_bound v frame || is_moving v frame || is_held v frame) refl (owner_at v.owners frame) refl is
  where
    by : (b : Bool) → (is_bound v frame || is_moving v frame || is_held v frame) ≡ b → (o : Option (ℕ × ℕ)) → owner_at v.owners frame ≡ o
        → cond b None (option_map (candidate_on v frame) o) ≡ Some c → IsCandidate v frame c
    by true test o owned at = absurd (none_some c at)
    by false test None owned at = absurd (none_some c at)
    by false test (Some page) owned at =
        let last = or_parts (is_bound v frame || is_moving v frame) (is_held v frame) test in
        let others = or_parts (is_bound v frame) (is_moving v frame) last.0 in
        let same : candidate_on v frame page ≡ c = some_is (candidate_on v frame page) c at in
        record {
          unbound = others.0;
          rests = others.1;
          unheld = last.1;
          owned = owned ∙ (λ i. Some ((same i).volume, (same i).page));
          frame_ = ap (λ (x : Candidate). x.frame) (sym same);
        }

-- no host has a volume bound that none is found to have
never_bound : (hosts : List HostState) (volume : ℕ) → is_volume_bound hosts volume ≡ false → IsUnbound hosts volume
never_bound hosts volume none h is = elim (cases_lt h (length (fresh_host ∷ hosts))) [
  | inl within ↦
      let test : HostState → Bool = λ host. binds volume host.mounted in
      let so : test (host_at hosts h) ≡ true = ap (binds volume) is ∙ and_from (volume == volume) true (eq-eqb volume volume refl) refl in
      false≢true (sym none ∙ list_any_at test (fresh_host ∷ hosts) h fresh_host within so)
  | inr past ↦
      let fresh : host_at hosts h ≡ fresh_host = get_or_past (fresh_host ∷ hosts) h fresh_host past in
      none_some (volume, true) (sym (ap (λ (x : HostState). x.mounted) fresh) ∙ is)
]

-- nor is a request Ready on a page that none is found to hold
never_held : (requests : RequestsData) (page : ℕ × ℕ) → list_any (λ asked. is_ready_on page asked.1) requests ≡ false
    → (h : ℕ) (r : Request) → request_of requests h ≡ Some r → r.state ≡ Ready → asked_page r ≢ page
never_held requests page none h r asked ready same =
    let test : ℕ × Request → Bool = λ e. is_ready_on page e.1 in
    let there = Contains-from_lookup (λ a b e. eqb-true a b e) h r requests asked in
    let volume_ : ((asked_page r).0 == page.0) ≡ true = eq-eqb (asked_page r).0 page.0 (ap (λ (p : ℕ × ℕ). p.0) same) in
    let page_ : ((asked_page r).1 == page.1) ≡ true = eq-eqb (asked_page r).1 page.1 (ap (λ (p : ℕ × ℕ). p.1) same) in
    let on : is_ready_on page r ≡ true = and_from (is_ready r.state) (is_page (asked_page r) page) (ap is_ready ready) (and_from ((asked_page r).0 == page.0) ((asked_page r).1 == page.1) volume_ page_) in
    let so : test (get_or requests there.0 (h, r)) ≡ true = ap test there.2 ∙ on in
    false≢true (sym none ∙ list_any_at test requests there.0 (h, r) there.1 so)

module _ {S C : Type 0} (v : CoreValue S C) (core : IsCore v) where
  -- the frame of a candidate is there, its page has it, no host has its volume bound, no Ready request is on the page
  module _ (frame : ℕ) (c : Candidate) (is : IsCandidate v frame c) (below : frame < v.config.frames) where
    pub candidate_has : frame_in (row_in_list v.rows) c.volume c.page ≡ Some frame
    candidate_has = (core.owned frame c.volume c.page below).0 is.owned

    pub candidate_unbound : IsUnbound v.hosts c.volume
    candidate_unbound = never_bound v.hosts c.volume (sym (ap (λ (o : Option (ℕ × ℕ)). on_page (λ page. is_volume_bound v.hosts page.0) o) is.owned) ∙ is.unbound)

    pub candidate_unheld : (h : ℕ) (r : Request) → request_of v.requests h ≡ Some r → r.state ≡ Ready → ◌≢◌ {A = Option (ℕ × ℕ)} (Some (c.volume, c.page)) (Some (r.volume, r.cylinder / 8))
    candidate_unheld h r asked ready same =
        never_held v.requests (c.volume, c.page) (sym (ap (λ (o : Option (ℕ × ℕ)). on_page (λ page. list_any (λ e. is_ready_on page e.1) v.requests) o) is.owned) ∙ is.unheld)
        h r asked ready (sym (some_is (c.volume, c.page) (r.volume, r.cylinder / 8) same))

  -- the frame of each candidate
  pub of_candidates : (place : ℕ) (c : Candidate) → slice_get (candidates v) place ≡ Some c → (frame : ℕ) × IsCandidate v frame c × (frame < v.config.frames)
  of_candidates place c at =
      let it = given_by (candidate v) v.recency place c at in
      let there : Contains v.recency it.1 = (it.0, slice_get_within v.recency it.0 it.1 it.2, get_or_from_slice_get v.recency it.0 it.1 it.1 it.2) in
      (it.1, is_candidate v it.1 c it.3, All-contains (λ f. f < v.config.frames) v.recency it.1 (order_below v.config.frames v.recency core.beside.order) there)

  -- some frame is a candidate where one of those that are there passes the test, and else none
  pub some_candidate : (frame : ℕ) → frame < v.config.frames → is_some (candidate v frame) ≡ true → nat_lt 0 (length (candidates v)) ≡ true
  some_candidate frame below some = some_given (candidate v) v.recency frame (order_there v.config.frames v.recency core.beside.order frame below) some

  pub no_candidate : ((frame : ℕ) → frame < v.config.frames → is_some (candidate v frame) ≡ false) → nat_lt 0 (length (candidates v)) ≡ false
  no_candidate none = ap (λ (xs : List Candidate). nat_lt 0 (length xs)) (none_given (candidate v) v.recency each)
    where
      each : (i frame : ℕ) → slice_get v.recency i ≡ Some frame → candidate v frame ≡ None
      each i frame at =
          let there : Contains v.recency frame = (i, slice_get_within v.recency i frame at, get_or_from_slice_get v.recency i frame frame at) in
          none_is (candidate v frame) (none frame (All-contains (λ f. f < v.config.frames) v.recency frame (order_below v.config.frames v.recency core.beside.order) there))

  -- ---- a free frame

  pub of_free : (frame : ℕ) → free_frame v ≡ Some frame → (frame < v.config.frames) × (is_moving v frame ≡ false) × IsNowhere (row_in_list v.rows) frame
  of_free frame is =
      let it = found_below v.config.frames (λ f. where_so (is_free v f) f) frame is in
      let test = tested (is_free v it.0) it.0 frame it.2 in
      let free : is_free v frame ≡ true = subst (λ (f : ℕ). is_free v f ≡ true) test.1 test.0 in
      let below : frame < v.config.frames = subst (λ (f : ℕ). f < v.config.frames) test.1 it.1 in
      let parts = both_not (is_some (owner_at v.owners frame)) (is_moving v frame) free in
      (below, parts.1, λ volume page has. some_not (owner_at v.owners frame) (volume, page) ((core.owned frame volume page below).1 has) parts.0)
    where
      both_not : (a b : Bool) → (not a && not b) ≡ true → (a ≡ false) × (b ≡ false)
      both_not false false e = (refl, refl)
      both_not false true e = absurd (false≢true e)
      both_not true b e = absurd (false≢true e)

      some_not : (o : Option (ℕ × ℕ)) (p : ℕ × ℕ) → o ≡ Some p → is_some o ≡ false → ⊥
      some_not o p some none = false≢true (sym none ∙ ap (λ (x : Option (ℕ × ℕ)). is_some x) some)
