-- The recorders leave a run as it is.
use Rattle.std.proofs.Common.{◌≡◌, inl, inr, ℕ, zero, suc, ◌+◌, ◌/◌, ◌<◌, ◌≤◌, ◌==◌, Bool, true, false, ◌&&◌, ◌||◌, List, [], ◌∷◌, length, slice_index_or, Option, Some, None, is_some, option_map, refl, sym, ◌∙◌, ap, subst, arith, get_or-set_same, get_or-set_other}
use Rattle.std.specs.Prelude.{if◌then◌else◌}
use Rattle.std.proofs.lemmas.Bool.{and_parts, and_from, both_ways, eq-eqb, eqb-true, false≢true}
use Rattle.std.proofs.lemmas.Bool.Decides.{eqb_tells}
use Rattle.volume_table.specs.Row.{RowValue, state_of}
use Rattle.volume_table.specs.Changes.{effect, unstaged_state, map_numbered}
use Rattle.volume_table.specs.Listed.{row_in_list, with_changed}
use Rattle.volume_table.specs.declared.changes.Change.{Change}
use Rattle.volume_table.specs.declared.changes.Change.TheVariants as change
use Rattle.fault_queue.specs.declared.queue.Request.{Request}
use Rattle.fault_queue.specs.declared.queue.RequestState.{RequestState}
use Rattle.fault_queue.specs.Requests.{RequestsData, request_of, in_state}
use Rattle.ckd_plain.specs.declared.host.HostState.{HostState}
use Rattle.core_state.specs.CoreValue.{CoreData}
use Rattle.core_state.specs.Pins.{host_at, state_of_row, state_in, is_ready, is_on, asks_for, owns}
use Rattle.core_state.proofs.RuleWalks.{some_is, none_some}
use Rattle.core_progress.specs.Progress.{NextCalls, OwnersCall, place_asked, asked_by, StillAsk, LeavesRun}
use Rattle.core_progress.specs.WorkLeft.{is_ready_to_write, is_marked, has_request, one_unless, sum_below, hosts_without}
use Rattle.core_progress.proofs.OneRequest.{OnlyOne}

-- ---- sums over the hosts

-- where each host's part is at most what it was
pub no_more : (n : ℕ) (f g : ℕ → ℕ) → ((i : ℕ) → g i ≤ f i) → sum_below n g ≤ sum_below n f
no_more zero f g each = omega arith
no_more (suc n) f g each = let a = no_more n f g each in let b = each n in omega (arith, a, b)

pub flipped : (a b : Bool) → (a ≡ true → b ≡ true) → one_unless b ≤ one_unless a
flipped true true keeps = omega arith
flipped true false keeps = absurd (false≢true (keeps refl))
flipped false true keeps = omega arith
flipped false false keeps = omega arith

pub no_more_without : (old new : ℕ → Bool) → ((h : ℕ) → old h ≡ true → new h ≡ true) → hosts_without new ≤ hosts_without old
no_more_without old new keeps = no_more 8 (λ i. one_unless (old (suc i))) (λ i. one_unless (new (suc i))) λ i. flipped (old (suc i)) (new (suc i)) (keeps (suc i))

-- ---- who asks

asks_the_same : (a b : Option Request) → option_map place_asked a ≡ option_map place_asked b → (is_some a ≡ is_some b) × ((volume : ℕ) → asks_for volume a ≡ asks_for volume b)
asks_the_same None None is = (refl, λ volume. refl)
asks_the_same None (Some r) is = absurd (none_some (r.volume, r.cylinder) is)
asks_the_same (Some q) None is = absurd (none_some (q.volume, q.cylinder) (sym is))
asks_the_same (Some q) (Some r) is =
    let e = some_is (q.volume, q.cylinder) (r.volume, r.cylinder) is in
    (refl, λ volume. ap (λ (p : ℕ × ℕ). p.0 == volume) e)

module _ (core left : CoreData) (asks : StillAsk core left) where
  pub same_asked : (h : ℕ) → (has_request left h ≡ has_request core h) × ((volume : ℕ) → asks_for volume (request_of left.requests h) ≡ asks_for volume (request_of core.requests h))
  same_asked h = asks_the_same (request_of left.requests h) (request_of core.requests h) (asks.asked_ h)

  -- who owns a volume did so
  pub owned_before : (h volume : ℕ) → owns left.hosts left.requests h volume ≡ owns core.hosts core.requests h volume
  owned_before h volume =
      ap (λ (hosts : List HostState). owns hosts left.requests h volume) asks.hosts_
      ∙ ap (λ (b : Bool). is_on volume (host_at core.hosts h).mounted && ((host_at core.hosts h).chain_open || b)) ((same_asked h).1 volume)

  pub owners_stay : (calls : NextCalls) → OwnersCall core calls → OwnersCall left calls
  owners_stay calls call h volume own = call h volume (sym (owned_before h volume) ∙ own)

  -- so the run has no more left
  pub leaves_run : ((h : ℕ) → is_marked core h ≡ true → is_marked left h ≡ true) → LeavesRun core left
  leaves_run keeps = record {
    asks = asks;
    marks_ = keeps;
    owners_ = owners_stay;
    less =
        let a = no_more_without (is_marked core) (is_marked left) keeps in
        let b = no_more_without (has_request core) (has_request left) (λ h has. (same_asked h).0 ∙ has) in
        let c : length left.history ≡ length core.history = ap length asks.history_ in
        omega (arith, a, b, c);
  }

-- ---- marks

-- where a state is 4, it stays so, but for what is excepted
abbrev pub KeepsFours : List (Option RowValue) → List (Option RowValue) → (ℕ → ℕ → Type 0) → Type 0
KeepsFours old new But = (x y : ℕ) → state_in old x y ≡ 4 → (But x y → ⊥) → state_in new x y ≡ 4

abbrev pub Never : ℕ → ℕ → Type 0
Never x y = ⊥

pub ready_parts : (rows : List (Option RowValue)) (q : Request) → is_ready_to_write rows (Some q) ≡ true → (is_ready q.state ≡ true) × (state_in rows q.volume q.cylinder ≡ 4)
ready_parts rows q m = let p = and_parts (is_ready q.state) (state_in rows q.volume q.cylinder == 4) m in (p.0, eqb-true (state_in rows q.volume q.cylinder) 4 p.1)

pub ready_from : (rows : List (Option RowValue)) (q : Request) → is_ready q.state ≡ true → state_in rows q.volume q.cylinder ≡ 4 → is_ready_to_write rows (Some q) ≡ true
ready_from rows q ready four = and_from (is_ready q.state) (state_in rows q.volume q.cylinder == 4) ready (eq-eqb (state_in rows q.volume q.cylinder) 4 four)

-- one request's mark is kept where its cylinder stays changed
pub ready_kept : (old new : List (Option RowValue)) (But : ℕ → ℕ → Type 0) → KeepsFours old new But → (o : Option Request)
    → ((q : Request) → o ≡ Some q → is_ready q.state ≡ true → But q.volume q.cylinder → ⊥) → is_ready_to_write old o ≡ true → is_ready_to_write new o ≡ true
ready_kept old new But rows None none m = absurd (false≢true m)
ready_kept old new But rows (Some q) none m = let p = ready_parts old q m in ready_from new q p.0 (rows q.volume q.cylinder p.1 (none q refl p.0))

pub record Keeps (core left : CoreData) : Type 0 where
  pub asks : StillAsk core left
  pub marks_ : (h : ℕ) → is_marked core h ≡ true → is_marked left h ≡ true

-- the requests as they were
pub requests_stay : (core left : CoreData) (But : ℕ → ℕ → Type 0) → left.history ≡ core.history → left.hosts ≡ core.hosts → left.requests ≡ core.requests → KeepsFours core.rows left.rows But
    → ((j : ℕ) (q : Request) → request_of core.requests j ≡ Some q → is_ready q.state ≡ true → But q.volume q.cylinder → ⊥) → Keeps core left
requests_stay core left But history hosts asked rows none = record {
  asks = record { history_ = history; hosts_ = hosts; asked_ = λ h. ap (λ (r : RequestsData). option_map place_asked (request_of r h)) asked };
  marks_ = λ h m. ap (λ (r : RequestsData). is_ready_to_write left.rows (request_of r h)) asked ∙ ready_kept core.rows left.rows But rows (request_of core.requests h) (none h) m;
}

-- one request, which isn't Ready, is in another state
pub request_goes : (core left : CoreData) (h : ℕ) (r : Request) (state : RequestState) → left.history ≡ core.history → left.hosts ≡ core.hosts
    → request_of core.requests h ≡ Some r → is_ready r.state ≡ false
    → OnlyOne core.requests left.requests h (Some (in_state state r)) → KeepsFours core.rows left.rows Never → Keeps core left
request_goes core left h r state history hosts has unready one rows = record {
  asks = record { history_ = history; hosts_ = hosts; asked_ = asked };
  marks_ = marks;
} where
  asked : (j : ℕ) → asked_by left j ≡ asked_by core j
  asked j = elim (eqb_tells j h) [
    | inl same ↦
        ap (λ (k : ℕ). asked_by left k) same.1
        ∙ ap (option_map place_asked) (one.own)
        ∙ sym (ap (option_map place_asked) has)
        ∙ sym (ap (λ (k : ℕ). asked_by core k) same.1)
    | inr other ↦ ap (option_map place_asked) (one.others j other.1)
  ]

  marks : (j : ℕ) → is_marked core j ≡ true → is_marked left j ≡ true
  marks j m = elim (eqb_tells j h) [
    | inl same ↦ absurd (both_ways (is_ready r.state) unready (ready_parts core.rows r (sym (ap (is_ready_to_write core.rows) (ap (request_of core.requests) same.1 ∙ has)) ∙ m)).0)
    | inr other ↦ ap (is_ready_to_write left.rows) (one.others j other.1) ∙ ready_kept core.rows left.rows Never rows (request_of core.requests j) (λ q is ready never. never) m
  ]

-- ---- rows

pub same_fours : (old new : List (Option RowValue)) → new ≡ old → KeepsFours old new Never
same_fours old new same x y four never = ap (λ (rows : List (Option RowValue)). state_in rows x y) same ∙ four

-- a cylinder whose state isn't 0, or a volume that has a row, is one of the list
pub within_states : (xs : List ℕ) (c : ℕ) → 0 < slice_index_or xs c 0 → c < length xs
within_states [] c lt = absurd (omega (arith, lt))
within_states (x ∷ xs) zero lt = omega arith
within_states (x ∷ xs) (suc c) lt = let l = within_states xs c lt in omega (arith, l)

pub within_rows : {A : Type 0} (xs : List (Option A)) (i : ℕ) (x : A) → slice_index_or xs i None ≡ Some x → i < length xs
within_rows [] i x is = absurd (none_some x is)
within_rows (y ∷ ys) zero x is = omega arith
within_rows (y ∷ ys) (suc i) x is = let below = within_rows ys i x is in omega (arith, below)

module _ (rows : List (Option RowValue)) (volume : ℕ) (row : RowValue) (what : Change) (is : row_in_list rows volume ≡ Some row) where
  pub row_now : row_in_list (with_changed volume what rows) volume ≡ Some (effect what row)
  row_now = get_or-set_same rows volume (option_map (effect what) (row_in_list rows volume)) None (within_rows rows volume row is) ∙ ap (option_map (effect what)) is

  pub rows_else : (x : ℕ) → (x ≡ volume → ⊥) → row_in_list (with_changed volume what rows) x ≡ row_in_list rows x
  rows_else x apart = get_or-set_other rows volume x (option_map (effect what) (row_in_list rows volume)) None apart

  -- a row is changed so that its fours stay but for some
  pub row_fours : (But : ℕ → Type 0) → ((y : ℕ) → state_of row y ≡ 4 → (But y → ⊥) → state_of (effect what row) y ≡ 4)
      → KeepsFours rows (with_changed volume what rows) (λ x y. (x ≡ volume) × But y)
  row_fours But keeps x y four never = elim (eqb_tells x volume) [
    | inr other ↦ ap (λ o. state_of_row o y) (rows_else x other.1) ∙ four
    | inl same ↦
        let old : state_of row y ≡ 4 = sym (ap (λ o. state_of_row o y) is) ∙ subst (λ (k : ℕ). state_in rows k y ≡ 4) same.1 four in
        subst (λ (k : ℕ). state_in (with_changed volume what rows) k y ≡ 4) (sym same.1)
        (ap (λ o. state_of_row o y) row_now ∙ keeps y old (λ but. never (same.1, but)))
  ]

  pub all_fours : ((y : ℕ) → state_of row y ≡ 4 → state_of (effect what row) y ≡ 4) → KeepsFours rows (with_changed volume what rows) Never
  all_fours keeps x y four never = row_fours (λ y. ⊥) (λ z old _. keeps z old) x y four (λ but. but.1)

pub destaged_fours : (row : RowValue) (c y : ℕ) → state_of row y ≡ 4 → (y ≡ c → ⊥) → state_of (effect (change.Destaged c) row) y ≡ 4
destaged_fours row c y four apart = get_or-set_other row.states c y 3 0 apart ∙ four

pub staged_fours : (row : RowValue) (c y : ℕ) → state_of row c < 2 → state_of row y ≡ 4 → state_of (effect (change.Staged c) row) y ≡ 4
staged_fours row c y low four = get_or-set_other row.states c y (state_of row c + 2) 0 (λ e. let at : state_of row c ≡ 4 = subst (λ (k : ℕ). state_of row k ≡ 4) e four in omega (arith, at, low)) ∙ four

freed_one : (page number state : ℕ) → state ≡ 4 → (if number / 8 == page then unstaged_state state else state) ≡ 4
freed_one page number state four = by_test (number / 8 == page) where
  by_test : (b : Bool) → (if b then unstaged_state state else state) ≡ 4
  by_test true = rw four refl
  by_test false = four

pub freed_fours : (row : RowValue) (page y : ℕ) → state_of row y ≡ 4 → state_of (effect (change.Free page) row) y ≡ 4
freed_fours row page y four = along 0 row.states y four where
  along : (number : ℕ) (states : List ℕ) (y : ℕ) → slice_index_or states y 0 ≡ 4 → slice_index_or (map_numbered (λ c state. if c / 8 == page then unstaged_state state else state) number states) y 0 ≡ 4
  along number [] y e = e
  along number (x ∷ xs) zero e = freed_one page number x e
  along number (x ∷ xs) (suc y) e = along (suc number) xs y e

pub changed_fours : (row : RowValue) (c y : ℕ) → c < length row.states → state_of row y ≡ 4 → state_of (effect (change.Changed c) row) y ≡ 4
changed_fours row c y lt four = elim (eqb_tells y c) [
  | inl same ↦ ap (state_of (effect (change.Changed c) row)) same.1 ∙ get_or-set_same row.states c 4 0 lt
  | inr other ↦ get_or-set_other row.states c y 4 0 other.1 ∙ four
]
