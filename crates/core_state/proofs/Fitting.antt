-- Ready requests stay on staged cylinders, and mounted volumes keep their rows.
use Rattle.std.proofs.Common.{◌≡◌, ◌≢◌, ◌⊎◌, inl, inr, ℕ, suc, ◌/◌, ◌≤◌, ◌<◌, Bool, true, ◌||◌, ◌==◌, List, [], ◌∷◌, length, Option, Some, None, refl, sym, ◌∙◌, ap, subst, arith}
use Rattle.std.specs.Prelude.{slice_set, is_some, IsSome}
use Rattle.std.proofs.lemmas.Bool.{cond-true, cond-false}
use Rattle.std.proofs.lemmas.Bool.Decides.{eqb_tells}
use Rattle.ckd_plain.specs.declared.host.HostState.{HostState}
use Rattle.volume_table.specs.Row.{RowValue, state_of}
use Rattle.volume_table.specs.Changes.{with_state, without_frame}
use Rattle.volume_table.proofs.RowFacts.{state-with_state, state-without_frame}
use Rattle.shown_volumes.specs.Shown.{RowsOf}
use Rattle.fault_queue.specs.declared.queue.Request.{Request}
use Rattle.fault_queue.specs.declared.queue.RequestState.TheVariants.{Ready}
use Rattle.fault_queue.specs.Requests.{RequestsData, request_of, put_request, IsOnce}
use Rattle.fault_queue.proofs.RequestFacts.{request_same, request_other}
use Rattle.core_state.specs.declared.task.Task.{Task}
use Rattle.core_state.specs.Pins.{host_at, put_host, is_on}
use Rattle.volume_table.specs.Listed.{row_in_list}
use Rattle.core_state.specs.Tasks.{takes}
use Rattle.core_state.specs.Tasks.{touched_all}
use Rattle.core_state.specs.Fitting.{IsReadyOn, IsFit}
use Rattle.core_state.proofs.HostFacts.{IsHostOf, host_same, host_other}
use Rattle.core_state.proofs.RowEvents.{row_put, row_left}
use Rattle.core_state.proofs.RuleWalks.{some_is}
use Rattle.core_state.proofs.TaskLists.{task_was}
use Rattle.core_state.proofs.HostTasks.{was_touched}

-- a request in the new list is the one that was put, or was there
pub request_was : (requests : RequestsData) (h : ℕ) (o : Option Request) → IsOnce requests → (k : ℕ) (q : Request) → request_of (put_request requests h o) k ≡ Some q → ((k ≡ h) × (o ≡ Some q)) ⊎ (request_of requests k ≡ Some q)
request_was requests h o once k q is = elim (eqb_tells k h) [
  | inl e ↦ inl (e.1, sym (ap (request_of (put_request requests h o)) e.1 ∙ request_same requests h o once) ∙ is)
  | inr e ↦ inr (sym (request_other requests h k o once e.1) ∙ is)
]

-- ---- tasks

pub ready_ended : (rows : RowsOf) (tasks : List (Option Task)) (q : Request) (n : ℕ) → n < length tasks → IsReadyOn rows tasks q → IsReadyOn rows (slice_set tasks n None) q
ready_ended rows tasks q n fits is = record {
  staged = is.staged;
  touched_ = λ m task at victim. elim (task_was tasks n None fits m task at) [
    | inl x ↦ absurd (let e : ◌≡◌ {A = Option Task} None (Some task) = x.1 in cc)
    | inr x ↦ is.touched_ m task x.1 victim
  ];
}

pub ready_put : (rows : RowsOf) (tasks : List (Option Task)) (q : Request) (n : ℕ) (new : Task) → n < length tasks → (new.victim ≡ Some (q.volume, q.cylinder / 8) → new.touched ≡ true)
    → IsReadyOn rows tasks q → IsReadyOn rows (slice_set tasks n (Some new)) q
ready_put rows tasks q n new fits own is = record {
  staged = is.staged;
  touched_ = λ m task at victim. elim (task_was tasks n (Some new) fits m task at) [
    | inl x ↦ let same = some_is new task x.1 in ap (λ (t : Task). t.touched) (sym same) ∙ own (ap (λ (t : Task). t.victim) same ∙ victim)
    | inr x ↦ is.touched_ m task x.1 victim
  ];
}

pub ready_touched : (rows : RowsOf) (tasks : List (Option Task)) (q : Request) (volume page : ℕ) → IsReadyOn rows tasks q → IsReadyOn rows (touched_all volume page tasks) q
ready_touched rows tasks q volume page is = record {
  staged = is.staged;
  touched_ = λ m task at victim.
      let w = was_touched volume page tasks m task at in
      ap (λ (t : Task). t.touched) w.is ∙ ap (λ (b : Bool). b || takes volume page w.task.victim) (is.touched_ m w.task w.at (ap (λ (t : Task). t.victim) (sym w.is) ∙ victim));
}

pub length_touched : (volume page : ℕ) (tasks : List (Option Task)) → length (touched_all volume page tasks) ≡ length tasks
length_touched volume page [] = refl
length_touched volume page (o ∷ tasks) = ap suc (length_touched volume page tasks)

-- ---- rows

module _ (rows : List (Option RowValue)) (w : ℕ) (r now : RowValue) (there : row_in_list rows w ≡ Some r) (fits : w < length rows) where
  pub row_still : (volume : ℕ) → IsSome (row_in_list rows volume) → IsSome (row_in_list (slice_set rows w (Some now)) volume)
  row_still volume is = elim (eqb_tells volume w) [
    | inl e ↦ ap is_some (ap (row_in_list (slice_set rows w (Some now))) e.1 ∙ row_put rows w now fits)
    | inr e ↦ ap is_some (row_left rows w now volume e.1) ∙ is
  ]

  pub ready_row : (tasks : List (Option Task)) (q : Request) → (q.volume ≡ w → 2 ≤ state_of r q.cylinder → 2 ≤ state_of now q.cylinder) → IsReadyOn (row_in_list rows) tasks q → IsReadyOn (row_in_list (slice_set rows w (Some now))) tasks q
  ready_row tasks q keeps is = record {
    staged = λ k at. elim (eqb_tells q.volume w) [
      | inl e ↦
          let o : Some now ≡ Some k = sym (ap (row_in_list (slice_set rows w (Some now))) e.1 ∙ row_put rows w now fits) ∙ at in
          subst (λ (z : RowValue). 2 ≤ state_of z q.cylinder) (some_is now k o) (keeps e.1 (is.staged r (ap (row_in_list rows) e.1 ∙ there)))
      | inr e ↦ is.staged k (sym (row_left rows w now q.volume e.1) ∙ at)
    ];
    touched_ = is.touched_;
  }

pub staged_still : (y n : ℕ) (r : RowValue) (z : ℕ) → y < length r.states → 2 ≤ n → 2 ≤ state_of r z → 2 ≤ state_of (with_state y n r) z
staged_still y n r z fits two is = elim (eqb_tells z y) [
  | inl e ↦ let a = state-with_state y n r z fits ∙ cond-true (z == y) n (state_of r z) e.0 in omega (arith, a, two)
  | inr e ↦ let a = state-with_state y n r z fits ∙ cond-false (z == y) n (state_of r z) e.0 in omega (arith, a, is)
]

pub staged_left : (page : ℕ) (r : RowValue) (z : ℕ) → z / 8 ≢ page → 2 ≤ state_of r z → 2 ≤ state_of (without_frame page r) z
staged_left page r z other is = elim (eqb_tells (z / 8) page) [
  | inl e ↦ absurd (other e.1)
  | inr e ↦ let a = state-without_frame page r z ∙ cond-false _ _ _ e.0 in omega (arith, a, is)
]

-- ---- all of it

-- where one host's request is put, or none of them
module _ (recorders : ℕ) (rows now : List (Option RowValue)) (requests : RequestsData) (hosts : List HostState) (tasks then_ : List (Option Task)) (fit : IsFit recorders rows requests hosts tasks)
    (long : length then_ ≡ length tasks) (still : (volume : ℕ) → IsSome (row_in_list rows volume) → IsSome (row_in_list now volume))
    (others : (k : ℕ) (q : Request) → request_of requests k ≡ Some q → q.state ≡ Ready → IsReadyOn (row_in_list rows) tasks q → IsReadyOn (row_in_list now) then_ q) where
  pub fit_same : IsFit recorders now requests hosts then_
  fit_same = record {
    long = long ∙ fit.long;
    mounted_ = λ h volume on. still volume (fit.mounted_ h volume on);
    ready = λ h q asked is. others h q asked is (fit.ready h q asked is);
  }

  pub fit_put : (h : ℕ) (o : Option Request) → IsOnce requests → ((q : Request) → o ≡ Some q → q.state ≡ Ready → IsReadyOn (row_in_list now) then_ q) → IsFit recorders now (put_request requests h o) hosts then_
  fit_put h o once own = record {
    long = long ∙ fit.long;
    mounted_ = λ k volume on. still volume (fit.mounted_ k volume on);
    ready = λ k q asked is. elim (request_was requests h o once k q asked) [
      | inl x ↦ own q x.1 is
      | inr x ↦ others k q x is (fit.ready k q x is)
    ];
  }

-- where a host is replied, and its request ends
pub fit_replied : (recorders : ℕ) (rows : List (Option RowValue)) (requests : RequestsData) (hosts : List HostState) (tasks then_ : List (Option Task)) → IsFit recorders rows requests hosts tasks
    → length then_ ≡ length tasks → ((q : Request) → IsReadyOn (row_in_list rows) tasks q → IsReadyOn (row_in_list rows) then_ q)
    → (h : ℕ) (host : HostState) (o : Option Request) → IsHostOf hosts h → IsOnce requests → ((volume : ℕ) → is_on volume host.mounted ≡ true → IsSome (row_in_list rows volume)) → ((q : Request) → o ≡ Some q → q.state ≡ Ready → ⊥)
    → IsFit recorders rows (put_request requests h o) (put_host hosts h host) then_
fit_replied recorders rows requests hosts tasks then_ fit long others h host o fits once has unready = record {
  long = long ∙ fit.long;
  mounted_ = λ k volume on. elim (eqb_tells k h) [
    | inl e ↦ has volume (ap (λ (x : HostState). is_on volume x.mounted) (sym (ap (host_at (put_host hosts h host)) e.1 ∙ host_same hosts h host fits)) ∙ on)
    | inr e ↦ fit.mounted_ k volume (ap (λ (x : HostState). is_on volume x.mounted) (sym (host_other hosts h k host fits e.1)) ∙ on)
  ];
  ready = λ k q asked is. elim (request_was requests h o once k q asked) [
    | inl x ↦ absurd (unready q x.1 is)
    | inr x ↦ others q (fit.ready k q x is)
  ];
}
