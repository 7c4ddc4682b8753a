-- Tasks stay whole when one recorder's task changes, ends or begins.
use Rattle.std.proofs.Common.{◌≡◌, ◌≢◌, ◌⊎◌, inl, inr, ℕ, ◌<◌, Bool, true, false, List, length, Option, Some, None, sym, ◌∙◌, ap, subst, arith, get_or-set_same, get_or-set_other}
use Rattle.std.specs.Prelude.{slice_set}
use Rattle.std.proofs.lemmas.Bool.{false≢true, cases_lt}
use Rattle.std.proofs.lemmas.List.{get_or_past, length-set}
use Rattle.std.proofs.lemmas.Bool.Decides.{eqb_tells}
use Rattle.ckd_plain.specs.declared.host.HostState.{HostState}
use Rattle.shown_volumes.specs.Shown.{RowsOf}
use Rattle.fault_queue.specs.declared.queue.Request.{Request}
use Rattle.fault_queue.specs.declared.queue.RequestState.TheVariants.{Moving}
use Rattle.core_state.specs.declared.task.Task.{Task}
use Rattle.fault_queue.specs.Requests.{request_of, RequestsData, put_request, IsOnce}
use Rattle.core_state.specs.Pins.{task_at, moves_at}
use Rattle.core_state.specs.Tasks.{IsTask, AreTasks, HasOne}
use Rattle.core_state.proofs.RuleWalks.{some_is}
use Rattle.fault_queue.proofs.RequestFacts.{request_same, request_other}

-- the tasks with another one of a recorder, or none
pub task_put : (tasks : List (Option Task)) (n : ℕ) (o : Option Task) → n < length tasks → task_at (slice_set tasks n o) n ≡ o
task_put tasks n o fits = get_or-set_same tasks n o None fits

pub task_left : (tasks : List (Option Task)) (n : ℕ) (o : Option Task) (m : ℕ) → m ≢ n → task_at (slice_set tasks n o) m ≡ task_at tasks m
task_left tasks n o m other = get_or-set_other tasks n m o None other

-- a task that is there is within the list
pub task_fits : (tasks : List (Option Task)) (n : ℕ) (task : Task) → task_at tasks n ≡ Some task → n < length tasks
task_fits tasks n task at = elim (cases_lt n (length tasks)) [
  | inl lt ↦ lt
  | inr past ↦ let e : None ≡ Some task = sym (get_or_past tasks n None past) ∙ at in absurd cc
]

-- a task of the new list is the new one, or was there
pub task_was : (tasks : List (Option Task)) (n : ℕ) (o : Option Task) → n < length tasks → (m : ℕ) (task : Task) → task_at (slice_set tasks n o) m ≡ Some task
    → ((m ≡ n) × (o ≡ Some task)) ⊎ ((m ≢ n) × (task_at tasks m ≡ Some task))
task_was tasks n o fits m task at = elim (eqb_tells m n) [
  | inl e ↦ inl (e.1, sym (ap (task_at (slice_set tasks n o)) e.1 ∙ task_put tasks n o fits) ∙ at)
  | inr e ↦ inr (e.1, sym (task_left tasks n o m e.1) ∙ at)
]

-- ---- a task that goes on with its frame and its host

module _ (frames : ℕ) (rows now : RowsOf) (moving : List Bool) (requests : RequestsData) (hosts : List HostState) (tasks : List (Option Task)) (are : AreTasks frames rows moving requests hosts tasks)
    (n : ℕ) (old new : Task) (at : task_at tasks n ≡ Some old) (same_frame : new.frame ≡ old.frame) (same_host : new.host ≡ old.host)
    (mine : IsTask frames now moving requests hosts new)
    (others : (m : ℕ) (task : Task) → m ≢ n → task_at tasks m ≡ Some task → IsTask frames now moving requests hosts task) where
  fits : n < length tasks
  fits = task_fits tasks n old at

  new_at : task_at (slice_set tasks n (Some new)) n ≡ Some new
  new_at = task_put tasks n (Some new) fits

  once : (part : Task → ℕ) → part new ≡ part old → ((a b : ℕ) (p q : Task) → task_at tasks a ≡ Some p → task_at tasks b ≡ Some q → part p ≡ part q → a ≡ b)
      → (a b : ℕ) (p q : Task) → task_at (slice_set tasks n (Some new)) a ≡ Some p → task_at (slice_set tasks n (Some new)) b ≡ Some q → part p ≡ part q → a ≡ b
  once part same only a b p q ap_ bq e = elim (task_was tasks n (Some new) fits a p ap_) [
    | inl x ↦
        let p_is : new ≡ p = some_is new p x.1 in
        elim (task_was tasks n (Some new) fits b q bq) [
          | inl y ↦ x.0 ∙ sym y.0
          | inr y ↦ absurd (y.0 (sym (only n b old q at y.1 (sym same ∙ ap part p_is ∙ e))))
        ]
    | inr x ↦ elim (task_was tasks n (Some new) fits b q bq) [
      | inl y ↦
          let q_is : new ≡ q = some_is new q y.1 in
          absurd (x.0 (only a n p old x.1 at (e ∙ ap part (sym q_is) ∙ same)))
      | inr y ↦ only a b p q x.1 y.1 e
    ]
  ]

  has : (part : Task → ℕ) → part new ≡ part old → (k : ℕ) → HasOne tasks part k → HasOne (slice_set tasks n (Some new)) part k
  has part same k one = elim (eqb_tells one.0 n) [
    | inl e ↦
        let old_is : one.1 ≡ old = some_is one.1 old (sym one.2 ∙ ap (task_at tasks) e.1 ∙ at) in
        (n, new, new_at, same ∙ ap part (sym old_is) ∙ one.3)
    | inr e ↦ (one.0, one.1, task_left tasks n (Some new) one.0 e.1 ∙ one.2, one.3)
  ]

  pub tasks_go_on : AreTasks frames now moving requests hosts (slice_set tasks n (Some new))
  tasks_go_on = record {
    each = λ m task is. elim (task_was tasks n (Some new) fits m task is) [
      | inl x ↦ subst (IsTask frames now moving requests hosts) (some_is new task x.1) mine
      | inr x ↦ others m task x.0 x.1
    ];
    frames_once = once (λ t. t.frame) same_frame are.frames_once;
    hosts_once = once (λ t. t.host) same_host are.hosts_once;
    moved = λ frame moves. has (λ t. t.frame) same_frame frame (are.moved frame moves);
    awaited = λ h q asked moves. has (λ t. t.host) same_host h (are.awaited h q asked moves);
  }

-- ---- a task that ends: its frame moves no longer, and its host's request has another state

module _ (frames : ℕ) (rows now : RowsOf) (moving : List Bool) (requests : RequestsData) (hosts : List HostState) (tasks : List (Option Task)) (are : AreTasks frames rows moving requests hosts tasks)
    (n : ℕ) (old : Task) (at : task_at tasks n ≡ Some old) (request : Request) (ended : request.state ≡ Moving → ⊥) (within : IsOnce requests)
    (others : (m : ℕ) (task : Task) → m ≢ n → task_at tasks m ≡ Some task → IsTask frames now (slice_set moving old.frame false) (put_request requests old.host (Some request)) hosts task) where
  fits_ : n < length tasks
  fits_ = task_fits tasks n old at

  none_new : (task : Task) → ◌≡◌ {A = Option Task} None (Some task) → ⊥
  none_new task e = cc

  left : (part : Task → ℕ) (k : ℕ) → (part old ≡ k → ⊥) → HasOne tasks part k → HasOne (slice_set tasks n None) part k
  left part k differs one = elim (eqb_tells one.0 n) [
    | inl e ↦
        let old_is : one.1 ≡ old = some_is one.1 old (sym one.2 ∙ ap (task_at tasks) e.1 ∙ at) in
        absurd (differs (ap part (sym old_is) ∙ one.3))
    | inr e ↦ (one.0, one.1, task_left tasks n None one.0 e.1 ∙ one.2, one.3)
  ]

  only_left : (part : Task → ℕ) → ((a b : ℕ) (p q : Task) → task_at tasks a ≡ Some p → task_at tasks b ≡ Some q → part p ≡ part q → a ≡ b)
      → (a b : ℕ) (p q : Task) → task_at (slice_set tasks n None) a ≡ Some p → task_at (slice_set tasks n None) b ≡ Some q → part p ≡ part q → a ≡ b
  only_left part only a b p q ap_ bq e = elim (task_was tasks n None fits_ a p ap_) [
    | inl x ↦ absurd (none_new p x.1)
    | inr x ↦ elim (task_was tasks n None fits_ b q bq) [ inl y ↦ absurd (none_new q y.1) | inr y ↦ only a b p q x.1 y.1 e ]
  ]

  still_moves : (frame : ℕ) → moves_at (slice_set moving old.frame false) frame ≡ true → (old.frame ≢ frame) × (moves_at moving frame ≡ true)
  still_moves frame moves = elim (eqb_tells frame old.frame) [
    | inl e ↦ absurd (elim (cases_lt old.frame (length moving)) [
      | inl lt ↦ false≢true (sym (ap (moves_at (slice_set moving old.frame false)) e.1 ∙ get_or-set_same moving old.frame false false lt) ∙ moves)
      | inr past ↦ false≢true (sym (get_or_past (slice_set moving old.frame false) frame false (let l = length-set moving old.frame false in let same = e.1 in omega (arith, l, same))) ∙ moves)
    ])
    | inr e ↦ ((λ same. e.1 (sym same)), sym (get_or-set_other moving old.frame frame false false e.1) ∙ moves)
  ]

  pub tasks_ended : AreTasks frames now (slice_set moving old.frame false) (put_request requests old.host (Some request)) hosts (slice_set tasks n None)
  tasks_ended = record {
    each = λ m task is. elim (task_was tasks n None fits_ m task is) [ inl x ↦ absurd (none_new task x.1) | inr x ↦ others m task x.0 x.1 ];
    frames_once = only_left (λ t. t.frame) are.frames_once;
    hosts_once = only_left (λ t. t.host) are.hosts_once;
    moved = λ frame moves. let m = still_moves frame moves in left (λ t. t.frame) frame m.0 (are.moved frame m.1);
    awaited = λ h q asked moves. elim (eqb_tells h old.host) [
      | inl e ↦ absurd (ended (ap (λ (x : Request). x.state) (some_is request q (sym (ap (request_of (put_request requests old.host (Some request))) e.1 ∙ request_same requests old.host (Some request) within) ∙ asked)) ∙ moves))
      | inr e ↦ left (λ t. t.host) h (λ same. e.1 (sym same)) (are.awaited h q (sym (request_other requests old.host h (Some request) within e.1) ∙ asked) moves)
    ];
  }

-- ---- a task that begins: its frame moves, and its host's request is moving

module _ (frames : ℕ) (rows : RowsOf) (moving : List Bool) (requests : RequestsData) (hosts : List HostState) (tasks : List (Option Task)) (are : AreTasks frames rows moving requests hosts tasks)
    (n : ℕ) (fits : n < length tasks) (idle : task_at tasks n ≡ None) (new : Task) (rests : moves_at moving new.frame ≡ false) (known : new.frame < length moving)
    (request : Request) (waiting : request_of requests new.host ≡ Some request) (not_yet : request.state ≡ Moving → ⊥) (within : IsOnce requests)
    (mine : IsTask frames rows (slice_set moving new.frame true) (put_request requests new.host (Some (record request { state = Moving }))) hosts new) where
  abbrev set_moving : List Bool
  set_moving = slice_set moving new.frame true

  abbrev set_requests : RequestsData
  set_requests = put_request requests new.host (Some (record request { state = Moving }))

  other_frame : (m : ℕ) (task : Task) → task_at tasks m ≡ Some task → task.frame ≢ new.frame
  other_frame m task at same = false≢true (sym rests ∙ ap (moves_at moving) (sym same) ∙ (are.each m task at).moves)

  other_host : (m : ℕ) (task : Task) → task_at tasks m ≡ Some task → task.host ≢ new.host
  other_host m task at same =
      let is = are.each m task at in
      not_yet (ap (λ (x : Request). x.state) (some_is request is.request (sym waiting ∙ ap (request_of requests) (sym same) ∙ is.asked)) ∙ is.is_moving_)

  kept : (m : ℕ) (task : Task) → task_at tasks m ≡ Some task → IsTask frames rows set_moving set_requests hosts task
  kept m task at =
      let is = are.each m task at in
      record {
        low = is.low;
        moves = get_or-set_other moving new.frame task.frame true false (other_frame m task at) ∙ is.moves;
        request = is.request;
        asked = request_other requests new.host task.host (Some (record request { state = Moving })) within (other_host m task at) ∙ is.asked;
        is_moving_ = is.is_moving_;
        waits = is.waits;
        frame_ = is.frame_;
        unbound = is.unbound;
        transfer_ = is.transfer_;
      }

  only_more : (part : Task → ℕ) → ((m : ℕ) (task : Task) → task_at tasks m ≡ Some task → part task ≢ part new) → ((a b : ℕ) (p q : Task) → task_at tasks a ≡ Some p → task_at tasks b ≡ Some q → part p ≡ part q → a ≡ b)
      → (a b : ℕ) (p q : Task) → task_at (slice_set tasks n (Some new)) a ≡ Some p → task_at (slice_set tasks n (Some new)) b ≡ Some q → part p ≡ part q → a ≡ b
  only_more part differs only a b p q ap_ bq e = elim (task_was tasks n (Some new) fits a p ap_) [
    | inl x ↦ elim (task_was tasks n (Some new) fits b q bq) [
      | inl y ↦ x.0 ∙ sym y.0
      | inr y ↦ absurd (differs b q y.1 (sym e ∙ ap part (sym (some_is new p x.1))))
    ]
    | inr x ↦ elim (task_was tasks n (Some new) fits b q bq) [
      | inl y ↦ absurd (differs a p x.1 (e ∙ ap part (sym (some_is new q y.1))))
      | inr y ↦ only a b p q x.1 y.1 e
    ]
  ]

  more : (part : Task → ℕ) (k : ℕ) → HasOne tasks part k → HasOne (slice_set tasks n (Some new)) part k
  more part k one = elim (eqb_tells one.0 n) [
    | inl e ↦ let none : ◌≡◌ {A = Option Task} None (Some one.1) = sym idle ∙ ap (task_at tasks) (sym e.1) ∙ one.2 in absurd cc
    | inr e ↦ (one.0, one.1, task_left tasks n (Some new) one.0 e.1 ∙ one.2, one.3)
  ]

  pub tasks_begun : AreTasks frames rows (slice_set moving new.frame true) (put_request requests new.host (Some (record request { state = Moving }))) hosts (slice_set tasks n (Some new))
  tasks_begun = record {
    each = λ m task is. elim (task_was tasks n (Some new) fits m task is) [
      | inl x ↦ subst (IsTask frames rows set_moving set_requests hosts) (some_is new task x.1) mine
      | inr x ↦ kept m task x.1
    ];
    frames_once = only_more (λ t. t.frame) other_frame are.frames_once;
    hosts_once = only_more (λ t. t.host) other_host are.hosts_once;
    moved = λ frame moves. elim (eqb_tells frame new.frame) [
      | inl e ↦ (n, new, task_put tasks n (Some new) fits, sym e.1)
      | inr e ↦ more (λ t. t.frame) frame (are.moved frame (sym (get_or-set_other moving new.frame frame true false e.1) ∙ moves))
    ];
    awaited = λ h q asked moves. elim (eqb_tells h new.host) [
      | inl e ↦ (n, new, task_put tasks n (Some new) fits, sym e.1)
      | inr e ↦ more (λ t. t.host) h (are.awaited h q (sym (request_other requests new.host h (Some (record request { state = Moving })) within e.1) ∙ asked) moves)
    ];
  }
