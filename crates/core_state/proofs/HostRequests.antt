-- A host's request is another one, or none, and its state stays.
use Rattle.std.proofs.Common.{◌≡◌, ◌≢◌, ◌⊎◌, inl, inr, ℕ, ◌<◌, Bool, true, ◌&&◌, ◌||◌, List, Option, Some, None, sym, ◌∙◌, ap, subst}
use Rattle.std.specs.Option.{ForSome}
use Rattle.std.proofs.lemmas.Bool.{and_parts, eqb-true, false≢true}
use Rattle.std.proofs.lemmas.Bool.Decides.{eqb_tells}
use Rattle.ckd_plain.specs.declared.host.HostState.{HostState}
use Rattle.volume_table.specs.Row.{state_of}
use Rattle.shown_volumes.specs.Shown.{RowsOf}
use Rattle.fault_queue.specs.declared.queue.Request.{Request}
use Rattle.fault_queue.specs.declared.queue.RequestState.TheVariants.{Queued, Moving}
use Rattle.core_state.specs.declared.task.Task.{Task}
use Rattle.core_state.specs.CoreValue.{CoreValue}
use Rattle.core_state.specs.Pins.{host_at, task_at, is_on, asks_for, owns}
use Rattle.fault_queue.specs.Requests.{request_of, RequestsData, put_request, IsOnce}
use Rattle.core_state.specs.Tasks.{AreTasks, AreWaiting}
use Rattle.core_state.specs.IsCore.{IsCore, IsPlaced}
use Rattle.core_state.specs.Running.{IsNotBusy}
use Rattle.core_state.proofs.CoreWork.{AreAsked}
use Rattle.fault_queue.proofs.RequestFacts.{request_same, request_other, once_put}
use Rattle.core_state.proofs.HostFacts.{IsHost}

pub is_on-some : (volume : ℕ) (m : Option (ℕ × Bool)) → is_on volume m ≡ true → (bind : Bool) × (m ≡ Some (volume, bind))
is_on-some volume None is = absurd (false≢true is)
is_on-some volume (Some m) is = let e = eqb-true m.0 volume is in (m.1, λ i. Some (e i, m.1))

pub waiting_put : (rows : RowsOf) (requests : RequestsData) (h : ℕ) (request : Option Request) → IsOnce requests → AreWaiting rows requests
    → ((q : Request) → request ≡ Some q → q.state ≡ Queued → ForSome (rows q.volume) (λ r. state_of r q.cylinder < 2)) → AreWaiting rows (put_request requests h request)
waiting_put rows requests h request fits are mine k p is queued = elim (eqb_tells k h) [
  | inl e ↦ mine p (sym (ap (request_of (put_request requests h request)) e.1 ∙ request_same requests h request fits) ∙ is) queued
  | inr e ↦ are k p (sym (request_other requests h k request fits e.1) ∙ is) queued
]

module _ (S : Type 0) {C : Type 0} (v : CoreValue S C) (core : IsCore v) (h : ℕ) (low : IsHost h) (request : Option Request) (free : IsNotBusy v h)
    (mounts : (q : Request) → request ≡ Some q → IsPlaced (host_at v.hosts h) q) where
  fits : IsOnce v.requests
  fits = core.requests_

  here : request_of (put_request v.requests h request) h ≡ request
  here = request_same v.requests h request fits

  -- who owns a volume now is the host, or owned it
  owner_was : (k volume : ℕ) → owns v.hosts (put_request v.requests h request) k volume ≡ true → ((k ≡ h) × (is_on volume (host_at v.hosts h).mounted ≡ true)) ⊎ (owns v.hosts v.requests k volume ≡ true)
  owner_was k volume is = elim (eqb_tells k h) [
    | inl e ↦
        let parts = and_parts (is_on volume (host_at v.hosts k).mounted) ((host_at v.hosts k).chain_open || asks_for volume (request_of (put_request v.requests h request) k)) is in
        inl (e.1, ap (λ (x : ℕ). is_on volume (host_at v.hosts x).mounted) (sym e.1) ∙ parts.0)
    | inr e ↦ inr (sym (λ i. is_on volume (host_at v.hosts k).mounted && ((host_at v.hosts k).chain_open || asks_for volume (request_other v.requests h k request core.requests_ e.1 i))) ∙ is)
  ]

  owner_is : (volume : ℕ) → is_on volume (host_at v.hosts h).mounted ≡ true → (other : ℕ) → owns v.hosts v.requests other volume ≡ true → other ≡ h
  owner_is volume on other theirs = let there = is_on-some volume (host_at v.hosts h).mounted on in free volume there.0 there.1 other theirs

  pub asked_own : AreAsked v.hosts (put_request v.requests h request)
  asked_own = record {
    once = once_put v.requests h request core.requests_;
    alone = λ volume k other a b. elim (owner_was k volume a) [
      | inl x ↦ elim (owner_was other volume b) [ inl y ↦ x.0 ∙ sym y.0 | inr y ↦ x.0 ∙ sym (owner_is volume x.1 other y) ]
      | inr x ↦ elim (owner_was other volume b) [ inl y ↦ owner_is volume y.1 k x ∙ sym y.0 | inr y ↦ core.alone volume k other x y ]
    ];
    on_mounted = λ k q is. elim (eqb_tells k h) [
      | inl e ↦ subst (λ (x : ℕ). IsPlaced (host_at v.hosts x) q) (sym e.1) (mounts q (sym (ap (request_of (put_request v.requests h request)) e.1 ∙ here) ∙ is))
      | inr e ↦ core.on_mounted k q (sym (request_other v.requests h k request core.requests_ e.1) ∙ is)
    ];
  }

module _ (frames : ℕ) (rows : RowsOf) (moving : List Bool) (requests : RequestsData) (hosts : List HostState) (tasks : List (Option Task)) (are : AreTasks frames rows moving requests hosts tasks)
    (h : ℕ) (request : Option Request) (also : IsOnce requests)
    (quiet : (q : Request) → request_of requests h ≡ Some q → q.state ≡ Moving → ⊥) (still : (q : Request) → request ≡ Some q → q.state ≡ Moving → ⊥) where
  other_host : (recorder : ℕ) (task : Task) → task_at tasks recorder ≡ Some task → task.host ≢ h
  other_host recorder task at same =
      let is = are.each recorder task at in
      quiet is.request (ap (request_of requests) (sym same) ∙ is.asked) is.is_moving_

  pub tasks_with_request : AreTasks frames rows moving (put_request requests h request) hosts tasks
  tasks_with_request = record {
    each = λ recorder task at.
        let is = are.each recorder task at in
        record {
          low = is.low;
          moves = is.moves;
          request = is.request;
          asked = request_other requests h task.host request also (other_host recorder task at) ∙ is.asked;
          is_moving_ = is.is_moving_;
          waits = is.waits;
          frame_ = is.frame_;
          unbound = is.unbound;
          transfer_ = is.transfer_;
        };
    frames_once = are.frames_once;
    hosts_once = are.hosts_once;
    moved = are.moved;
    awaited = λ other q asked moves. elim (eqb_tells other h) [
      | inl e ↦ absurd (still q (sym (ap (request_of (put_request requests h request)) e.1 ∙ request_same requests h request also) ∙ asked) moves)
      | inr e ↦ are.awaited other q (sym (request_other requests h other request also e.1) ∙ asked) moves
    ];
  }
