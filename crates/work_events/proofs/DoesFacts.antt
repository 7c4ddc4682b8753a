-- What an event does, from the core that it leaves.
use Rattle.std.proofs.Common.{◌≡◌, inl, inr, ℕ, [], ◌∷◌, ◌++◌, List, Option, Some, None, true, false, refl, sym, ap, subst}
use Rattle.std.specs.Prelude.{slice_get, slice_set}
use Rattle.mss_base.specs.Content.{SiteLog}
use Rattle.mss_base.specs.declared.site.Site.{Ghosts}
use Rattle.accessors.specs.Moves.{moved_from_to}
use Rattle.accessors.specs.Rails.{cell_place, recorder_place}
use Rattle.cartridge_store.specs.declared.store.Place.TheVariants.{Recorder}
use Rattle.cartridge_store.specs.Places.{home_of, with_place}
use Rattle.fault_queue.specs.declared.queue.RequestState.TheVariants.{Failed, Moving, Queued}
use Rattle.fault_queue.specs.Requests.{with_state}
use Rattle.transfers.specs.Copies.{moved_on}
use Rattle.transfers.specs.declared.transfer.Transfer.{Transfer}
use Rattle.victim_choice.specs.declared.choose.Candidate.{Candidate}
use Rattle.core_state.specs.declared.task.Task.{Task}
use Rattle.core_state.specs.declared.session.Event.TheVariants.{Work}
use Rattle.core_state.specs.declared.rule.WorkAnswer.{WorkAnswer}
use Rattle.core_state.specs.declared.rule.WorkAnswer.TheVariants.{Did}
use Rattle.core_state.specs.declared.rule.WorkKind.TheVariants as kind
use Rattle.core_state.specs.declared.rule.WorkRule.TheVariants.{Abandons, Copies, Fetches, GivesBack, Picks, PicksVictim}
use Rattle.core_state.specs.CoreValue.{CoreValue, seen_core, seen_site}
use Rattle.core_state.specs.Devices.{CopyBlock, LeaveBlock, StillHold}
use Rattle.core_state.specs.Pins.{candidates, task_at}
use Rattle.core_state.specs.WorkEvents.{WithTask, TaskDoes, WorkDoes}
use Rattle.work_events.proofs.RuleFacts.{task_for}

-- a copy that failed
pub uncopied_does : {S C : Type 0} (g : Ghosts S) (may : List Candidate → ℕ → Type 0) (v w : CoreValue S C) (n : ℕ) (old : Task) (t : Transfer) (answer : WorkAnswer)
    → answer ≡ Did kind.Copy → task_at v.tasks n ≡ Some old → LeaveBlock g.tells t (seen_core g v).site (seen_core g w).site
    → w ≡ record v {
      site = w.site;
      moving = slice_set v.moving old.frame false;
      requests = with_state old.host (Failed (g.faults w.site)) v.requests;
      tasks = slice_set v.tasks n None;
      events = v.events ++ Work n ∷ [];
    }
    → WorkDoes g.tells may (seen_core g v) n (Copies t) answer (seen_core g w)
uncopied_does {S} {C} g may v w n old t answer is at leaves path =
    subst (λ (a : WorkAnswer). WorkDoes g.tells may (seen_core g v) n (Copies t) a (seen_core g w)) (sym is)
    (subst (λ (o : Option Task). WithTask o (λ task. TaskDoes g.tells (seen_core g v) n (Copies t) task (Did kind.Copy) (seen_core g w))) (sym at)
    (refl, inr (leaves, ap (λ (z : CoreValue S C). seen_core g z) path)))

-- ---- a copy that is done

abbrev pub copied : {S C : Type 0} → CoreValue S C → ℕ → Task → Transfer → S → CoreValue S C
copied v n old t x = record v {
  site = x;
  tasks = slice_set v.tasks n (Some (record old { transfer = Some (moved_on t) }));
  events = v.events ++ Work n ∷ [];
}

pub copied_does : {S C : Type 0} (g : Ghosts S) (may : List Candidate → ℕ → Type 0) (v w : CoreValue S C) (n : ℕ) (old : Task) (t : Transfer) (x : S) (answer : WorkAnswer)
    → answer ≡ Did kind.Copy → task_at v.tasks n ≡ Some old → CopyBlock g.tells t (seen_site g v.site) (seen_site g x) → w ≡ copied v n old t x
    → WorkDoes g.tells may (seen_core g v) n (Copies t) answer (seen_core g w)
copied_does {S} {C} g may v w n old t x answer is at leaves path =
    subst (λ (a : WorkAnswer). WorkDoes g.tells may (seen_core g v) n (Copies t) a (seen_core g w)) (sym is)
    (subst (λ (z : CoreValue S C). WorkDoes g.tells may (seen_core g v) n (Copies t) (Did kind.Copy) (seen_core g z)) (sym path)
    (subst (λ (o : Option Task). WithTask o (λ task. TaskDoes g.tells (seen_core g v) n (Copies t) task (Did kind.Copy) (seen_core g (copied v n old t x)))) (sym at)
    (refl, inl (leaves, refl))))

-- ---- an event that writes nothing

still : {S C : Type 0} (g : Ghosts S) (v w : CoreValue S C) → w.site ≡ v.site → StillHold g.tells (seen_site g v.site) (seen_site g w.site)
still g v w same = record { told = λ tl. ap g.told same; unwritten = ap g.writes same; sound = ap g.faults same }

-- a cartridge is brought to its cell
pub gives_back_does : {S C : Type 0} (g : Ghosts S) (may : List Candidate → ℕ → Type 0) (v w : CoreValue S C) (n cartridge : ℕ) (answer : WorkAnswer) → answer ≡ Did kind.GiveBack → w.site ≡ v.site
    → w ≡ record v {
      site = w.site;
      recorders = slice_set v.recorders n None;
      store = with_place cartridge (home_of cartridge) v.store;
      rail = moved_from_to (recorder_place n) (cell_place cartridge) v.rail;
      events = v.events ++ Work n ∷ [];
    }
    → WorkDoes g.tells may (seen_core g v) n (GivesBack cartridge) answer (seen_core g w)
gives_back_does {S} {C} g may v w n cartridge answer is same path =
    subst (λ (a : WorkAnswer). WorkDoes g.tells may (seen_core g v) n (GivesBack cartridge) a (seen_core g w)) (sym is) (still g v w same, refl, ap (λ (z : CoreValue S C). seen_core g z) path)

-- a recorder gets one
pub fetches_does : {S C : Type 0} (g : Ghosts S) (may : List Candidate → ℕ → Type 0) (v w : CoreValue S C) (n cartridge : ℕ) (answer : WorkAnswer) → answer ≡ Did kind.Fetch → w.site ≡ v.site
    → w ≡ record v {
      site = w.site;
      recorders = slice_set v.recorders n (Some cartridge);
      store = with_place cartridge (Recorder n) v.store;
      rail = moved_from_to (cell_place cartridge) (recorder_place n) v.rail;
      events = v.events ++ Work n ∷ [];
    }
    → WorkDoes g.tells may (seen_core g v) n (Fetches cartridge) answer (seen_core g w)
fetches_does {S} {C} g may v w n cartridge answer is same path =
    subst (λ (a : WorkAnswer). WorkDoes g.tells may (seen_core g v) n (Fetches cartridge) a (seen_core g w)) (sym is) (still g v w same, refl, ap (λ (z : CoreValue S C). seen_core g z) path)

-- the core of which a recorder took a host's request
abbrev pub taken : {S C : Type 0} → CoreValue S C → S → ℕ → ℕ → ℕ → Option (ℕ × ℕ) → CoreValue S C
taken v x n h frame victim = record v {
  site = x;
  moving = slice_set v.moving frame true;
  requests = with_state h Moving v.requests;
  tasks = slice_set v.tasks n (Some (task_for h frame victim));
  events = v.events ++ Work n ∷ [];
}

pub picks_does : {S C : Type 0} (g : Ghosts S) (may : List Candidate → ℕ → Type 0) (v w : CoreValue S C) (n h frame : ℕ) (answer : WorkAnswer) → answer ≡ Did kind.Pick → w.site ≡ v.site
    → w ≡ taken v w.site n h frame None → WorkDoes g.tells may (seen_core g v) n (Picks h frame) answer (seen_core g w)
picks_does {S} {C} g may v w n h frame answer is same path =
    subst (λ (a : WorkAnswer). WorkDoes g.tells may (seen_core g v) n (Picks h frame) a (seen_core g w)) (sym is) (still g v w same, refl, ap (λ (z : CoreValue S C). seen_core g z) path)

pub picks_victim_does : {S C : Type 0} (g : Ghosts S) (may : List Candidate → ℕ → Type 0) (v w : CoreValue S C) (n h place : ℕ) (c : Candidate) (answer : WorkAnswer)
    → may (candidates v) place → slice_get (candidates v) place ≡ Some c → answer ≡ Did kind.Pick → w.site ≡ v.site
    → w ≡ taken v w.site n h c.frame (Some (c.volume, c.page)) → WorkDoes g.tells may (seen_core g v) n (PicksVictim h) answer (seen_core g w)
picks_victim_does {S} {C} g may v w n h place c answer may_ at is same path =
    subst (λ (a : WorkAnswer). WorkDoes g.tells may (seen_core g v) n (PicksVictim h) a (seen_core g w)) (sym is) (place, c, may_, at, (still g v w same, refl, ap (λ (z : CoreValue S C). seen_core g z) path))

-- a task is given up, and its request waits again
pub abandons_does : {S C : Type 0} (g : Ghosts S) (may : List Candidate → ℕ → Type 0) (v w : CoreValue S C) (n : ℕ) (old : Task) (answer : WorkAnswer) → answer ≡ Did kind.Abandon → task_at v.tasks n ≡ Some old
    → w.site ≡ v.site
    → w ≡ record v {
      site = w.site;
      moving = slice_set v.moving old.frame false;
      requests = with_state old.host Queued v.requests;
      tasks = slice_set v.tasks n None;
      events = v.events ++ Work n ∷ [];
    }
    → WorkDoes g.tells may (seen_core g v) n Abandons answer (seen_core g w)
abandons_does {S} {C} g may v w n old answer is at same path =
    subst (λ (a : WorkAnswer). WorkDoes g.tells may (seen_core g v) n Abandons a (seen_core g w)) (sym is)
    (subst (λ (o : Option Task). WithTask o (λ task. TaskDoes g.tells (seen_core g v) n Abandons task (Did kind.Abandon) (seen_core g w))) (sym at)
    (still g v w same, refl, ap (λ (z : CoreValue S C). seen_core g z) path))
