-- The core of which a failed call ended a task, by its parts.
use Rattle.std.proofs.Common.{◌≡◌, ℕ, false, List, Option, None, ◌∙◌, ap}
use Rattle.std.specs.Prelude.{slice_set}
use Rattle.mss_base.specs.declared.site.Site.{Ghosts}
use Rattle.fault_queue.specs.declared.queue.RequestState.TheVariants.{Failed}
use Rattle.fault_queue.specs.Requests.{RequestsData, with_state}
use Rattle.staging_adapter.specs.Frames.{FramesData, with_moving}
use Rattle.core_state.specs.declared.session.Event.TheVariants.{Work}
use Rattle.core_state.specs.declared.task.Task.{Task}
use Rattle.core_state.specs.CoreValue.{CoreValue}
use Rattle.core_state.specs.SessionData.{SessionData, of_parts, with_last_event}
use Rattle.work_events.proofs.FailedWhole.{failed}
use Rattle.work_events.proofs.RowSteps.{HasRoom}

pub failed_is : {S C : Type 0} (g : Ghosts S) {inside v : CoreValue S C} {site : S} {session : SessionData} → HasRoom g inside v site session
    → (x : S) (n : ℕ) (old : Task) {frames : FramesData} → frames ≡ with_moving old.frame false (record { owners = inside.owners; moving = inside.moving })
    → {fault : ℕ} → fault ≡ g.faults x → {requests : RequestsData} → requests ≡ with_state old.host (Failed fault) inside.requests
    → {tasks : List (Option Task)} → tasks ≡ slice_set inside.tasks n None → {told : SessionData} → told ≡ with_last_event (Work n) session
    → ◌≡◌ {A = CoreValue S C} (of_parts inside x inside.rows frames.owners frames.moving requests tasks inside.hosts told) (failed v n old x (g.faults x))
failed_is {S} {C} g {v = v} has x n old frames_is fault_is requests_is tasks_is told_is =
    let frames_ = frames_is ∙ ap (λ (z : CoreValue S C). with_moving old.frame false (record { owners = z.owners; moving = z.moving })) has.is in
    let requests_ = requests_is ∙ (λ i. with_state old.host (Failed (fault_is i)) (has.is i).requests) in
    let tasks_ = tasks_is ∙ ap (λ (z : CoreValue S C). slice_set z.tasks n None) has.is in
    let told_ = told_is ∙ ap (with_last_event (Work n)) has.same in
    λ i. of_parts (has.is i) x (has.is i).rows (frames_ i).owners (frames_ i).moving (requests_ i) (tasks_ i) (has.is i).hosts (told_ i)
