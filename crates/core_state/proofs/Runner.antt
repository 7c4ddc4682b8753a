-- Events done one after the other, where no device fails, no memory is refused and the chooser answers the first place.
-- Beside the core stand the volumes that it shows; the devices stay as they are.
use Rattle.std.proofs.Common.{ℕ, List, [], ◌∷◌, length, Option, Some, None}
use Rattle.std.specs.Prelude.{slice_get, if◌then◌else◌, is_some}
use Rattle.ckd_track.specs.Data.{Volumes}
use Rattle.channel_commands.specs.Data.{CallData, command as ask, ReplyData, no_space}
use Rattle.channel_commands.specs.declared.command.Command.{Command}
use Rattle.ckd_plain.specs.declared.host.HostState.{HostState}
use Rattle.ckd_plain.specs.declared.unit_check.UnitCheck.TheVariants as check
use Rattle.ckd_plain.specs.Plain.{Answer, answer_on_tracks, tracks_under, written_to}
use Rattle.volume_table.specs.declared.changes.Change.TheVariants as change
use Rattle.fault_queue.specs.declared.queue.RequestState.TheVariants as request
use Rattle.transfers.specs.Copies.{moved_on}
use Rattle.transfers.specs.declared.transfer.Transfer.{Transfer}
use Rattle.transfers.specs.declared.transfer.TransferKind.{TransferKind}
use Rattle.transfers.specs.declared.transfer.TransferKind.TheVariants.{Destage}
use Rattle.victim_choice.specs.declared.choose.Candidate.{Candidate}
use Rattle.core_state.specs.declared.task.Task.{Task}
use Rattle.core_state.specs.declared.session.Event.TheVariants.{Host, Work}
use Rattle.core_state.specs.declared.rule.Waiting.TheVariants.{Busy, Fault, Held}
use Rattle.core_state.specs.declared.rule.HostRule.{HostRule}
use Rattle.core_state.specs.declared.rule.HostRule.TheVariants as host
use Rattle.core_state.specs.declared.rule.WorkKind.{WorkKind}
use Rattle.core_state.specs.declared.rule.WorkKind.TheVariants as kind
use Rattle.core_state.specs.declared.rule.WorkAnswer.{WorkAnswer}
use Rattle.core_state.specs.declared.rule.WorkAnswer.TheVariants.{Did, Idle, Stopped}
use Rattle.core_state.specs.declared.rule.WorkRule.{WorkRule}
use Rattle.core_state.specs.declared.rule.WorkRule.TheVariants as work
use Rattle.core_state.specs.CoreValue.{CoreData}
use Rattle.core_state.specs.Pins.{host_at, page_of, candidates}
use Rattle.core_state.specs.HostRules.{request_for, host_rule}
use Rattle.core_state.specs.WorkRules.{task_of, work_rule}
use Rattle.core_state.specs.HostEvents.{HostTold, replied, marked, waits, halts, at_limit, response, exception, equipment, page_under}
use Rattle.core_state.specs.Steps.{after_use, with_event, after_reply, ends_request, going_on, with_request, with_change, touching, most_recent, given_back, with_fetched_cartridge, with_task, with_owner, with_picked_request, task_ended}
use Rattle.core_state.specs.Chains.{Step, called, worked}

-- a core, and the volumes that it shows
pub record World : Type 0 where
  pub core : CoreData
  pub volumes : Volumes

-- ---- hosts

abbrev pub reply_to : CoreData → ℕ → CallData → Option ℕ → ReplyData × HostState → HostTold × CoreData
reply_to core h call fault answer = (replied (length core.history) answer.0, after_reply core.site h call fault answer core)

abbrev pub answer_of : World → ℕ → CallData → Answer
answer_of w h (ask code argument chained) = answer_on_tracks (tracks_under w.volumes (host_at w.core.hosts h)) (host_at w.core.hosts h) code argument chained
answer_of w h _ = record { reply = no_space; host = host_at w.core.hosts h; written = None }

abbrev pub run_it : World → ℕ → CallData → Command → ℕ → ℕ → HostTold × CoreData
run_it w h call c volume frame =
    let a = answer_of w h call in
    reply_to (after_use c (page_under w.core h volume) frame w.core) h call None (a.reply, a.host)

abbrev pub host_step : World → ℕ → CallData → HostRule → HostTold × CoreData
host_step w h call (host.IsStopped fault) = (halts fault, w.core)
host_step w h call host.IsFull = (at_limit, w.core)
host_step w h call (host.IsBusy owner) = (waits (Busy owner), w.core)
host_step w h call (host.IsMoving cylinder) = (waits (Fault cylinder), w.core)
host_step w h call (host.IsHeld frame) = (waits (Held frame), if ends_request w.core h call then with_event (Host h) (going_on w.core h call) else w.core)
host_step w h call host.Responds = reply_to w.core h call None (response w.core h call)
host_step w h call (host.HasFailed fault) = reply_to w.core h call (Some fault) (equipment w.core h)
host_step w h call host.HasNoSpace = reply_to w.core h call None (exception check.NoSpace no_space w.core h)
host_step w h call (host.Faults volume cylinder) =
    (waits (Fault cylinder), if is_some (request_for w.core h call) then w.core else with_event (Host h) (with_request h volume cylinder request.Queued (going_on w.core h call)))
host_step w h call (host.Marks volume cylinder) =
    (marked, with_event (Host h) (touching (volume, page_of cylinder) (with_request h volume cylinder request.Ready (with_change volume (change.Changed cylinder) (record (going_on w.core h call) { site = w.core.site })))))
host_step w h call (host.Runs c volume frame) = run_it w h call c volume frame

abbrev pub shown_after : World → ℕ → CallData → HostRule → Volumes
shown_after w h call (host.Runs c volume frame) = written_to w.volumes (host_at w.core.hosts h) (answer_of w h call).written
shown_after w h call _ = w.volumes

-- ---- recorders

abbrev pub do_it : CoreData → WorkKind → ℕ → CoreData → WorkAnswer × CoreData
do_it core what recorder after = (Did what, with_event (Work recorder) after)

abbrev pub take_first : CoreData → ℕ → ℕ → Option Candidate → WorkAnswer × CoreData
take_first core recorder h (Some c) = do_it core kind.Pick recorder (with_picked_request recorder h c.frame (Some (c.volume, c.page)) core)
take_first core recorder h None = (Idle, core)

abbrev pub end_it : CoreData → ℕ → Task → TransferKind → Transfer → WorkAnswer × CoreData
end_it core recorder task Destage t = do_it core kind.End recorder (with_task recorder (Some (record task { transfer = None })) (with_change t.volume (change.Destaged t.cylinder) core))
end_it core recorder task _ t = do_it core kind.End recorder (task_ended recorder task request.Ready (with_change t.volume (change.Staged t.cylinder) core))

abbrev pub task_step : CoreData → ℕ → WorkRule → Option Task → WorkAnswer × CoreData
task_step core recorder work.Abandons (Some task) = do_it core kind.Abandon recorder (task_ended recorder task request.Queued core)
task_step core recorder (work.Copies t) (Some task) = do_it core kind.Copy recorder (with_task recorder (Some (record task { transfer = Some (moved_on t) })) core)
task_step core recorder (work.Ends t) (Some task) = end_it core recorder task t.kind t
task_step core recorder (work.Frees volume page) (Some task) =
    do_it core kind.Free recorder (with_task recorder (Some (record task { victim = None })) (with_owner task.frame None (with_change volume (change.Free page) core)))
task_step core recorder (work.Assigns volume page) (Some task) =
    do_it core kind.Assign recorder (most_recent task.frame (with_owner task.frame (Some (volume, page)) (with_change volume (change.Assign page task.frame) core)))
task_step core recorder rule _ = (Idle, core)

abbrev pub work_step : CoreData → ℕ → WorkRule → WorkAnswer × CoreData
work_step core recorder (work.IsStopped fault) = (Stopped fault, core)
work_step core recorder work.IsIdle = (Idle, core)
work_step core recorder (work.GivesBack cartridge) = do_it core kind.GiveBack recorder (given_back recorder cartridge core)
work_step core recorder (work.Fetches cartridge) = do_it core kind.Fetch recorder (with_fetched_cartridge recorder cartridge core)
work_step core recorder (work.Picks h frame) = do_it core kind.Pick recorder (with_picked_request recorder h frame None core)
work_step core recorder (work.PicksVictim h) = take_first core recorder h (slice_get (candidates core) 0)
work_step core recorder rule = task_step core recorder rule (task_of core recorder)

-- ---- many events

pub data Asked : Type 0 where
  calls : ℕ → CallData → Asked
  works : ℕ → Asked

abbrev pub step : World → Asked → Step × World
step w (calls h call) =
    let r = host_step w h call (host_rule w.core h call) in
    (called h call r.0, record { core = r.1; volumes = shown_after w h call (host_rule w.core h call) })
step w (works recorder) =
    let r = work_step w.core recorder (work_rule w.core recorder) in
    (worked recorder r.0, record { core = r.1; volumes = w.volumes })

abbrev pub steps_of : World → List Asked → List Step
steps_of w [] = []
steps_of w (asked ∷ more) = let s = step w asked in s.0 ∷ steps_of s.1 more

abbrev pub world_after : World → List Asked → World
world_after w [] = w
world_after w (asked ∷ more) = world_after (step w asked).1 more

-- the answers alone
pub data Told : Type 0 where
  to_host : HostTold → Told
  to_recorder : WorkAnswer → Told

abbrev pub told : Step → Told
told (called h call t) = to_host t
told (worked r t) = to_recorder t
