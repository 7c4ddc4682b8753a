use Rattle.std.proofs.Common.{◌≡◌, [], ◌∷◌, ◌++◌, length, false, None, sym, ◌∙◌, ap, subst, arith}
use Rattle.std.specs.Prelude.{slice_set}
use Rattle.fault_queue.specs.declared.queue.RequestState.TheVariants.{Queued}
use Rattle.fault_queue.specs.Requests.{with_state}
use Rattle.core_state.specs.declared.session.Event.TheVariants.{Work}
use Rattle.core_state.specs.CoreValue.{CoreValue}
use Rattle.core_state.specs.SessionData.{data_of, of_parts, with_last_event}
use Rattle.core_state.specs.Sessions.{session_data}
use Rattle.core_state.specs.TheCore.{IsKept}
use Rattle.work_events.proofs.DoesFacts.{abandons_does}
use Rattle.work_events.proofs.KeptFacts.{kept_at}
use Rattle.work_events.proofs.RoomFacts.{its_place, its_request, told_kept, told_same, when_ok}
use Rattle.work_events.proofs.RuleFacts.{rule_abandons}
use Rattle.work_events.proofs.PickWhole.{kept_abandoned}
use Rattle.work_events.proofs.picking.abandon.Goals as goal

pub task_and_request-task-requires : goal.task_and_request-task-requires
task_and_request-task-requires g c =
    let now = c.args.core.now in
    let is = c.core.view_is in
    let kept = kept_at g.S.Site _ now is c.core.invariant in
    let says = rule_abandons now c.args.recorder c.requires.fits kept.whole.kept c.requires.rule in
    (says.task, says.request, says.serves)

pub end_task-requires-clause-frame : goal.end_task-requires-clause-frame
end_task-requires-clause-frame g c =
    let now = c.args.core.now in
    let is = c.core.view_is in
    let kept = kept_at g.S.Site _ now is c.core.invariant in
    let says = rule_abandons now c.args.recorder c.requires.fits kept.whole.kept c.requires.rule in
    let size : length c.core.inside.frames.owners ≡ now.config.frames = ap (λ (z : CoreValue g.row.S.Denot g.row.C.Denot). length z.owners) is ∙ kept.whole.shaped.owners_ in
    let low = ((kept.whole.kept says.going).tasks_.each c.args.recorder c.task_and_request-task.result.0 c.task_and_request-task.ensures.serves.at).low in
    omega (arith, size, low)

pub invariant_of-core-2 : goal.invariant_of-core-2
invariant_of-core-2 g c =
    let now = c.args.core.now in
    let is = c.core.view_is in
    let kept = kept_at g.S.Site _ now is c.core.invariant in
    let says = rule_abandons now c.args.recorder c.requires.fits kept.whole.kept c.requires.rule in
    let told : session_data c.tell_work.new.session ≡ with_last_event (Work c.args.recorder) (data_of now) = c.tell_work.ensures.told ∙ ap (with_last_event (Work c.args.recorder)) (c.reserve.ensures.same.told ∙ ap (λ (z : CoreValue g.row.S.Denot g.row.C.Denot). data_of z) is) in
    let tasks : c.end_task.new.tasks.items ≡ slice_set now.tasks c.args.recorder None = c.end_task.ensures.tasks ∙ (λ i. slice_set (is i).tasks c.args.recorder None) in
    let moving : c.end_task.new.frames.moving ≡ slice_set now.moving c.task_and_request-task.result.0.frame false = ap (λ f. f.moving) c.end_task.ensures.frames ∙ (λ i. slice_set (is i).moving c.task_and_request-task.result.0.frame false) in
    let owners : c.end_task.new.frames.owners ≡ now.owners = ap (λ f. f.owners) c.end_task.ensures.frames ∙ ap (λ (z : CoreValue g.row.S.Denot g.row.C.Denot). z.owners) is in
    let requests : c.end_task.new.requests ≡ with_state c.task_and_request-task.result.0.host Queued now.requests = c.end_task.ensures.requests ∙ (λ i. with_state c.task_and_request-task.result.0.host Queued (is i).requests) in
    let path : ◌≡◌ {A = CoreValue g.row.S.Denot g.row.C.Denot} _ (record now { moving = slice_set now.moving c.task_and_request-task.result.0.frame false; requests = with_state c.task_and_request-task.result.0.host Queued now.requests; tasks = slice_set now.tasks c.args.recorder None; events = now.events ++ Work c.args.recorder ∷ [] }) =
    λ i. of_parts (is i) (is i).site (is i).rows (owners i) (moving i) (requests i) (tasks i) (is i).hosts (told i) in
    subst (λ (z : CoreValue g.row.S.Denot g.row.C.Denot). IsKept g.S.Site.tells (g.S.Site.told z.site) (g.S.Site.writes z.site) (g.S.Site.faults z.site) z) (sym path)
    (kept_abandoned g.row.S.Denot g.S.Site.tells (g.S.Site.told now.site) (g.S.Site.writes now.site) (g.S.Site.faults now.site) now kept says.going c.args.recorder c.task_and_request-task.result.0 c.task_and_request-task.result.1 c.task_and_request-task.ensures.serves)

pub returns-clause-event : goal.returns-clause-event
returns-clause-event g c =
    let now = c.args.core.now in
    let is = c.core.view_is in
    let told : session_data c.tell_work.new.session ≡ with_last_event (Work c.args.recorder) (data_of now) = c.tell_work.ensures.told ∙ ap (with_last_event (Work c.args.recorder)) (c.reserve.ensures.same.told ∙ ap (λ (z : CoreValue g.row.S.Denot g.row.C.Denot). data_of z) is) in
    let tasks : c.end_task.new.tasks.items ≡ slice_set now.tasks c.args.recorder None = c.end_task.ensures.tasks ∙ (λ i. slice_set (is i).tasks c.args.recorder None) in
    let moving : c.end_task.new.frames.moving ≡ slice_set now.moving c.task_and_request-task.result.0.frame false = ap (λ f. f.moving) c.end_task.ensures.frames ∙ (λ i. slice_set (is i).moving c.task_and_request-task.result.0.frame false) in
    let owners : c.end_task.new.frames.owners ≡ now.owners = ap (λ f. f.owners) c.end_task.ensures.frames ∙ ap (λ (z : CoreValue g.row.S.Denot g.row.C.Denot). z.owners) is in
    let requests : c.end_task.new.requests ≡ with_state c.task_and_request-task.result.0.host Queued now.requests = c.end_task.ensures.requests ∙ (λ i. with_state c.task_and_request-task.result.0.host Queued (is i).requests) in
    let path : ◌≡◌ {A = CoreValue g.row.S.Denot g.row.C.Denot} _ (record now { site = c.core.inside.site; moving = slice_set now.moving c.task_and_request-task.result.0.frame false; requests = with_state c.task_and_request-task.result.0.host Queued now.requests; tasks = slice_set now.tasks c.args.recorder None; events = now.events ++ Work c.args.recorder ∷ [] }) =
    λ i. of_parts (is i) c.core.inside.site (is i).rows (owners i) (moving i) (requests i) (tasks i) (is i).hosts (told i) in
    abandons_does g.S.Site (g.C.Choose.may now.chooser) now _ c.args.recorder c.task_and_request-task.result.0 c.tell_work.result c.tell_work.ensures.answer c.task_and_request-task.ensures.serves.at (ap (λ (z : CoreValue g.row.S.Denot g.row.C.Denot). z.site) is) path

-- ---- there is room for what it tells

pub tell_work-requires : goal.tell_work-requires
tell_work-requires g c = let room = when_ok c.reserve.result (sym c.is_err.ensures.value ∙ c.if-is_err.false) c.reserve.ensures.room in room.event

pub end_task-requires-clause-fits : goal.end_task-requires-clause-fits
end_task-requires-clause-fits g c = its_place g.S.Site c.args.recorder c.core.view_is c.core.invariant c.requires.fits

pub end_task-requires-clause-asked : goal.end_task-requires-clause-asked
end_task-requires-clause-asked g c = its_request c.task_and_request-task.result.0.host c.task_and_request-task.result.1 c.core.view_is c.task_and_request-task.ensures.serves.asked

-- ---- without room nothing changed, and its chooser and site stay

pub invariant_of-core : goal.invariant_of-core
invariant_of-core g c = told_kept g.S.Site c.core.view_is (session_data c.reserve.new.self) c.reserve.ensures.same.told c.core.invariant

pub returns-then-is_err-clause-event : goal.returns-then-is_err-clause-event
returns-then-is_err-clause-event g c = told_same g.S.Site c.core.view_is (session_data c.reserve.new.self) c.reserve.ensures.same.told

pub returns-then-is_err-clause-chooser : goal.returns-then-is_err-clause-chooser
returns-then-is_err-clause-chooser g c = ap (λ (z : CoreValue g.row.S.Denot g.row.C.Denot). z.chooser) c.core.view_is

pub returns-then-is_err-clause-site : goal.returns-then-is_err-clause-site
returns-then-is_err-clause-site g c = ap (λ (z : CoreValue g.row.S.Denot g.row.C.Denot). z.site) c.core.view_is

pub returns-clause-chooser : goal.returns-clause-chooser
returns-clause-chooser g c = ap (λ (z : CoreValue g.row.S.Denot g.row.C.Denot). z.chooser) c.core.view_is

pub returns-clause-site : goal.returns-clause-site
returns-clause-site g c = ap (λ (z : CoreValue g.row.S.Denot g.row.C.Denot). z.site) c.core.view_is
