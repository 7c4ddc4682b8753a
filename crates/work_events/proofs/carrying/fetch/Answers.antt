use Rattle.std.proofs.Common.{◌≡◌, ◌<◌, [], ◌∷◌, ◌++◌, length, Some, sym, ◌∙◌, ap, subst}
use Rattle.std.specs.Prelude.{slice_set}
use Rattle.accessors.specs.Moves.{moved_from_to}
use Rattle.accessors.specs.Rails.{cell_place, recorder_place}
use Rattle.cartridge_store.specs.declared.store.Place.TheVariants.{Cell, Recorder}
use Rattle.cartridge_store.specs.Places.{place_of, with_place}
use Rattle.core_state.specs.declared.session.Event.TheVariants.{Work}
use Rattle.core_state.specs.CoreValue.{CoreValue}
use Rattle.core_state.specs.SessionData.{data_of, of_parts, with_last_event}
use Rattle.core_state.specs.Sessions.{session_data}
use Rattle.core_state.specs.TheCore.{IsKept}
use Rattle.work_events.proofs.DoesFacts.{fetches_does}
use Rattle.work_events.proofs.KeptFacts.{kept_at}
use Rattle.work_events.proofs.RoomFacts.{told_kept, told_same, when_ok}
use Rattle.work_events.proofs.RuleFacts.{rule_fetches}
use Rattle.work_events.proofs.CarryWhole.{recorder_is_free, kept_fetched}
use Rattle.work_events.proofs.carrying.fetch.Goals as goal

pub put-requires-clause-lies : goal.put-requires-clause-lies
put-requires-clause-lies g c =
    let now = c.args.core.now in
    let is = c.core.view_is in
    let kept = kept_at g.S.Site _ now is c.core.invariant in
    let says = rule_fetches now c.args.recorder c.requires.fits kept.whole.kept c.args.cartridge c.requires.rule in
    ap (λ (z : CoreValue g.row.S.Denot g.row.C.Denot). place_of z.store c.args.cartridge) is ∙ says.lies ∙ ap Cell (sym c.get.ensures.value)

pub put-requires-clause-free : goal.put-requires-clause-free
put-requires-clause-free g c =
    let now = c.args.core.now in
    let is = c.core.view_is in
    let kept = kept_at g.S.Site _ now is c.core.invariant in
    let says = rule_fetches now c.args.recorder c.requires.fits kept.whole.kept c.args.cartridge c.requires.rule in
    let beside = (kept.whole.kept says.going).beside in
    λ other low at. recorder_is_free now.config.frames now.config.recorders now.recency now.recorders now.store beside c.args.cartridge c.args.recorder says.empty other low (sym (ap (λ (z : CoreValue g.row.S.Denot g.row.C.Denot). place_of z.store other) is) ∙ at)

pub invariant_of-core-2 : goal.invariant_of-core-2
invariant_of-core-2 g c =
    let now = c.args.core.now in
    let is = c.core.view_is in
    let kept = kept_at g.S.Site _ now is c.core.invariant in
    let says = rule_fetches now c.args.recorder c.requires.fits kept.whole.kept c.args.cartridge c.requires.rule in
    let known : c.args.cartridge < length now.store = subst (λ (z : CoreValue g.row.S.Denot g.row.C.Denot). c.args.cartridge < length z.store) is c.put.ensures.known in
    let number : c.from.result ≡ c.args.recorder = c.from.ensures ∙ c.get-3.ensures.value in
    let told : session_data c.tell_work.new.session ≡ with_last_event (Work c.args.recorder) (data_of now) = c.tell_work.ensures.told ∙ ap (with_last_event (Work c.args.recorder)) (c.reserve.ensures.same.told ∙ ap (λ (z : CoreValue g.row.S.Denot g.row.C.Denot). data_of z) is) in
    let recorders : c.set.new.self.items ≡ slice_set now.recorders c.args.recorder (Some c.args.cartridge) = c.set.ensures.items ∙ (λ i. slice_set (is i).recorders (number i) (c.recorder_with.ensures i)) in
    let store : c.put.new.store ≡ with_place c.args.cartridge (Recorder c.args.recorder) now.store = c.put.ensures.there ∙ (λ i. with_place c.args.cartridge (Recorder c.args.recorder) (is i).store) in
    let path : ◌≡◌ {A = CoreValue g.row.S.Denot g.row.C.Denot} _ (record now { recorders = slice_set now.recorders c.args.recorder (Some c.args.cartridge); store = with_place c.args.cartridge (Recorder c.args.recorder) now.store; rail = c.carry.new.rail; events = now.events ++ Work c.args.recorder ∷ [] }) =
    λ i. record (of_parts (is i) (is i).site (is i).rows (is i).owners (is i).moving (is i).requests (is i).tasks (is i).hosts (told i)) { recorders = recorders i; store = store i; rail = c.carry.new.rail } in
    subst (λ (z : CoreValue g.row.S.Denot g.row.C.Denot). IsKept g.S.Site.tells (g.S.Site.told z.site) (g.S.Site.writes z.site) (g.S.Site.faults z.site) z) (sym path)
    (kept_fetched g.S.Site.tells (g.S.Site.told now.site) (g.S.Site.writes now.site) (g.S.Site.faults now.site) now kept c.args.recorder c.args.cartridge known c.requires.fits c.carry.new.rail says)

pub returns-clause-event : goal.returns-clause-event
returns-clause-event g c =
    let now = c.args.core.now in
    let is = c.core.view_is in
    let number : c.from.result ≡ c.args.recorder = c.from.ensures ∙ c.get-3.ensures.value in
    let told : session_data c.tell_work.new.session ≡ with_last_event (Work c.args.recorder) (data_of now) = c.tell_work.ensures.told ∙ ap (with_last_event (Work c.args.recorder)) (c.reserve.ensures.same.told ∙ ap (λ (z : CoreValue g.row.S.Denot g.row.C.Denot). data_of z) is) in
    let recorders : c.set.new.self.items ≡ slice_set now.recorders c.args.recorder (Some c.args.cartridge) = c.set.ensures.items ∙ (λ i. slice_set (is i).recorders (number i) (c.recorder_with.ensures i)) in
    let store : c.put.new.store ≡ with_place c.args.cartridge (Recorder c.args.recorder) now.store = c.put.ensures.there ∙ (λ i. with_place c.args.cartridge (Recorder c.args.recorder) (is i).store) in
    let rail : c.carry.new.rail ≡ moved_from_to (cell_place c.args.cartridge) (recorder_place c.args.recorder) now.rail = c.carry.ensures ∙ (λ i. moved_from_to ((c.cell_place.ensures.place ∙ ap cell_place c.get-2.ensures.value) i) (c.recorder_place.ensures.place i) (is i).rail) in
    let path : ◌≡◌ {A = CoreValue g.row.S.Denot g.row.C.Denot} _ (record now { site = c.core.inside.site; recorders = slice_set now.recorders c.args.recorder (Some c.args.cartridge); store = with_place c.args.cartridge (Recorder c.args.recorder) now.store; rail = moved_from_to (cell_place c.args.cartridge) (recorder_place c.args.recorder) now.rail; events = now.events ++ Work c.args.recorder ∷ [] }) =
    λ i. record (of_parts (is i) c.core.inside.site (is i).rows (is i).owners (is i).moving (is i).requests (is i).tasks (is i).hosts (told i)) { recorders = recorders i; store = store i; rail = rail i } in
    fetches_does g.S.Site (g.C.Choose.may now.chooser) now _ c.args.recorder c.args.cartridge c.tell_work.result c.tell_work.ensures.answer (ap (λ (z : CoreValue g.row.S.Denot g.row.C.Denot). z.site) is) path

-- ---- there is room for what it tells

pub tell_work-requires : goal.tell_work-requires
tell_work-requires g c = let room = when_ok c.reserve.result (sym c.is_err.ensures.value ∙ c.if-is_err.false) c.reserve.ensures.room in room.event

-- ---- without room nothing changed, and its chooser and site stay

pub invariant_of-core : goal.invariant_of-core
invariant_of-core g c = told_kept g.S.Site c.core.view_is (session_data c.reserve.new.self) c.reserve.ensures.same.told c.core.invariant

pub returns-then-is_err-clause-event : goal.returns-then-is_err-clause-event
returns-then-is_err-clause-event g c = told_same g.S.Site c.core.view_is (session_data c.reserve.new.self) c.reserve.ensures.same.told

pub returns-then-is_err-clause-chooser : goal.returns-then-is_err-clause-chooser
returns-then-is_err-clause-chooser g c = ap (λ (z : CoreValue g.row.S.Denot g.row.C.Denot). z.chooser) c.core.view_is

pub returns-then-is_err-clause-site : goal.returns-then-is_err-clause-site
returns-then-is_err-clause-site g c = ap (λ (z : CoreValue g.row.S.Denot g.row.C.Denot). z.site) c.core.view_is

pub returns-clause-chooser : goal.returns-clause-chooser
returns-clause-chooser g c = ap (λ (z : CoreValue g.row.S.Denot g.row.C.Denot). z.chooser) c.core.view_is

pub returns-clause-site : goal.returns-clause-site
returns-clause-site g c = ap (λ (z : CoreValue g.row.S.Denot g.row.C.Denot). z.site) c.core.view_is
