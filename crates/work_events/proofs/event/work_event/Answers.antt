use Rattle.std.proofs.Common.{◌∙◌, refl, sym}
use Rattle.core_state.specs.declared.rule.WorkRule.TheVariants.{IsStopped, IsIdle, GivesBack, Picks, PicksVictim, Abandons, Fetches, Copies, Ends, Frees, Assigns}
use Rattle.work_events.proofs.RuleFacts.{work_event_by}
use Rattle.work_events.proofs.StillFacts.{going_by, same_room, untold_of}
use Rattle.work_events.proofs.event.work_event.Goals as goal

pub returns-in-IsStopped-clause-event : goal.returns-in-IsStopped-clause-event
returns-in-IsStopped-clause-event g c =
    let now = c.args.core.now in
    work_event_by g.S.Site (g.C.Choose.may now.chooser) now c.args.recorder _ _ (IsStopped c.in-IsStopped.fault) (sym c.work_rule.ensures ∙ c.in-IsStopped.is) (refl, (record { told = λ tl. refl; unwritten = refl; sound = refl }, refl))

pub returns-in-IsIdle-clause-event : goal.returns-in-IsIdle-clause-event
returns-in-IsIdle-clause-event g c =
    let now = c.args.core.now in
    work_event_by g.S.Site (g.C.Choose.may now.chooser) now c.args.recorder _ _ IsIdle (sym c.work_rule.ensures ∙ c.in-IsIdle.is) (refl, (record { told = λ tl. refl; unwritten = refl; sound = refl }, refl))

pub returns-in-GivesBack-clause-event : goal.returns-in-GivesBack-clause-event
returns-in-GivesBack-clause-event g c =
    let now = c.args.core.now in
    work_event_by g.S.Site (g.C.Choose.may now.chooser) now c.args.recorder c.give_back.result _ (GivesBack c.in-GivesBack.cartridge) (sym c.work_rule.ensures ∙ c.in-GivesBack.is) c.give_back.ensures.event

pub returns-in-Fetches-clause-event : goal.returns-in-Fetches-clause-event
returns-in-Fetches-clause-event g c =
    let now = c.args.core.now in
    work_event_by g.S.Site (g.C.Choose.may now.chooser) now c.args.recorder c.fetch.result _ (Fetches c.in-Fetches.cartridge) (sym c.work_rule.ensures ∙ c.in-Fetches.is) c.fetch.ensures.event

pub returns-in-Picks-clause-event : goal.returns-in-Picks-clause-event
returns-in-Picks-clause-event g c =
    let now = c.args.core.now in
    work_event_by g.S.Site (g.C.Choose.may now.chooser) now c.args.recorder c.pick.result _ (Picks c.in-Picks.host c.in-Picks.frame) (sym c.work_rule.ensures ∙ c.in-Picks.is) c.pick.ensures.event

pub returns-in-PicksVictim-clause-event : goal.returns-in-PicksVictim-clause-event
returns-in-PicksVictim-clause-event g c =
    let now = c.args.core.now in
    work_event_by g.S.Site (g.C.Choose.may now.chooser) now c.args.recorder c.pick_victim.result _ (PicksVictim c.in-PicksVictim.host) (sym c.work_rule.ensures ∙ c.in-PicksVictim.is) c.pick_victim.ensures.event

pub returns-in-Abandons-clause-event : goal.returns-in-Abandons-clause-event
returns-in-Abandons-clause-event g c =
    let now = c.args.core.now in
    work_event_by g.S.Site (g.C.Choose.may now.chooser) now c.args.recorder c.abandon.result _ Abandons (sym c.work_rule.ensures ∙ c.in-Abandons.is) c.abandon.ensures.event

pub returns-in-Copies-clause-event : goal.returns-in-Copies-clause-event
returns-in-Copies-clause-event g c =
    let now = c.args.core.now in
    work_event_by g.S.Site (g.C.Choose.may now.chooser) now c.args.recorder c.copy.result _ (Copies c.in-Copies.transfer) (sym c.work_rule.ensures ∙ c.in-Copies.is) c.copy.ensures.event

pub returns-in-Ends-clause-event : goal.returns-in-Ends-clause-event
returns-in-Ends-clause-event g c =
    let now = c.args.core.now in
    work_event_by g.S.Site (g.C.Choose.may now.chooser) now c.args.recorder c.end.result _ (Ends c.in-Ends.transfer) (sym c.work_rule.ensures ∙ c.in-Ends.is) c.end.ensures.event

pub returns-in-Frees-clause-event : goal.returns-in-Frees-clause-event
returns-in-Frees-clause-event g c =
    let now = c.args.core.now in
    work_event_by g.S.Site (g.C.Choose.may now.chooser) now c.args.recorder c.free.result _ (Frees c.in-Frees.volume c.in-Frees.page) (sym c.work_rule.ensures ∙ c.in-Frees.is) c.free.ensures.event

pub returns-in-Assigns-clause-event : goal.returns-in-Assigns-clause-event
returns-in-Assigns-clause-event g c =
    let now = c.args.core.now in
    work_event_by g.S.Site (g.C.Choose.may now.chooser) now c.args.recorder c.assign.result _ (Assigns c.in-Assigns.volume c.in-Assigns.page) (sym c.work_rule.ensures ∙ c.in-Assigns.is) c.assign.ensures.event

-- ---- an event that did nothing leaves the room that there was

pub returns-in-GivesBack-clause-room : goal.returns-in-GivesBack-clause-room
returns-in-GivesBack-clause-room g c = λ nothing. same_room g.S.Site c.give_back.ensures.site

pub returns-in-Fetches-clause-room : goal.returns-in-Fetches-clause-room
returns-in-Fetches-clause-room g c = λ nothing. same_room g.S.Site c.fetch.ensures.site

pub returns-in-Picks-clause-room : goal.returns-in-Picks-clause-room
returns-in-Picks-clause-room g c = λ nothing. same_room g.S.Site c.pick.ensures.site

pub returns-in-PicksVictim-clause-room : goal.returns-in-PicksVictim-clause-room
returns-in-PicksVictim-clause-room g c = λ nothing. same_room g.S.Site c.pick_victim.ensures.site

pub returns-in-Abandons-clause-room : goal.returns-in-Abandons-clause-room
returns-in-Abandons-clause-room g c = λ nothing. same_room g.S.Site c.abandon.ensures.site

pub returns-in-Copies-clause-room : goal.returns-in-Copies-clause-room
returns-in-Copies-clause-room g c =
    let going = going_by c.args.core.now c.args.recorder (Copies c.in-Copies.transfer) (sym c.work_rule.ensures ∙ c.in-Copies.is) tt in
    λ nothing. c.copy.ensures.room (untold_of c.args.core.now.stopped c.copy.result going nothing)

pub returns-in-Ends-clause-room : goal.returns-in-Ends-clause-room
returns-in-Ends-clause-room g c =
    let going = going_by c.args.core.now c.args.recorder (Ends c.in-Ends.transfer) (sym c.work_rule.ensures ∙ c.in-Ends.is) tt in
    λ nothing. c.end.ensures.room (untold_of c.args.core.now.stopped c.end.result going nothing)

pub returns-in-Frees-clause-room : goal.returns-in-Frees-clause-room
returns-in-Frees-clause-room g c =
    let going = going_by c.args.core.now c.args.recorder (Frees c.in-Frees.volume c.in-Frees.page) (sym c.work_rule.ensures ∙ c.in-Frees.is) tt in
    λ nothing. c.free.ensures.room (untold_of c.args.core.now.stopped c.free.result going nothing)

pub returns-in-Assigns-clause-room : goal.returns-in-Assigns-clause-room
returns-in-Assigns-clause-room g c =
    let going = going_by c.args.core.now c.args.recorder (Assigns c.in-Assigns.volume c.in-Assigns.page) (sym c.work_rule.ensures ∙ c.in-Assigns.is) tt in
    λ nothing. c.assign.ensures.room (untold_of c.args.core.now.stopped c.assign.result going nothing)
