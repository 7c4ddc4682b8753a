use Rattle.std.proofs.Common.{◌≡◌, List, length, length-append, map, refl, sym, ◌∙◌, ap, subst, arith}
use Rattle.mss_base.specs.Configs.{ConfigData}
use Rattle.mss_restart.specs.declared.steps.OpeningStep.{OpeningStep}
use Rattle.mss_restart.specs.Answers.{steps_of}
use Rattle.mss_restart.proofs.Creating.{AreRising}
use Rattle.core_state.specs.SessionData.{SessionData}
use Rattle.core_state.specs.Sessions.{session_data}
use Rattle.core_restart.specs.Console.{message_in, steps_in, FreeNone}
use Rattle.core_restart.proofs.Beginning.{begins_of, console_of, few_steps, kept_of}
use Rattle.core_restart.proofs.ConsoleFacts.{free_none, steps_back}
use Rattle.core_restart.proofs.restarting.begin.Given as given
use Rattle.core_restart.proofs.restarting.begin.Goals as goal

pub tell_steps-requires : goal.tell_steps-requires
tell_steps-requires g c =
    let rising : AreRising c.args.prepared.parts.config.volumes = subst (λ (x : ConfigData). AreRising x.volumes) c.config.view_is c.config.invariant.rising in
    let few = few_steps g.S.Site.tells (g.S.Site.told c.args.prepared.site) (g.S.Site.writes c.args.prepared.site) (g.S.Site.faults c.args.prepared.site) c.args.prepared.parts.config rising c.args.prepared.opened c.requires.opened in
    let room = c.requires.parts.room in
    let items = ap (λ (xs : List OpeningStep). length xs) c.as_slice.ensures in
    let all = length-append c.args.prepared.opened.creations.items c.args.prepared.opened.marks.items in
    omega (arith, few, room, items, all)

pub tell_steps-requires-2 : goal.tell_steps-requires-2
tell_steps-requires-2 g c =
    let rising : AreRising c.args.prepared.parts.config.volumes = subst (λ (x : ConfigData). AreRising x.volumes) c.config.view_is c.config.invariant.rising in
    let few = few_steps g.S.Site.tells (g.S.Site.told c.args.prepared.site) (g.S.Site.writes c.args.prepared.site) (g.S.Site.faults c.args.prepared.site) c.args.prepared.parts.config rising c.args.prepared.opened c.requires.opened in
    let room = c.requires.parts.room in
    let items = ap (λ (xs : List OpeningStep). length xs) c.as_slice.ensures in
    let others = ap (λ (xs : List OpeningStep). length xs) c.as_slice-2.ensures in
    let left = c.tell_steps.ensures.room in
    let all = length-append c.args.prepared.opened.creations.items c.args.prepared.opened.marks.items in
    omega (arith, few, room, items, others, left, all)

-- the console tells all that the opening did
told_all : (g : given.Over) (c : goal.After-drop-opened-2 g) → c.tell_steps-2.new.console.items ≡ map message_in (steps_of c.args.prepared.opened)
told_all g c =
    console_of c.args.prepared.opened c.args.prepared.parts.console.items c.tell_steps.new.console.items c.tell_steps-2.new.console.items c.as_slice.result.now c.as_slice-2.result.now
    c.requires.parts.console_ c.tell_steps.ensures.items c.tell_steps-2.ensures.items c.as_slice.ensures c.as_slice-2.ensures

frees : (g : given.Over) (c : goal.After-drop-opened-2 g) → FreeNone c.tell_steps-2.new.console.items
frees g c = subst FreeNone (sym (told_all g c)) (free_none (steps_of c.args.prepared.opened))

steps_told : (g : given.Over) (c : goal.After-drop-opened-2 g) → steps_in c.tell_steps-2.new.console.items ≡ steps_of c.args.prepared.opened
steps_told g c = ap steps_in (told_all g c) ∙ steps_back (steps_of c.args.prepared.opened)

pub invariant_of-result : goal.invariant_of-result
invariant_of-result g c =
    kept_of c.args.prepared.site c.args.chooser c.new.result c.args.prepared.parts c.args.prepared.opened c.own_frames.new.frames c.start.result (session_data c.session_of-session.result) c.tell_steps-2.new.console.items (g.S.Site.writes c.args.prepared.site)
    (g.S.Site.faults c.args.prepared.site) c.requires.parts c.new.ensures c.requires.opened.used_ c.own_frames.ensures.owners c.own_frames.ensures.moving c.start.ensures (frees g c) c.session_of-session.ensures
    g.S.Site.tells (g.S.Site.told c.args.prepared.site) (subst (λ (x : ConfigData). AreRising x.volumes) c.config.view_is c.config.invariant.rising) (steps_told g c) c.requires.opened (g.met.S.Site.counted c.args.prepared.site)

pub returns-clause-begins : goal.returns-clause-begins
returns-clause-begins g c =
    begins_of c.args.prepared.site c.args.chooser c.new.result c.args.prepared.parts c.args.prepared.opened c.own_frames.new.frames c.start.result (session_data c.session_of-session.result) c.tell_steps-2.new.console.items (g.S.Site.writes c.args.prepared.site)
    (g.S.Site.faults c.args.prepared.site) c.requires.parts c.new.ensures c.requires.opened.used_ c.own_frames.ensures.owners c.own_frames.ensures.moving c.start.ensures (frees g c) c.session_of-session.ensures

pub returns-clause-opened : goal.returns-clause-opened
returns-clause-opened g c = record {
  rows_ = refl;
  used_ = refl;
  steps_ = ap (λ (d : SessionData). steps_in d.console) c.session_of-session.ensures ∙ steps_told g c;
}
