use Rattle.std.proofs.Common.{Result, Ok, Err, sym, subst}
use Rattle.mss_base.specs.Configs.{ConfigData, IsConfig}
use Rattle.shown_volumes.specs.declared.refused.Refused.{Refused}
use Rattle.shown_volumes.proofs.QuietFacts.{all_firm, settled_firm}
use Rattle.mss_restart.proofs.Creating.{AreRising}
use Rattle.mss_restart.proofs.Settling.{opens_firm}
use Rattle.mss_restart.specs.declared.opening.Opened.{Opened}
use Rattle.core_state.specs.CoreValue.{seen_site}
use Rattle.core_restart.specs.Opening.{OpensSynced, opened_in}
use Rattle.core_restart.specs.Opening as made
use Rattle.core_restart.specs.Parts.{MayBegin}
use Rattle.core_restart.specs.TakingUp.{StopsSynced}
use Rattle.core_restart.proofs.Answering.{opened_as}
use Rattle.core_restart.proofs.Beginning.{may_begin}
use Rattle.core_restart.proofs.Syncing.{opens_synced, refusal_taken, restarts_exactly, restarts_telling, same_content, takes_up_before}
use Rattle.core_restart.proofs.TakenUp.{begun_taken}
use Rattle.core_restart.proofs.restarting.restart.Goals as goal

-- nothing is opened
pub returns-in-Err-clause-takes_up : goal.returns-in-Err-clause-takes_up
returns-in-Err-clause-takes_up g c = λ tells.
    let old = seen_site g.S.Site c.args.site in
    let new = seen_site g.S.Site c.in-Err.refusal.0 in
    refusal_taken c.args.config.now old new c.in-Err.refusal
    (restarts_exactly g.S.Site.tells c.args.config.now old new (Err c.in-Err.refusal.1) c.in-Err.ensures.opens tells)

pub begin-requires-clause-opened : goal.begin-requires-clause-opened
begin-requires-clause-opened g c =
    let tells = g.S.Site.tells in
    let old = seen_site g.S.Site c.args.site in
    let new = seen_site g.S.Site c.in-Ok.prepared.site in
    let opened = c.in-Ok.prepared.opened in
    let is = opens_synced tells c.args.config.now old new opened c.in-Ok.ensures.opens in
    subst (λ (config : ConfigData). MayBegin tells new.told new.writes config opened) (sym c.in-Ok.ensures.parts.config_)
    (may_begin tells c.args.config.now is.synced new opened c.look.ensures.places c.look.ensures.are_rows is.any.usable is.any.counted (λ tells. (is.told tells).opens)
    (λ tells. settled_firm is.synced.told new.told (opens_firm c.args.config.now is.synced.told new.told opened (is.told tells).complete) (all_firm old.told is.synced.told (is.sync.told tells))))

pub returns-in-Ok-clause-takes_up : goal.returns-in-Ok-clause-takes_up
returns-in-Ok-clause-takes_up g c = λ tells.
    let old = seen_site g.S.Site c.args.site in
    let opened = c.in-Ok.prepared.opened in
    let is = opens_synced g.S.Site.tells c.args.config.now old (seen_site g.S.Site c.in-Ok.prepared.site) opened c.in-Ok.ensures.opens in
    takes_up_before c.args.config.now old is.synced (seen_site g.S.Site c.begin.result.site) (Ok c.begin.result)
    (same_content old.told is.synced.told (is.sync.told tells)) is.sync.unfailed
    (begun_taken g.S.Site c.args.config.now c.in-Ok.prepared.parts.config c.args.chooser is.synced c.in-Ok.prepared.site c.begin.result
    opened.rows opened.used.items c.begin.ensures.site c.in-Ok.ensures.parts.config_ c.begin.ensures.begins (subst (λ (x : ConfigData). AreRising x.volumes) c.config.view_is c.config.invariant.rising) (is.told tells).opens (g.met.S.Site.counted c.in-Ok.prepared.site tells))

pub returns-in-Ok-clause-restarts : goal.returns-in-Ok-clause-restarts
returns-in-Ok-clause-restarts g c =
    let old = seen_site g.S.Site c.args.site in
    let new = seen_site g.S.Site c.in-Ok.prepared.site in
    let opened = c.in-Ok.prepared.opened in
    let is = opens_synced g.S.Site.tells c.args.config.now old new opened c.in-Ok.ensures.opens in
    made.opened (subst (λ (x : g.row.S.Denot). OpensSynced g.S.Site.tells c.args.config.now old (seen_site g.S.Site x) (Ok (opened_in c.begin.result))) (sym c.begin.ensures.site)
    (opened_as g.S.Site.tells c.args.config.now old new opened c.begin.result c.begin.ensures.opened is))

pub returns-in-Err-clause-stops : goal.returns-in-Err-clause-stops
returns-in-Err-clause-stops g c = λ tells.
    let config = c.args.config.now in
    let old = seen_site g.S.Site c.args.site in
    let new = seen_site g.S.Site c.in-Err.refusal.0 in
    let answer : Result Opened Refused = Err c.in-Err.refusal.1 in
    c.restart_takes_up_its_own_stops.ensures.start config old new answer
    (record { whole = subst IsConfig c.config.view_is c.config.invariant; restarts = restarts_telling g.S.Site.tells tells config old new answer c.in-Err.ensures.opens })

pub returns-in-Ok-clause-stops : goal.returns-in-Ok-clause-stops
returns-in-Ok-clause-stops g c = λ tells.
    let config = c.args.config.now in
    let old = seen_site g.S.Site c.args.site in
    let new = seen_site g.S.Site c.in-Ok.prepared.site in
    let answer : Result Opened Refused = Ok c.in-Ok.prepared.opened in
    subst (λ (x : g.row.S.Denot). StopsSynced config old.told (g.S.Site.told x)) (sym c.begin.ensures.site)
    (c.restart_takes_up_its_own_stops.ensures.start config old new answer
    (record { whole = subst IsConfig c.config.view_is c.config.invariant; restarts = restarts_telling g.S.Site.tells tells config old new answer c.in-Ok.ensures.opens }))
